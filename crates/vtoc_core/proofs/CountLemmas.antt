-- How many tracks are of each kind, before and after some are marked.
use Rattle.std.proofs.Common.{◌≡◌, ◌≢◌, ℕ, suc, zero, ◌+◌, ◌-◌, ◌<◌, ◌≤◌, Bool, true, false, cond, List, [], ◌∷◌, length, set, Some, refl, ap, sym, ◌∙◌, arith, ⊎_elim}
use Rattle.std.specs.List.{slice_get}
use Rattle.std.proofs.lemmas.Bool.{cases_Bool, false_from_ne_true}
use Rattle.std.proofs.lemmas.List.Sums.{count_by-le-length, sum_by-cons}
use Rattle.std.proofs.lemmas.Option.{none-some, same_Some, slice_get_within}
use Rattle.extent_core.specs.declared.extent.Extent.{Extent}
use Rattle.extent_core.specs.Extents.{extent, is_in}
use Rattle.extent_core.proofs.Marking.{is_in_behind, is_in_within}
use Rattle.vtoc_core.specs.declared.volume.Track.{Track}
use Rattle.vtoc_core.specs.declared.volume.Track.TheVariants.{Free, Aside, InSet, Unusable}
use Rattle.vtoc_core.specs.declared.volume.TrackCounts.{TrackCounts}
use Rattle.vtoc_core.specs.Extents.{tracks_in}
use Rattle.vtoc_core.specs.Volumes.{AreOf, Counted, Moves, count_in, count_of, is_kind, marked, times_in}
use Rattle.vtoc_core.proofs.MarkLemmas.{marked-cons, marked_none, one_more, one_none}
use Rattle.vtoc_core.proofs.FreeLemmas.{times_in-cons}
use Rattle.vtoc_core.proofs.KindLemmas.{marked_not_in, others_stay}
use Rattle.vtoc_core.proofs.PlanLemmas.{tracks_in-cons}

-- a number where a test holds, and else 0
abbrev if_so : Bool → ℕ → ℕ
if_so b n = cond b n 0

if_so-zero : (b : Bool) → if_so b 0 ≡ 0
if_so-zero true = refl
if_so-zero false = refl

-- the tracks of the four kinds are all tracks
pub count-cons : (kind t : Track) (ts : List Track) → count_of kind (t ∷ ts) ≡ cond (is_kind kind t) 1 0 + count_of kind ts
count-cons kind t ts = sum_by-cons (λ u. cond (is_kind kind u) 1 0) t ts

of_one_kind : (t : Track) → cond (is_kind Free t) 1 0 + cond (is_kind Aside t) 1 0 + cond (is_kind InSet t) 1 0 + cond (is_kind Unusable t) 1 0 ≡ 1
of_one_kind Free = refl
of_one_kind Aside = refl
of_one_kind InSet = refl
of_one_kind Unusable = refl

pub counts_sum : (ts : List Track) → count_of Free ts + count_of Aside ts + count_of InSet ts + count_of Unusable ts ≡ length ts
counts_sum [] = refl
counts_sum (t ∷ ts) =
    omega (arith, counts_sum ts, of_one_kind t, count-cons Free t ts, count-cons Aside t ts, count-cons InSet t ts, count-cons Unusable t ts)

pub count_within : (kind : Track) (ts : List Track) → count_of kind ts ≤ length ts
count_within kind ts = count_by-le-length (λ t. is_kind kind t) ts

-- a kind is itself alone
pub kind_itself : (t : Track) → is_kind t t ≡ true
kind_itself Free = refl
kind_itself Aside = refl
kind_itself InSet = refl
kind_itself Unusable = refl

kind_same : (a b : Track) → is_kind a b ≡ true → a ≡ b
kind_same Free Free h = refl
kind_same Aside Aside h = refl
kind_same InSet InSet h = refl
kind_same Unusable Unusable h = refl
kind_same _ _ h = cc

pub kind_other : (a b : Track) → a ≢ b → is_kind a b ≡ false
kind_other a b n = false_from_ne_true (is_kind a b) (λ h. n (kind_same a b h))

-- one track becomes another
count-set : (q from kind : Track) (ts : List Track) (i : ℕ) → slice_get ts i ≡ Some from →
    count_of q (set ts i kind) + if_so (is_kind q from) 1 ≡ count_of q ts + if_so (is_kind q kind) 1
count-set q from kind [] i h = absurd (none-some from h)
count-set q from kind (t ∷ ts) zero h =
    let e : if_so (is_kind q t) 1 ≡ if_so (is_kind q from) 1 = ap (λ (u : Track). if_so (is_kind q u) 1) (same_Some t from h) in
    omega (arith, count-cons q kind ts, count-cons q t ts)
count-set q from kind (t ∷ ts) (suc i) h =
    let r : count_of q (set ts i kind) + if_so (is_kind q from) 1 ≡ count_of q ts + if_so (is_kind q kind) 1 = count-set q from kind ts i h in
    omega (arith, count-cons q t (set ts i kind), count-cons q t ts)

cond-suc : (b : Bool) (n : ℕ) → if_so b (suc n) ≡ if_so b n + if_so b 1
cond-suc true n = omega arith
cond-suc false n = refl

cond-add : (b : Bool) (m n : ℕ) → if_so b (m + n) ≡ if_so b m + if_so b n
cond-add true m n = refl
cond-add false m n = refl

-- the tracks of one extent
count-one : (q from kind : Track) (s n : ℕ) (ts : List Track) → ((k : ℕ) → s ≤ k → k < s + n → slice_get ts k ≡ Some from) →
    count_of q (marked kind (extent s n ∷ []) ts) + if_so (is_kind q from) n ≡ count_of q ts + if_so (is_kind q kind) n
count-one q from kind s zero ts h =
    let e : count_of q (marked kind (extent s 0 ∷ []) ts) ≡ count_of q ts = ap (count_of q) (one_none kind s 0 ts refl) in
    omega (arith, if_so-zero (is_kind q from), if_so-zero (is_kind q kind))
count-one q from kind s (suc n) ts h =
    let before = marked kind (extent s n ∷ []) ts in
    let i : count_of q before + if_so (is_kind q from) n ≡ count_of q ts + if_so (is_kind q kind) n =
    count-one q from kind s n ts (λ k l m. h k l (omega arith)) in
    let there : slice_get ts (s + n) ≡ Some from = h (s + n) (omega arith) (omega arith) in
    let out : times_in (s + n) (extent s n ∷ []) ≡ 0 = times_in-cons (s + n) (extent s n) []
    ∙ ap (λ b. if_so b 1 + 0) (is_in_behind (s + n) (extent s n) (omega arith)) in
    let at : slice_get before (s + n) ≡ Some from = marked_not_in kind (extent s n ∷ []) ts (s + n) out ∙ there in
    let one : marked kind (extent s (suc n) ∷ []) ts ≡ set before (s + n) kind =
    ap (λ (m : ℕ). marked kind (extent s m ∷ []) ts) (let e : suc n ≡ s + n + 1 - s = omega arith in e)
    ∙ sym (one_more kind s (s + n) ts (omega arith) (slice_get_within ts (s + n) from there))
    ∙ ap (λ (m : ℕ). set (marked kind (extent s m ∷ []) ts) (s + n) kind) (let e : s + n - s ≡ n = omega arith in e) in
    let c : count_of q (marked kind (extent s (suc n) ∷ []) ts) ≡ count_of q (set before (s + n) kind) = ap (count_of q) one in
    omega (arith, count-set q from kind before (s + n) at, cond-suc (is_kind q from) n, cond-suc (is_kind q kind) n)

-- the tracks of extents that are all of one kind
pub count-marked : (q from kind : Track) (es : List Extent) (ts : List Track) → AreOf from ts es →
    count_of q (marked kind es ts) + if_so (is_kind q from) (tracks_in es) ≡ count_of q ts + if_so (is_kind q kind) (tracks_in es)
count-marked q from kind [] ts a =
    let e : count_of q (marked kind [] ts) ≡ count_of q ts = ap (count_of q) (marked_none kind [] ts (λ k l. refl)) in
    omega (arith, if_so-zero (is_kind q from), if_so-zero (is_kind q kind))
count-marked q from kind (e ∷ es) ts a =
    let us = marked kind (e ∷ []) ts in
    let rest : count_of q (marked kind es us) + if_so (is_kind q from) (tracks_in es) ≡ count_of q us + if_so (is_kind q kind) (tracks_in es) =
    count-marked q from kind es us (others_stay from kind e es ts a) in
    let first : count_of q us + if_so (is_kind q from) e.tracks ≡ count_of q ts + if_so (is_kind q kind) e.tracks
    = count-one q from kind e.start e.tracks ts
    (λ k l m. a.kinds k (let b : is_in k e ≡ true = is_in_within k e l m in let t : times_in k (e ∷ es) ≡ 1 + times_in k es = times_in-cons k e es
    ∙ simp b in omega arith)) in
    let c : count_of q (marked kind (e ∷ es) ts) ≡ count_of q (marked kind es us) = ap (count_of q) (sym (marked-cons kind e es ts)) in
    let f : if_so (is_kind q from) (tracks_in (e ∷ es)) ≡ if_so (is_kind q from) e.tracks + if_so (is_kind q from) (tracks_in es)
    = ap (λ n. if_so (is_kind q from) n) (tracks_in-cons e es) ∙ cond-add (is_kind q from) e.tracks (tracks_in es) in
    let t : if_so (is_kind q kind) (tracks_in (e ∷ es)) ≡ if_so (is_kind q kind) e.tracks + if_so (is_kind q kind) (tracks_in es)
    = ap (λ n. if_so (is_kind q kind) n) (tracks_in-cons e es) ∙ cond-add (is_kind q kind) e.tracks (tracks_in es) in
    omega arith

-- so many tracks go from one kind to another
pub moves : (from kind : Track) (es : List Extent) (ts : List Track) → from ≢ kind → AreOf from ts es → Moves from kind (tracks_in es) ts (marked kind es ts)
moves from kind es ts n a = record {
  fewer = let c = count-marked from from kind es ts a in
      let p : if_so (is_kind from from) (tracks_in es) ≡ tracks_in es = simp (kind_itself from) refl in
      let q : if_so (is_kind from kind) (tracks_in es) ≡ 0 = simp (kind_other from kind n) refl in
      omega arith;
  more = let c = count-marked kind from kind es ts a in
      let p : if_so (is_kind kind kind) (tracks_in es) ≡ tracks_in es = simp (kind_itself kind) refl in
      let q : if_so (is_kind kind from) (tracks_in es) ≡ 0 = simp (kind_other kind from (λ e. n (sym e))) refl in
      omega arith;
  others = λ k not_from not_kind.
      let c = count-marked k from kind es ts a in
      let p : if_so (is_kind k from) (tracks_in es) ≡ 0 = simp (kind_other k from not_from) refl in
      let q : if_so (is_kind k kind) (tracks_in es) ≡ 0 = simp (kind_other k kind not_kind) refl in
      omega arith;
}

-- as many as are taken were there
pub were_there : (from kind : Track) (es : List Extent) (ts : List Track) → from ≢ kind → AreOf from ts es → tracks_in es ≤ count_of from ts
were_there from kind es ts n a = let m = moves from kind es ts n a in let f = m.fewer in omega arith

-- counts that are kept: so many fewer of the one kind, so many more of the other
pub counted_on : (from kind : Track) (es : List Extent) (ts : List Track) (old new : TrackCounts) (n : ℕ) → from ≢ kind → AreOf from ts es →
    n ≡ tracks_in es → Counted old ts → ((k : Track) → count_in new k ≡ count_in old k - if_so (is_kind k from) n + if_so (is_kind k kind) n) → Counted new (marked kind es ts)
counted_on from kind es ts old new n apart a same counts shift = λ k.
    let c = count-marked k from kind es ts a in
    let o : count_in old k ≡ count_of k ts = counts k in
    let s : count_in new k ≡ count_in old k - if_so (is_kind k from) n + if_so (is_kind k kind) n = shift k in
    ⊎_elim
    (λ (p : is_kind k from ≡ true).
    let q : is_kind k kind ≡ false = kind_other k kind (λ e. apart (sym (kind_same k from p) ∙ e)) in
    let f : if_so (is_kind k from) (tracks_in es) ≡ tracks_in es = simp p refl in
    let g : if_so (is_kind k kind) (tracks_in es) ≡ 0 = simp q refl in
    let h : if_so (is_kind k from) n ≡ n = simp p refl in
    let i : if_so (is_kind k kind) n ≡ 0 = simp q refl in
    omega arith)
    (λ (p : is_kind k from ≡ false).
    let f : if_so (is_kind k from) (tracks_in es) ≡ 0 = simp p refl in
    let h : if_so (is_kind k from) n ≡ 0 = simp p refl in
    let i : if_so (is_kind k kind) n ≡ if_so (is_kind k kind) (tracks_in es) = ap (if_so (is_kind k kind)) same in
    omega arith)
    (cases_Bool (is_kind k from))
