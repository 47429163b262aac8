-- Tracks by whether they are free: what marking does to them.
use Rattle.std.proofs.Common.{◌≡◌, ◌≢◌, ℕ, suc, zero, ◌+◌, ◌<◌, ◌≤◌, Bool, true, false, ◌||◌, cond, List, [], ◌∷◌, length, get_or, replicate, Some, refl, ap, sym, ◌∙◌, subst, arith, ⊎_elim}
use Rattle.std.specs.List.{slice_get}
use Rattle.std.proofs.lemmas.Bool.{cases_Bool, cases_eq, cases_lt, false≢true}
use Rattle.std.proofs.lemmas.List.{get_or_default, get_or_past, length-replicate, same_lists}
use Rattle.std.proofs.lemmas.Option.{get_or_from_slice_get, same_Some}
use Rattle.extent_core.specs.declared.extent.Extent.{Extent}
use Rattle.extent_core.specs.Extents as extents
use Rattle.extent_core.specs.Extents.{extent, is_in}
use Rattle.extent_core.proofs.LawLemmas.{free_tracks_are_listed}
use Rattle.extent_core.proofs.Marking.{get_or-marked as at_marked, is_in_before, is_in_behind, is_in_within, length-marked_from}
use Rattle.vtoc_core.specs.declared.volume.Track.{Track}
use Rattle.vtoc_core.specs.declared.volume.Track.TheVariants.{Free, Aside, InSet, Unusable}
use Rattle.vtoc_core.specs.Extents.{are_free, free_extents, is_free_track}
use Rattle.vtoc_core.specs.Searches.{TakenInTurn, marked_each}
use Rattle.vtoc_core.specs.Volumes.{AreOf, is_in_some, marked, marked_from, times_in}
use Rattle.vtoc_core.proofs.FreeLemmas.{times_in-cons}
use Rattle.vtoc_core.proofs.KindLemmas.{none_in, others_stay, some_in}
use Rattle.vtoc_core.proofs.MarkLemmas.{get_or-marked, length-marked, marked-cons, marked_none}

free_is_free : (t : Track) → is_free_track t ≡ true → t ≡ Free
free_is_free Free h = refl
free_is_free Aside h = cc
free_is_free InSet h = cc
free_is_free Unusable h = cc

pub not_free : (t : Track) → t ≢ Free → is_free_track t ≡ false
not_free Free h = absurd (h refl)
not_free Aside h = refl
not_free InSet h = refl
not_free Unusable h = refl

pub length-are_free : (ts : List Track) → length (are_free ts) ≡ length ts
length-are_free [] = refl
length-are_free (t ∷ ts) = ap suc (length-are_free ts)

free_at : (ts : List Track) (k : ℕ) → get_or (are_free ts) k false ≡ true → slice_get ts k ≡ Some Free
free_at [] k h = absurd (false≢true h)
free_at (t ∷ ts) zero h = ap Some (free_is_free t h)
free_at (t ∷ ts) (suc k) h = free_at ts k h

pub are_free_at : (ts : List Track) (k : ℕ) (d : Track) → k < length ts → get_or (are_free ts) k false ≡ is_free_track (get_or ts k d)
are_free_at [] k d l = absurd (omega arith)
are_free_at (t ∷ ts) zero d l = refl
are_free_at (t ∷ ts) (suc k) d l = are_free_at ts k d (omega arith)

not_free_at : (ts : List Track) (k : ℕ) (t : Track) → slice_get ts k ≡ Some t → slice_get (are_free ts) k ≡ Some (is_free_track t)
not_free_at [] k t h = cc
not_free_at (u ∷ ts) zero t h = ap (λ v. Some (is_free_track v)) (same_Some u t h)
not_free_at (u ∷ ts) (suc k) t h = not_free_at ts k t h

-- a track of free extents is free
pub free_extents_hold : (k : ℕ) (ts : List Track) → 0 < times_in k (free_extents ts) → slice_get ts k ≡ Some Free
free_extents_hold k ts l =
    ⊎_elim
    (λ (b : is_in_some k (free_extents ts) ≡ true). free_at ts k (sym (free_tracks_are_listed (are_free ts) k) ∙ b))
    (λ (b : is_in_some k (free_extents ts) ≡ false). absurd (omega (arith, none_in k (free_extents ts) b)))
    (cases_Bool (is_in_some k (free_extents ts)))

-- marking tracks marks whether they are free
either : (b : Bool) (kind t : Track) → is_free_track (cond (b || false) kind t) ≡ cond b (is_free_track kind) (is_free_track t)
either true kind t = refl
either false kind t = refl

are_free-marked_from : (at : ℕ) (kind : Track) (e : Extent) (ts : List Track) →
    are_free (marked_from at kind (e ∷ []) ts) ≡ extents.marked_from at (is_free_track kind) e (are_free ts)
are_free-marked_from at kind e [] = refl
are_free-marked_from at kind e (t ∷ ts) =
    ap (λ b. b ∷ are_free (marked_from (at + 1) kind (e ∷ []) ts)) (either (is_in at e) kind t)
    ∙ ap (λ bs. cond (is_in at e) (is_free_track kind) (is_free_track t) ∷ bs) (are_free-marked_from (at + 1) kind e ts)

pub are_free-marked : (kind : Track) (es : List Extent) (ts : List Track) → are_free (marked kind es ts) ≡ marked_each (is_free_track kind) es (are_free ts)
are_free-marked kind [] ts = ap are_free (marked_none kind [] ts (λ k l. refl))
are_free-marked kind (e ∷ es) ts =
    ap are_free (sym (marked-cons kind e es ts))
    ∙ are_free-marked kind es (marked kind (e ∷ []) ts)
    ∙ ap (marked_each (is_free_track kind) es) (are_free-marked_from 0 kind e ts)

-- tracks that are not free become tracks that are not free
same_at : (b : Bool) (kind t : Track) → (b ≡ true → is_free_track t ≡ is_free_track kind) → is_free_track (cond b kind t) ≡ is_free_track t
same_at true kind t h = sym (h refl)
same_at false kind t h = refl

pub are_free_same : (from kind : Track) (es : List Extent) (ts : List Track) → AreOf from ts es → is_free_track from ≡ is_free_track kind →
    are_free (marked kind es ts) ≡ are_free ts
are_free_same from kind es ts a f =
    same_lists (are_free (marked kind es ts)) (are_free ts)
    (length-are_free (marked kind es ts) ∙ length-marked kind es ts ∙ sym (length-are_free ts))
    (λ k d l.
    let m : k < length ts = omega (arith, length-are_free (marked kind es ts), length-marked kind es ts) in
    get_or_default (are_free (marked kind es ts)) k d false l
    ∙ are_free_at (marked kind es ts) k kind (omega (arith, length-marked kind es ts))
    ∙ ap is_free_track (get_or-marked kind es ts k kind m)
    ∙ same_at (is_in_some k es) kind (get_or ts k kind)
    (λ b. ap is_free_track (get_or_from_slice_get ts k from kind (a.kinds k (some_in k es b))) ∙ f)
    ∙ sym (are_free_at ts k kind m)
    ∙ get_or_default (are_free ts) k false d (omega (arith, length-are_free ts)))

-- extents of tracks that are not free
pub taken_in_turn : (from : Track) (es : List Extent) (ts : List Track) → AreOf from ts es → is_free_track from ≡ false → TakenInTurn (are_free ts) es
taken_in_turn from [] ts a f = tt
taken_in_turn from (e ∷ es) ts a f = (
  λ k i.
      let n : 0 < times_in k (e ∷ es) = let t : times_in k (e ∷ es) ≡ 1 + times_in k es = times_in-cons k e es ∙ simp i in omega arith in
      not_free_at ts k from (a.kinds k n) ∙ ap Some f,
  subst (λ bs. TakenInTurn bs es) (are_free-marked_from 0 Free e ts) (taken_in_turn from es (marked Free (e ∷ []) ts) (others_stay from Free e es ts a) f),
)

false_everywhere : (n k : ℕ) → get_or (replicate n false) k false ≡ false
false_everywhere zero k = refl
false_everywhere (suc n) zero = refl
false_everywhere (suc n) (suc k) = false_everywhere n k

-- the tracks in front of one are searched: those behind it are not yet free
pub record IsFound (at : ℕ) (ts : List Track) (free : List Bool) : Type 0 where
  pub size : length free ≡ length ts
  pub before : (k : ℕ) → k < at → get_or free k false ≡ get_or (are_free ts) k false
  pub behind : (k : ℕ) → at ≤ k → get_or free k false ≡ false

pub found_none : (n : ℕ) (ts : List Track) (free : List Bool) → n ≡ length ts → free ≡ replicate n false → IsFound 0 ts free
found_none n ts free l q = record {
  size = ap length q ∙ length-replicate n false ∙ l;
  before = λ k h. absurd (omega arith);
  behind = λ k h. ap (λ bs. get_or bs k false) q ∙ false_everywhere n k;
}

pub found_free : (at : ℕ) (ts : List Track) (d : Track) (free new : List Bool) → IsFound at ts free → at < length ts → is_free_track (get_or ts at d) ≡ true →
    new ≡ extents.marked true (extent at 1) free → IsFound (at + 1) ts new
found_free at ts d free new w l t q =
    let e = extent at 1 in
    let z = w.size in
    let size : length new ≡ length free = ap length q ∙ length-marked_from 0 true e free in
    record {
      size = size ∙ w.size;
      before = λ k h.
          ap (λ bs. get_or bs k false) q ∙ at_marked true e free k false (omega arith)
          ∙ ⊎_elim
          (λ (r : k ≡ at). ap (λ b. cond b true (get_or free k false)) (is_in_within k e (omega arith) (omega arith)) ∙ sym (ap (λ j. get_or (are_free ts) j false) r ∙ are_free_at ts at d l ∙ t))
          (λ (r : k ≢ at). ap (λ b. cond b true (get_or free k false)) (is_in_before k e (omega arith)) ∙ w.before k (omega arith))
          (cases_eq k at);
      behind = λ k h.
          ⊎_elim
          (λ (m : k < length free).
          ap (λ bs. get_or bs k false) q ∙ at_marked true e free k false m
          ∙ ap (λ b. cond b true (get_or free k false)) (is_in_behind k e (omega arith)) ∙ w.behind k (omega arith))
          (λ (m : length free ≤ k). get_or_past new k false (omega arith))
          (cases_lt k (length free));
    }

pub found_taken : (at : ℕ) (ts : List Track) (d : Track) (free : List Bool) → IsFound at ts free → at < length ts → is_free_track (get_or ts at d) ≡ false → IsFound (at + 1) ts free
found_taken at ts d free w l t = record {
  size = w.size;
  before = λ k h.
      ⊎_elim
      (λ (r : k ≡ at). ap (λ j. get_or free j false) r ∙ w.behind at (omega arith) ∙ sym (ap (λ j. get_or (are_free ts) j false) r ∙ are_free_at ts at d l ∙ t))
      (λ (r : k ≢ at). w.before k (omega arith))
      (cases_eq k at);
  behind = λ k h. w.behind k (omega arith);
}

pub found_all : (at : ℕ) (ts : List Track) (free : List Bool) → IsFound at ts free → length ts ≤ at → free ≡ are_free ts
found_all at ts free w l =
    let z = w.size in
    same_lists free (are_free ts) (w.size ∙ sym (length-are_free ts))
    (λ k d h. get_or_default free k d false h ∙ w.before k (omega arith) ∙ get_or_default (are_free ts) k false d (omega (arith, length-are_free ts)))
