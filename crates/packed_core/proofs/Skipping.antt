-- Which classes need not be offered, and what is noted for it.
use Rattle.std.proofs.Common.{◌≡◌, inl, inr, ◌++◌, ◌∷◌, ◌∙◌, ℕ, zero, suc, true, List, [], Vec, Option, None, Some, sym, ap, subst}
use Rattle.std.specs.Global.{Box, Global}
use Rattle.std.specs.Prelude.{All, Err, IfSome, Ok, OnErr, OnOk, Result, slice_get}
use Rattle.std.proofs.lemmas.Bool.{or_left, or_right}
use Rattle.std.proofs.lemmas.List.Elements.{All-contains}
use Rattle.std.proofs.lemmas.List.Folds.{list_any-append}
use Rattle.std.proofs.lemmas.Option.{same_Some}
use Rattle.jcl_plan.specs.declared.plan.JobPlan.{JobPlan}
use Rattle.packed_core.specs.declared.classes.Class.{Class}
use Rattle.packed_core.specs.declared.classes.Classes.{Classes}
use Rattle.packed_core.specs.declared.ways.Looked.{Looked}
use Rattle.packed_core.specs.declared.ways.Pending.{Pending}
use Rattle.packed_core.specs.declared.ways.Ways.{Ways}
use Rattle.packed_core.specs.Rows.{has_row, same_words}
use Rattle.packed_core.specs.Ways.{AreCompared, AreKept, AreLooked, AreNested, AreNotes, AreOffered, AreWays, HasNoOthers, IsNoted, IsThere}
use Rattle.packed_core.specs.Words.{joined_words}
use Rattle.packed_core.proofs.Joining.{joined_assoc, joined_comm, words_alike}
use Rattle.packed_core.proofs.Places.{contains_unmap, got_below, got_front}

-- a row at its number stands
pub got_stands : (row : List ℕ) (rows : List (List ℕ)) (n : ℕ) → slice_get rows n ≡ Some row → has_row row rows ≡ true
got_stands row [] n e = absurd cc
got_stands row (r ∷ rows) zero e = or_left (same_words row r) (has_row row rows) (words_alike row r (sym (same_Some r row e)))
got_stands row (r ∷ rows) (suc n) e = or_right (same_words row r) (has_row row rows) (got_stands row rows n e)

-- A row with a mask m, and a mask d beside it: where m is within d it is that of d alone, and where d is within m it is the row itself.
nested_stands : (rows : List (List ℕ)) (t m d : List ℕ) → AreNested m d → has_row (joined_words t d) rows ≡ true → has_row (joined_words t m) rows ≡ true →
    has_row (joined_words (joined_words t m) d) rows ≡ true
nested_stands rows t m d (inl e) ours base = ap (λ (r : List ℕ). has_row r rows) (joined_assoc t m d ∙ ap (joined_words t) e) ∙ ours
nested_stands rows t m d (inr e) ours base = ap (λ (r : List ℕ). has_row r rows) (joined_assoc t m d ∙ ap (joined_words t) (joined_comm m d ∙ e)) ∙ base

pub skips : (rows : List (List ℕ)) (classes : Classes) (i c : ℕ) (base : List ℕ) (numbers : Vec ℕ Global) → AreCompared classes →
    IsNoted rows classes.list.items i c → slice_get rows i ≡ Some base → slice_get classes.apart.items c ≡ Some numbers →
    AreOffered rows classes.list.items base numbers.items
skips rows classes i c base numbers compared noted at there =
    let is = compared.apart c noted.class numbers noted.there there in
    let m : List ℕ = noted.class.mask.items in
    let own : joined_words noted.base m ≡ base = same_Some (joined_words noted.base m) base (sym noted.row ∙ at) in
    record {
      below = is.below;
      others = λ j other h. elim (is.others j other h) [
        | inl g ↦ inl g
        | inr g ↦ inr (ap (λ (r : List ℕ). has_row (joined_words r other.mask.items) rows) (sym own)
            ∙ nested_stands rows noted.base m other.mask.items g (noted.all j other h) (got_stands (joined_words noted.base m) rows i noted.row))
      ];
    }

pub all_offered : (rows : List (List ℕ)) (classes : Classes) (base : List ℕ) → AreCompared classes →
    AreOffered rows classes.list.items base classes.every.items
all_offered rows classes base compared = record {
  below = compared.below;
  others = λ j other h. inl (compared.every j (got_below classes.list.items j other h));
}

-- what was told last stands, and is noted
pub settled : (rows : List (List ℕ)) (list : List Class) (base : List ℕ) (looked : List Looked) (old new : List (Option ℕ)) → AreNotes rows list old →
    AreLooked rows list base looked → All (IsThere rows list base) looked → HasNoOthers old new looked → AreNotes rows list new
settled rows list base looked old new notes all there none i c at =
    elim (none i c at) [
      | inl h ↦ notes i c h
      | inr h ↦
          let is : IsThere rows list base h.0 = All-contains (IsThere rows list base) looked h.0 there h.1 in
          record {
            base = base;
            class = is.0;
            there = ap (slice_get list) h.3 ∙ is.1;
            row = ap (slice_get rows) h.2 ∙ is.2;
            all = λ j other g. elim (all j other g) [
              | inl k ↦
                  let l = contains_unmap (λ (x : Looked). x.class) looked j k in
                  let s : IsThere rows list base l.0 = All-contains (IsThere rows list base) looked l.0 there l.1 in
                  let one : other ≡ s.0 = same_Some other s.0 (sym g ∙ ap (slice_get list) (sym l.2) ∙ s.1) in
                  ap (λ (o : Class). has_row (joined_words base o.mask.items) rows) one
                  ∙ got_stands (joined_words base s.0.mask.items) rows l.0.row s.2
              | inr k ↦ k
            ];
          }
    ]

pub no_others_more : (old some new : List (Option ℕ)) (looked : List Looked) →
    ((i c : ℕ) → slice_get some i ≡ Some (Some c) → slice_get old i ≡ Some (Some c)) → HasNoOthers some new looked → HasNoOthers old new looked
no_others_more old some new looked longer none i c at =
    elim (none i c at) [
      | inl h ↦ inl (longer i c h)
      | inr h ↦ inr h
    ]

-- a row more
has_more : (row : List ℕ) (rows more : List (List ℕ)) → has_row row rows ≡ true → has_row row (rows ++ more) ≡ true
has_more row rows more h = list_any-append (same_words row) rows more ∙ or_left (has_row row rows) (has_row row more) h

if_some : {X : Type 0} (o : Option X) (P Q : X → Type 0) → ((x : X) → P x → Q x) → IfSome o P → IfSome o Q
if_some None P Q f h = h
if_some (Some x) P Q f h = f x h

looked_more : (rows more : List (List ℕ)) (list : List Class) (base : List ℕ) (looked : List Looked) → AreLooked rows list base looked →
    AreLooked (rows ++ more) list base looked
looked_more rows more list base looked all j class h =
    elim (all j class h) [
      | inl g ↦ inl g
      | inr g ↦ inr (has_more (joined_words base class.mask.items) rows more g)
    ]

kept_more : (rows more : List (List ℕ)) (ways : Ways) → AreKept rows ways → AreKept (rows ++ more) ways
kept_more rows more ways kept = record {
  compared = kept.compared;
  notes = λ i c at. let n = kept.notes i c at in record {
    base = n.base;
    class = n.class;
    there = n.there;
    row = got_front rows more i (joined_words n.base n.class.mask.items) n.row;
    all = λ j other h. has_more (joined_words n.base other.mask.items) rows more (n.all j other h);
  };
  pending = if_some ways.pending (λ (p : Box Pending). AreLooked rows ways.classes.value.list.items p.value.base.items p.value.looked.items)
      (λ (p : Box Pending). AreLooked (rows ++ more) ways.classes.value.list.items p.value.base.items p.value.looked.items)
      (λ p. looked_more rows more ways.classes.value.list.items p.value.base.items p.value.looked.items) kept.pending;
}

pub ways_pushed : {T E : Type 0} (r : Result T E) (plan : JobPlan) (part : ℕ) (old new : List (List ℕ)) (row : List ℕ) (ways : Option Ways) →
    OnOk r (new ≡ old ++ row ∷ []) → OnErr r (new ≡ old) → IfSome ways (AreWays plan part old) → IfSome ways (AreWays plan part new)
ways_pushed (Ok x) plan part old new row ways put kept are =
    subst (λ (rows : List (List ℕ)). IfSome ways (AreWays plan part rows)) (sym put)
    (if_some ways (AreWays plan part old) (AreWays plan part (old ++ row ∷ []))
    (λ w h. record { masks = h.masks; kept = kept_more old (row ∷ []) w h.kept }) are)
ways_pushed (Err x) plan part old new row ways put kept are = subst (λ (rows : List (List ℕ)). IfSome ways (AreWays plan part rows)) (sym kept) are
