-- One job is selected.
use Rattle.std.proofs.Common.{◌≡◌, ◌≢◌, ◌≤◌, ◌<◌, ◌⊎◌, inl, inr, ℕ, List, [], ◌∷◌, All, arith, refl, sym, ap, ◌∙◌, subst}
use Rattle.std.specs.List.{Contains}
use Rattle.std.proofs.lemmas.List.Elements.{All-cons, All-contains, All-nil, All-weaker, Contains-append_cases}
use Rattle.world_meaning.specs.Selections.{HasNone, IsFirst, IsSelected}
use Rattle.world_meaning.specs.Starts.{AreInOrder}
use Rattle.world_meaning.specs.Worlds.{Waiting}
use Rattle.event_laws.proofs.Splits.{none_split, one_split}

-- jobs that wait in order have their numbers on their own
above : (last : ℕ) (ws : List Waiting) → AreInOrder last ws → All (λ w. last < w.job) ws
above last [] order = All-nil (λ w. last < w.job)
above last (x ∷ xs) order =
    All-cons (λ w. last < w.job) x xs order.0
    (All-weaker (λ w. x.job < w.job) (λ w. last < w.job) (λ w more. let first : last < x.job = order.0 in omega (arith, first, more)) xs
    (above x.job xs order.1))

first_or_behind : (x y : Waiting) (xs : List Waiting) → Contains (x ∷ xs) y → (x ≡ y) ⊎ Contains xs y
first_or_behind x y xs there = by_part (Contains-append_cases (x ∷ []) xs y there)
  where
    by_part : Contains (x ∷ []) y ⊎ Contains xs y → (x ≡ y) ⊎ Contains xs y
    by_part (inl here) = inl (All-contains (λ z. x ≡ z) (x ∷ []) y (All-cons (λ z. x ≡ z) x [] refl (All-nil (λ z. x ≡ z))) here)
    by_part (inr behind) = inr behind

one_waits : (last : ℕ) (ws : List Waiting) (v w : Waiting) → AreInOrder last ws → Contains ws v → Contains ws w → v.job ≡ w.job → v ≡ w
one_waits last [] v w order (k, less, is) there same = absurd (omega (arith, less))
one_waits last (x ∷ xs) v w order here there same = by_place (first_or_behind x v xs here) (first_or_behind x w xs there) (one_waits x.job xs v w order.1)
  where
    behind : (y : Waiting) → Contains xs y → x.job ≡ y.job → ⊥
    behind y is e = let more : x.job < y.job = All-contains (λ z. x.job < z.job) xs y (above x.job xs order.1) is in omega (arith, more, e)

    by_place : (x ≡ v) ⊎ Contains xs v → (x ≡ w) ⊎ Contains xs w → (Contains xs v → Contains xs w → v.job ≡ w.job → v ≡ w) → v ≡ w
    by_place (inl p) (inl q) later = sym p ∙ q
    by_place (inl p) (inr q) later = absurd (behind w q (ap (λ (z : Waiting). z.job) p ∙ same))
    by_place (inr p) (inl q) later = absurd (behind v p (ap (λ (z : Waiting). z.job) q ∙ sym same))
    by_place (inr p) (inr q) later = later p q same

module _ (waiting : List Waiting) where
  abbrev HasFirst : ℕ → Type 0
  HasFirst class = (w : Waiting) × IsFirst waiting class w

  clash : (class : ℕ) → HasNone waiting class → HasFirst class → ⊥
  clash class none (w, first) = All-contains (λ v. v.class ≢ class) waiting w none first.contained first.of_class

  pub none_selected : (classes : List ℕ) (w : Waiting) → All (HasNone waiting) classes → IsSelected waiting classes w → ⊥
  none_selected classes w none s = none_split (HasNone waiting) HasFirst clash classes s.before s.after s.class s.stands none (w, s.first)

  -- neither goes before the other
  one_first : (class : ℕ) (v w : Waiting) → IsFirst waiting class v → IsFirst waiting class w → v.job ≡ w.job
  one_first class v w a b =
      let up : v.priority ≤ w.priority = All-contains (λ x. x.class ≡ class → x.priority ≤ w.priority) waiting v b.highest a.contained a.of_class in
      let down : w.priority ≤ v.priority = All-contains (λ x. x.class ≡ class → x.priority ≤ v.priority) waiting w a.highest b.contained b.of_class in
      let level : v.priority ≡ w.priority = omega (arith, up, down) in
      let no_later : w.job ≤ v.job =
      All-contains (λ x. x.class ≡ class → x.priority ≡ w.priority → w.job ≤ x.job) waiting v b.earliest a.contained a.of_class level in
      let no_sooner : v.job ≤ w.job =
      All-contains (λ x. x.class ≡ class → x.priority ≡ v.priority → v.job ≤ x.job) waiting w a.earliest b.contained b.of_class (sym level) in
      omega (arith, no_later, no_sooner)

  pub one_selected : (classes : List ℕ) (v w : Waiting) → AreInOrder 0 waiting → IsSelected waiting classes v → IsSelected waiting classes w → v ≡ w
  one_selected classes v w order s t =
      let class : s.class ≡ t.class = (one_split (HasNone waiting) HasFirst clash s.before t.before s.after t.after s.class t.class (sym s.stands ∙ t.stands)
      s.none_before t.none_before (v, s.first) (w, t.first)).1 in
      one_waits 0 waiting v w order s.first.contained t.first.contained
      (one_first t.class v w (subst (λ (n : ℕ). IsFirst waiting n v) class s.first) t.first)
