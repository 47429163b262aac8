-- A scene more among those of views.
use Rattle.std.proofs.Common.{◌≡◌, inl, inr, ◌++◌, ◌∷◌, ◌∙◌, ◌<◌, ◌≤◌, ℕ, List, [], None, Some, length, sym, ap, arith, length-append}
use Rattle.std.specs.Prelude.{slice_get, slice_index_or}
use Rattle.std.proofs.lemmas.Bool.{cases_lt}
use Rattle.std.proofs.lemmas.List.{map-append}
use Rattle.std.proofs.lemmas.Option.{same_Some}
use Rattle.jcl_plan.specs.declared.plan.JobPlan.{JobPlan}
use Rattle.view_core.specs.declared.scene.Scene.{Scene}
use Rattle.packed_core.specs.Entries.{Entry, scenes_of}
use Rattle.packed_core.specs.Rows.{row_at}
use Rattle.packed_core.specs.Scenes.{FindsScene, HasScene}
use Rattle.packed_core.specs.Shown.{AreApart, alone}
use Rattle.packed_core.specs.Views.{AreRows}
use Rattle.packed_core.proofs.Places.{got_back, got_below, got_last}

pub scenes_more : (entries : List Entry) (e : Entry) → scenes_of (entries ++ e ∷ []) ≡ scenes_of entries ++ e.scene ∷ []
scenes_more entries e = map-append (λ (x : Entry). x.scene) entries (e ∷ [])

pub apart_more : (plan : JobPlan) (date k : ℕ) (scenes : List Scene) (s : Scene) → AreApart plan date k scenes →
    ((i : ℕ) (w : Scene) → slice_get scenes i ≡ Some w → alone plan date k w ≡ alone plan date k s → ⊥) → AreApart plan date k (scenes ++ s ∷ [])
apart_more plan date k scenes s apart none i j a b below at to same =
    elim (cases_lt j (length scenes)) [
      | inl h ↦ apart i j a b below (got_back scenes s i a (omega arith) at) (got_back scenes s j b h to) same
      | inr h ↦
          let within : j < length (scenes ++ s ∷ []) = got_below (scenes ++ s ∷ []) j b to in
          let is : j ≡ length scenes = omega (arith, length-append scenes (s ∷ [])) in
          let one : s ≡ b = same_Some s b (sym (got_last scenes s) ∙ ap (slice_get (scenes ++ s ∷ [])) (sym is) ∙ to) in
          none i a (got_back scenes s i a (omega arith) at) (same ∙ ap (alone plan date k) (sym one))
    ]

pub rows_more : (plan : JobPlan) (part n m : ℕ) (rows : List (List ℕ)) → n ≤ m → AreRows plan part n rows → AreRows plan part m rows
rows_more plan part n m rows h are = record {
  numbered = λ i below. let l : slice_index_or (row_at rows i) 0 0 < n = are.numbered i below in omega arith;
  packed = are.packed;
}

-- a scene that shows the same stands in its place
module _ (plan : JobPlan) (date k : ℕ) (scenes : List Scene) (a b : Scene) (same : alone plan date k a ≡ alone plan date k b) where
  pub finds_as : FindsScene plan date k scenes a None → FindsScene plan date k scenes b None
  finds_as none i w at alike = none i w at (alike ∙ sym same)

  pub has_as : (n : ℕ) → HasScene plan date k scenes a n → HasScene plan date k scenes b n
  has_as n h = record { one = h.one; there = h.there; same = h.same ∙ same }
