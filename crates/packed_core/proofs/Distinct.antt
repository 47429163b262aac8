-- Rows that show the same are one.
use Rattle.std.proofs.Common.{◌≡◌, inl, inr, ◌++◌, ◌∷◌, ◌∙◌, ◌+◌, ◌<◌, ℕ, Bool, false, List, [], Some, length, get_or, take, drop, refl, sym, ap, arith}
use Rattle.std.specs.Prelude.{slice_get}
use Rattle.std.proofs.lemmas.Bool.{cases_lt}
use Rattle.std.proofs.lemmas.List.{length-drop, take-append-drop}
use Rattle.jcl_plan.specs.declared.plan.JobPlan.{JobPlan}
use Rattle.jcl_plan.specs.declared.plan.StepPlan.{StepPlan}
use Rattle.jcl_meaning.specs.Views.{View}
use Rattle.view_core.specs.declared.scene.Scene.{Scene}
use Rattle.view_core.specs.PlainViews.{by_step}
use Rattle.packed_core.specs.Rooms.{count_in, room_at}
use Rattle.packed_core.specs.Shown.{AreApart, alone, row_shown}
use Rattle.packed_core.specs.Words.{IsRow, bit, bits_from, met_of}
use Rattle.packed_core.proofs.Places.{got_there}
use Rattle.packed_core.proofs.Rows.{back_of, front_of, length-bits, same_row}
use Rattle.packed_core.proofs.ShownRows.{shown_at}

-- bits that are the same step by step
same_by_step : (steps : List StepPlan) (xs ys : List Bool) →
    length xs ≡ count_in steps → length ys ≡ count_in steps → by_step steps xs ≡ by_step steps ys → xs ≡ ys
same_by_step [] [] [] e f same = refl
same_by_step [] (x ∷ xs) ys e f same = absurd (omega (arith, e))
same_by_step [] [] (y ∷ ys) e f same = absurd (omega (arith, f))
same_by_step (s ∷ steps) xs ys e f same =
    let own : ℕ = length s.tests.items in
    let rest_x : length (drop own xs) ≡ count_in steps = omega (arith, e, length-drop own xs) in
    let rest_y : length (drop own ys) ≡ count_in steps = omega (arith, f, length-drop own ys) in
    let front : take own xs ≡ take own ys = ap (λ (l : List (List Bool)). get_or l 0 []) same in
    let back : drop own xs ≡ drop own ys = same_by_step steps (drop own xs) (drop own ys) rest_x rest_y (ap (drop 1) same) in
    sym (take-append-drop own xs) ∙ (λ i. front i ++ back i) ∙ take-append-drop own ys

-- what a view shows beside its bits
abbrev unmarked : View → View
unmarked v = record {
  sets = v.sets;
  catalog = v.catalog;
  passed = v.passed;
  volumes = v.volumes;
  abended = false;
  job_tests = [];
  step_tests = [];
}

module _ (plan : JobPlan) (date k : ℕ) (scenes : List Scene) (apart : AreApart plan date k scenes) (a b : List ℕ)
    (first : IsRow (room_at plan k) a) (other : IsRow (room_at plan k) b) (a_named : get_or a 0 0 < length scenes) (b_named : get_or b 0 0 < length scenes)
    (same : row_shown plan date k scenes a ≡ row_shown plan date k scenes b) where
  a_scene : (x : Scene) × (slice_get scenes (get_or a 0 0) ≡ Some x)
  a_scene = got_there scenes (get_or a 0 0) a_named

  b_scene : (x : Scene) × (slice_get scenes (get_or b 0 0) ≡ Some x)
  b_scene = got_there scenes (get_or b 0 0) b_named

  same_alone : alone plan date k a_scene.0 ≡ alone plan date k b_scene.0
  same_alone =
      sym (ap unmarked (shown_at plan date k scenes a a_scene.0 (bit a 0) (met_of (room_at plan k) a) refl refl a_scene.1))
      ∙ ap unmarked same
      ∙ ap unmarked (shown_at plan date k scenes b b_scene.0 (bit b 0) (met_of (room_at plan k) b) refl refl b_scene.1)

  number : get_or a 0 0 ≡ get_or b 0 0
  number =
      elim (cases_lt (get_or a 0 0) (get_or b 0 0)) [
        | inl h ↦ absurd (apart (get_or a 0 0) (get_or b 0 0) a_scene.0 b_scene.0 h a_scene.1 b_scene.1 same_alone)
        | inr h ↦ elim (cases_lt (get_or b 0 0) (get_or a 0 0)) [
          | inl g ↦ absurd (apart (get_or b 0 0) (get_or a 0 0) b_scene.0 a_scene.0 g b_scene.1 a_scene.1 (sym same_alone))
          | inr g ↦ omega (arith, h, g)
        ]
      ]

  abbrev job_of : List ℕ → List Bool
  job_of row = bits_from (length plan.tests.items) 1 row

  abbrev left_of : List ℕ → List Bool
  left_of row = bits_from (count_in (drop k plan.steps)) (length plan.tests.items + count_in (take k plan.steps) + 1) row

  length-left : (row : List ℕ) → length (left_of row) ≡ count_in (drop k plan.steps)
  length-left row = length-bits (count_in (drop k plan.steps)) (length plan.tests.items + count_in (take k plan.steps) + 1) row

  length-job : (row : List ℕ) → length (job_of row) ≡ length plan.tests.items
  length-job row = length-bits (length plan.tests.items) 1 row

  same_job : job_of a ≡ job_of b
  same_job =
      sym (front_of (job_of a) (left_of a) (length plan.tests.items) (length-job a)) ∙ ap (λ (v : View). v.job_tests) same
      ∙ front_of (job_of b) (left_of b) (length plan.tests.items) (length-job b)

  same_left : left_of a ≡ left_of b
  same_left =
      same_by_step (drop k plan.steps) (left_of a) (left_of b) (length-left a) (length-left b)
      (ap (by_step (drop k plan.steps)) (sym (back_of (job_of a) (left_of a) (length plan.tests.items) (length-job a)))
      ∙ ap (λ (v : View). v.step_tests) same
      ∙ ap (by_step (drop k plan.steps)) (back_of (job_of b) (left_of b) (length plan.tests.items) (length-job b)))

  pub one_row : a ≡ b
  one_row = same_row (room_at plan k) a b first other number (ap (λ (v : View). v.abended) same) same_job same_left
