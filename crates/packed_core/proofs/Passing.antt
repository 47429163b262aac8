-- A step is passed, and the bits of its tests are cleared.
use Rattle.std.proofs.Common.{◌≡◌, inl, inr, ◌++◌, ◌∷◌, ◌∙◌, ◌+◌, ◌/◌, ◌<◌, ◌≤◌, ℕ, zero, suc, false, List, [], length, take, drop, refl, sym, ap, arith}
use Rattle.std.proofs.Common.{add-one, length-append}
use Rattle.std.specs.List.{flat_map}
use Rattle.std.proofs.lemmas.Bool.{cases_lt}
use Rattle.jcl_plan.specs.declared.plan.JobPlan.{JobPlan}
use Rattle.jcl_plan.specs.declared.plan.StepPlan.{StepPlan}
use Rattle.jcl_plan.specs.declared.plan.Test.{Test}
use Rattle.path_laws.proofs.PartsSee.{behind}
use Rattle.view_core.specs.Bits.{bits_kept, kept_tests}
use Rattle.packed_core.specs.declared.room.Room.{Room}
use Rattle.packed_core.specs.Rooms.{count_in, room_at}
use Rattle.packed_core.specs.Words.{AreWords, IsRow, bit, bits_from, met_of}
use Rattle.packed_core.proofs.Rows.{back_of, drop_bits, front_of, length-bits, shared_bits, take_bits}

-- how many tests are kept
kept_in : (steps : List StepPlan) → length (flat_map (λ s. s.tests.items) steps) ≡ count_in steps
kept_in [] = refl
kept_in (s ∷ steps) = length-append s.tests.items (flat_map (λ t. t.tests.items) steps) ∙ ap (λ (n : ℕ). length s.tests.items + n) (kept_in steps)

pub kept_length : (job : List Test) (steps : List StepPlan) → length (kept_tests job steps) ≡ length job + count_in steps
kept_length job steps = length-append job (flat_map (λ s. s.tests.items) steps) ∙ ap (λ (n : ℕ). length job + n) (kept_in steps)

-- the steps before the next part
none_of : (l : List StepPlan) → count_in (take 0 l) ≡ 0
none_of [] = refl
none_of (s ∷ l) = refl

abbrev of_first : List StepPlan → ℕ
of_first [] = 0
of_first (s ∷ l) = length s.tests.items

passed_more : (k : ℕ) (steps : List StepPlan) (step : StepPlan) (after : List StepPlan) → drop k steps ≡ step ∷ after →
    count_in (take (suc k) steps) ≡ count_in (take k steps) + length step.tests.items
passed_more zero [] step after e = absurd cc
passed_more (suc k) [] step after e = absurd cc
passed_more zero (s ∷ steps) step after e =
    let own : length s.tests.items ≡ length step.tests.items = ap of_first e in
    omega (arith, own, none_of steps)
passed_more (suc k) (s ∷ steps) step after e =
    let rest : count_in (take (suc k) steps) ≡ count_in (take k steps) + length step.tests.items = passed_more k steps step after e in
    omega (arith, rest)

module _ (plan : JobPlan) (k : ℕ) (step : StepPlan) (after : List StepPlan) (is : drop k plan.steps ≡ step ∷ after) where
  abbrev own : ℕ
  own = length step.tests.items

  abbrev here : Room
  here = room_at plan k

  abbrev next : Room
  next = room_at plan (k + 1)

  pub after_is : drop (k + 1) plan.steps ≡ after
  after_is = ap (λ (n : ℕ). drop n plan.steps) (add-one k) ∙ behind plan.steps k step after is

  pub passed_is : next.passed ≡ here.passed + own
  passed_is = ap (λ (n : ℕ). count_in (take n plan.steps)) (add-one k) ∙ passed_more k plan.steps step after is

  pub left_is : here.left ≡ own + next.left
  left_is = ap count_in is ∙ ap (λ (l : List StepPlan). own + count_in l) (sym after_is)

  -- the bits of the step's own tests in a row before it
  pub own_met : (row : List ℕ) → take own (drop (length plan.tests.items) (met_of here row)) ≡ bits_from own (here.job + here.passed + 1) row
  own_met row =
      ap (take own) (back_of (bits_from here.job 1 row) (bits_from here.left (here.job + here.passed + 1) row) here.job (length-bits here.job 1 row))
      ∙ ap (λ (n : ℕ). take own (bits_from n (here.job + here.passed + 1) row)) left_is
      ∙ take_bits own next.left (here.job + here.passed + 1) row

  pub job_met : (row : List ℕ) → take (length plan.tests.items) (met_of here row) ≡ bits_from here.job 1 row
  job_met row = front_of (bits_from here.job 1 row) (bits_from here.left (here.job + here.passed + 1) row) here.job (length-bits here.job 1 row)

  module _ (row new : List ℕ) (cleared : (i : ℕ) → here.job + here.passed + 1 ≤ i → i < here.job + here.passed + 1 + own → bit new i ≡ false)
      (before : (i : ℕ) → i < here.job + here.passed + 1 → bit new i ≡ bit row i)
      (behind_them : (i : ℕ) → here.job + here.passed + 1 + own ≤ i → bit new i ≡ bit row i) where
    pub cleared_row : IsRow here row → length new ≡ length row → AreWords new → IsRow next new
    cleared_row of_row many within = record {
      size = many ∙ of_row.size ∙ ap (λ (n : ℕ). 2 + n / 64) (let e : here.job + here.passed + here.left ≡ next.job + next.passed + next.left =
          omega (arith, passed_is, left_is) in e);
      within = within;
      gap = λ i low high. elim (cases_lt i (here.job + here.passed + 1)) [
        | inl h ↦ before i h ∙ of_row.gap i low (omega arith)
        | inr h ↦ cleared i h (omega (arith, high, passed_is))
      ];
      beyond = λ i high. behind_them i (omega (arith, high, passed_is)) ∙ of_row.beyond i (omega (arith, high, passed_is, left_is));
    }

    pub cleared_met : met_of next new ≡ bits_kept (length plan.tests.items) own (met_of here row)
    cleared_met =
        let start : ℕ = here.job + here.passed + 1 in
        let job : bits_from next.job 1 new ≡ take (length plan.tests.items) (met_of here row) =
        shared_bits next.job 1 new row (λ i low high. before i (omega arith)) ∙ sym (job_met row) in
        let left : bits_from next.left (next.job + next.passed + 1) new ≡ drop own (drop (length plan.tests.items) (met_of here row)) =
        ap (λ (n : ℕ). bits_from next.left n new) (let e : next.job + next.passed + 1 ≡ start + own = omega (arith, passed_is) in e)
        ∙ shared_bits next.left (start + own) new row (λ i low high. behind_them i low)
        ∙ sym (ap (drop own) (back_of (bits_from here.job 1 row) (bits_from here.left start row) here.job (length-bits here.job 1 row))
        ∙ ap (λ (n : ℕ). drop own (bits_from n start row)) left_is ∙ drop_bits own next.left start row) in
        λ i. job i ++ left i
