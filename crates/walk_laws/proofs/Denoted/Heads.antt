-- The JCT and the SCTs of a job have no fault.
use Rattle.std.proofs.Common.{◌≡◌, ◌==◌, ◌≤◌, ◌||◌, ℕ, false, not, List, length, take, drop, None, refl, ap, ◌∙◌}
use Rattle.std.specs.Prelude.{nat_lt}
use Rattle.std.specs.List.{list_any}
use Rattle.std.proofs.lemmas.Bool.{eq-eqb, le-ltb, not_from_true, or_from}
use Rattle.jname_core.specs.Characters.{is_job_class, is_letter_or_digit}
use Rattle.jcl_plan.specs.declared.plan.AfterAbend.{AfterAbend}
use Rattle.jcl_plan.specs.declared.plan.AfterAbend.TheVariants as after
use Rattle.jcl_plan.specs.declared.plan.JobPlan.{JobPlan}
use Rattle.jcl_plan.specs.declared.plan.StepPlan.{StepPlan}
use Rattle.cb_meaning.specs.declared.layout.Layout.{Layout}
use Rattle.cb_meaning.specs.Codes.{after_abend_code}
use Rattle.cb_meaning.specs.Fields.{byte_at, part}
use Rattle.cb_meaning.specs.Spelled.{SpellsJct, SpellsSct}
use Rattle.cb_meaning.specs.Walks.{are_zero, is_bad_test, is_name, is_name_or_blank, jct_faults, jct_tests, looks_forward, lowest, sct_faults, sct_tests}
use Rattle.cb_meaning.specs.Writable.{IsStepAt, IsWritable}
use Rattle.walk_laws.proofs.Denoted.NoFault.{four_none, no_three, no_five}
use Rattle.walk_laws.proofs.Denoted.Tests.{behind_job_tests, behind_step_tests, few_job_tests, few_step_tests, good_job_tests, good_step_tests, looking_back}
use Rattle.walk_laws.proofs.Denoted.Texts.{name_is, name_or_blank_is}

module _ (l : Layout) (units : ℕ) (plan : JobPlan) (r : List ℕ) (h : IsWritable l.most_steps units plan) (s : SpellsJct l plan r) where
  job_name : not (is_name (part r 16 8)) ≡ false
  job_name = not_from_true (is_name (part r 16 8)) (ap is_name s.name ∙ name_is 8 plan.name h.name)

  job_tests : (nat_lt 8 (byte_at r 24) || list_any is_bad_test (take (byte_at r 24) (jct_tests r))) ≡ false
  job_tests =
      or_from (nat_lt 8 (byte_at r 24)) (list_any is_bad_test (take (byte_at r 24) (jct_tests r)))
      (ap (λ n. nat_lt 8 n) s.count ∙ le-ltb 8 (length plan.tests.items) (few_job_tests plan.tests.items (drop 26 r) s.tests))
      (ap (λ n. list_any is_bad_test (take n (jct_tests r))) s.count ∙ good_job_tests plan.tests.items (drop 26 r) s.tests h.tests)

  pub jct_none : lowest (jct_faults l r) ≡ None
  jct_none = four_none 6 8 11 12 _ _ _ _ job_name job_tests
      (not_from_true (byte_at r 8 == l.number) (eq-eqb (byte_at r 8) l.number s.layout))
      (no_five _ _ _ _ _ (not_from_true _ (ap is_job_class s.class ∙ h.class))
      (ap (λ n. nat_lt 13 n) s.priority ∙ le-ltb 13 plan.priority h.priority)
      (not_from_true _ (ap is_letter_or_digit s.message_class ∙ h.message_class))
      (not_from_true _ (ap (λ n. are_zero (drop n (jct_tests r))) s.count ∙ behind_job_tests plan.tests.items (drop 26 r) s.tests))
      (not_from_true _ s.unused))

after_ok : (a : AfterAbend) → nat_lt 2 (after_abend_code a) ≡ false
after_ok after.Unsaid = refl
after_ok after.Even = refl
after_ok after.Only = refl

module _ (l : Layout) (units : ℕ) (all : List StepPlan) (k : ℕ) (low : 1 ≤ k) (step : StepPlan) (r : List ℕ)
    (h : IsStepAt units all k step) (s : SpellsSct l step r) where
  step_names : (not (is_name_or_blank (part r 16 8)) || not (is_name_or_blank (part r 24 8)) || not (is_name (part r 32 8))) ≡ false
  step_names =
      no_three _ _ _ (not_from_true _ (ap is_name_or_blank s.name ∙ name_or_blank_is step.name h.name))
      (not_from_true _ (ap is_name_or_blank s.procedure_step ∙ name_or_blank_is step.procedure_step h.procedure_step))
      (not_from_true _ (ap is_name s.program ∙ name_is 8 step.program h.program))

  step_tests : (nat_lt 8 (byte_at r 15) || list_any is_bad_test (take (byte_at r 15) (sct_tests r))) ≡ false
  step_tests =
      or_from (nat_lt 8 (byte_at r 15)) (list_any is_bad_test (take (byte_at r 15) (sct_tests r)))
      (ap (λ n. nat_lt 8 n) s.count ∙ le-ltb 8 (length step.tests.items) (few_step_tests k low step.tests.items (drop 40 r) s.tests))
      (ap (λ n. list_any is_bad_test (take n (sct_tests r))) s.count ∙ good_step_tests k low step.tests.items (drop 40 r) s.tests h.tests)

  pub sct_none : lowest (sct_faults l k r) ≡ None
  sct_none = four_none 6 8 9 12 _ _ _ _ step_names step_tests
      (ap (λ n. list_any (looks_forward k) (take n (sct_tests r))) s.count ∙ looking_back k low step.tests.items (drop 40 r) s.tests h.tests)
      (no_three _ _ _ (ap (λ n. nat_lt 2 n) s.after_abend ∙ after_ok step.after_abend)
      (not_from_true _ (ap (λ n. are_zero (drop n (sct_tests r))) s.count ∙ behind_step_tests k low step.tests.items (drop 40 r) s.tests))
      (not_from_true _ s.unused))
