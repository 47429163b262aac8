-- What was made, and what an ABEND leaves of a passed set. (GC28-6704, DISP parameter)
use Rattle.std.specs.Prelude.{◌≡◌, true, false, List, [], ◌∷◌, Some, None}
use Rattle.jname_core.specs.declared.key.Key.TheVariants.{Temporary}
use Rattle.std.specs.Prelude.{codes}
use Rattle.jcl_plan.specs.declared.outcome.Abend.TheVariants as abend
use Rattle.jcl_plan.specs.declared.outcome.Outcome.{Outcome}
use Rattle.jcl_plan.specs.declared.outcome.Outcome.TheVariants.{Code, Abend}
use Rattle.jcl_plan.specs.declared.plan.ConditionalWord.TheVariants as conditional
use Rattle.jcl_plan.specs.declared.plan.JobPlan.{JobPlan}
use Rattle.jcl_plan.specs.declared.plan.Status.TheVariants as status
use Rattle.jcl_plan.specs.declared.plan.Word.TheVariants as word
use Rattle.jcl_meaning.specs.Solo.{Ran}
use Rattle.jcl_meaning.specs.Views.{View}
use Rattle.view_rows.specs.Examples.{dd_of, job_of, no_sets, passes_t, passing_job, places, ran_alone, referring_job, serial, set_of_t, step_of, t_passed, view_alone}

abbrev pub ran : JobPlan → List Outcome → Ran
ran job outcomes = ran_alone no_sets places 25567 job 2 outcomes

-- T is passed, and then a step without DDs
abbrev pub passing_on : JobPlan
passing_on = job_of (passes_t ∷ step_of [] [] ∷ [])

-- T is passed, but deleted where the step that makes it ends by an ABEND
abbrev pub passes_or_deletes : JobPlan
passes_or_deletes = job_of (step_of [] (dd_of (record set_of_t {
  status = status.New;
  normal = Some word.Pass;
  conditional = Some conditional.Delete;
  space = Some (record { primary = 1; secondary = 0; release = false });
}) ∷ []) ∷ step_of [] [] ∷ [])

abbrev pub behind : JobPlan → List Outcome → View
behind job outcomes = view_alone no_sets places 25567 job 2 outcomes

-- an ABEND counts for what earlier steps passed, and not for what its own step passes
pub record ComesLater : Type 0 where
  pub in_a_later_step : (behind passing_on (Code 0 ∷ Abend abend.S806 ∷ [])).passed ≡ record t_passed { abend_later = true } ∷ []
  pub in_its_own : (behind passing_on (Abend abend.S806 ∷ Code 0 ∷ [])).passed ≡ t_passed ∷ []
  pub in_none : (behind passing_on (Code 0 ∷ Code 8 ∷ [])).passed ≡ t_passed ∷ []
  pub by_the_conditional_word : (behind passes_or_deletes (Abend abend.S806 ∷ Code 0 ∷ [])).passed ≡ []
  pub deleted : (behind passes_or_deletes (Abend abend.S806 ∷ Code 0 ∷ [])).sets (Temporary (codes "T")) serial ≡ None
  pub not_for_a_code : (behind passes_or_deletes (Code 4095 ∷ Code 0 ∷ [])).passed ≡ t_passed ∷ []

-- what is made is told by step, DD and volume; what is found or received is not made
pub record Makes : Type 0 where
  pub one : (ran passing_job (Code 0 ∷ Code 0 ∷ [])).made ≡ record { step = 1; dd = 1; serial = serial } ∷ []
  pub two : (ran referring_job (Code 0 ∷ Code 0 ∷ [])).made ≡ record { step = 1; dd = 1; serial = serial } ∷ record { step = 2; dd = 1; serial = serial } ∷ []
  pub flushed : (ran referring_job (Abend abend.S806 ∷ Code 0 ∷ [])).made ≡ record { step = 1; dd = 1; serial = serial } ∷ []
