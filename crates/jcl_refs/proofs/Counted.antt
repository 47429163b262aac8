-- The steps of a job up to the most that it may have are enough for its plan.
use Rattle.std.proofs.Common.{◌≡◌, ℕ, List, Err, ap, length, lt-ltb, nat_lt, refl, sym}
use Rattle.jcl_plan.specs.declared.fault.Cause.TheVariants.{P}
use Rattle.jcl_plan.specs.declared.fault.StatementFault.TheVariants.{TooManySteps}
use Rattle.jcl_cards.specs.declared.job.JobCard.{JobCard}
use Rattle.jcl_procs.specs.declared.expansion.Expansion.TheVariants.{Steps, TooMany}
use Rattle.jcl_procs.specs.declared.step.FlatStep.{FlatStep}
use Rattle.jcl_procs.specs.Counting.{up_to}
use Rattle.jcl_procs.proofs.Counting.{few_by, many_by}
use Rattle.jcl_refs.specs.Plans.{most_steps, plan_of}

pub plan_of_kept : (units : List (List ℕ)) (job : JobCard) (steps kept : List FlatStep) → Steps kept ≡ up_to most_steps steps →
    plan_of units job kept ≡ plan_of units job steps
plan_of_kept units job steps kept is =
    ap (plan_of units job) (sym (few_by most_steps steps kept (nat_lt most_steps (length steps)) refl (sym is)).0)

pub plan_of_many : (units : List (List ℕ)) (job : JobCard) (steps : List FlatStep) → TooMany ≡ up_to most_steps steps →
    plan_of units job steps ≡ Err (P TooManySteps)
plan_of_many units job steps is =
    let many = many_by most_steps steps (nat_lt most_steps (length steps)) refl (sym is) in
    rw (lt-ltb most_steps (length steps) many) refl
