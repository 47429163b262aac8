-- The plan of a job, made step by step and then changed in its place.
use Rattle.std.specs.Prelude.{◌≡◌, ℕ, ◌+◌, ◌≤◌, Bool, nat_lt, List, [], ◌∷◌, ◌++◌, count_by, length, map, Result, Ok, Err}
use Rattle.std.specs.List.{All}
use Rattle.jcl_plan.specs.declared.fault.Cause.{Cause}
use Rattle.jcl_plan.specs.declared.fault.Cause.TheVariants.{P}
use Rattle.jcl_plan.specs.declared.fault.StatementFault.TheVariants.{TooManyDdNames, TooManyDds, TooManyNames}
use Rattle.jcl_plan.specs.declared.plan.DdKind.{DdKind}
use Rattle.jcl_plan.specs.declared.plan.JobPlan.{JobPlan}
use Rattle.jcl_plan.specs.declared.plan.StepPlan.{StepPlan}
use Rattle.jcl_meaning.specs.Names.{names_of}
use Rattle.jcl_cards.specs.declared.job.JobCard.{JobCard}
use Rattle.jcl_cards.specs.Keywords.{is_given}
use Rattle.jcl_dds.specs.declared.dd.DdCard.{DdCard}
use Rattle.jcl_procs.specs.declared.step.FlatStep.{FlatStep}
use Rattle.jcl_procs.specs.Expansions.{and_then}
use Rattle.jcl_refs.specs.Plans.{all_of, dds_with, job_with, kinds_from, kinds_in, most_dd_names, most_dds, most_names, refused_if, step_with, tests_of, units_of_steps}

-- a part of a plan that is changed in its place, or refused
abbrev pub Puts : {A : Type 0} → Result (Unit {0}) Cause → A → Result A Cause → Type 0
Puts (Ok done) new given = given ≡ Ok new
Puts (Err fault) new given = given ≡ Err fault

-- a step, as it stands, with too many DDNAMEs
abbrev pub looks_for_later : DdCard → Bool
looks_for_later dd = is_given dd.dd_name

abbrev pub has_many_dd_names : FlatStep → Bool
has_many_dd_names s = nat_lt most_dd_names (count_by looks_for_later s.dds)

-- a step, of which is known whether it has too many
abbrev pub step_by : List FlatStep → ℕ → List (List DdKind) → Bool → FlatStep → Result StepPlan Cause
step_by steps k planned many s =
    and_then (tests_of s.call k steps s.condition.tests.items) (λ tests.
    refused_if many (P TooManyDdNames)
    (refused_if (nat_lt most_dds (length s.dds)) (P TooManyDds)
    (and_then (kinds_from steps s.call k planned [] s.dds) (λ kinds. Ok (step_with s tests (dds_with s.dds kinds))))))

abbrev pub steps_by : List FlatStep → ℕ → List StepPlan → List Bool → List FlatStep → Result (List StepPlan) Cause
steps_by steps k done [] left = Ok done
steps_by steps k done (many ∷ more) [] = Ok done
steps_by steps k done (many ∷ more) (s ∷ left) =
    and_then (step_by steps k (map kinds_in done) many s) (λ plan. steps_by steps (k + 1) (done ++ plan ∷ []) more left)

-- how many DDs each step has
abbrev pub counts_in : List FlatStep → List ℕ
counts_in steps = map (λ s. length s.dds) steps

abbrev pub planned_counts : List StepPlan → List ℕ
planned_counts steps = map (λ s. length s.dds) steps

abbrev pub HaveFewDds : List StepPlan → Type 0
HaveFewDds steps = All (λ s. length s.dds ≤ most_dds) steps

-- the plan before units of sets are told, and behind
abbrev pub named : JobPlan → Result JobPlan Cause
named plan = refused_if (nat_lt most_names (length (names_of plan))) (P TooManyNames) (Ok plan)

abbrev pub job_by : JobCard → List FlatStep → List Bool → Result JobPlan Cause
job_by job left many = and_then (steps_by left 1 [] many left) (λ steps. named (job_with job steps))

abbrev pub with_units : List (List ℕ) → List FlatStep → JobPlan → Result JobPlan Cause
with_units units left plan = and_then (all_of (units_of_steps units left plan.steps)) (λ steps. Ok (record plan { steps = steps }))

abbrev pub plan_with : List (List ℕ) → JobCard → List FlatStep → List Bool → Result JobPlan Cause
plan_with units job left many = and_then (job_by job left many) (with_units units left)
