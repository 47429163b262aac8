-- Laws of the plans that decks denote.
use Rattle.std.specs.Prelude.{◌≡◌, ℕ, ◌≤◌, ◌⊎◌, List, length, None, Ok, All}
use Rattle.jname_core.specs.declared.key.Key.{Key}
use Rattle.jname_core.specs.declared.key.Key.TheVariants.{Named, Relative, Temporary, Unnamed}
use Rattle.jcl_plan.specs.declared.plan.DdKind.{DdKind}
use Rattle.jcl_plan.specs.declared.plan.DdKind.TheVariants.{Cards, Dummy, Set, Sysout}
use Rattle.jcl_plan.specs.declared.plan.JobPlan.{JobPlan}
use Rattle.jcl_plan.specs.declared.plan.StepPlan.{StepPlan}
use Rattle.jcl_plan.specs.declared.plan.VolumePlan.{VolumePlan}
use Rattle.jcl_plan.specs.declared.plan.VolumePlan.TheVariants as volume
use Rattle.jcl_cards.specs.declared.job.JobCard.{JobCard}
use Rattle.jcl_procs.specs.declared.step.FlatStep.{FlatStep}
use Rattle.cb_meaning.specs.Writable.{IsEarlierSet, IsUnits, NamesEarlier}
use Rattle.statement_laws.specs.Ranges.{CodesName}
use Rattle.jcl_refs.specs.Plans.{most_dds, most_steps, plan_of}
use Rattle.plan_laws.specs.Each.{EachDd, EachStep}

-- A job has so many steps at most, and each step so many DDs.
abbrev pub StepsAreFew : Type 0
StepsAreFew = (units : List (List ℕ)) (job : JobCard) (steps : List FlatStep) (plan : JobPlan) → plan_of units job steps ≡ Ok plan →
    (length plan.steps ≤ most_steps) × All (λ step. length step.dds ≤ most_dds) plan.steps

-- The JOB's tests name no step, those of a step none or an earlier one.
abbrev pub TestsLookBack : Type 0
TestsLookBack = (units : List (List ℕ)) (job : JobCard) (steps : List FlatStep) (plan : JobPlan) → plan_of units job steps ≡ Ok plan →
    All (λ t. t.step ≡ None) plan.tests.items × EachStep (λ k step. All (λ t. NamesEarlier k t.step) step.tests.items) 1 plan.steps

-- no name that a deck can write is that of an unnamed set
abbrev pub IsWritten : Key → Type 0
IsWritten (Named text) = Unit {0}
IsWritten (Relative base sign amount) = Unit {0}
IsWritten (Temporary text) = Unit {0}
IsWritten (Unnamed step dd) = ⊥

abbrev pub WritesNames : FlatStep → Type 0
WritesNames s = All (λ dd. CodesName IsWritten dd.set_name) s.dds

abbrev pub KeyLooksBack : List StepPlan → ℕ → ℕ → Key → Type 0
KeyLooksBack steps k d (Named text) = Unit {0}
KeyLooksBack steps k d (Relative base sign amount) = Unit {0}
KeyLooksBack steps k d (Temporary text) = Unit {0}
KeyLooksBack steps k d (Unnamed step dd) = ((step ≡ k) × (dd ≡ d)) ⊎ IsEarlierSet steps k d step dd

abbrev pub VolumeLooksBack : List StepPlan → ℕ → ℕ → VolumePlan → Type 0
VolumeLooksBack steps k d volume.NotCoded = Unit {0}
VolumeLooksBack steps k d (volume.Serial serial) = Unit {0}
VolumeLooksBack steps k d (volume.OfName text) = Unit {0}
VolumeLooksBack steps k d (volume.OfDd step dd) = IsEarlierSet steps k d step dd

abbrev pub KindLooksBack : List StepPlan → ℕ → ℕ → DdKind → Type 0
KindLooksBack steps k d (Set p) = KeyLooksBack steps k d p.key × VolumeLooksBack steps k d p.volume
KindLooksBack steps k d Dummy = Unit {0}
KindLooksBack steps k d (Sysout class) = Unit {0}
KindLooksBack steps k d (Cards cards) = Unit {0}

-- An unnamed set is the DD's own or an earlier one, and a volume is that of an earlier set.
abbrev pub ReferencesLookBack : Type 0
ReferencesLookBack = (units : List (List ℕ)) (job : JobCard) (steps : List FlatStep) (plan : JobPlan) → All WritesNames steps →
    plan_of units job steps ≡ Ok plan → EachStep (λ k step. EachDd (λ d dd. KindLooksBack plan.steps k d dd.kind) 1 step.dds) 1 plan.steps

-- the units of a set are configured
abbrev pub HasKnownUnits : ℕ → DdKind → Type 0
HasKnownUnits units (Set p) = IsUnits units p.units
HasKnownUnits units Dummy = Unit {0}
HasKnownUnits units (Sysout class) = Unit {0}
HasKnownUnits units (Cards cards) = Unit {0}

-- Units that a plan names are configured.
abbrev pub UnitsAreKnown : Type 0
UnitsAreKnown = (units : List (List ℕ)) (job : JobCard) (steps : List FlatStep) (plan : JobPlan) → plan_of units job steps ≡ Ok plan →
    All (λ step. All (λ dd. HasKnownUnits (length units) dd.kind) step.dds) plan.steps
