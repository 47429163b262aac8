-- Jobs that name no set.
use Rattle.std.specs.Prelude.{All}
use Rattle.jcl_plan.specs.declared.plan.DdKind.{DdKind}
use Rattle.jcl_plan.specs.declared.plan.DdKind.TheVariants.{Cards, Dummy, Set, Sysout}
use Rattle.jcl_plan.specs.declared.plan.JobPlan.{JobPlan}
use Rattle.jcl_plan.specs.declared.plan.StepPlan.{StepPlan}

-- no DD is for a set
abbrev pub IsNoSet : DdKind → Type 0
IsNoSet (Sysout class) = Unit {0}
IsNoSet Dummy = Unit {0}
IsNoSet (Cards cards) = Unit {0}
IsNoSet (Set p) = ⊥

abbrev pub StepHasNoSets : StepPlan → Type 0
StepHasNoSets step = All (λ dd. IsNoSet dd.kind) step.dds

abbrev pub HasNoSets : JobPlan → Type 0
HasNoSets plan = All StepHasNoSets plan.steps
