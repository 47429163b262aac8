-- Up to which step DDs refer to volumes of other DDs.
use Rattle.std.specs.Prelude.{◌≡◌, ℕ, Bool, true, false, List, drop}
use Rattle.jcl_plan.specs.declared.plan.DdKind.{DdKind}
use Rattle.jcl_plan.specs.declared.plan.DdKind.TheVariants.{Sysout, Dummy, Cards, Set}
use Rattle.jcl_plan.specs.declared.plan.StepPlan.{StepPlan}
use Rattle.jcl_plan.specs.declared.plan.VolumePlan.{VolumePlan}
use Rattle.jcl_plan.specs.declared.plan.VolumePlan.TheVariants.{NotCoded, Serial, OfName, OfDd}
use Rattle.jcl_meaning.specs.Views.{steps_refer}

-- the volume of another DD is asked for
abbrev pub asks : VolumePlan → Bool
asks NotCoded = false
asks (Serial serial) = false
asks (OfName name) = false
asks (OfDd step dd) = true

abbrev pub kind_asks : DdKind → Bool
kind_asks (Sysout class) = false
kind_asks Dummy = false
kind_asks (Cards cards) = false
kind_asks (Set p) = asks p.volume

-- no step behind so many refers to the volume of a DD
abbrev pub AskUpTo : List StepPlan → ℕ → Type 0
AskUpTo steps n = (step dd : ℕ) → steps_refer (drop n steps) step dd ≡ false
