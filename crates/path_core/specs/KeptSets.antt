-- Jobs that only keep sets which are there.
use Rattle.std.specs.Prelude.{◌≡◌, ℕ, ◌+◌, ◌<◌, Bool, true, false, List, length, Option, Some, None, is_some, slice_index_or}
use Rattle.jname_core.specs.declared.key.Key.TheVariants.{Named}
use Rattle.jcl_plan.specs.declared.plan.ConditionalWord.{ConditionalWord}
use Rattle.jcl_plan.specs.declared.plan.ConditionalWord.TheVariants as conditional
use Rattle.jcl_plan.specs.declared.plan.DdKind.{DdKind}
use Rattle.jcl_plan.specs.declared.plan.DdKind.TheVariants.{Cards, Dummy, Set, Sysout}
use Rattle.jcl_plan.specs.declared.plan.DdPlan.{DdPlan}
use Rattle.jcl_plan.specs.declared.plan.JobPlan.{JobPlan}
use Rattle.jcl_plan.specs.declared.plan.SetPlan.{SetPlan}
use Rattle.jcl_plan.specs.declared.plan.Status.{Status}
use Rattle.jcl_plan.specs.declared.plan.Status.TheVariants.{New, Old, Shr, Mod}
use Rattle.jcl_plan.specs.declared.plan.StepPlan.{StepPlan}
use Rattle.jcl_plan.specs.declared.plan.VolumePlan.TheVariants.{NotCoded}
use Rattle.jcl_plan.specs.declared.plan.Word.{Word}
use Rattle.jcl_plan.specs.declared.plan.Word.TheVariants as word
use Rattle.jcl_meaning.specs.declared.state.KeyMeaning.{KeyMeaning}
use Rattle.jcl_meaning.specs.declared.state.Resolution.{Resolution}
use Rattle.jcl_meaning.specs.declared.state.Resolution.TheVariants.{Means}
use Rattle.jcl_meaning.specs.Resolutions.{meaning_at}
use Rattle.jcl_meaning.specs.Stores.{Store, volume_of}
use Rattle.jcl_meaning.specs.Takes.{releases}

abbrev pub is_new : Status → Bool
is_new New = true
is_new Old = false
is_new Shr = false
is_new Mod = false

-- the word keeps a set that the job did not make, and so does one that is not coded
abbrev pub keeps : Option Word → Bool
keeps None = true
keeps (Some word.Delete) = false
keeps (Some word.Keep) = true
keeps (Some word.Pass) = false
keeps (Some word.Catlg) = false
keeps (Some word.Uncatlg) = false

abbrev pub keeps_after_abend : Option ConditionalWord → Bool
keeps_after_abend None = true
keeps_after_abend (Some conditional.Delete) = false
keeps_after_abend (Some conditional.Keep) = true
keeps_after_abend (Some conditional.Catlg) = false
keeps_after_abend (Some conditional.Uncatlg) = false

-- the set of a name stands where the catalog has it
pub record Stands (store : Store) (name : List ℕ) : Type 0 where
  pub serial : List ℕ
  pub entered : volume_of store name ≡ Some serial
  pub there : is_some (store.set (Named name) serial) ≡ true

-- what a key means is a name whose set stands
pub record IsNameThatStands (store : Store) (means : Resolution) : Type 0 where
  pub name : List ℕ
  pub is : means ≡ Means (Named name)
  pub stands : Stands store name

-- A DD for a set that stands by the catalog: it is taken there, and kept however the step ends.
pub record IsKept (meanings : List KeyMeaning) (store : Store) (step dd : ℕ) (p : SetPlan) : Type 0 where
  pub old : is_new p.status ≡ false
  pub anywhere : p.volume ≡ NotCoded
  pub whole : releases p.space ≡ false
  pub normal : keeps p.normal ≡ true
  pub after_abend : keeps_after_abend p.conditional ≡ true
  pub named : IsNameThatStands store (meaning_at meanings step dd)

-- a DD that is for no set, or for one that is kept
abbrev pub IsAtMostKept : List KeyMeaning → Store → ℕ → ℕ → DdKind → Type 0
IsAtMostKept meanings store step dd (Sysout class) = Unit {0}
IsAtMostKept meanings store step dd Dummy = Unit {0}
IsAtMostKept meanings store step dd (Cards cards) = Unit {0}
IsAtMostKept meanings store step dd (Set p) = IsKept meanings store step dd p

-- each DD of a step, and of all steps; both count from 1
abbrev pub StepAtMostKeeps : List KeyMeaning → Store → ℕ → List DdPlan → Type 0
StepAtMostKeeps meanings store n dds = (k : ℕ) (dd : DdPlan) → k < length dds → IsAtMostKept meanings store n (k + 1) (slice_index_or dds k dd).kind

abbrev pub AtMostKeeps : List KeyMeaning → Store → JobPlan → Type 0
AtMostKeeps meanings store plan =
    (k : ℕ) (step : StepPlan) → k < length plan.steps → StepAtMostKeeps meanings store (k + 1) (slice_index_or plan.steps k step).dds
