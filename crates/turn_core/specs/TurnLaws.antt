-- What holds of each turn that wrote lines.
use Rattle.std.specs.Prelude.{◌≡◌, ℕ, suc, ◌≤◌, ◌⊎◌, true, List, length, Some, is_some}
use Rattle.jname_core.specs.declared.key.Key.{Key}
use Rattle.jcl_plan.specs.declared.plan.JobPlan.{JobPlan}
use Rattle.jcl_meaning.specs.NoSets.{HasNoSets}
use Rattle.jcl_meaning.specs.Stores.{Store}
use Rattle.turn_core.specs.Performing.{StoreAnswers}
use Rattle.turn_core.specs.Standing.{JobActs}
use Rattle.turn_core.specs.Turning.{Around}
use Rattle.turn_core.specs.declared.walk.Acted.{Acted}
use Rattle.turn_core.specs.declared.walk.Walk.{Walk}

-- a job that names no set asks for no primary
abbrev pub NoneRefused : Type 0
NoneRefused = (w : Around) (plan : JobPlan) (old new : Store) (before after : Walk) (told : Acted) → HasNoSets plan →
    (h : JobActs w plan old new before after told) → h.acts.primary ≡ true

-- an action writes one line, or that of a fault and one for each DD that its step had taken
abbrev pub FewLines : Type 0
FewLines = (w : Around) (plan : JobPlan) (old new : Store) (before after : Walk) (told : Acted) →
    (h : JobActs w plan old new before after told) → length h.acts.its_turn.done.lines ≤ suc (length before.course.own.dds)

-- a set stands on the volume, or the store grants one tracks there
pub record IsVolumeOfSet (grants : StoreAnswers) (seen : Store) (serial : List ℕ) : Type 0 where
  pub key : Key
  pub there : (is_some (seen.set key serial) ≡ true) ⊎ ((tracks : ℕ) × (grants.growth key serial tracks ≡ true))

-- on such a volume an operation starts
abbrev pub StartsWhereSetsAre : Type 0
StartsWhereSetsAre = (w : Around) (plan : JobPlan) (old new : Store) (before after : Walk) (told : Acted) (serial : List ℕ) →
    JobActs w plan old new before after told → told.starts ≡ Some serial → IsVolumeOfSet w.grants old serial
