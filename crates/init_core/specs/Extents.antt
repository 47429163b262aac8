-- What becomes of the extents of all volumes at an event. (This profile)
use Rattle.std.specs.Prelude.{ℕ, ◌⊎◌, List}
use Rattle.jcl_plan.specs.declared.plan.JobPlan.{JobPlan}
use Rattle.jcl_meaning.specs.declared.state.Place.{Place}
use Rattle.path_meaning.specs.Verdicts.{AreRising}
use Rattle.shared_core.specs.Laws.{Follow}
use Rattle.shared_core.specs.declared.store.SharedStore.{SharedStore}
use Rattle.place_core.specs.Keepings.{KeepsAll}
use Rattle.place_core.specs.Placings.{serials_of}

-- Of a job that is assured the primaries of the sets that it may make are kept, one after another, in the order of its steps and DDs.
pub record KeepsSome (old new : SharedStore) : Type 0 where
  pub job : ℕ
  pub plan : JobPlan
  pub made : List Place
  pub rising : AreRising (serials_of old.volumes) made
  pub keeps : KeepsAll job plan made old new

-- Tracks are kept for a job; or for none, and the extents of sets, and of what is kept, follow.
abbrev pub ExtentsFollow : SharedStore → SharedStore → Type 0
ExtentsFollow old new = Follow old new ⊎ KeepsSome old new
