-- Lines that do not follow, each in a machine of the worked sessions.
use Rattle.std.specs.Prelude.{◌≡◌, ℕ, false, List, [], ◌∷◌, Some, None}
use Rattle.jcl_plan.specs.declared.entry.Entry.{Entry}
use Rattle.jcl_plan.specs.declared.entry.Entry.TheVariants as entry
use Rattle.jcl_plan.specs.declared.entry.JobLine.{JobLine}
use Rattle.jcl_plan.specs.declared.entry.JobLine.TheVariants as line
use Rattle.jcl_plan.specs.declared.outcome.Abend.TheVariants.{S222}
use Rattle.world_meaning.specs.declared.event.Event.TheVariants as event
use Rattle.world_meaning.specs.Readings.{Denoting}
use Rattle.world_meaning.specs.Transitions.{Transition}
use Rattle.world_meaning.specs.Worlds.{Selected, World}
use Rattle.world_rows.specs.Devices as devices
use Rattle.world_rows.specs.Growths.{no_sets}
use Rattle.world_rows.specs.Machines.{initiator, machine, stands_at}
use Rattle.world_rows.specs.Names as names
use Rattle.world_rows.specs.Zaps as zaps
use Rattle.jcl_meaning.specs.Solo.{nothing_own}

-- a turn of the first initiator does not write this
abbrev pub WritesNot : World → List JobLine → Type 0
WritesNot w lines = (job_of : Denoting) (told : List Entry) (new : World) → Transition job_of w (event.Turn 1) told new → told ≡ of_first lines → ⊥
  where
    of_first : List JobLine → List Entry
    of_first [] = []
    of_first (l ∷ ls) = entry.Job 1 l ∷ []

-- both jobs are about to read, and the volume is idle
pub record AtARead : Type 0 where
  pub waits_not : WritesNot devices.start []
  pub not_cancelled : WritesNot devices.start (line.Abend S222 ∷ [])
  pub skips_nothing : WritesNot devices.start (line.Code 0 ∷ [])

-- a job whose records are good is selected
abbrev pub selected : World
selected = record zaps.later_start { initiators = initiator 1 (Some (record { job = 1; listing = []; stage = Selected 1 })) ∷ initiator 2 None ∷ [] }

pub record AtASelectedJob : Type 0 where
  pub selects_once : WritesNot selected (line.Selected 1 ∷ [])
  pub good_chain : (n : ℕ) → WritesNot selected (line.Broken n ∷ [])

-- a job whose last step is over holds a name
abbrev pub at_its_end : World
at_its_end =
    let w : World = machine [] no_sets 100 (Some (stands_at 1 names.reader devices.fixed 4 nothing_own)) None in
    record w { shared = record w.shared { holds = record { job = 1; name = names.name; exclusive = false } ∷ [] } }

-- behind END it holds none
abbrev pub AtItsEnd : Type 0
AtItsEnd = (job_of : Denoting) (told : List Entry) (new : World) → Transition job_of at_its_end (event.Turn 1) told new → new.shared.holds ≡ []
