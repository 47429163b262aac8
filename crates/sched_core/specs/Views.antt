-- What is seen of the machine between two events: its initiators with their jobs, its volumes, and the job that is selected next of a class. (This profile)
use Rattle.std.specs.Prelude.{◌≡◌, ℕ, List, Option, Some, None}
use Rattle.std.specs.Option.{option_map}
use Rattle.prog_core.specs.Operations.{is_busy}
use Rattle.world_meaning.specs.Selections.{HasNone, IsFirst}
use Rattle.world_meaning.specs.Tracks.{kept_on}
use Rattle.world_meaning.specs.Worlds.{Admitted, Initiator, Named, Running, Selected, Shared, Stage, Waiting, Wanting}
use Rattle.sched_core.specs.declared.views.Phase.{Phase}
use Rattle.sched_core.specs.declared.views.Phase.TheVariants as phase
use Rattle.sched_core.specs.declared.views.SeenInitiator.{SeenInitiator}
use Rattle.sched_core.specs.declared.views.SeenJob.{SeenJob}
use Rattle.sched_core.specs.declared.views.SeenVolume.{SeenVolume}

-- how far an initiator is with its job
abbrev pub phase_of : Stage → Phase
phase_of (Selected first) = phase.Selected
phase_of (Wanting plan) = phase.Wanting
phase_of (Named plan) = phase.Named
phase_of (Admitted plan admission done own) = phase.Admitted

abbrev pub seen_job : Running → SeenJob
seen_job r = record { job = r.job; phase = phase_of r.stage }

abbrev pub seen_initiator : Initiator → SeenInitiator
seen_initiator x = record { number = x.number; classes = x.classes; job = option_map seen_job x.running }

-- a volume: its free tracks, those that are kept on it, and whether an operation is under way there
abbrev pub seen_volume : Shared → List ℕ → SeenVolume
seen_volume s serial = record {
  serial = serial;
  free = s.free serial;
  kept = kept_on s.kept serial;
  busy = is_busy s.operations (Some serial);
}

-- the job of a class that is selected next, if one waits
abbrev pub IsNext : List Waiting → ℕ → Option ℕ → Type 0
IsNext waiting class None = HasNone waiting class
IsNext waiting class (Some job) = (w : Waiting) × IsFirst waiting class w × (w.job ≡ job)
