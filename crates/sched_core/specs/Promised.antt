-- What is promised along a chain of machines, and that such a chain is a run of the table.
use Rattle.std.specs.Prelude.{ℕ, List, map}
use Rattle.std.specs.List.{Contains}
use Rattle.jcl_plan.specs.declared.entry.Entry.{Entry}
use Rattle.jcl_plan.specs.declared.entry.Entry.TheVariants as entry
use Rattle.jcl_plan.specs.declared.entry.JobLine.TheVariants as line
use Rattle.session_input.specs.declared.event.Event.{Event}
use Rattle.world_meaning.specs.Headlines.{IsPromised}
use Rattle.world_meaning.specs.Starts.{IsStart}
use Rattle.world_meaning.specs.Transitions.{Runs}
use Rattle.sched_core.specs.Systems.{Along, Drives, Machine, denoting, meant_by, world_of}

-- the job of whichever ASSURED t TRACKS b ACTIONS stands among the lines that lead from one machine to another
abbrev pub ArePromised : Machine → List Entry → Machine → Type 0
ArePromised old lines new = (job tracks stated : ℕ) → Contains lines (entry.Job job (line.Assured tracks stated)) →
    IsPromised (denoting old) (world_of old) (world_of new) job stated

-- so at each step along a chain
pub record ArePromisedAlong (old : Machine) (events : List Event) (entries : List (List Entry)) (new : Machine) (chain : Drives old events entries new) : Type 0 where
  pub along : Along (λ m e lines next s. ArePromised m lines next) old events entries new chain

-- from a machine with no event yet each chain of these events keeps what it promises
abbrev pub KeepsPromises : Machine → List Event → List (List Entry) → Machine → Type 0
KeepsPromises old events entries new = IsStart (world_of old) → (chain : Drives old events entries new) → ArePromisedAlong old events entries new chain

-- From a machine with no event yet each chain keeps what it promises.
abbrev pub ChainsKeepPromises : Type 0
ChainsKeepPromises = (old : Machine) (events : List Event) (entries : List (List Entry)) (new : Machine) → IsStart (world_of old) →
    (chain : Drives old events entries new) → ArePromisedAlong old events entries new chain

-- A chain of machines is a run of the machine's definitions.
abbrev pub ChainsAreRuns : Type 0
ChainsAreRuns = (old : Machine) (events : List Event) (entries : List (List Entry)) (new : Machine) → Drives old events entries new →
    Runs (denoting old) (world_of old) (map meant_by events) entries (world_of new)
