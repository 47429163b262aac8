-- Events that are given to a machine one after another, until nothing moves. (This profile)
use Rattle.std.specs.Prelude.{◌≡◌, ◌⊎◌, ℕ, zero, suc, ◌+◌, ◌<◌, ◌≤◌, false, All, List, [], ◌∷◌, ◌++◌, length, Option, None, Some, slice_get}
use Rattle.session_input.specs.declared.event.Event.{Event}
use Rattle.jcl_plan.specs.declared.entry.Entry.{Entry}
use Rattle.jcl_plan.specs.declared.entry.Entry.TheVariants as entry
use Rattle.jcl_plan.specs.declared.entry.JobLine.{JobLine}
use Rattle.jcl_plan.specs.declared.entry.JobLine.TheVariants as line
use Rattle.machine_meaning.specs.declared.machine.TheConstants.{MOST_EVENTS}
use Rattle.prog_core.specs.Operations.{is_busy}
use Rattle.sched_core.specs.Systems.{Drives, IsNext, Machine, Steps, world_of}
use Rattle.world_meaning.specs.Worlds.{Initiator}
use Rattle.play_core.specs.Given.{IsTaken, event_of}
use Rattle.play_core.specs.declared.given.Given.{Given}
use Rattle.play_core.specs.declared.given.Given.TheVariants.{Turn}

-- events lead from one machine to another
pub record Leads (old : Machine) (events : List Event) (new : Machine) : Type 0 where
  pub entries : List (List Entry)
  pub drives : Drives old events entries new

-- each of the added events is one that the machine takes as it is then
abbrev pub Gives : Machine → List Given → Machine → Type 0
Gives old [] new = new ≡ old
Gives old (g ∷ given) new = (mid : Machine) × IsTaken (world_of old) g
    × ((lines : List Entry) × Steps old (event_of g) lines (world_of mid)) × IsNext old mid × Gives mid given new

-- and they stand behind those that were added before
pub record Adds (old : Machine) (before : List Given) (new : Machine) (after : List Given) : Type 0 where
  pub more : List Given
  pub after_so : after ≡ before ++ more
  pub gives : Gives old more new

-- there are more of them than before, or the limit of events is reached
abbrev pub AddsMore : List Given → Machine → List Given → Type 0
AddsMore before new after = (length before < length after) ⊎ (MOST_EVENTS ≤ (world_of new).events)

-- on no volume an operation is under way
abbrev pub IsQuiet : Machine → Type 0
IsQuiet m = All (λ serial. is_busy (world_of m).shared.operations (Some serial) ≡ false) (world_of m).config.volumes

-- a line that tells that a job waits
abbrev pub SaysWait : JobLine → Type 0
SaysWait (line.WaitNames holder name) = Unit {0}
SaysWait (line.WaitSpace serial) = Unit {0}
SaysWait other = ⊥

abbrev pub IsWait : Entry → Type 0
IsWait (entry.Job job l) = SaysWait l
IsWait other = ⊥

-- The initiators at so many places, from one on, act once each, and nothing is written but that jobs wait.
abbrev pub StaysAt : Machine → Option Initiator → Machine → Type 0
StaysAt old None new = new ≡ old
StaysAt old (Some x) new = (lines : List Entry) × Steps old (event_of (Turn x.number)) lines (world_of new) × All IsWait lines

abbrev pub Stays : Machine → ℕ → ℕ → Machine → Type 0
Stays old place zero new = new ≡ old
Stays old place (suc count) new = (mid : Machine) × StaysAt old (slice_get (world_of old).initiators place) mid × Stays mid (place + 1) count new

-- Nothing moves: each initiator acted once, which told no more than that jobs wait, and no operation is under way.
pub record IsStill (m : Machine) : Type 0 where
  pub before : Machine
  pub turns : Stays before 0 (length (world_of before).initiators) m
  pub quiet : IsQuiet m

-- nothing moves, or the limit of events is reached, by all that came or by those that were added
abbrev pub IsOver : Machine → List Given → Type 0
IsOver m given = IsStill m ⊎ ((MOST_EVENTS ≤ (world_of m).events) ⊎ (MOST_EVENTS ≤ length given))
