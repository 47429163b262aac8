-- The events that change no job at an initiator, whatever else the machine has.
use Rattle.std.specs.Prelude.{◌≡◌, ℕ, List, [], ◌∷◌, length, Option, Some, None, sum_by}
use Rattle.cb_queue.specs.RecordQueues.{RecordQueue}
use Rattle.jcl_plan.specs.declared.entry.Entry.{Entry}
use Rattle.jcl_plan.specs.declared.entry.Entry.TheVariants as entry
use Rattle.jcl_plan.specs.declared.entry.Written.{Written}
use Rattle.jcl_plan.specs.declared.fault.Cause.TheVariants.{A}
use Rattle.jcl_plan.specs.declared.fault.EventFault.{EventFault}
use Rattle.mount_core.specs.Mounts.{MountedState}
use Rattle.world_meaning.specs.Devices.{EndsDevice, Writes}
use Rattle.world_meaning.specs.Displays.{busy, shown_lines}
use Rattle.world_meaning.specs.Worlds.{Shared, World}
use Rattle.shared_core.specs.Tracks.{free_tracks, kept_tracks}
use Rattle.machine_core.specs.declared.parts.Parts.{Parts}
use Rattle.machine_core.specs.Shown.{shown}

-- a machine of these volumes, with these parts
pub record IsOf {Q : Type 0} (queue_of : Q → RecordQueue) (volumes : List (List ℕ)) (parts : Parts Q) (w : World) : Type 0 where
  pub volumes_so : w.config.volumes ≡ volumes
  pub shared_so : w.shared ≡ shown queue_of parts

abbrev pub with_shared : World → Shared → World
with_shared w s = record w { shared = s }

-- a device's end, or its refusal
abbrev pub DeviceEnds : {Q : Type 0} → (Q → RecordQueue) → List (List ℕ) → Parts Q → List ℕ → Parts Q → Type 0
DeviceEnds queue_of volumes old serial new = (w : World) → IsOf queue_of volumes old w → EndsDevice w serial [] (with_shared w (shown queue_of new))

abbrev pub DeviceIsRefused : {Q : Type 0} → (Q → RecordQueue) → List (List ℕ) → Parts Q → List ℕ → EventFault → Type 0
DeviceIsRefused queue_of volumes old serial fault = (w : World) → IsOf queue_of volumes old w → EndsDevice w serial (entry.Refused (A fault) ∷ []) w

-- what a writer of a class writes
abbrev pub written_lines : ℕ → Option (ℕ × Written) → List Entry
written_lines class None = []
written_lines class (Some told) = entry.Writer class told.0 told.1 ∷ []

abbrev pub WriterWrites : {Q : Type 0} → (Q → RecordQueue) → Parts Q → ℕ → Option (ℕ × Written) → Parts Q → Type 0
WriterWrites queue_of old class told new = (w : World) → w.shared ≡ shown queue_of old → Writes w class (written_lines class told) (with_shared w (shown queue_of new))

-- a volume's line
abbrev pub line_of : MountedState → Entry
line_of m = entry.Volume m.serial (free_tracks (Some m)) (sum_by (λ k. k.tracks) (kept_tracks (Some m)))

-- what is shown, with so many jobs at initiators
pub record IsShowing {Q : Type 0} (queue_of : Q → RecordQueue) (volumes : List (List ℕ)) (parts : Parts Q) (running : ℕ) (w : World) : Type 0 where
  pub of : IsOf queue_of volumes parts w
  pub waiting : length w.waiting ≡ length (queue_of parts.queue).waiting
  pub running_so : sum_by (λ x. busy x.running) w.initiators ≡ running

abbrev pub Shows : {Q : Type 0} → (Q → RecordQueue) → List (List ℕ) → Parts Q → ℕ → List Entry → Type 0
Shows queue_of volumes parts running lines = (w : World) → IsShowing queue_of volumes parts running w → lines ≡ shown_lines w
