-- The jobs that wait in the queue are those of the world. (GC28-6704, CLASS and PRTY parameters)
use Rattle.std.specs.Prelude.{◌≡◌, ◌≢◌, ℕ, ◌==◌, not, List, map, filter, Option, Some, None, All}
use Rattle.std.specs.List.{Contains}
use Rattle.queue_core.specs.declared.queue.Queued.{Queued}
use Rattle.world_meaning.specs.Selections.{HasNone, IsSelected}
use Rattle.world_meaning.specs.Worlds.{Waiting, without_waiting}

-- a job that waits, as the queue keeps it
abbrev pub queued_as : Waiting → Queued
queued_as w = record { job = w.job; jct = w.first; class = w.class; priority = w.priority }

abbrev pub AreQueued : List Waiting → List Queued → Type 0
AreQueued waiting queue = map queued_as waiting ≡ queue

-- none is selected where no job of the classes waits, else the first job of the first class that has one
abbrev pub IsSelection : List Waiting → List ℕ → Option Queued → Type 0
IsSelection waiting classes None = All (HasNone waiting) classes
IsSelection waiting classes (Some q) = (w : Waiting) × IsSelected waiting classes w × (queued_as w ≡ q)

-- whatever list of the world the queue keeps
abbrev pub SelectsOf : List Queued → List ℕ → Option Queued → Type 0
SelectsOf queue classes answer = (waiting : List Waiting) → AreQueued waiting queue → IsSelection waiting classes answer

-- who waits no longer in the queue waits no longer in the world
abbrev pub RemovesWaiting : Type 0
RemovesWaiting = (waiting : List Waiting) (queue : List Queued) (job : ℕ) → AreQueued waiting queue →
    AreQueued (without_waiting waiting job) (filter (λ x. not (x.job == job)) queue)

-- a job that waits in the queue waits in the world
abbrev pub FindsWaiting : Type 0
FindsWaiting = (waiting : List Waiting) (queue : List Queued) (q : Queued) → AreQueued waiting queue → Contains queue q →
    (w : Waiting) × Contains waiting w × (queued_as w ≡ q)

-- and one that does not wait there does not in the world
abbrev pub MissesWaiting : Type 0
MissesWaiting = (waiting : List Waiting) (queue : List Queued) (job : ℕ) → AreQueued waiting queue → All (λ x. x.job ≢ job) queue →
    All (λ x. x.job ≢ job) waiting
