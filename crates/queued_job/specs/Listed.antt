-- The jobs that wait, as the queue and the listings have them. (This profile)
use Rattle.std.specs.Prelude.{◌≡◌, ℕ, ◌==◌, not, List, [], ◌∷◌, ◌++◌, map, filter}
use Rattle.std.specs.List.{Contains}
use Rattle.queue_core.specs.declared.queue.Queued.{Queued}
use Rattle.cb_queue.specs.RecordQueues.{AreInOrder}
use Rattle.world_meaning.specs.Worlds.{Waiting, without_waiting}
use Rattle.queued_job.specs.declared.backlog.Listing.{Listing}
use Rattle.queued_job.specs.Backlogs.{IsListingOf}
use Rattle.queued_job.specs.Selecting.{AreQueued}

-- a job of the queue with its listing
abbrev pub waiting_as : Queued → Listing → Waiting
waiting_as q l = record { job = q.job; class = q.class; priority = q.priority; first = q.jct; listing = l.lines }

abbrev pub waiting_in : List Queued → List Listing → List Waiting
waiting_in [] backlog = []
waiting_in (q ∷ queue) [] = []
waiting_in (q ∷ queue) (l ∷ backlog) = waiting_as q l ∷ waiting_in queue backlog

-- each job of the queue has its listing, in the same order
abbrev pub AreListed : List Queued → List Listing → Type 0
AreListed queue backlog = map (λ q. q.job) queue ≡ map (λ l. l.job) backlog

abbrev pub but_job : ℕ → List Queued → List Queued
but_job job queue = filter (λ x. not (x.job == job)) queue

abbrev pub but_listing : ℕ → List Listing → List Listing
but_listing job backlog = filter (λ x. not (x.job == job)) backlog

-- the queue keeps the jobs that have their listings
abbrev pub ListedAreQueued : Type 0
ListedAreQueued = (queue : List Queued) (backlog : List Listing) → AreListed queue backlog → AreQueued (waiting_in queue backlog) queue

-- a job and its listing that come last
abbrev pub ListsLast : Type 0
ListsLast = (queue : List Queued) (backlog : List Listing) (q : Queued) (l : Listing) → AreListed queue backlog → q.job ≡ l.job →
    AreListed (queue ++ q ∷ []) (backlog ++ l ∷ [])
    × (waiting_in (queue ++ q ∷ []) (backlog ++ l ∷ []) ≡ waiting_in queue backlog ++ waiting_as q l ∷ [])

-- a job and its listing that are taken out
abbrev pub ListsOthers : Type 0
ListsOthers = (queue : List Queued) (backlog : List Listing) (job : ℕ) → AreListed queue backlog →
    AreListed (but_job job queue) (but_listing job backlog)
    × (waiting_in (but_job job queue) (but_listing job backlog) ≡ without_waiting (waiting_in queue backlog) job)

-- a job has one listing
abbrev pub HasOneListing : Type 0
HasOneListing = (queue : List Queued) (backlog : List Listing) (w : Waiting) (l : Listing) → AreInOrder queue → AreListed queue backlog →
    Contains (waiting_in queue backlog) w → IsListingOf backlog w.job l → w.listing ≡ l.lines
