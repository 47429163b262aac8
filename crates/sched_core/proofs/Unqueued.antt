-- A job at an initiator, or one that was taken out of the queue, does not wait.
use Rattle.std.proofs.Common.{◌≡◌, ◌≢◌, ℕ, ◌==◌, Bool, true, false, not, List, [], ◌∷◌, Some, ◌∙◌, sym}
use Rattle.std.specs.Prelude.{All, filter}
use Rattle.std.proofs.lemmas.Bool.{eq-eqb}
use Rattle.std.proofs.lemmas.List.Elements.{All-cons, All-head, All-nil, All-tail, All-weaker, filter_passes}
use Rattle.cb_queue.specs.RecordQueues.{RecordQueue}
use Rattle.queue_core.specs.declared.queue.Queued.{Queued}
use Rattle.queued_job.specs.Listed.{AreListed, waiting_in}
use Rattle.queued_job.specs.declared.backlog.Listing.{Listing}
use Rattle.world_meaning.specs.Worlds.{Config}
use Rattle.init_core.specs.Running.{shown_running}
use Rattle.init_core.specs.declared.running.Running.{Running}
use Rattle.sched_core.specs.Fits.{IsKept}
use Rattle.sched_core.specs.Machines.{RunsIn}
use Rattle.sched_core.specs.declared.state.State.{State}
use Rattle.sched_core.proofs.Seats.{runs_at}

tails : (q : Queued) (queue : List Queued) (l : Listing) (backlog : List Listing) → AreListed (q ∷ queue) (l ∷ backlog) → AreListed queue backlog
tails q queue l backlog listed = cc

-- who does not wait with a listing does not wait
unlisted : (queue : List Queued) (backlog : List Listing) (job : ℕ) → AreListed queue backlog → All (λ v. v.job ≢ job) (waiting_in queue backlog) →
    All (λ x. x.job ≢ job) queue
unlisted [] backlog job listed none = All-nil (λ x. x.job ≢ job)
unlisted (q ∷ queue) [] job listed none = cc
unlisted (q ∷ queue) (l ∷ backlog) job listed none =
    All-cons (λ x. x.job ≢ job) q queue (All-head (λ v. v.job ≢ job) _ (waiting_in queue backlog) none)
    (unlisted queue backlog job (tails q queue l backlog listed) (All-tail (λ v. v.job ≢ job) _ (waiting_in queue backlog) none))

pub unqueued_at : {Q : Type 0} (queue_of : Q → RecordQueue) (c : Config) (s : State Q) → IsKept queue_of c s → (place : ℕ) (r : Running) →
    RunsIn s.initiators.items place r → All (λ x. x.job ≢ r.job) (queue_of s.parts.queue).waiting
unqueued_at queue_of c s kept place r runs =
    unlisted (queue_of s.parts.queue).waiting s.backlog r.job kept.fit.listed
    (kept.sound.alone place (shown_running c (queue_of s.parts.queue) r) (runs_at queue_of c s place r runs)).not_waiting

-- who was taken out waits no longer
others : (n m : ℕ) → not (n == m) ≡ true → n ≢ m
others n m out same = by (n == m) out (eq-eqb n m same)
  where
    by : (b : Bool) → not b ≡ true → b ≡ true → ⊥
    by true e is = cc
    by false e is = cc

pub taken_out : (job : ℕ) (queue : List Queued) → All (λ x. x.job ≢ job) (filter (λ x. not (x.job == job)) queue)
taken_out job queue =
    All-weaker (λ x. not (x.job == job) ≡ true) (λ x. x.job ≢ job) (λ x out. others x.job job out) (filter (λ x. not (x.job == job)) queue)
    (filter_passes (λ x. not (x.job == job)) queue)
