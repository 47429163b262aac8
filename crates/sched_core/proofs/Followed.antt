-- What an event leaves of the extents of the volumes.
use Rattle.std.proofs.Common.{◌≡◌, ℕ, List, sym, ap, subst, inl}
use Rattle.std.specs.Prelude.{OnOk, Result, Ok, Err}
use Rattle.cb_queue.specs.RecordQueues.{RecordQueue}
use Rattle.jcl_plan.specs.declared.entry.Entry.{Entry}
use Rattle.shared_core.specs.declared.store.SharedStore.{SharedStore}
use Rattle.shared_core.specs.Laws.{Follow}
use Rattle.shared_core.proofs.Following.{stays_follow}
use Rattle.init_core.specs.Extents.{ExtentsFollow}
use Rattle.queued_job.specs.declared.backlog.Listing.{Listing}
use Rattle.machine_core.specs.declared.parts.Parts.{Parts}
use Rattle.sched_core.specs.Cancelling.{CancelsRunning, LeavesQueue, is_noted, leaves}
use Rattle.sched_core.specs.declared.state.Initiator.{Initiator}

pub on_ok : {X E P : Type 0} (r : Result X E) → P → OnOk r P
on_ok (Ok x) p = p
on_ok (Err e) p = tt

pub same_extents : (old new : SharedStore) → new ≡ old → ExtentsFollow old new
same_extents old new same = subst (ExtentsFollow old) (sym same) (inl (stays_follow old))

-- a job that is cancelled gives back what is kept for it
pub cancelled_extents : {Q : Type 0} {queue_of : Q → RecordQueue} {job : ℕ} {old : Parts Q} {x : Initiator} {new : Parts Q} {y : Initiator} {lines : List Entry} →
    CancelsRunning queue_of job old x new y lines → ExtentsFollow old.store new.store
cancelled_extents (leaves out told gives left) = inl gives.back.store.follow
cancelled_extents {Q = Q} {old = old} {new = new} (is_noted in_work told noted same) = same_extents old.store new.store (ap (λ (p : Parts Q). p.store) noted)

pub left_extents : {Q : Type 0} {queue_of : Q → RecordQueue} {job : ℕ} {old : Parts Q} {backlog : List Listing} {new : Parts Q} {now : List Listing} →
    LeavesQueue queue_of job old backlog new now → ExtentsFollow old.store new.store
left_extents {Q = Q} {new = new} l = inl (subst (λ (p : Parts Q). Follow p.store new.store) l.rest l.gives.back.store.follow)
