-- The tracks kept for a job.
use Rattle.std.specs.Prelude.{◌≡◌, ◌≢◌, ℕ, true, List, All, Some}
use Rattle.jcl_plan.specs.declared.entry.Entry.{Entry}
use Rattle.world_meaning.specs.declared.event.Event.{Event}
use Rattle.world_meaning.specs.Cancels.{RunsNot, is_admitted}
use Rattle.world_meaning.specs.Readings.{Denoting}
use Rattle.world_meaning.specs.Transitions.{Transition}
use Rattle.world_meaning.specs.Tracks.{kept_of}
use Rattle.world_meaning.specs.Worlds.{Initiator, IsAt, Running, World}
use Rattle.world_laws.specs.Beside.{IsCancelOf, IsTurnOf}

-- The event is no turn of the job, and does not end it: where it is cancelled it is admitted.
pub record StaysOn (w : World) (e : Event) (job : ℕ) : Type 0 where
  pub no_turn : (place : ℕ) (x : Initiator) → IsAt w place x → IsTurnOf e x → RunsNot x.running job
  pub not_waiting : IsCancelOf e job → All (λ x. x.job ≢ job) w.waiting
  pub admitted : IsCancelOf e job → (place : ℕ) (x : Initiator) (r : Running) → IsAt w place x → x.running ≡ Some r → r.job ≡ job →
      is_admitted r.stage ≡ true

abbrev pub KeptStay : Type 0
KeptStay = (job_of : Denoting) (old new : World) (e : Event) (lines : List Entry) (job : ℕ) → StaysOn old e job → Transition job_of old e lines new →
    (serial : List ℕ) → kept_of job new.shared.kept serial ≡ kept_of job old.shared.kept serial
