-- What a turn of an admitted job leaves of the store of all jobs, and of the parts.
use Rattle.std.specs.Prelude.{◌≡◌, ℕ, Bool, List, [], ◌∷◌, ◌++◌}
use Rattle.jcl_plan.specs.declared.entry.JobLine.TheVariants as line
use Rattle.jcl_plan.specs.declared.plan.JobPlan.{JobPlan}
use Rattle.cb_queue.specs.RecordQueues.{RecordQueue}
use Rattle.prog_core.specs.declared.units.Operation.{Operation}
use Rattle.jcl_meaning.specs.declared.state.Place.{Place}
use Rattle.world_meaning.specs.Lenses.{put_back, seen}
use Rattle.world_meaning.specs.Tracks.{kept_unless_made}
use Rattle.world_meaning.specs.Worlds.{Config}
use Rattle.shared_core.specs.Laws.{Follow}
use Rattle.shared_core.specs.Rooms.{grants_growth, grants_new}
use Rattle.shared_core.specs.Shown.{world_store_of}
use Rattle.shared_core.specs.Tracks.{ConservesTracks, kept_shown}
use Rattle.shared_core.specs.declared.store.SharedStore.{SharedStore}
use Rattle.place_core.specs.Placings.{serials_of}
use Rattle.admit_core.specs.Admissions.{fixed_for, given_to, named_of}
use Rattle.admit_core.specs.declared.admission.AdmittedJob.{AdmittedJob}
use Rattle.turn_core.specs.Performing.{StoreAnswers}
use Rattle.turn_core.specs.Turning.{Around}
use Rattle.machine_core.specs.declared.parts.Parts.{Parts}
use Rattle.machine_core.specs.Released.{GivesBack, IsReleased}
use Rattle.machine_meaning.specs.Spools.{sets_of, with_sets}
use Rattle.turn_core.specs.declared.walk.Walk.{Walk}
use Rattle.init_core.specs.declared.running.Profile.{Profile}

-- what the store answers a job
abbrev pub answers_of : ℕ → SharedStore → StoreAnswers
answers_of job s = record {
  new = λ key place tracks. grants_new job s key place tracks;
  growth = λ key serial tracks. grants_growth job s key serial tracks;
}

-- what a job's turn goes by
abbrev pub around_in : Profile → List Operation → ℕ → AdmittedJob → Bool → SharedStore → Around
around_in p operations job a cancelled store = record {
  programs = p.programs.now;
  steps = (named_of a).plan.steps;
  fixed = fixed_for p.volumes.now (named_of a).plan (given_to a);
  operations = operations;
  job = job;
  cancel = cancelled;
  grants = answers_of job store;
}

-- A job wrote what it sees: a set that it made at one of these places uses up what was kept for it, the volumes are the same, their tracks are
-- conserved, and their extents follow.
pub record IsWritten (job : ℕ) (made : List Place) (old new : SharedStore) : Type 0 where
  pub world : world_store_of new ≡ put_back job (world_store_of old) (seen job (world_store_of new))
  pub kept : kept_shown new.volumes ≡ kept_unless_made (kept_shown old.volumes) job made
  pub volumes : serials_of new.volumes ≡ serials_of old.volumes
  pub conserves : ConservesTracks old new
  pub extents : Follow old new

-- The spool took over the job's listing, with its last line, and its outputs.
abbrev pub with_spool : {Q : Type 0} → ℕ → Walk → JobPlan → Parts Q → Parts Q
with_spool job walk plan p =
    record p { spool = with_sets p.spool (sets_of job plan.message_class (walk.course.lines ++ line.End ∷ []) walk.course.own.outputs) }

-- And then it gave back what it had.
pub record IsEnded {Q : Type 0} (queue_of : Q → RecordQueue) (job : ℕ) (walk : Walk) (plan : JobPlan) (old new : Parts Q) : Type 0 where
  pub back : GivesBack queue_of job (with_spool job walk plan old) new
  pub released : (c : Config) → c.layout ≡ (queue_of old.queue).layout → IsReleased queue_of c job (with_spool job walk plan old) new
