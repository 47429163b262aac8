-- A selected job's turn is the machine's case.
use Rattle.std.proofs.Common.{◌≡◌, ℕ, List, ◌∷◌, [], All, Option, Some, None, length, refl, sym, ◌∙◌, subst, inl}
use Rattle.std.specs.List.{Contains}
use Rattle.enq_core.specs.declared.table.Want.{Want}
use Rattle.enq_core.specs.Holds.{HoldsNone}
use Rattle.jcl_plan.specs.declared.entry.JobLine.{JobLine}
use Rattle.jcl_plan.specs.declared.entry.JobLine.TheVariants as line
use Rattle.jcl_plan.specs.declared.plan.JobPlan.{JobPlan}
use Rattle.cb_meaning.specs.Walks.{first_fault}
use Rattle.cb_queue.specs.RecordQueues as queue
use Rattle.cb_queue.specs.RecordQueues.{RecordQueue}
use Rattle.world_meaning.specs.Holdings.{Holds, blocked, broken, held as holding, read as reading, released}
use Rattle.world_meaning.specs.Worlds as world
use Rattle.world_meaning.specs.Worlds.{Config, Shared}
use Rattle.turn_core.specs.declared.walk.Walk.{Walk}
use Rattle.queued_job.proofs.Wanted.{releasing_leaves, releasing_leaves_none}
use Rattle.machine_core.specs.declared.parts.Parts.{Parts}
use Rattle.machine_core.specs.Released.{GivesBack, IsReleased}
use Rattle.machine_core.specs.Shown.{shown}
use Rattle.init_core.specs.declared.running.Profile.{Profile}
use Rattle.init_core.specs.declared.running.Progress.{Progress}
use Rattle.init_core.specs.declared.running.Progress.TheVariants.{Over}
use Rattle.init_core.specs.declared.running.Stage.TheVariants as stage
use Rattle.init_core.specs.Finding.{IsDenoted}
use Rattle.init_core.specs.Going.{Went}
use Rattle.init_core.specs.Running.{IsGood, config_of}
use Rattle.init_core.proofs.Serials.{same_serials}
use Rattle.init_core.proofs.Wanting.{one_told}

-- the names are held in the same way, however far the initiator is
holds_for : (old new : Shared) (job : ℕ) (listing : List JobLine) (s t : world.Stage) (plan : JobPlan) (lines : List JobLine) (runs : Option world.Running) →
    Holds old (record { job = job; listing = listing; stage = s }) plan lines new runs → Holds old (record { job = job; listing = listing; stage = t }) plan lines new runs
holds_for old new job listing s t plan lines runs (holding free told is on) = holding free told is on
holds_for old new job listing s t plan lines runs (blocked by first told is on) = blocked by first told is on

-- what a job gave back leaves the parts good
pub good_again : {Q : Type 0} (queue_of : Q → RecordQueue) (c : Config) (job : ℕ) (old new : Parts Q) → GivesBack queue_of job old new → IsGood queue_of c old → IsGood queue_of c new
good_again queue_of c job old new b g = record {
  volumes = same_serials old.store.volumes new.store.volumes b.store.rooms ∙ g.volumes;
  layout = b.records.layout ∙ g.layout;
  fields = g.fields;
  operations = subst (λ os. All (λ o. Contains c.volumes o.serial) os) (sym b.units) g.operations;
  few = g.few;
}

module _ {Q : Type 0} (queue_of : Q → RecordQueue) (profile : Profile) (old new : Parts Q) (job first : ℕ) (walk : Walk)
    (g : IsGood queue_of (config_of profile (queue_of old.queue).layout) old) where
  abbrev pub c : Config
  c = config_of profile (queue_of old.queue).layout

  pub broke : (n : ℕ) → first_fault c.layout (length c.units) (queue.shown (queue_of old.queue)) job first ≡ Some n → GivesBack queue_of job old new →
      IsReleased queue_of c job old new → Went queue_of c old (record { job = job; walk = walk; stage = stage.Selected first }) new (Over None (line.Broken n))
  broke n fault b r = record {
    middle = released c (shown queue_of old) job (shown queue_of new).free;
    goes = broken n (shown queue_of new).free fault refl refl r.conserves refl;
    reopened = r.reopened;
    chosen = tt;
    explained = refl;
    few = one_told (line.Broken n ∷ []) (line.Broken n) (length walk.course.own.dds) refl;
    once = tt;
    good = good_again queue_of c job old new b g;
    left = subst (λ hs. HoldsNone hs job) (sym b.names) (releasing_leaves_none old.names job);
    extents = inl b.store.follow;
    rest = record {
      waiting = b.records.waiting;
      others = λ other apart none. subst (λ hs. HoldsNone hs other) (sym b.names) (releasing_leaves old.names job other none);
    };
  }

  pub found : (plan : JobPlan) (wants : List Want) (came : Progress) → IsDenoted (queue_of old.queue) (length c.units) job first plan wants →
      Went queue_of c old (record { job = job; walk = walk; stage = stage.Wanting plan wants }) new came →
      Went queue_of c old (record { job = job; walk = walk; stage = stage.Selected first }) new came
  found plan wants came d w = record {
    middle = w.middle;
    goes = reading plan d.behind d.denotes
        (holds_for (shown queue_of old) w.middle job walk.course.lines (world.Wanting plan) (world.Selected first) plan _ _ w.goes);
    reopened = w.reopened;
    chosen = tt;
    explained = w.explained;
    few = w.few;
    once = tt;
    good = w.good;
    left = w.left;
    extents = w.extents;
    rest = w.rest;
  }
