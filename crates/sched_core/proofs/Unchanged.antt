-- A machine of which little or nothing changed.
use Rattle.std.proofs.Common.{◌≡◌, ◌≤◌, ℕ, List, All, map, sym, ap, ◌∙◌, subst}
use Rattle.std.specs.List.{Contains}
use Rattle.cb_meaning.specs.Spelled.{Records}
use Rattle.cb_queue.specs.RecordQueues as queue
use Rattle.cb_queue.specs.RecordQueues.{RecordQueue}
use Rattle.enq_core.specs.declared.table.Hold.{Hold}
use Rattle.enq_core.specs.Holds.{HoldsNone}
use Rattle.machine_meaning.specs.declared.machine.TheConstants.{MOST_EVENTS, MOST_JOBS}
use Rattle.world_meaning.specs.Worlds.{Config}
use Rattle.place_core.specs.Placings.{serials_of}
use Rattle.queued_job.specs.Listed.{AreListed, waiting_in}
use Rattle.machine_core.specs.Shown.{shown}
use Rattle.machine_core.specs.declared.parts.Parts.{Parts}
use Rattle.init_core.specs.Running.{IsGood, IsReady, config_of}
use Rattle.init_core.specs.declared.running.Profile.{Profile}
use Rattle.init_core.specs.declared.running.Running.{Running}
use Rattle.sched_core.specs.Fits.{IsAtNone, IsFit}
use Rattle.sched_core.specs.Machines.{RunsIn, shown_initiator, world_in}
use Rattle.sched_core.specs.Systems.{IsSameMachine, parts_of}
use Rattle.sched_core.specs.declared.state.Initiator.{Initiator}
use Rattle.sched_core.specs.declared.state.State.{State}

-- parts of which the queue changed
module _ {Q : Type 0} (queue_of : Q → RecordQueue) (c : Config) (old new : Parts Q) (parts : new ≡ record old { queue = new.queue }) where
  pub good_with : (queue_of new.queue).layout ≡ (queue_of old.queue).layout → IsGood queue_of c old → IsGood queue_of c new
  good_with layout g = record {
    volumes = ap (λ (p : Parts Q). serials_of p.store.volumes) parts ∙ g.volumes;
    layout = layout ∙ g.layout;
    fields = g.fields;
    operations = subst (λ (p : Parts Q). All (λ o. Contains c.volumes o.serial) p.units) (sym parts) g.operations;
    few = g.few;
  }

  pub shown_with : queue.shown (queue_of new.queue) ≡ queue.shown (queue_of old.queue) → shown queue_of new ≡ shown queue_of old
  shown_with same = ap (shown queue_of) parts ∙ ap (λ (q : Records). record (shown queue_of old) { records = q }) same

  pub same_names : new.names ≡ old.names
  same_names = ap (λ (p : Parts Q). p.names) parts

-- the jobs of initiators are where they were
module _ (before after : List Initiator) (same : after ≡ before) (place : ℕ) (r : Running) where
  pub ran_there : RunsIn after place r → RunsIn before place r
  ran_there h = subst (λ (xs : List Initiator). RunsIn xs place r) same h

  pub runs_there : RunsIn before place r → RunsIn after place r
  runs_there h = subst (λ (xs : List Initiator). RunsIn xs place r) (sym same) h

-- the jobs at initiators are ready as they were where the holds are the same
pub ready_same : (c : Config) (before after : List Initiator) (old new : List Hold) → after ≡ before → new ≡ old →
    ((place : ℕ) (r : Running) → RunsIn before place r → IsReady c old r) → (place : ℕ) (r : Running) → RunsIn after place r → IsReady c new r
ready_same c before after old new same names ready place r h =
    subst (λ (hs : List Hold). IsReady c hs r) (sym names) (ready place r (ran_there before after same place r h))

module _ {Q : Type 0} (s new : State Q) (after : new.initiators.items ≡ s.initiators.items) where
  pub none_same : (job : ℕ) → IsAtNone new job → IsAtNone s job
  none_same job none place r h = none place r (runs_there s.initiators.items new.initiators.items after place r h)

-- nothing that is shown changed
module _ {Q : Type 0} (queue_of : Q → RecordQueue) (c : Config) (s new : State Q) (parts : new.parts ≡ record s.parts { queue = new.parts.queue })
    (queue_is : queue_of new.parts.queue ≡ queue_of s.parts.queue) (backlog : new.backlog ≡ s.backlog) (after : new.initiators.items ≡ s.initiators.items)
    (jobs : new.jobs ≡ s.jobs) (events : new.events ≡ s.events) where
  pub same_world : world_in queue_of c new ≡ world_in queue_of c s
  same_world = λ i. record {
    config = c;
    shared = shown_with queue_of c s.parts new.parts parts (ap queue.shown queue_is) i;
    initiators = map (shown_initiator c (queue_is i)) (after i);
    waiting = waiting_in (queue_is i).waiting (backlog i);
    jobs = jobs i;
    events = events i;
  }

  pub same_fit : IsFit queue_of c s → IsFit queue_of c new
  same_fit f = record {
    good = good_with queue_of c s.parts new.parts parts (ap (λ (q : RecordQueue). q.layout) queue_is) f.good;
    holds = f.holds;
    days = f.days;
    listed = subst (λ (q : RecordQueue). AreListed q.waiting new.backlog) (sym queue_is)
        (subst (AreListed (queue_of s.parts.queue).waiting) (sym backlog) f.listed);
    ready = ready_same c s.initiators.items new.initiators.items s.parts.names new.parts.names after (same_names queue_of c s.parts new.parts parts) f.ready;
    unnamed = λ job none. subst (λ (hs : List Hold). HoldsNone hs job) (sym (same_names queue_of c s.parts new.parts parts))
        (f.unnamed job (none_same s new after job none));
    steps = f.steps;
    few_jobs = subst (λ n. n ≤ MOST_JOBS) (sym jobs) f.few_jobs;
    few_events = subst (λ n. n ≤ MOST_EVENTS) (sym events) f.few_events;
  }

-- the machine is the same
pub same_machine : {Q : Type 0} (queue_of : Q → RecordQueue) (p : Profile) (s new : State Q) → parts_of queue_of new.parts ≡ parts_of queue_of s.parts →
    new.initiators.items ≡ s.initiators.items → new.backlog ≡ s.backlog → new.jobs ≡ s.jobs → new.events ≡ s.events → IsSameMachine queue_of p s new
same_machine queue_of p s new parts after backlog jobs events = λ names library i. record {
  config = config_of p (parts i).queue.layout;
  unit_names = names;
  library = library;
  parts = parts i;
  initiators = after i;
  backlog = backlog i;
  jobs = jobs i;
  events = events i;
}

-- parts that are the same, with their queue
pub queue_alone : {Q : Type 0} (old new : Parts Q) → new ≡ old → new ≡ record old { queue = new.queue }
queue_alone old new same = same ∙ (λ i. record old { queue = (sym same i).queue })
