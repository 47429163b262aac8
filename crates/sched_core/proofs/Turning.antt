-- A job's turn leads to a world of the table, and leaves the machine fit.
use Rattle.std.proofs.Common.{◌≡◌, ◌≢◌, ◌≤◌, ◌⊎◌, inl, inr, ℕ, List, map, Option, Some, None, slice_get, refl, sym, ap, ◌∙◌, subst}
use Rattle.std.specs.Option.{option_map}
use Rattle.std.specs.Prelude.{slice_set}
use Rattle.std.proofs.lemmas.Bool.{cases_eq}
use Rattle.enq_core.specs.declared.table.Hold.{Hold}
use Rattle.enq_core.specs.Holds.{HoldsNone}
use Rattle.jcl_plan.specs.declared.entry.Entry.{Entry}
use Rattle.cb_queue.specs.RecordQueues.{RecordQueue}
use Rattle.queue_core.specs.declared.queue.Queued.{Queued}
use Rattle.machine_meaning.specs.declared.machine.TheConstants.{MOST_EVENTS, MOST_JOBS}
use Rattle.law_core.specs.Soundness.{IsThereAlone}
use Rattle.world_laws.proofs.Beside.{one_there, set_elsewhere, set_here}
use Rattle.world_meaning.specs.Transitions.{told_with}
use Rattle.world_meaning.specs.Worlds as world
use Rattle.world_meaning.specs.Worlds.{Config, IsAt, World, with_running}
use Rattle.queued_job.specs.Listed.{AreListed, waiting_in}
use Rattle.machine_core.specs.Shown.{shown}
use Rattle.init_core.specs.Going.{IsLeft}
use Rattle.init_core.specs.Running.{IsReady, lines_told, runs_after, shown_running}
use Rattle.init_core.specs.Running as running
use Rattle.init_core.specs.declared.running.Running.{Running}
use Rattle.init_core.specs.declared.running.Stage.{Stage}
use Rattle.init_core.specs.declared.running.Stage.TheVariants.{Admitted, Named, Selected, Wanting}
use Rattle.turn_core.specs.declared.walk.Walk.{Walk}
use Rattle.sched_core.specs.Events.{ActsAt, ActsSo, LeadsTo}
use Rattle.sched_core.specs.Fits.{IsAtNone, IsFit, IsKept}
use Rattle.sched_core.specs.Going.{TurnsAt}
use Rattle.sched_core.specs.Machines.{RunsIn, shown_initiator, world_in}
use Rattle.sched_core.specs.declared.state.Initiator.{Initiator}
use Rattle.sched_core.specs.declared.state.State.{State}
use Rattle.sched_core.proofs.Seats.{RanIn, elsewhere, here, one_job, ran_cases, runs_at, shown_at, shown_set}

-- another job than the one that changed the holds is as ready as it was
at_still : (c : Config) (old new : List Hold) (job : ℕ) (walk : Walk) (stage : Stage) → (HoldsNone old job → HoldsNone new job) →
    running.IsAt c old job walk stage → running.IsAt c new job walk stage
at_still c old new job walk (Selected first) still h = still h
at_still c old new job walk (Wanting plan wants) still h = (still h.0, h.1)
at_still c old new job walk (Named named) still h = h
at_still c old new job walk (Admitted a) still h = h

pub ready_still : (c : Config) (old new : List Hold) (r : Running) → (HoldsNone old r.job → HoldsNone new r.job) → IsReady c old r → IsReady c new r
ready_still c old new r still h = record { some = h.some; at = at_still c old new r.job r.walk r.stage still h.at }

module _ {Q : Type 0} (queue_of : Q → RecordQueue) (c : Config) (s : State Q) (kept : IsKept queue_of c s) (place : ℕ) (new : State Q) (lines : List Entry)
    (backlog : new.backlog ≡ s.backlog) (jobs : new.jobs ≡ s.jobs) (events : new.events ≡ s.events)
    (t : TurnsAt queue_of c place s.parts s.initiators.items new.parts new.initiators.items lines) where
  abbrev pub w : World
  w = world_in queue_of c s

  abbrev pub r : Running
  r = t.turns.running

  abbrev pub runs : Option Running
  runs = runs_after t.turns.came

  abbrev shown_it : world.Initiator
  shown_it = shown_initiator c (queue_of s.parts.queue) t.it

  abbrev shown_r : world.Running
  shown_r = shown_running c (queue_of s.parts.queue) r

  abbrev pub middle : World
  middle = record w {
    shared = t.turns.went.middle;
    initiators = with_running w.initiators place shown_it (option_map (shown_running c (queue_of new.parts.queue)) runs);
  }

  its : RunsIn s.initiators.items place r
  its = record { it = t.it; at = t.at; running = t.turns.runs }

  after : new.initiators.items ≡ slice_set s.initiators.items place (record t.it { running = runs })
  after = t.leaves ∙ ap (λ (y : Initiator). slice_set s.initiators.items place y) t.turns.leaves

  goes : ActsSo s.parts.store w place shown_it (Some shown_r) lines middle
  goes = (
    record {
      job_lines = lines_told t.turns.came;
      shared = t.turns.went.middle;
      runs = option_map (shown_running c (queue_of new.parts.queue)) runs;
      goes = t.turns.went.goes;
      told = t.turns.told ∙ ap (told_with t.turns.running.job (lines_told t.turns.came)) t.turns.went.explained;
      leaves = refl;
    },
    t.turns.went.chosen,
  )

  acts : ActsAt s.parts.store w place lines middle
  acts x at =
      subst (λ (y : world.Initiator). ActsSo s.parts.store w place y y.running lines middle)
      (one_there w.initiators place place shown_it x refl (shown_at c (queue_of s.parts.queue) s.initiators.items place t.it t.at) at)
      (subst (λ o. ActsSo s.parts.store w place shown_it o lines middle)
      (sym (ap (option_map (shown_running c (queue_of s.parts.queue))) t.turns.runs)) goes)

  shown_after : map (shown_initiator c (queue_of new.parts.queue)) new.initiators.items ≡ middle.initiators
  shown_after =
      ap (map (shown_initiator c (queue_of new.parts.queue))) after
      ∙ shown_set c (queue_of s.parts.queue) (queue_of new.parts.queue) s.initiators.items place (record t.it { running = runs })

  pub leads : LeadsTo (ActsAt s.parts.store w place lines) (world_in queue_of c new)
  leads = record {
    middle = middle;
    does_so = acts;
    reopened = t.turns.went.reopened;
    rest = λ i. record {
      config = c;
      shared = shown queue_of new.parts;
      initiators = shown_after i;
      waiting = waiting_in (t.turns.went.rest.waiting i) (backlog i);
      jobs = jobs i;
      events = events i;
    };
  }

  alone : IsThereAlone w place r.job
  alone = kept.sound.alone place shown_r (runs_at queue_of c s place r its)

  ready : (other : ℕ) (q : Running) → RunsIn new.initiators.items other q → IsReady c new.parts.names q
  ready other q h = by_place (ran_cases s.initiators.items new.initiators.items place t.it runs t.at after other q h)
    where
      by_place : RanIn s.initiators.items place runs other q → IsReady c new.parts.names q
      by_place (here same is) = (subst (IsLeft c new.parts.names r.job) is t.turns.went.left).ready
      by_place (elsewhere apart was) =
          ready_still c s.parts.names new.parts.names q
          (t.turns.went.rest.others q.job (λ same. apart (alone.alone other (shown_running c (queue_of s.parts.queue) q) (runs_at queue_of c s other q was) same)))
          (kept.fit.ready other q was)

  seated : (q : Running) → runs ≡ Some q → RunsIn new.initiators.items place q
  seated q is = record {
    it = record t.it { running = runs };
    at = ap (λ (ys : List Initiator). slice_get ys place) after ∙ set_here s.initiators.items place t.it (record t.it { running = runs }) t.at;
    running = is;
  }

  unnamed_its : (o : Option Running) → runs ≡ o → IsLeft c new.parts.names r.job o → IsAtNone new r.job → HoldsNone new.parts.names r.job
  unnamed_its None is left none = left
  unnamed_its (Some q) is left none = absurd (none place q (seated q is) left.same)

  was_none : (job : ℕ) → job ≢ r.job → IsAtNone new job → IsAtNone s job
  was_none job apart none other q h same = by_place (cases_eq other place)
    where
      by_place : (other ≡ place) ⊎ (other ≡ place → ⊥) → ⊥
      by_place (inl e) = apart (sym same ∙ ap (λ (x : Running). x.job) (one_job s.initiators.items place q r (subst (λ p. RunsIn s.initiators.items p q) e h) its))
      by_place (inr e) = none other q (record {
        it = h.it;
        at = ap (λ (ys : List Initiator). slice_get ys other) after ∙ set_elsewhere s.initiators.items other place (record t.it { running = runs }) e ∙ h.at;
        running = h.running;
      }) same

  unnamed : (job : ℕ) → IsAtNone new job → HoldsNone new.parts.names job
  unnamed job none = by_job (cases_eq job r.job)
    where
      by_job : (job ≡ r.job) ⊎ (job ≡ r.job → ⊥) → HoldsNone new.parts.names job
      by_job (inl same) = subst (HoldsNone new.parts.names) (sym same) (unnamed_its runs refl t.turns.went.left (subst (IsAtNone new) same none))
      by_job (inr apart) = t.turns.went.rest.others job apart (kept.fit.unnamed job (was_none job apart none))

  pub fit : IsFit queue_of c new
  fit = record {
    good = t.turns.went.good;
    holds = kept.fit.holds;
    days = kept.fit.days;
    listed = subst (λ (q : List Queued). AreListed q new.backlog) (sym t.turns.went.rest.waiting) (subst (AreListed (queue_of s.parts.queue).waiting) (sym backlog) kept.fit.listed);
    ready = ready;
    unnamed = unnamed;
    steps = kept.fit.steps;
    few_jobs = subst (λ n. n ≤ MOST_JOBS) (sym jobs) kept.fit.few_jobs;
    few_events = subst (λ n. n ≤ MOST_EVENTS) (sym events) kept.fit.few_events;
  }
