-- A job that is cancelled is cancelled as the table says, and the machine stays fit.
use Rattle.std.proofs.Common.{◌≡◌, ◌≢◌, ◌≤◌, ◌==◌, ◌⊎◌, inl, inr, ℕ, zero, suc, Bool, true, false, cond, List, [], ◌∷◌, ◌++◌, All, map, Option, Some, None, Result, Err, refl, sym, ap, ◌∙◌, subst}
use Rattle.std.specs.Prelude.{slice_get, slice_set}
use Rattle.std.specs.List.{Contains, list_any}
use Rattle.std.specs.Option.{option_map}
use Rattle.std.proofs.lemmas.Bool.{cases_eq, eqb-false}
use Rattle.std.proofs.lemmas.List.Elements.{All-contains, All-head, All-map, All-tail, All-weaker}
use Rattle.enq_core.specs.declared.table.Hold.{Hold}
use Rattle.enq_core.specs.Holds.{HoldsNone, without_job}
use Rattle.jcl_plan.specs.declared.entry.Entry.{Entry}
use Rattle.jcl_plan.specs.declared.entry.Entry.TheVariants as entry
use Rattle.jcl_plan.specs.declared.fault.Cause.{Cause}
use Rattle.jcl_plan.specs.declared.fault.Cause.TheVariants as cause
use Rattle.jcl_plan.specs.declared.fault.EventFault.TheVariants.{NoSuchJob}
use Rattle.cb_queue.specs.RecordQueues as queue
use Rattle.cb_queue.specs.RecordQueues.{RecordQueue}
use Rattle.queue_core.specs.declared.queue.Queued.{Queued}
use Rattle.machine_meaning.specs.declared.machine.TheConstants.{MOST_EVENTS, MOST_JOBS}
use Rattle.world_laws.proofs.Beside.{one_there, set_elsewhere}
use Rattle.world_meaning.specs.Cancels as table
use Rattle.world_meaning.specs.Cancels.{CancelsJob, IsNoJob, RunsNot, cancelled_lines, with_cancel}
use Rattle.world_meaning.specs.Holdings.{released}
use Rattle.world_meaning.specs.Records.{Reopened}
use Rattle.world_meaning.specs.Tracks.{Conserves}
use Rattle.world_meaning.specs.Turns.{has_cancel}
use Rattle.world_meaning.specs.Worlds as world
use Rattle.world_meaning.specs.Worlds.{Config, Shared, Waiting, World, with_running, without_waiting}
use Rattle.world_meaning.proofs.Following.{unopened}
use Rattle.place_core.specs.Placings.{serials_of}
use Rattle.turn_core.specs.declared.walk.Walk.{Walk}
use Rattle.queued_job.specs.Cancelled.{with_job}
use Rattle.queued_job.specs.Listed.{AreListed, but_job, but_listing, waiting_in}
use Rattle.queued_job.proofs.Listed.{others}
use Rattle.queued_job.proofs.Wanted.{releasing_leaves, releasing_leaves_none}
use Rattle.machine_core.specs.Released.{IsReleased}
use Rattle.machine_core.specs.Shown.{shown}
use Rattle.machine_core.specs.declared.parts.Parts.{Parts}
use Rattle.init_core.specs.Running.{IsGood, IsReady, shown_running, shown_stage}
use Rattle.init_core.specs.declared.running.Running.{Running}
use Rattle.init_core.specs.declared.running.Stage.{Stage}
use Rattle.init_core.specs.declared.running.Stage.TheVariants.{Admitted, Named, Selected, Wanting}
use Rattle.init_core.proofs.Reading.{good_again}
use Rattle.sched_core.specs.Cancelling.{CancelsAt, CancelsRunning, GivesUp, LeavesQueue, has_admitted, has_job, is_admitted, is_noted, leaves}
use Rattle.sched_core.specs.Events.{LeadsTo, RefusesFirst}
use Rattle.sched_core.specs.Fits.{IsAtNone, IsFit, IsKept}
use Rattle.sched_core.specs.Machines.{RunsIn, shown_initiator, world_in}
use Rattle.sched_core.specs.declared.fault.ApplyFault.{ApplyFault}
use Rattle.sched_core.specs.declared.fault.ApplyFault.TheVariants.{Refused}
use Rattle.sched_core.specs.declared.state.Initiator.{Initiator}
use Rattle.sched_core.specs.declared.state.State.{State}
use Rattle.sched_core.proofs.Turning.{ready_still}
use Rattle.sched_core.proofs.Seats.{RanIn, elsewhere, here, one_job, ran_cases, shown_alike, shown_at, shown_set}
use Rattle.sched_core.proofs.Unchanged.{good_with, none_same, ran_there, ready_same, same_names, shown_with}
use Rattle.sched_core.proofs.Waits.{from_backlog, none_waiting}

all_at : {X : Type 0} (P : X → Type 0) (xs : List X) (k : ℕ) (x : X) → All P xs → slice_get xs k ≡ Some x → P x
all_at P [] k x all e = absurd cc
all_at P (y ∷ xs) zero x all e = let is : y ≡ x = cc in subst P is (All-head P y xs all)
all_at P (y ∷ xs) (suc k) x all e = all_at P xs k x (All-tail P y xs all) e

set_there : {X : Type 0} (xs : List X) (k : ℕ) (x : X) → slice_get xs k ≡ Some x → slice_set xs k x ≡ xs
set_there [] k x e = absurd cc
set_there (y ∷ xs) zero x e = let is : x ≡ y = cc in ap (λ z. z ∷ xs) is
set_there (y ∷ xs) (suc k) x e = ap (λ ys. y ∷ ys) (set_there xs k x e)

-- a refusal is that of a job that is none
cancels_refused : (old new : World) (job : ℕ) (fault : Cause) → CancelsJob old job (entry.Refused fault ∷ []) new →
    IsNoJob old job × (fault ≡ cause.A NoSuchJob)
cancels_refused old new job fault (table.no_job none told same) = (none, cc)
cancels_refused old new job fault (table.waiting v free there is told same conserves) = absurd cc
cancels_refused old new job fault (table.selected place x r free at runs is not_yet told same conserves) = absurd cc
cancels_refused old new job fault (table.admitted place x r at runs is already told same) = absurd cc

pub refused_first : (old : World) (job : ℕ) (result : Result (List Entry) ApplyFault) → result ≡ Err (Refused (cause.A NoSuchJob)) →
    RefusesFirst result (CancelsJob old job)
refused_first old job result is fault new h = is ∙ ap (λ x. Err (Refused x)) (sym (cancels_refused old new job fault h).1)

pub never_refused : (old : World) (job : ℕ) (result : Result (List Entry) ApplyFault) → (IsNoJob old job → ⊥) → RefusesFirst result (CancelsJob old job)
never_refused old job result some fault new h = absurd (some (cancels_refused old new job fault h).0)

-- a job that holds none still holds none
still_none : (old new : List Hold) (job other : ℕ) → new ≡ without_job job old → HoldsNone old other → HoldsNone new other
still_none old new job other is none = subst (λ (hs : List Hold). HoldsNone hs other) (sym is) (releasing_leaves old job other none)

same_stage : (c : Config) (walk : Walk) (stage : Stage) → table.is_admitted (shown_stage c walk stage) ≡ is_admitted stage
same_stage c walk (Selected first) = refl
same_stage c walk (Wanting plan wants) = refl
same_stage c walk (Named job) = refl
same_stage c walk (Admitted job) = refl

added : (s : Shared) (job : ℕ) (b : Bool) →
    record s { cancels = cond b s.cancels (s.cancels ++ job ∷ []) } ≡ cond b s (record s { cancels = s.cancels ++ job ∷ [] })
added s job true = refl
added s job false = refl

module _ {Q : Type 0} (queue_of : Q → RecordQueue) (c : Config) (s : State Q) (kept : IsKept queue_of c s) (job : ℕ) where
  abbrev w : World
  w = world_in queue_of c s

  runs_not : (o : Option Running) → has_job o job ≡ false → RunsNot (option_map (shown_running c (queue_of s.parts.queue)) o) job
  runs_not None is = tt
  runs_not (Some r) is = eqb-false r.job job is

  pub no_job : list_any (λ l. l.job == job) s.backlog ≡ false → All (λ x. has_job x.running job ≡ false) s.initiators.items → IsNoJob w job
  no_job none idle = record {
    waits_not = from_backlog (queue_of s.parts.queue).waiting s.backlog kept.fit.listed (λ n. n ≢ job) (none_waiting s.backlog job none);
    runs_not = All-map (λ (y : world.Initiator). RunsNot y.running job) (shown_initiator c (queue_of s.parts.queue)) s.initiators.items
        (All-weaker (λ (x : Initiator). has_job x.running job ≡ false)
        (λ (x : Initiator). RunsNot (option_map (shown_running c (queue_of s.parts.queue)) x.running) job) (λ x is. runs_not x.running is) s.initiators.items idle);
  }

  pub some_waiting : (v : Waiting) → Contains w.waiting v → v.job ≡ job → IsNoJob w job → ⊥
  some_waiting v there is none = All-contains (λ x. x.job ≢ job) w.waiting v none.waits_not there is

  pub some_running : (place : ℕ) (r : Running) → RunsIn s.initiators.items place r → r.job ≡ job → IsNoJob w job → ⊥
  some_running place r h is none =
      subst (λ o. RunsNot (option_map (shown_running c (queue_of s.parts.queue)) o) job) h.running
      (all_at (λ (y : world.Initiator). RunsNot y.running job) w.initiators place (shown_initiator c (queue_of s.parts.queue) h.it) none.runs_not
      (shown_at c (queue_of s.parts.queue) s.initiators.items place h.it h.at)) is

  module _ (new : State Q) (lines : List Entry) (jobs : new.jobs ≡ s.jobs) (events : new.events ≡ s.events) where
    -- a job that waits
    module _ (v : Waiting) (there : Contains w.waiting v) (is : v.job ≡ job) (after : new.initiators.items ≡ s.initiators.items)
        (told : lines ≡ cancelled_lines job) (t : LeavesQueue queue_of job s.parts s.backlog new.parts new.backlog) where
      middle_shown : shown queue_of t.middle ≡ w.shared
      middle_shown = shown_with queue_of c s.parts t.middle t.rest (ap queue.shown t.queue)

      middle_layout : (queue_of t.middle.queue).layout ≡ (queue_of s.parts.queue).layout
      middle_layout = ap (λ (q : RecordQueue). q.layout) t.queue

      gone : IsReleased queue_of c job t.middle new.parts
      gone = t.gives.released c (sym (middle_layout ∙ kept.fit.good.layout))

      left : AreListed (but_job job (queue_of s.parts.queue).waiting) (but_listing job s.backlog)
          × (waiting_in (but_job job (queue_of s.parts.queue).waiting) (but_listing job s.backlog) ≡ without_waiting w.waiting job)
      left = others (queue_of s.parts.queue).waiting s.backlog job kept.fit.listed

      queue_now : (queue_of new.parts.queue).waiting ≡ but_job job (queue_of s.parts.queue).waiting
      queue_now = t.gives.back.records.waiting ∙ ap (λ (q : RecordQueue). q.waiting) t.queue

      names_now : new.parts.names ≡ without_job job s.parts.names
      names_now = t.gives.back.names ∙ ap (without_job job) (same_names queue_of c s.parts t.middle t.rest)

      waiting_now : waiting_in (queue_of new.parts.queue).waiting new.backlog ≡ without_waiting w.waiting job
      waiting_now = (λ i. waiting_in (queue_now i) (t.listings i)) ∙ left.1

      pub leads_waiting : LeadsTo (CancelsJob w job lines) (world_in queue_of c new)
      leads_waiting = record {
        middle = record w { waiting = without_waiting w.waiting job; shared = released c w.shared job (shown queue_of new.parts).free };
        does_so = table.waiting v (shown queue_of new.parts).free there is told refl
            (subst (λ (sh : Shared). Conserves sh (released c sh job (shown queue_of new.parts).free)) middle_shown gone.conserves);
        reopened = subst (λ (sh : Shared). Reopened c.layout (released c sh job (shown queue_of new.parts).free) (shown queue_of new.parts)) middle_shown gone.reopened;
        rest = λ i. record {
          config = c;
          shared = shown queue_of new.parts;
          initiators = map (shown_alike c (queue_of new.parts.queue) (queue_of s.parts.queue) i) (after i);
          waiting = waiting_now i;
          jobs = jobs i;
          events = events i;
        };
      }

      pub fit_waiting : IsFit queue_of c new
      fit_waiting = record {
        good = good_again queue_of c job t.middle new.parts t.gives.back (good_with queue_of c s.parts t.middle t.rest middle_layout kept.fit.good);
        holds = kept.fit.holds;
        days = kept.fit.days;
        listed = subst (λ (q : List Queued). AreListed q new.backlog) (sym queue_now)
            (subst (AreListed (but_job job (queue_of s.parts.queue).waiting)) (sym t.listings) left.0);
        ready = λ place r h. ready_still c s.parts.names new.parts.names r (still_none s.parts.names new.parts.names job r.job names_now)
            (kept.fit.ready place r (ran_there s.initiators.items new.initiators.items after place r h));
        unnamed = λ other none. still_none s.parts.names new.parts.names job other names_now (kept.fit.unnamed other (none_same s new after other none));
        steps = kept.fit.steps;
        few_jobs = subst (λ n. n ≤ MOST_JOBS) (sym jobs) kept.fit.few_jobs;
        few_events = subst (λ n. n ≤ MOST_EVENTS) (sym events) kept.fit.few_events;
      }

    -- a job at an initiator
    module _ (place : ℕ) (r : Running) (its : RunsIn s.initiators.items place r) (is : r.job ≡ job) (backlog : new.backlog ≡ s.backlog)
        (it : Initiator) (at : slice_get s.initiators.items place ≡ Some it) (then : Initiator)
        (after : new.initiators.items ≡ slice_set s.initiators.items place then) where
      runs_it : it.running ≡ Some r
      runs_it = ap (λ (x : Initiator). x.running) (one_there s.initiators.items place place it its.it refl at its.at) ∙ its.running

      abbrev shown_it : world.Initiator
      shown_it = shown_initiator c (queue_of s.parts.queue) it

      abbrev shown_r : world.Running
      shown_r = shown_running c (queue_of s.parts.queue) r

      it_at : slice_get w.initiators place ≡ Some shown_it
      it_at = shown_at c (queue_of s.parts.queue) s.initiators.items place it at

      shown_runs : shown_it.running ≡ Some shown_r
      shown_runs = ap (option_map (shown_running c (queue_of s.parts.queue))) runs_it

      stage_is : (b : Bool) → has_admitted it.running ≡ b → table.is_admitted (shown_stage c r.walk r.stage) ≡ b
      stage_is b h = same_stage c r.walk r.stage ∙ (sym (ap has_admitted runs_it) ∙ h)

      -- that is not admitted
      module _ (not_yet : has_admitted it.running ≡ false) (told : lines ≡ cancelled_lines job) (gives : GivesUp queue_of job s.parts new.parts)
          (empty : then ≡ record it { running = None }) where
        gone_there : IsReleased queue_of c job s.parts new.parts
        gone_there = gives.released c (sym kept.fit.good.layout)

        emptied : new.initiators.items ≡ slice_set s.initiators.items place (record it { running = None })
        emptied = after ∙ ap (slice_set s.initiators.items place) empty

        emptied_shown : map (shown_initiator c (queue_of new.parts.queue)) new.initiators.items ≡ with_running w.initiators place shown_it None
        emptied_shown =
            ap (map (shown_initiator c (queue_of new.parts.queue))) emptied
            ∙ shown_set c (queue_of s.parts.queue) (queue_of new.parts.queue) s.initiators.items place (record it { running = None })

        leads_selected : LeadsTo (CancelsJob w job lines) (world_in queue_of c new)
        leads_selected = record {
          middle = record w {
            initiators = with_running w.initiators place shown_it None;
            shared = released c w.shared job (shown queue_of new.parts).free;
          };
          does_so = table.selected place shown_it shown_r (shown queue_of new.parts).free it_at shown_runs is
              (stage_is false not_yet) told refl gone_there.conserves;
          reopened = gone_there.reopened;
          rest = λ i. record {
            config = c;
            shared = shown queue_of new.parts;
            initiators = emptied_shown i;
            waiting = waiting_in (gives.back.records.waiting i) (backlog i);
            jobs = jobs i;
            events = events i;
          };
        }

        ready_left : (other : ℕ) (q : Running) → RunsIn new.initiators.items other q → IsReady c new.parts.names q
        ready_left other q h = by (ran_cases s.initiators.items new.initiators.items place it None at emptied other q h)
          where
            by : RanIn s.initiators.items place None other q → IsReady c new.parts.names q
            by (here same seated) = absurd cc
            by (elsewhere apart was) =
                ready_still c s.parts.names new.parts.names q (still_none s.parts.names new.parts.names job q.job gives.back.names) (kept.fit.ready other q was)

        was_none : (other : ℕ) → other ≢ job → IsAtNone new other → IsAtNone s other
        was_none other apart none at_other q h same = by (cases_eq at_other place)
          where
            by : (at_other ≡ place) ⊎ (at_other ≡ place → ⊥) → ⊥
            by (inl e) =
                let one : q ≡ r = one_job s.initiators.items place q r (subst (λ p. RunsIn s.initiators.items p q) e h) its in
                apart (sym same ∙ (ap (λ (x : Running). x.job) one ∙ is))
            by (inr e) = none at_other q (record {
              it = h.it;
              at = ap (λ (ys : List Initiator). slice_get ys at_other) emptied
                  ∙ (set_elsewhere s.initiators.items at_other place (record it { running = None }) e ∙ h.at);
              running = h.running;
            }) same

        unnamed_left : (other : ℕ) → IsAtNone new other → HoldsNone new.parts.names other
        unnamed_left other none = by (cases_eq other job)
          where
            by : (other ≡ job) ⊎ (other ≡ job → ⊥) → HoldsNone new.parts.names other
            by (inl same) = subst (HoldsNone new.parts.names) (sym same)
                (subst (λ (hs : List Hold). HoldsNone hs job) (sym gives.back.names) (releasing_leaves_none s.parts.names job))
            by (inr apart) = still_none s.parts.names new.parts.names job other gives.back.names (kept.fit.unnamed other (was_none other apart none))

        fit_selected : IsFit queue_of c new
        fit_selected = record {
          good = good_again queue_of c job s.parts new.parts gives.back kept.fit.good;
          holds = kept.fit.holds;
          days = kept.fit.days;
          listed = subst (λ (q : List Queued). AreListed q new.backlog) (sym gives.back.records.waiting)
              (subst (AreListed (queue_of s.parts.queue).waiting) (sym backlog) kept.fit.listed);
          ready = ready_left;
          unnamed = unnamed_left;
          steps = kept.fit.steps;
          few_jobs = subst (λ n. n ≤ MOST_JOBS) (sym jobs) kept.fit.few_jobs;
          few_events = subst (λ n. n ≤ MOST_EVENTS) (sym events) kept.fit.few_events;
        }

      -- that is admitted
      module _ (already : has_admitted it.running ≡ true) (told : lines ≡ entry.Cancel job ∷ [])
          (parts : new.parts ≡ record s.parts { cancels = with_job s.parts.cancels job })
          (same : then ≡ it) where
        as_were : new.initiators.items ≡ s.initiators.items
        as_were = after ∙ (ap (slice_set s.initiators.items place) same ∙ set_there s.initiators.items place it at)

        shared_now : shown queue_of new.parts ≡ with_cancel w.shared job
        shared_now = ap (shown queue_of) parts ∙ added w.shared job (has_cancel s.parts.cancels job)

        now_is : world_in queue_of c new ≡ record w { shared = with_cancel w.shared job }
        now_is = λ i. record {
          config = c;
          shared = shared_now i;
          initiators = map (shown_initiator c (queue_of (parts i).queue)) (as_were i);
          waiting = waiting_in (ap (λ (p : Parts Q). (queue_of p.queue).waiting) parts i) (backlog i);
          jobs = jobs i;
          events = events i;
        }

        leads_admitted : LeadsTo (CancelsJob w job lines) (world_in queue_of c new)
        leads_admitted = record {
          middle = world_in queue_of c new;
          does_so = table.admitted place shown_it shown_r it_at shown_runs is
              (stage_is true already) told now_is;
          reopened = unopened c.layout (shown queue_of new.parts);
          rest = refl;
        }

        same_holds : new.parts.names ≡ s.parts.names
        same_holds = ap (λ (p : Parts Q). p.names) parts

        good_noted : IsGood queue_of c new.parts
        good_noted = record {
          volumes = ap (λ (p : Parts Q). serials_of p.store.volumes) parts ∙ kept.fit.good.volumes;
          layout = ap (λ (p : Parts Q). (queue_of p.queue).layout) parts ∙ kept.fit.good.layout;
          fields = kept.fit.good.fields;
          operations = subst (λ (p : Parts Q). All (λ o. Contains c.volumes o.serial) p.units) (sym parts) kept.fit.good.operations;
          few = kept.fit.good.few;
        }

        fit_admitted : IsFit queue_of c new
        fit_admitted = record {
          good = good_noted;
          holds = kept.fit.holds;
          days = kept.fit.days;
          listed = subst (λ (p : Parts Q). AreListed (queue_of p.queue).waiting new.backlog) (sym parts)
              (subst (AreListed (queue_of s.parts.queue).waiting) (sym backlog) kept.fit.listed);
          ready = ready_same c s.initiators.items new.initiators.items s.parts.names new.parts.names as_were same_holds kept.fit.ready;
          unnamed = λ other none. subst (λ (hs : List Hold). HoldsNone hs other) (sym same_holds) (kept.fit.unnamed other (none_same s new as_were other none));
          steps = kept.fit.steps;
          few_jobs = subst (λ n. n ≤ MOST_JOBS) (sym jobs) kept.fit.few_jobs;
          few_events = subst (λ n. n ≤ MOST_EVENTS) (sym events) kept.fit.few_events;
        }

      leads_by : CancelsRunning queue_of job s.parts it new.parts then lines → LeadsTo (CancelsJob w job lines) (world_in queue_of c new)
      leads_by (leaves not_yet told gives empty) = leads_selected not_yet told gives empty
      leads_by (is_noted already told parts same) = leads_admitted already told parts same

      fit_by : CancelsRunning queue_of job s.parts it new.parts then lines → IsFit queue_of c new
      fit_by (leaves not_yet told gives empty) = fit_selected not_yet told gives empty
      fit_by (is_noted already told parts same) = fit_admitted already told parts same

    module _ (place : ℕ) (r : Running) (its : RunsIn s.initiators.items place r) (is : r.job ≡ job) (backlog : new.backlog ≡ s.backlog)
        (t : CancelsAt queue_of job place s.parts s.initiators.items new.parts new.initiators.items lines) where
      pub leads_running : LeadsTo (CancelsJob w job lines) (world_in queue_of c new)
      leads_running = leads_by place r its is backlog t.it t.at t.then t.leaves t.cancels

      pub fit_running : IsFit queue_of c new
      fit_running = fit_by place r its is backlog t.it t.at t.then t.leaves t.cancels
