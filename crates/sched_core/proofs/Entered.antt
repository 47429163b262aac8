-- A deck that is read is read as the table says, and leaves the machine fit.
use Rattle.std.proofs.Common.{◌≡◌, ◌≤◌, ◌<◌, ◌+◌, ℕ, List, [], ◌∷◌, ◌++◌, All, length, map, Result, Ok, Err, arith, refl, sym, ap, ◌∙◌, subst}
use Rattle.std.specs.Prelude.{filter, not, ◌==◌}
use Rattle.std.proofs.lemmas.Bool.{eq-eqb}
use Rattle.std.proofs.lemmas.List.{append-nil}
use Rattle.std.proofs.lemmas.List.Elements.{All-weaker, filter-append}
use Rattle.enq_core.specs.declared.table.Hold.{Hold}
use Rattle.enq_core.specs.Holds.{HoldsNone}
use Rattle.jcl_plan.specs.declared.entry.Entry.{Entry}
use Rattle.jcl_plan.specs.declared.entry.Entry.TheVariants as entry
use Rattle.jcl_plan.specs.declared.entry.JobLine.TheVariants as line
use Rattle.jcl_plan.specs.declared.fault.Cause.{Cause}
use Rattle.jcl_plan.specs.declared.fault.Cause.TheVariants as cause
use Rattle.jcl_plan.specs.declared.fault.EventFault.TheVariants.{PastLimit}
use Rattle.jcl_plan.specs.declared.plan.JobPlan.{JobPlan}
use Rattle.jcl_refs.specs.Plans.{most_steps}
use Rattle.cb_meaning.specs.Writable.{IsWritable}
use Rattle.cb_queue.specs.RecordQueues as queue
use Rattle.cb_queue.specs.RecordQueues.{RecordQueue}
use Rattle.queue_core.specs.declared.queue.Queued.{Queued}
use Rattle.queue_core.proofs.Numbered.{none_taken, other_than}
use Rattle.machine_meaning.specs.declared.machine.TheConstants.{MOST_EVENTS, MOST_JOBS}
use Rattle.world_meaning.specs.Readings as table
use Rattle.world_meaning.specs.Readings.{Denoting, Reads, read_line, waits}
use Rattle.world_meaning.specs.Worlds.{Config, World, of_job}
use Rattle.world_meaning.proofs.Following.{unopened}
use Rattle.queued_job.specs.Entering.{Enters, queued_of}
use Rattle.queued_job.specs.Listed.{AreListed, waiting_in}
use Rattle.queued_job.specs.declared.backlog.Listing.{Listing}
use Rattle.queued_job.proofs.Listed.{last}
use Rattle.queued_job.proofs.Listings.{number_of}
use Rattle.machine_core.specs.Shown.{shown}
use Rattle.sched_core.specs.Events.{Answers, LeadsTo, RefusesFirst}
use Rattle.sched_core.specs.Fits.{IsFit, IsKept}
use Rattle.sched_core.specs.Machines.{world_in}
use Rattle.sched_core.specs.Reading.{ReadsPlan, TakesIn, enters, is_full, listing_of}
use Rattle.sched_core.specs.declared.fault.ApplyFault.{ApplyFault}
use Rattle.sched_core.specs.declared.fault.ApplyFault.TheVariants.{Memory, Refused}
use Rattle.sched_core.specs.declared.state.State.{State}
use Rattle.sched_core.proofs.Seats.{shown_alike}
use Rattle.sched_core.proofs.Unchanged.{good_with, none_same, ready_same, same_fit, same_names, same_world}
use Rattle.sched_core.proofs.Waits.{in_backlog, in_queue}

-- a listing that was entered last is taken out again
pub taken_again : (backlog : List Listing) (l : Listing) (job : ℕ) → l.job ≡ job → All (λ x. x.job < job) backlog →
    filter (λ x. not (x.job == job)) (backlog ++ l ∷ []) ≡ backlog
taken_again backlog l job same later =
    filter-append (other_than number_of job) backlog (l ∷ [])
    ∙ ((λ i. none_taken number_of job backlog later i ++ last_taken i) ∙ append-nil backlog)
  where
    last_taken : filter (other_than number_of job) (l ∷ []) ≡ []
    last_taken = rw (ap not (eq-eqb l.job job same)) refl

-- the case does not depend on whose it is
pub answers_as : (result : Result (List Entry) ApplyFault) (old new : World) (first second : List Entry → World → Type 0) →
    ((lines : List Entry) (w : World) → first lines w → second lines w) → Answers result old new first → Answers result old new second
answers_as (Ok lines) old new first second f l = record { middle = l.middle; does_so = f lines l.middle l.does_so; reopened = l.reopened; rest = l.rest }
answers_as (Err (Refused cause)) old new first second f h = (f (entry.Refused cause ∷ []) old h.0, h.1)
answers_as (Err Memory) old new first second f h = h

-- a refusal is that of a number past the last
reads_refused : (job_of : Denoting) (old new : World) (deck : List (List ℕ)) (fault : Cause) → Reads job_of old deck (entry.Refused fault ∷ []) new →
    (MOST_JOBS ≤ old.jobs) × (fault ≡ cause.A PastLimit)
reads_refused job_of old new deck fault (table.no_number many told same) = (many, cc)
reads_refused job_of old new deck fault (table.rejected other few denied told same) = absurd cc
reads_refused job_of old new deck fault (table.full plan few denoted none told same) = absurd cc
reads_refused job_of old new deck fault (table.read plan first records few denoted written told same) = absurd cc

pub refused_first : (job_of : Denoting) (old : World) (deck : List (List ℕ)) (result : Result (List Entry) ApplyFault) →
    result ≡ Err (Refused (cause.A PastLimit)) → RefusesFirst result (Reads job_of old deck)
refused_first job_of old deck result is fault new h = is ∙ ap (λ x. Err (Refused x)) (sym (reads_refused job_of old new deck fault h).1)

pub never_refused : (job_of : Denoting) (old : World) (deck : List (List ℕ)) (result : Result (List Entry) ApplyFault) → old.jobs < MOST_JOBS →
    RefusesFirst result (Reads job_of old deck)
never_refused job_of old deck result few fault new h = absurd (omega (arith, few, (reads_refused job_of old new deck fault h).0))

module _ {Q : Type 0} (queue_of : Q → RecordQueue) (c : Config) (s : State Q) (kept : IsKept queue_of c s) (few : s.jobs < MOST_JOBS) where
  abbrev w : World
  w = world_in queue_of c s

  abbrev job : ℕ
  job = s.jobs + 1

  pub queued_before : All (λ x. x.job < job) (queue_of s.parts.queue).waiting
  queued_before =
      in_queue (queue_of s.parts.queue).waiting s.backlog kept.fit.listed (λ n. n < job)
      (All-weaker (λ v. v.job ≤ s.jobs) (λ v. v.job < job) (λ v h. omega (arith, h)) w.waiting kept.sound.numbered)

  pub listed_before : All (λ x. x.job < job) s.backlog
  listed_before = in_backlog (queue_of s.parts.queue).waiting s.backlog kept.fit.listed (λ n. n < job) queued_before

  -- a number is given, and nothing else changes
  abbrev numbered : State Q
  numbered = record s { jobs = job }

  pub fit_numbered : IsFit queue_of c numbered
  fit_numbered = record {
    good = kept.fit.good;
    holds = kept.fit.holds;
    days = kept.fit.days;
    listed = kept.fit.listed;
    ready = kept.fit.ready;
    unnamed = kept.fit.unnamed;
    steps = kept.fit.steps;
    few_jobs = omega (arith, few);
    few_events = kept.fit.few_events;
  }

  pub rejected : (job_of : Denoting) (deck : List (List ℕ)) (fault : Cause) (lines : List Entry) → job_of deck ≡ Err fault →
      lines ≡ entry.Job job (line.Rejected fault) ∷ [] → LeadsTo (Reads job_of w deck lines) (world_in queue_of c numbered)
  rejected job_of deck fault lines denied told = record {
    middle = world_in queue_of c numbered;
    does_so = table.rejected fault few denied told refl;
    reopened = unopened c.layout w.shared;
    rest = refl;
  }

  module _ (plan : JobPlan) (new : State Q) (lines : List Entry) (parts : new.parts ≡ record s.parts { queue = new.parts.queue })
      (after : new.initiators.items ≡ s.initiators.items) (jobs : new.jobs ≡ job) (events : new.events ≡ s.events) where
    module _ (first : ℕ) (e : Enters job plan (queue_of s.parts.queue) (queue_of new.parts.queue) first)
        (backlog : new.backlog ≡ s.backlog ++ listing_of job plan ∷ []) where
      with_last : AreListed ((queue_of s.parts.queue).waiting ++ queued_of job plan first ∷ []) (s.backlog ++ listing_of job plan ∷ [])
          × (waiting_in ((queue_of s.parts.queue).waiting ++ queued_of job plan first ∷ []) (s.backlog ++ listing_of job plan ∷ [])
          ≡ w.waiting ++ waits job first plan ∷ [])
      with_last = last (queue_of s.parts.queue).waiting s.backlog (queued_of job plan first) (listing_of job plan) kept.fit.listed refl

      abbrev then : World
      then = record w {
        jobs = job;
        waiting = w.waiting ++ waits job first plan ∷ [];
        shared = record w.shared { records = queue.shown (queue_of new.parts.queue) };
      }

      waiting_now : then.waiting ≡ waiting_in (queue_of new.parts.queue).waiting new.backlog
      waiting_now = sym with_last.1 ∙ (λ i. waiting_in (sym e.waiting i) (sym backlog i))

      shared_now : then.shared ≡ shown queue_of new.parts
      shared_now = sym (ap (shown queue_of) parts)

      then_is : then ≡ world_in queue_of c new
      then_is = λ i. record {
        config = c;
        shared = shared_now i;
        initiators = map (shown_alike c (queue_of s.parts.queue) (queue_of new.parts.queue) i) (sym after i);
        waiting = waiting_now i;
        jobs = sym jobs i;
        events = sym events i;
      }

      writable : IsWritable most_steps (length c.units) plan → IsWritable (queue_of s.parts.queue).layout.most_steps (length c.units) plan
      writable = subst (λ n. IsWritable n (length c.units) plan) (sym (ap (λ l. l.most_steps) kept.fit.good.layout ∙ kept.fit.steps))

      reads_entered : IsWritable most_steps (length c.units) plan → lines ≡ of_job job (read_line plan ∷ []) → ReadsPlan w plan lines (world_in queue_of c new)
      reads_entered can told job_of deck denoted =
          subst (Reads job_of w deck lines) then_is
          (table.read plan first (queue.shown (queue_of new.parts.queue)) few denoted (e.written c (sym kept.fit.good.layout) (writable can)) told refl)

      fit_entered : IsFit queue_of c new
      fit_entered = record {
        good = good_with queue_of c s.parts new.parts parts e.layout kept.fit.good;
        holds = kept.fit.holds;
        days = kept.fit.days;
        listed = subst (λ (q : List Queued). AreListed q new.backlog) (sym e.waiting)
            (subst (AreListed ((queue_of s.parts.queue).waiting ++ queued_of job plan first ∷ [])) (sym backlog) with_last.0);
        ready = ready_same c s.initiators.items new.initiators.items s.parts.names new.parts.names after
            (same_names queue_of c s.parts new.parts parts) kept.fit.ready;
        unnamed = λ other none. subst (λ (hs : List Hold). HoldsNone hs other) (sym (same_names queue_of c s.parts new.parts parts))
            (kept.fit.unnamed other (none_same s new after other none));
        steps = kept.fit.steps;
        few_jobs = omega (arith, jobs, few);
        few_events = subst (λ n. n ≤ MOST_EVENTS) (sym events) kept.fit.few_events;
      }

    abbrev HasTaken : Type 0
    HasTaken = TakesIn job plan (queue_of s.parts.queue) s.backlog (queue_of new.parts.queue) new.backlog lines

    reads : IsWritable most_steps (length c.units) plan → HasTaken → ReadsPlan w plan lines (world_in queue_of c new)
    reads can (enters first e backlog told) = reads_entered first e backlog can told
    reads can (is_full none queue_is backlog told) = λ job_of deck denoted.
        subst (Reads job_of w deck lines) (sym (same_world queue_of c numbered new parts queue_is backlog after jobs events))
        (table.full plan few denoted none told refl)

    pub leads : IsWritable most_steps (length c.units) plan → HasTaken → LeadsTo (ReadsPlan w plan lines) (world_in queue_of c new)
    leads can t = record {
      middle = world_in queue_of c new;
      does_so = reads can t;
      reopened = unopened c.layout (world_in queue_of c new).shared;
      rest = refl;
    }

    pub fit : HasTaken → IsFit queue_of c new
    fit (enters first e backlog told) = fit_entered first e backlog
    fit (is_full none queue_is backlog told) = same_fit queue_of c numbered new parts queue_is backlog after jobs events fit_numbered
