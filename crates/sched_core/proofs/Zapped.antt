-- A Zap that is refused, and one that is taken.
use Rattle.std.proofs.Common.{◌≡◌, ◌+◌, ◌==◌, ◌||◌, ◌&&◌, not, ℕ, Bool, true, false, List, [], ◌∷◌, map, length, Option, Some, None, Result, Err, refl, sym, ap, ◌∙◌, subst}
use Rattle.std.specs.List.{list_any}
use Rattle.std.specs.Option.{option_map}
use Rattle.std.specs.Prelude.{nat_le}
use Rattle.std.proofs.lemmas.Bool.{and_parts, both_ways, leb-true}
use Rattle.jcl_plan.specs.declared.entry.Entry.{Entry}
use Rattle.jcl_plan.specs.declared.entry.Entry.TheVariants as entry
use Rattle.jcl_plan.specs.declared.fault.Cause.{Cause}
use Rattle.jcl_plan.specs.declared.fault.Cause.TheVariants.{Q as OfQueue}
use Rattle.jcl_plan.specs.declared.fault.QueueFault.{QueueFault}
use Rattle.jcl_plan.specs.declared.fault.QueueFault.TheVariants.{Full, NotOwner, Selected}
use Rattle.cb_meaning.specs.declared.layout.TheConstants.{RECORD_BYTES}
use Rattle.cb_meaning.specs.Walks.{is_free, owner_of}
use Rattle.cb_queue.specs.RecordQueues as queue
use Rattle.cb_queue.specs.RecordQueues.{RecordQueue, record_at}
use Rattle.queue_core.specs.declared.queue.Queued.{Queued}
use Rattle.cb_meaning.specs.Fields.{with_part}
use Rattle.world_meaning.specs.Records.{SameRecords, with_record}
use Rattle.world_meaning.specs.Worlds as world
use Rattle.world_meaning.specs.Worlds.{Config, World}
use Rattle.world_meaning.specs.Zaps as zap
use Rattle.world_meaning.specs.Zaps.{ZapsRecord, is_owned, is_within, may_be_zapped, most_zapped, not_owned, runs_job, selected, zapped}
use Rattle.queued_job.specs.Listed.{AreListed, waiting_in}
use Rattle.queued_job.specs.Zapping.{IsOwner, Overwrites}
use Rattle.queued_job.specs.declared.backlog.Listing.{Listing}
use Rattle.machine_core.specs.Shown.{shown}
use Rattle.init_core.specs.Running.{shown_running}
use Rattle.init_core.specs.declared.running.Running.{Running}
use Rattle.sched_core.specs.Cancelling.{has_job}
use Rattle.sched_core.specs.Events.{LeadsTo, RefusesFirst}
use Rattle.sched_core.specs.Fits.{IsFit, IsKept}
use Rattle.sched_core.specs.Machines.{shown_initiator, world_in}
use Rattle.sched_core.specs.Zapping.{IsJudged, IsOpen, fault_of_owner}
use Rattle.sched_core.specs.declared.fault.ApplyFault.{ApplyFault}
use Rattle.sched_core.specs.declared.fault.ApplyFault.TheVariants.{Refused}
use Rattle.sched_core.specs.declared.state.Initiator.{Initiator}
use Rattle.sched_core.specs.declared.state.State.{State}
use Rattle.sched_core.proofs.Seats.{shown_alike}
use Rattle.sched_core.proofs.Unchanged.{good_with}

-- whether a job has an initiator, as the machine's definitions have it
job_runs : (c : Config) (queue : RecordQueue) (job : ℕ) (o : Option Running) → runs_job job (option_map (shown_running c queue) o) ≡ has_job o job
job_runs c queue job None = refl
job_runs c queue job (Some r) = refl

has_initiator : (c : Config) (queue : RecordQueue) (job : ℕ) (xs : List Initiator) →
    list_any (λ (x : world.Initiator). runs_job job x.running) (map (shown_initiator c queue) xs) ≡ list_any (λ (x : Initiator). has_job x.running job) xs
has_initiator c queue job [] = refl
has_initiator c queue job (x ∷ xs) = λ i. job_runs c queue job x.running i || has_initiator c queue job xs i

-- and whether it waits
job_waits : (job : ℕ) (queue : List Queued) (backlog : List Listing) → AreListed queue backlog →
    list_any (λ (v : world.Waiting). v.job == job) (waiting_in queue backlog) ≡ list_any (λ (l : Listing). l.job == job) backlog
job_waits job [] [] listed = refl
job_waits job [] (l ∷ backlog) listed = absurd cc
job_waits job (q ∷ queue) [] listed = absurd cc
job_waits job (q ∷ queue) (l ∷ backlog) listed =
    let first : q.job ≡ l.job = cc in
    let rest : AreListed queue backlog = cc in
    λ i. (first i == job) || job_waits job queue backlog rest i

module _ {Q : Type 0} (queue_of : Q → RecordQueue) (c : Config) (s : State Q) (n offset count : ℕ) where
  abbrev pub w : World
  w = world_in queue_of c s

  abbrev pub q : RecordQueue
  q = queue_of s.parts.queue

  -- not within what is open
  pub outside : c.layout ≡ q.layout → is_within q.layout.most_records n offset count ≡ false → may_be_zapped w n offset count ≡ false
  outside layout isnt = λ i. (ap (λ l. is_within l.most_records n offset count) layout ∙ isnt) i && is_owned w n

  -- a record that is free
  pub unowned : is_free (queue.shown q) n ≡ true → may_be_zapped w n offset count ≡ false
  unowned free = by (is_within c.layout.most_records n offset count)
    where
      by : (b : Bool) → (b && is_owned w n) ≡ false
      by true = λ i. not (free i) && (zap.is_waiting w (owner_of w.shared.records n) || zap.has_initiator w (owner_of w.shared.records n))
      by false = refl

  module _ (listed : AreListed q.waiting s.backlog) (layout : c.layout ≡ q.layout) (inside : is_within q.layout.most_records n offset count ≡ true)
      (owner : ℕ) (its : IsOwner q n owner) where
    runs : zap.has_initiator w (owner_of w.shared.records n) ≡ list_any (λ (x : Initiator). has_job x.running owner) s.initiators.items
    runs = ap (zap.has_initiator w) its.is ∙ has_initiator c q owner s.initiators.items

    waits : zap.is_waiting w (owner_of w.shared.records n) ≡ list_any (λ (l : Listing). l.job == owner) s.backlog
    waits = ap (zap.is_waiting w) its.is ∙ job_waits owner q.waiting s.backlog listed

    may : may_be_zapped w n offset count ≡ (zap.is_waiting w (owner_of w.shared.records n) || zap.has_initiator w (owner_of w.shared.records n))
    may = λ i. (ap (λ l. is_within l.most_records n offset count) layout ∙ inside) i
        && (not (its.used i) && (zap.is_waiting w (owner_of w.shared.records n) || zap.has_initiator w (owner_of w.shared.records n)))

    pub judged : (r : Bool) (b : Bool) → list_any (λ (x : Initiator). has_job x.running owner) s.initiators.items ≡ r →
        list_any (λ (l : Listing). l.job == owner) s.backlog ≡ b → IsJudged w n offset count (fault_of_owner r b)
    judged true true r b = (may ∙ (λ i. (waits ∙ b) i || (runs ∙ r) i), runs ∙ r)
    judged true false r b = (may ∙ (λ i. (waits ∙ b) i || (runs ∙ r) i), runs ∙ r)
    judged false true r b = (may ∙ (λ i. (waits ∙ b) i || (runs ∙ r) i), runs ∙ r)
    judged false false r b = may ∙ (λ i. (waits ∙ b) i || (runs ∙ r) i)

-- what is open of a record in use
pub is_open : (q : RecordQueue) (n offset count owner : ℕ) → is_within q.layout.most_records n offset count ≡ true → IsOwner q n owner →
    IsOpen q n offset count
is_open q n offset count owner inside its =
    let a = and_parts _ (nat_le (offset + count) RECORD_BYTES) inside in
    let b = and_parts _ (nat_le count most_zapped) a.0 in
    let d = and_parts _ (nat_le 1 count) b.0 in
    let e = and_parts _ (nat_le 8 offset) d.0 in
    record { there = its.there; behind = leb-true 8 offset e.1; within = leb-true (offset + count) RECORD_BYTES a.1 }

module _ {Q : Type 0} (queue_of : Q → RecordQueue) (c : Config) (s : State Q) (kept : IsKept queue_of c s) (n offset : ℕ) (bytes : List ℕ) where
  abbrev v : World
  v = world_in queue_of c s

  -- it is refused
  pub is_refused : (f : QueueFault) → IsJudged v n offset (length bytes) (Some f) → ZapsRecord v n offset bytes (entry.Refused (OfQueue f) ∷ []) v
  is_refused Full j = absurd j
  is_refused NotOwner j = not_owned j refl refl
  is_refused Selected j = selected j.0 j.1 refl refl

  cause_is : (cause other : Cause) → entry.Refused cause ∷ [] ≡ entry.Refused other ∷ [] → cause ≡ other
  cause_is cause other e = cc

  pub refused_first : (f : QueueFault) → IsJudged v n offset (length bytes) (Some f) → (result : Result (List Entry) ApplyFault) →
      result ≡ Err (Refused (OfQueue f)) → RefusesFirst result (ZapsRecord v n offset bytes)
  refused_first Full j result is cause new d = absurd j
  refused_first NotOwner j result is cause new (not_owned isnt told same) = is ∙ ap (λ x. Err (Refused x)) (sym (cause_is cause (OfQueue NotOwner) told))
  refused_first NotOwner j result is cause new (selected may has told same) = absurd (both_ways (may_be_zapped v n offset (length bytes)) j may)
  refused_first NotOwner j result is cause new (zapped may has told same) = absurd cc
  refused_first Selected j result is cause new (not_owned isnt told same) = absurd (both_ways (may_be_zapped v n offset (length bytes)) isnt j.0)
  refused_first Selected j result is cause new (selected may has told same) = is ∙ ap (λ x. Err (Refused x)) (sym (cause_is cause (OfQueue Selected) told))
  refused_first Selected j result is cause new (zapped may has told same) = absurd cc

  -- or taken
  module _ (j : IsJudged v n offset (length bytes) None) (new : Q) (o : Overwrites n offset bytes (queue_of s.parts.queue) (queue_of new)) where
    abbrev after : State Q
    after = record s { parts = record s.parts { queue = new } }

    pub never_refused : (result : Result (List Entry) ApplyFault) → RefusesFirst result (ZapsRecord v n offset bytes)
    never_refused result cause w (not_owned isnt told same) = absurd (both_ways (may_be_zapped v n offset (length bytes)) isnt j.0)
    never_refused result cause w (selected may has told same) = absurd (both_ways (zap.has_initiator v (owner_of v.shared.records n)) j.1 has)
    never_refused result cause w (zapped may has told same) = absurd cc

    pub leads : c.layout ≡ (queue_of s.parts.queue).layout → LeadsTo (ZapsRecord v n offset bytes []) (world_in queue_of c after)
    leads layout = record {
      middle = _;
      does_so = zapped j.0 j.1 refl refl;
      reopened = record {
        records = queue.shown (queue_of new);
        same = subst (λ l. SameRecords l (with_record v.shared.records n (with_part (v.shared.records.at n) offset bytes)) (queue.shown (queue_of new)))
            (sym layout) o.records;
        rest = refl;
      };
      rest = λ i. record {
        config = c;
        shared = shown queue_of after.parts;
        initiators = map (shown_alike c (queue_of new) (queue_of s.parts.queue) i) s.initiators.items;
        waiting = waiting_in (o.waiting i) s.backlog;
        jobs = s.jobs;
        events = s.events;
      };
    }

    pub fit : IsFit queue_of c after
    fit = record {
      good = good_with queue_of c s.parts after.parts refl o.layout kept.fit.good;
      holds = kept.fit.holds;
      days = kept.fit.days;
      listed = subst (λ (waiting : List Queued). AreListed waiting s.backlog) (sym o.waiting) kept.fit.listed;
      ready = kept.fit.ready;
      unnamed = kept.fit.unnamed;
      steps = kept.fit.steps;
      few_jobs = kept.fit.few_jobs;
      few_events = kept.fit.few_events;
    }
