-- The events that change no job at an initiator are cases of the table, and leave the machine fit.
use Rattle.std.proofs.Common.{◌≡◌, ◌≢◌, ◌+◌, ◌-◌, ℕ, cond, is_some, arith, List, [], ◌∷◌, All, map, length, Option, Some, None, refl, sym, ap, ◌∙◌, subst}
use Rattle.std.specs.Prelude.{Result, Err, filter, sum_by}
use Rattle.std.specs.List.{Contains}
use Rattle.std.proofs.lemmas.Bool.{both_ways}
use Rattle.std.proofs.lemmas.List.Elements.{All-contains, All-filter}
use Rattle.std.proofs.lemmas.List.{length-map}
use Rattle.std.proofs.lemmas.List.Sums.{sum_by-cons}
use Rattle.std.specs.Option.{option_map}
use Rattle.cb_queue.specs.RecordQueues.{RecordQueue}
use Rattle.date_core.specs.Dates.{IsDated}
use Rattle.date_core.specs.declared.calendar.OrdinalDate.{OrdinalDate}
use Rattle.jcl_plan.specs.declared.entry.Entry.{Entry}
use Rattle.jcl_plan.specs.declared.entry.Entry.TheVariants as entry
use Rattle.jcl_plan.specs.declared.entry.Written.{Written}
use Rattle.jcl_plan.specs.declared.fault.Cause.TheVariants.{A}
use Rattle.jcl_plan.specs.declared.fault.EventFault.{EventFault}
use Rattle.prog_core.specs.declared.units.Operation.{Operation}
use Rattle.prog_core.specs.Operations.{without_operation}
use Rattle.machine_meaning.specs.declared.machine.SpoolSet.{SpoolSet}
use Rattle.world_meaning.specs.Devices.{EndsDevice, Writes, ended, idle, no_volume}
use Rattle.world_meaning.specs.Displays as display
use Rattle.world_meaning.specs.Displays.{SetsDate, set, shown_lines}
use Rattle.world_meaning.specs.Transitions.{Shows}
use Rattle.world_meaning.specs.Transitions as table
use Rattle.world_meaning.specs.Worlds as world
use Rattle.world_meaning.specs.Worlds.{Config, World}
use Rattle.world_meaning.proofs.Following.{unopened}
use Rattle.queued_job.specs.Listed.{ListedAreQueued, waiting_in}
use Rattle.queued_job.specs.Selecting.{queued_as}
use Rattle.machine_core.specs.Events.{DeviceEnds, DeviceIsRefused, IsOf, IsShowing, WriterWrites, with_shared, written_lines}
use Rattle.machine_core.specs.Events as machine
use Rattle.machine_core.specs.Shown.{shown}
use Rattle.machine_core.specs.declared.parts.Parts.{Parts}
use Rattle.init_core.specs.Running.{shown_running}
use Rattle.init_core.specs.declared.running.Running.{Running}
use Rattle.sched_core.specs.Events.{LeadsTo, RefusesFirst}
use Rattle.sched_core.specs.Fits.{IsFit, IsKept}
use Rattle.sched_core.specs.Machines.{shown_initiator, world_in}
use Rattle.sched_core.specs.declared.fault.ApplyFault.{ApplyFault}
use Rattle.sched_core.specs.declared.fault.ApplyFault.TheVariants.{Refused}
use Rattle.sched_core.specs.declared.state.Initiator.{Initiator}
use Rattle.sched_core.specs.declared.state.State.{State}

-- one volume and one list of operations have one answer
agree : (w : World) (serial : List ℕ) (xs ys : List Entry) (a b : World) → EndsDevice w serial xs a → EndsDevice w serial ys b → xs ≡ ys
agree w serial xs ys a b (no_volume n l s) (no_volume m k t) = l ∙ sym k
agree w serial xs ys a b (no_volume n l s) (idle h e k t) = absurd (All-contains (λ v. v ≢ serial) w.config.volumes serial n h refl)
agree w serial xs ys a b (no_volume n l s) (ended h e k t) = absurd (All-contains (λ v. v ≢ serial) w.config.volumes serial n h refl)
agree w serial xs ys a b (idle h e k t) (no_volume n l s) = absurd (All-contains (λ v. v ≢ serial) w.config.volumes serial n h refl)
agree w serial xs ys a b (ended h e k t) (no_volume n l s) = absurd (All-contains (λ v. v ≢ serial) w.config.volumes serial n h refl)
agree w serial xs ys a b (idle h e k t) (idle i f l s) = k ∙ sym l
agree w serial xs ys a b (ended h e k t) (ended i f l s) = k ∙ sym l
agree w serial xs ys a b (idle h e k t) (ended i f l s) = absurd (both_ways _ e f)
agree w serial xs ys a b (ended h e k t) (idle i f l s) = absurd (both_ways _ f e)

operations_left : (w : World) (serial : List ℕ) (new : World) → EndsDevice w serial [] new → new.shared.operations ≡ without_operation w.shared.operations serial
operations_left w serial new (no_volume n l s) = absurd cc
operations_left w serial new (idle h e l s) = absurd cc
operations_left w serial new (ended h e l s) = ap (λ (v : World). v.shared.operations) s

module _ {Q : Type 0} (queue_of : Q → RecordQueue) (c : Config) (s : State Q) (kept : IsKept queue_of c s) where
  abbrev pub w : World
  w = world_in queue_of c s

  abbrev with_parts : Parts Q → State Q
  with_parts p = record s { parts = p }

  -- where the queue, the store and the names are as they were
  leads : (does : World → Type 0) (p : Parts Q) → p.queue ≡ s.parts.queue → does (with_shared w (shown queue_of p)) → LeadsTo does (world_in queue_of c (with_parts p))
  leads does p same h = record {
    middle = with_shared w (shown queue_of p);
    does_so = h;
    reopened = unopened c.layout (shown queue_of p);
    rest = λ i. record (with_shared w (shown queue_of p)) {
      initiators = map (shown_initiator c (queue_of (same i))) s.initiators.items;
      waiting = waiting_in (queue_of (same i)).waiting s.backlog;
    };
  }

  fit_units : (units : List Operation) → All (λ o. Contains c.volumes o.serial) units → IsFit queue_of c (with_parts (record s.parts { units = units }))
  fit_units units on = record {
    good = record { volumes = kept.fit.good.volumes; layout = kept.fit.good.layout; fields = kept.fit.good.fields; operations = on; few = kept.fit.good.few };
    holds = kept.fit.holds;
    days = kept.fit.days;
    listed = kept.fit.listed;
    ready = kept.fit.ready;
    unnamed = kept.fit.unnamed;
    steps = kept.fit.steps;
    few_jobs = kept.fit.few_jobs;
    few_events = kept.fit.few_events;
  }

  fit_spool : (spool : List SpoolSet) → IsFit queue_of c (with_parts (record s.parts { spool = spool }))
  fit_spool spool = record {
    good = record {
      volumes = kept.fit.good.volumes;
      layout = kept.fit.good.layout;
      fields = kept.fit.good.fields;
      operations = kept.fit.good.operations;
      few = kept.fit.good.few;
    };
    holds = kept.fit.holds;
    days = kept.fit.days;
    listed = kept.fit.listed;
    ready = kept.fit.ready;
    unnamed = kept.fit.unnamed;
    steps = kept.fit.steps;
    few_jobs = kept.fit.few_jobs;
    few_events = kept.fit.few_events;
  }

  fit_date : (day : ℕ) → IsFit queue_of c (with_parts (record s.parts { date = day }))
  fit_date day = record {
    good = record {
      volumes = kept.fit.good.volumes;
      layout = kept.fit.good.layout;
      fields = kept.fit.good.fields;
      operations = kept.fit.good.operations;
      few = kept.fit.good.few;
    };
    holds = kept.fit.holds;
    days = kept.fit.days;
    listed = kept.fit.listed;
    ready = kept.fit.ready;
    unnamed = kept.fit.unnamed;
    steps = kept.fit.steps;
    few_jobs = kept.fit.few_jobs;
    few_events = kept.fit.few_events;
  }

  pub world_same : (p : Parts Q) → p ≡ s.parts → world_in queue_of c (with_parts p) ≡ world_in queue_of c s
  world_same p same = ap (λ q. world_in queue_of c (with_parts q)) same

  pub fit_same : (p : Parts Q) → p ≡ s.parts → IsFit queue_of c (with_parts p)
  fit_same p same = subst (λ q. IsFit queue_of c (with_parts q)) (sym same) kept.fit

  its : IsOf queue_of c.volumes s.parts w
  its = record { volumes_so = refl; shared_so = refl }

  module _ (serial : List ℕ) (p : Parts Q) (rest : p ≡ record s.parts { units = p.units }) where
    pub ended_so : DeviceEnds queue_of c.volumes s.parts serial p → LeadsTo (EndsDevice w serial []) (world_in queue_of c (with_parts p))
    ended_so h = leads (EndsDevice w serial []) p (ap (λ (q : Parts Q). q.queue) rest) (h w its)

    pub fit_ended : DeviceEnds queue_of c.volumes s.parts serial p → IsFit queue_of c (with_parts p)
    fit_ended h = subst (λ q. IsFit queue_of c (with_parts q)) (sym rest) (fit_units p.units
        (subst (λ os. All (λ o. Contains c.volumes o.serial) os) (sym (operations_left w serial (with_shared w (shown queue_of p)) (h w its)))
        (All-filter _ (λ (o : Operation). Contains c.volumes o.serial) s.parts.units kept.fit.good.operations)))

    pub never_refused_ended : DeviceEnds queue_of c.volumes s.parts serial p → (result : Result (List Entry) ApplyFault) → RefusesFirst result (EndsDevice w serial)
    never_refused_ended h result cause new d =
        let no : entry.Refused cause ∷ [] ≡ [] = agree w serial _ _ new _ d (h w its) in absurd cc

  module _ (serial : List ℕ) (fault : EventFault) (h : DeviceIsRefused queue_of c.volumes s.parts serial fault) where
    pub is_refused : EndsDevice w serial (entry.Refused (A fault) ∷ []) w
    is_refused = h w its

    pub refused_first : (result : Result (List Entry) ApplyFault) → result ≡ Err (Refused (A fault)) → RefusesFirst result (EndsDevice w serial)
    refused_first result is cause new d =
        let same : entry.Refused cause ∷ [] ≡ entry.Refused (A fault) ∷ [] = agree w serial _ _ new _ d (h w its) in
        let one : cause ≡ A fault = cc in
        is ∙ ap (λ x. Err (Refused x)) (sym one)

  module _ (class : ℕ) (p : Parts Q) (rest : p ≡ record s.parts { spool = p.spool }) (told : Option (ℕ × Written)) (h : WriterWrites queue_of s.parts class told p) where
    pub wrote_so : (lines : List Entry) → lines ≡ written_lines class told → LeadsTo (Writes w class lines) (world_in queue_of c (with_parts p))
    wrote_so lines is =
        leads (Writes w class lines) p (ap (λ (q : Parts Q). q.queue) rest)
        (subst (λ ls. Writes w class ls (with_shared w (shown queue_of p))) (sym is) (h w refl))

    pub fit_wrote : IsFit queue_of c (with_parts p)
    fit_wrote = subst (λ q. IsFit queue_of c (with_parts q)) (sym rest) (fit_spool p.spool)

  module _ (day : ℕ) (d : OrdinalDate) (is : IsDated day d) where
    year_is : 1900 + (d.year - 1900) ≡ d.year
    year_is = let from = is.from_first in omega (arith, from)

    pub dated_so : (lines : List Entry) → lines ≡ entry.Date d.year d.of_year ∷ [] →
        LeadsTo (SetsDate w day lines) (world_in queue_of c (with_parts (record s.parts { date = day })))
    dated_so lines told =
        leads (SetsDate w day lines) (record s.parts { date = day }) refl
        (set (d.year - 1900) d.of_year is.is (told ∙ ap (λ year. entry.Date year d.of_year ∷ []) (sym year_is)) refl)

    pub fit_dated : IsFit queue_of c (with_parts (record s.parts { date = day }))
    fit_dated = fit_date day

  -- an initiator more
  one_more : (x : Initiator) (rest : List Initiator) (o : Option Running) (n : ℕ) → n ≡ length rest →
      display.busy (option_map (shown_running c (queue_of s.parts.queue)) o) + n ≡ length (cond (is_some o) (x ∷ rest) rest)
  one_more x rest None n e = omega (arith, e)
  one_more x rest (Some r) n e = omega (arith, e)

  busy_shown : (xs : List Initiator) →
      sum_by (λ (x : world.Initiator). display.busy x.running) (map (shown_initiator c (queue_of s.parts.queue)) xs)
      ≡ length (filter (λ (x : Initiator). is_some x.running) xs)
  busy_shown [] = refl
  busy_shown (x ∷ xs) =
      sum_by-cons (λ (y : world.Initiator). display.busy y.running) (shown_initiator c (queue_of s.parts.queue) x) (map (shown_initiator c (queue_of s.parts.queue)) xs)
      ∙ one_more x (filter (λ (y : Initiator). is_some y.running) xs) x.running _ (busy_shown xs)

  pub showing : ListedAreQueued → (running : ℕ) → running ≡ length (filter (λ (x : Initiator). is_some x.running) s.initiators.items) → IsShowing queue_of c.volumes s.parts running w
  showing law running is = record {
    of = its;
    waiting =
        sym (length-map (waiting_in (queue_of s.parts.queue).waiting s.backlog) queued_as)
        ∙ ap length (law (queue_of s.parts.queue).waiting s.backlog kept.fit.listed);
    running_so = busy_shown s.initiators.items ∙ sym is;
  }

  pub shows_so : (lines : List Entry) (running : ℕ) → machine.Shows queue_of c.volumes s.parts running lines → IsShowing queue_of c.volumes s.parts running w →
      LeadsTo (Shows w lines) w
  shows_so lines running h showing = record {
    middle = w;
    does_so = table.shown (h w showing) refl;
    reopened = unopened c.layout (shown queue_of s.parts);
    rest = refl;
  }
