-- What happens at an event is a case of the table.
use Rattle.std.proofs.Common.{◌≡◌, ◌≢◌, ◌≤◌, ◌<◌, ◌+◌, ℕ, zero, suc, Bool, true, false, is_some, List, [], ◌∷◌, ◌++◌, All, map, Option, Some, None, slice_get, refl, sym, ap, ◌∙◌, subst, arith}
use Rattle.std.specs.Option.{option_map}
use Rattle.std.specs.Prelude.{Result, Ok, Err, get_or}
use Rattle.std.proofs.lemmas.Option.{get_or_from_slice_get}
use Rattle.std.proofs.lemmas.List.Elements.{All-head, All-map, All-tail}
use Rattle.cb_queue.specs.RecordQueues.{RecordQueue}
use Rattle.jcl_plan.specs.declared.entry.Entry.{Entry}
use Rattle.jcl_plan.specs.declared.entry.Entry.TheVariants as entry
use Rattle.jcl_plan.specs.declared.entry.JobLine.{JobLine}
use Rattle.jcl_plan.specs.declared.fault.Cause.{Cause}
use Rattle.jcl_plan.specs.declared.fault.Cause.TheVariants.{A}
use Rattle.jcl_plan.specs.declared.fault.EventFault.TheVariants.{NoSuchInitiator, PastLimit}
use Rattle.machine_meaning.specs.declared.machine.TheConstants.{MOST_EVENTS}
use Rattle.case_laws.specs.Cases.{IsSupplied, SuppliesAreKept}
use Rattle.law_core.specs.Soundness.{IsSound, SoundnessIsKept}
use Rattle.world_meaning.specs.declared.event.Event as meant
use Rattle.world_meaning.specs.Readings.{Denoting}
use Rattle.world_meaning.specs.Selections.{Selects}
use Rattle.world_meaning.specs.Selections as selecting
use Rattle.world_meaning.specs.Devices.{Writes, nothing_written, wrote}
use Rattle.world_meaning.specs.Displays.{SetsDate, queue_line, set, volume_line}
use Rattle.world_meaning.specs.Transitions.{Acts, Does, Shows, Transition, Turns, acts, past, shown, taken, unknown, told_with}
use Rattle.world_meaning.specs.Worlds as world
use Rattle.world_meaning.specs.Worlds.{Config, HasNoInitiator, IsAt, World, counted, of_job}
use Rattle.world_meaning.proofs.Following.{unopened}
use Rattle.init_core.specs.Running.{shown_running}
use Rattle.init_core.specs.declared.running.Running.{Running}
use Rattle.world_laws.proofs.Beside.{one_there}
use Rattle.sched_core.specs.Events.{ActsAt, ActsSo, Answers, DoesSo, FollowsSo, LeadsTo, RefusesFirst, SelectsAt, TurnsSo}
use Rattle.sched_core.specs.Happening.{IsSeat}
use Rattle.sched_core.specs.Machines.{RunsIn, shown_initiator, world_in}
use Rattle.sched_core.specs.declared.fault.ApplyFault.{ApplyFault}
use Rattle.sched_core.specs.declared.fault.ApplyFault.TheVariants.{Memory, Refused}
use Rattle.sched_core.specs.declared.state.Initiator.{Initiator}
use Rattle.sched_core.specs.declared.state.State.{State}
use Rattle.sched_core.specs.Fits.{IsFit, IsKept}
use Rattle.sched_core.proofs.Counting.{fit_at}
use Rattle.sched_core.proofs.Seats.{shown_at}
use Rattle.plain.specs.Lists.{Differ}
use Rattle.shared_core.specs.declared.store.SharedStore.{SharedStore}

-- no turn of a job, and no selection, writes a refusal
no_job_line : (cause : Cause) (job : ℕ) (lines path : List JobLine) → entry.Refused cause ∷ [] ≡ told_with job lines path → ⊥
no_job_line cause job [] [] e = absurd cc
no_job_line cause job [] (p ∷ path) e = absurd cc
no_job_line cause job (line ∷ lines) [] e = absurd cc
no_job_line cause job (line ∷ lines) (p ∷ path) e = absurd cc

never_acts : (old new : World) (place : ℕ) (x : world.Initiator) (o : Option world.Running) (cause : Cause) → Acts old place x o (entry.Refused cause ∷ []) new → ⊥
never_acts old new place x None cause (selecting.nothing none told same) = absurd cc
never_acts old new place x None cause (selecting.selected w first told leaves) = absurd cc
never_acts old new place x (Some r) cause g = no_job_line cause r.job g.job_lines _ g.told

-- initiators of one number are at one place
no_other : (ns : List ℕ) (n k : ℕ) → All (λ m. n ≢ m) ns → slice_get ns k ≡ Some n → ⊥
no_other [] n k all e = absurd cc
no_other (m ∷ ns) n zero all e = let is : m ≡ n = cc in All-head (λ m. n ≢ m) m ns all (sym is)
no_other (m ∷ ns) n (suc k) all e = no_other ns n k (All-tail (λ m. n ≢ m) m ns all) e

same_place : (ns : List ℕ) (j k n : ℕ) → Differ ns → slice_get ns j ≡ Some n → slice_get ns k ≡ Some n → j ≡ k
same_place [] j k n d e f = absurd cc
same_place (m ∷ ns) zero zero n d e f = refl
same_place (m ∷ ns) zero (suc k) n d e f = let is : m ≡ n = cc in absurd (no_other ns m k d.0 (f ∙ ap Some (sym is)))
same_place (m ∷ ns) (suc j) zero n d e f = let is : m ≡ n = cc in absurd (no_other ns m j d.0 (e ∙ ap Some (sym is)))
same_place (m ∷ ns) (suc j) (suc k) n d e f = ap suc (same_place ns j k n d.1 e f)

number_at : (c : Config) (queue : RecordQueue) (xs : List Initiator) (k : ℕ) (x : Initiator) → slice_get xs k ≡ Some x →
    slice_get (map (λ (y : world.Initiator). y.number) (map (shown_initiator c queue) xs)) k ≡ Some x.number
number_at c queue [] k x e = absurd cc
number_at c queue (y ∷ xs) zero x e = let is : y ≡ x = cc in ap (λ (z : Initiator). Some z.number) is
number_at c queue (y ∷ xs) (suc k) x e = number_at c queue xs k x e

seats_apart : (number place : ℕ) (xs : List Initiator) (x : Initiator) → slice_get xs place ≡ Some x → x.number ≡ number → All (λ (y : Initiator). y.number ≢ number) xs → ⊥
seats_apart number place [] x at is all = absurd cc
seats_apart number zero (y ∷ xs) x at is all =
    let same : y ≡ x = cc in All-head (λ (z : Initiator). z.number ≢ number) y xs all (ap (λ (z : Initiator). z.number) same ∙ is)
seats_apart number (suc place) (y ∷ xs) x at is all = seats_apart number place xs x at is (All-tail (λ (z : Initiator). z.number ≢ number) y xs all)

module _ {Q : Type 0} (queue_of : Q → RecordQueue) (c : Config) (s : State Q) (number : ℕ) where
  abbrev pub w : World
  w = world_in queue_of c s

  pub nobody : All (λ (x : Initiator). x.number ≢ number) s.initiators.items → HasNoInitiator w number
  nobody all = All-map (λ (x : world.Initiator). x.number ≢ number) (shown_initiator c (queue_of s.parts.queue)) s.initiators.items all

  pub refused : All (λ (x : Initiator). x.number ≢ number) s.initiators.items → TurnsSo s.parts.store w number (entry.Refused (A NoSuchInitiator) ∷ []) w
  refused all = (unknown (nobody all) refl refl, tt)

  by_unknown : (cause : Cause) → entry.Refused cause ∷ [] ≡ entry.Refused (A NoSuchInitiator) ∷ [] → cause ≡ A NoSuchInitiator
  by_unknown cause e = cc

  pub refused_first : (result : Result (List Entry) ApplyFault) → result ≡ Err (Refused (A NoSuchInitiator)) → RefusesFirst result (Turns w number)
  refused_first result is cause new (unknown none told same) = is ∙ ap (λ x. Err (Refused x)) (sym (by_unknown cause told))
  refused_first result is cause new (acts place x at numbered does) = absurd (never_acts w new place x x.running cause does)

  module _ (place : ℕ) (seat : IsSeat s.initiators.items number place) where
    abbrev shown_seat : world.Initiator
    shown_seat = shown_initiator c (queue_of s.parts.queue) seat.it

    seat_at : slice_get w.initiators place ≡ Some shown_seat
    seat_at = shown_at c (queue_of s.parts.queue) s.initiators.items place seat.it seat.at

    pub turned : (lines : List Entry) (new : World) → LeadsTo (ActsAt s.parts.store w place lines) new → LeadsTo (TurnsSo s.parts.store w number lines) new
    turned lines new l = let does = l.does_so shown_seat seat_at in record {
      middle = l.middle;
      does_so = (acts place shown_seat seat_at seat.numbered does.0, does.1);
      reopened = l.reopened;
      rest = l.rest;
    }

    there : (none : HasNoInitiator w number) → ⊥
    there none = no_number s.initiators.items place seat.it seat.at seat.numbered none
      where
        no_number : (xs : List Initiator) (k : ℕ) (x : Initiator) → slice_get xs k ≡ Some x → x.number ≡ number →
            All (λ (y : world.Initiator). y.number ≢ number) (map (shown_initiator c (queue_of s.parts.queue)) xs) → ⊥
        no_number [] k x at is all = absurd cc
        no_number (y ∷ xs) zero x at is all =
            let same : y ≡ x = cc in
            All-head (λ (z : world.Initiator). z.number ≢ number) (shown_initiator c (queue_of s.parts.queue) y) (map (shown_initiator c (queue_of s.parts.queue)) xs) all
            (ap (λ (z : Initiator). z.number) same ∙ is)
        no_number (y ∷ xs) (suc k) x at is all =
            no_number xs k x at is
            (All-tail (λ (z : world.Initiator). z.number ≢ number) (shown_initiator c (queue_of s.parts.queue) y) (map (shown_initiator c (queue_of s.parts.queue)) xs) all)

    pub never_refused : (result : Result (List Entry) ApplyFault) → RefusesFirst result (Turns w number)
    never_refused result cause new (unknown none told same) = absurd (there none)
    never_refused result cause new (acts at x is numbered does) = absurd (never_acts w new at x x.running cause does)

    -- the answer of a turn
    pub turn_answer : (result : Result (List Entry) ApplyFault) (new : World) → Answers result w new (ActsAt s.parts.store w place) → ((cause : Cause) → result ≢ Err (Refused cause)) →
        Answers result w new (TurnsSo s.parts.store w number)
    turn_answer (Ok lines) new h never = turned lines new h
    turn_answer (Err (Refused cause)) new h never = absurd (never cause refl)
    turn_answer (Err Memory) new h never = h

    acts_so : (idle : seat.it.running ≡ None) (lines : List Entry) (new : World) → LeadsTo (SelectsAt w place lines) new → LeadsTo (ActsAt s.parts.store w place lines) new
    acts_so idle lines new l = record {
      middle = l.middle;
      does_so = λ x at. subst (λ (y : world.Initiator). ActsSo s.parts.store w place y y.running lines l.middle)
          (one_there w.initiators place place shown_seat x refl seat_at at)
          (subst (λ o. ActsSo s.parts.store w place shown_seat o lines l.middle)
          (sym (ap (option_map (shown_running c (queue_of s.parts.queue))) idle))
          (l.does_so shown_seat seat_at, tt));
      reopened = l.reopened;
      rest = l.rest;
    }

    pub selects_acts : seat.it.running ≡ None → (result : Result (List Entry) ApplyFault) (new : World) → Answers result w new (SelectsAt w place) →
        ((cause : Cause) → result ≢ Err (Refused cause)) → Answers result w new (ActsAt s.parts.store w place)
    selects_acts idle (Ok lines) new h never = acts_so idle lines new h
    selects_acts idle (Err (Refused cause)) new h never = absurd (never cause refl)
    selects_acts idle (Err Memory) new h never = h

-- who is at a seat that was looked at
some_of : (o : Option Running) (b : Bool) → b ≡ is_some o → b ≡ true → (r : Running) × (o ≡ Some r)
some_of None b e t = let no : true ≡ false = sym t ∙ e in absurd cc
some_of (Some r) b e t = (r, refl)

none_of : (o : Option Running) (b : Bool) → b ≡ is_some o → b ≡ false → o ≡ None
none_of None b e t = refl
none_of (Some r) b e t = let no : false ≡ true = sym t ∙ e in absurd cc

module _ (xs : List Initiator) (number place : ℕ) (seat : IsSeat xs number place) (x : Initiator) (is : x ≡ get_or xs place x) (b : Bool) (busy : b ≡ is_some x.running) where
  its : x ≡ seat.it
  its = is ∙ get_or_from_slice_get xs place seat.it x seat.at

  pub seat_runs : b ≡ true → (r : Running) × RunsIn xs place r
  seat_runs t =
      let (r, e) = some_of seat.it.running b (busy ∙ ap (λ (z : Initiator). is_some z.running) its) t in
      (r, record { it = seat.it; at = seat.at; running = e })

  pub seat_idle : b ≡ false → seat.it.running ≡ None
  seat_idle f = none_of seat.it.running b (busy ∙ ap (λ (z : Initiator). is_some z.running) its) f

-- what is done is done so
pub so_answers : (result : Result (List Entry) ApplyFault) (old new : World) (does does_so : List Entry → World → Type 0) →
    ((lines : List Entry) (v : World) → does lines v → does_so lines v) → Answers result old new does → Answers result old new does_so
so_answers (Ok lines) old new does does_so so l = record { middle = l.middle; does_so = so lines l.middle l.does_so; reopened = l.reopened; rest = l.rest }
so_answers (Err (Refused cause)) old new does does_so so h = (so (entry.Refused cause ∷ []) old h.0, h.1)
so_answers (Err Memory) old new does does_so so h = h

-- an event that was counted
module _ (store : SharedStore) (job_of : Denoting) (e : meant.Event) (old new : World) (few : old.events < MOST_EVENTS) where
  pub done : (lines : List Entry) → LeadsTo (DoesSo store job_of (counted old) e lines) new → FollowsSo store job_of old e lines new
  done lines l = (taken few (record { middle = l.middle; does = l.does_so.0; reopened = l.reopened; rest = l.rest }), l.does_so.1)

  refused_so : (cause : Cause) → DoesSo store job_of (counted old) e (entry.Refused cause ∷ []) (counted old) → new ≡ counted old →
      FollowsSo store job_of old e (entry.Refused cause ∷ []) new
  refused_so cause does same = subst (FollowsSo store job_of old e (entry.Refused cause ∷ [])) (sym same) (
    taken few (record {
      middle = counted old;
      does = does.0;
      reopened = unopened old.config.layout old.shared;
      rest = refl;
    }),
    does.1,
  )

  pub refuses : (cause : Cause) → DoesSo store job_of (counted old) e (entry.Refused cause ∷ []) (counted old) × (new ≡ counted old) →
      FollowsSo store job_of old e (entry.Refused cause ∷ []) new × (new ≡ record old { events = new.events })
  refuses cause h = (
    refused_so cause h.0 h.1,
    h.1 ∙ (λ i. record old { events = sym (ap (λ (w : World). w.events) h.1) i }),
  )

pub refuses_first : (job_of : Denoting) (e : meant.Event) (old : World) (result : Result (List Entry) ApplyFault) → old.events < MOST_EVENTS →
    RefusesFirst result (Does job_of (counted old) e) → RefusesFirst result (Transition job_of old e)
refuses_first job_of e old result few first cause new (past many told same) = absurd (omega (arith, few, many))
refuses_first job_of e old result few first cause new (taken few_too h) = first cause h.middle h.does

past_cause : (cause : Cause) → entry.Refused cause ∷ [] ≡ entry.Refused (A PastLimit) ∷ [] → cause ≡ A PastLimit
past_cause cause e = cc

pub past_first : (job_of : Denoting) (e : meant.Event) (old : World) (result : Result (List Entry) ApplyFault) → MOST_EVENTS ≤ old.events →
    result ≡ Err (Refused (A PastLimit)) → RefusesFirst result (Transition job_of old e)
past_first job_of e old result many is cause new (past more told same) = is ∙ ap (λ x. Err (Refused x)) (sym (past_cause cause told))
past_first job_of e old result many is cause new (taken few h) = absurd (omega (arith, few, many))

-- what no event writes that cannot be refused
pub writes_never : (v : World) (class : ℕ) (cause : Cause) (new : World) → Writes v class (entry.Refused cause ∷ []) new → ⊥
writes_never v class cause new (nothing_written n l s) = absurd cc
writes_never v class cause new (wrote job line left t l s) = absurd cc

no_volume_line : (v : World) (volumes : List (List ℕ)) (cause : Cause) → entry.Refused cause ∷ [] ≡ map (volume_line v.shared) volumes ++ queue_line v ∷ [] → ⊥
no_volume_line v [] cause e = absurd cc
no_volume_line v (serial ∷ volumes) cause e = absurd cc

pub shows_never : (v : World) (cause : Cause) (new : World) → Shows v (entry.Refused cause ∷ []) new → ⊥
shows_never v cause new (shown l s) = no_volume_line v v.config.volumes cause l

pub dates_never : (v : World) (day : ℕ) (cause : Cause) (new : World) → SetsDate v day (entry.Refused cause ∷ []) new → ⊥
dates_never v day cause new (set years of_year is l s) = absurd cc

pub never_so : (does : List Entry → World → Type 0) (result : Result (List Entry) ApplyFault) → ((cause : Cause) (new : World) → does (entry.Refused cause ∷ []) new → ⊥) →
    RefusesFirst result does
never_so does result never cause new h = absurd (never cause new h)

-- one event more, and what it leaves
module _ {Q : Type 0} (queue_of : Q → RecordQueue) (c : Config) (s : State Q) (kept : IsKept queue_of c s) (job_of : Denoting) (e : meant.Event) where
  abbrev pub first : World
  first = world_in queue_of c s

  module _ (few : s.events < MOST_EVENTS) (law : SoundnessIsKept) (supplies : SuppliesAreKept) (after : State Q) (fit : IsFit queue_of c after) where
    abbrev pub then : World
    then = world_in queue_of c after

    pub kept_done : (lines : List Entry) → LeadsTo (DoesSo s.parts.store job_of (counted first) e lines) then → IsKept queue_of c after
    kept_done lines l =
        let t = (done s.parts.store job_of e first then few lines l).0 in
        record { sound = law job_of first then e lines kept.sound t; supplied = supplies job_of first then e lines kept.sound kept.supplied t; fit = fit }

    pub kept_refused : (cause : Cause) → DoesSo s.parts.store job_of (counted first) e (entry.Refused cause ∷ []) (counted first) × (then ≡ counted first) → IsKept queue_of c after
    kept_refused cause h =
        let t = (refuses s.parts.store job_of e first then few cause h).0.0 in
        record {
          sound = law job_of first then e (entry.Refused cause ∷ []) kept.sound t;
          supplied = supplies job_of first then e (entry.Refused cause ∷ []) kept.sound kept.supplied t;
          fit = fit;
        }

    -- the count is taken back
    pub as_before : (n : ℕ) → n ≡ s.events → then ≡ counted first → world_in queue_of c (record after { events = n }) ≡ first
    as_before n same is = λ i. record (is i) { events = same i }

    pub kept_before : (n : ℕ) → n ≡ s.events → then ≡ counted first → IsKept queue_of c (record after { events = n })
    kept_before n same is = record {
      sound = subst IsSound (sym (as_before n same is)) kept.sound;
      supplied = subst IsSupplied (sym (as_before n same is)) kept.supplied;
      fit = fit_at queue_of c after n (subst (λ k. k ≤ MOST_EVENTS) (sym same) kept.fit.few_events) fit;
    }

    pub events_back : then ≡ counted first → after.events ≡ s.events + 1
    events_back is = ap (λ (w : World). w.events) is

  pub past_so : MOST_EVENTS ≤ s.events → FollowsSo s.parts.store job_of first e (entry.Refused (A PastLimit) ∷ []) first
  past_so many = (past many refl refl, tt)
