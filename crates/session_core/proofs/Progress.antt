-- How far a session has come behind its configuration.
use Rattle.std.proofs.Common.{◌≡◌, ◌⊎◌, ℕ, ◌+◌, ◌<◌, ◌≤◌, Bool, true, false, ◌||◌, List, [], ◌∷◌, ◌++◌, length, take, drop, get_or, replicate, Option, Some, None, is_some, Result, Ok, Err, refl, sym, ap, subst, ◌∙◌, inl, inr, ⊎_elim, append_assoc, arith, length-append}
use Rattle.std.proofs.lemmas.List.{append-nil, length-replicate, take-replicate}
use Rattle.std.specs.Io.KnownBytes.{Appends}
use Rattle.config_core.specs.Configs.{Configuration, config_fault}
use Rattle.session_input.specs.declared.event.Event.{Event}
use Rattle.session_input.specs.declared.statement.ConfigStatement.{ConfigStatement}
use Rattle.machine_meaning.specs.declared.config.ConfigFault.{ConfigFault}
use Rattle.sched_core.specs.Systems.{Drives, IsWhole, Machine}
use Rattle.session_text.specs.declared.fault.Fault.{Fault}
use Rattle.session_text.specs.declared.statement.Says.{Says}
use Rattle.session_text.specs.declared.statement.Says.TheVariants.{Config, Events, Refused}
use Rattle.session_text.specs.declared.statement.Statement.{Statement}
use Rattle.run_options.specs.declared.Options.{Options}
use Rattle.session_core.specs.declared.SessionEnd.{SessionEnd}
use Rattle.session_core.specs.declared.SessionFault.{SessionFault}
use Rattle.session_core.specs.declared.SessionFault.TheVariants.{Stopped, WriteFailed, Memory}
use Rattle.session_core.specs.declared.listing.Mark.{Mark}
use Rattle.session_core.specs.Configuring.{IsConfiguredBy, begins_with_event, late_by, late_in}
use Rattle.session_core.specs.Listings.{Lists, ListsUpTo, text_of_all}
use Rattle.session_core.specs.Marks.{AreMarks, IsListedLast}
use Rattle.session_core.specs.Outcomes.{IsOutcome, WantsMemoryIn, WritesOutcome}
use Rattle.session_core.specs.Running.{AreApplied, AreAppliedInPart, StatementRuns, mark_at}
use Rattle.session_core.specs.Sessions.{Session, configuration_of, configured_by, events_in, events_of, fault_behind, has_begun, has_events, session_behind, unless_late}
use Rattle.session_core.specs.Streams.{SinkState}
use Rattle.session_core.proofs.Applied.{AreApplied-append, AreApplied-behind, AreApplied-none}
use Rattle.session_core.proofs.Marked.{AreMarks-more}
use Rattle.session_core.proofs.Started.{IsFirst}
use Rattle.session_core.proofs.Streams.{appended_twice}
use Rattle.session_core.proofs.Standing.{config_of-more, events_of-more, front, goes_on, has_begun-more, no_events, rest_at, stops_at}

-- an event stood last, or stands next
pub record LastIsEvent (before : List Statement) : Type 0 where
  pub earlier : List Statement
  pub last : Statement
  pub is : before ≡ earlier ++ last ∷ []
  pub event : has_events last.says ≡ true

abbrev pub HasBegun : List Statement → List Statement → Type 0
HasBegun before rest = LastIsEvent before ⊎ (begins_with_event rest ≡ true)

-- The statements before these ran, from a first machine to this one: of their lines the first are written out, and the others held. What is told of
-- the next that is configuration is what was found before the first event.
pub record Progress (o : Options) (all before rest : List Statement) (late : Option Fault) (now : Machine) (out : List ℕ) (marks : List Mark) (text : List ℕ) : Type 0 where
  pub session : session_behind [] all ≡ session_behind before rest
  pub found : late ≡ late_in (configuration_of before) rest
  pub begun : HasBegun before rest
  pub first : Machine
  pub started : IsFirst o (configuration_of before) first
  pub whole : IsWhole first
  pub applied : AreApplied first (events_of before) now [] (out ++ text)
  pub marked : AreMarks o (session_behind [] all).stands (length out) out marks text

-- what a session comes to, with the lines that are written out and those that are held
pub record ComesTo (o : Options) (all : List Statement) (result : Result SessionEnd SessionFault) (out : List ℕ) (marks : List Mark) (text : List ℕ) : Type 0 where
  pub outcome : IsOutcome o (session_behind [] all) result (out ++ text)
  pub marked : AreMarks o (session_behind [] all).stands (length out) out marks text

-- more was written, behind what was written out
pub written_behind : {T : Type 0} (o : Options) (s : Session) (a b c : SinkState) (result : Result T SessionFault) (out : List ℕ) → Appends a.contents b.contents out
    → WritesOutcome o b c out s result → WritesOutcome o a c [] s result
written_behind o s a b c result out first more = record {
  written = out ++ more.written;
  appended = appended_twice a.contents b.contents c.contents out more.written first more.appended;
  outcome = more.outcome;
}

-- the same with options that are the same
pub with_options : {T : Type 0} (s : Session) (a c : SinkState) (result : Result T SessionFault) (out : List ℕ) (own o : Options) → own ≡ o
    → WritesOutcome own a c out s result → WritesOutcome o a c out s result
with_options s a c result out own o same w = subst (λ (x : Options). WritesOutcome x a c out s result) same w

abbrev Lists-applied : (o : Options) (before : List Statement) (events : List Event) (first last : Machine) (text : List ℕ) → IsFirst o (configuration_of before) first
    → IsWhole first → AreApplied first events last [] text → Lists o before events text
Lists-applied o before events first last text started whole a = record {
  first = first;
  last = last;
  started = started;
  whole = whole;
  entries = a.entries;
  drives = a.drives;
  text = a.text_so;
}

pub Progress-start : (o : Options) (all : List Statement) (from : ℕ) (c : Configuration) (late : Option Fault) (first : Machine) (marks : List Mark) (text : List ℕ)
    → IsConfiguredBy all from c → late ≡ late_in c (drop from all) → IsFirst o c first → IsWhole first → marks ≡ [] → text ≡ []
    → Progress o all (take from all) (drop from all) late first [] marks text
Progress-start o all from c late first marks text p found started whole no_marks no_text = record {
  session = p.session;
  found = found ∙ ap (λ x. late_in x (drop from all)) p.configured;
  begun = inr p.next;
  first = first;
  started = subst (λ x. IsFirst o x first) p.configured started;
  whole = whole;
  applied = rw (no_events (take from all) p.not_begun, no_text) (AreApplied-none first []);
  marked = rw no_marks no_text;
}

pub Progress-ends : (o : Options) (all before : List Statement) (late : Option Fault) (now : Machine) (out : List ℕ) (marks : List Mark) (text : List ℕ) (end : SessionEnd)
    → Progress o all before [] late now out marks text → ComesTo o all (Ok end) out marks text
Progress-ends o all before late now out marks text end p = record {
  outcome = rw p.session (refl, Lists-applied o before (events_of before) p.first now (out ++ text) p.started p.whole p.applied);
  marked = p.marked;
}

-- what was held is written out
pub Progress-written : (o : Options) (all before rest : List Statement) (late : Option Fault) (now : Machine) (out : List ℕ) (marks new_marks : List Mark)
    (text new : List ℕ) → Progress o all before rest late now out marks text
    → new_marks ≡ [] → new ≡ [] → Progress o all before rest late now (out ++ text) new_marks new
Progress-written o all before rest late now out marks new_marks text new p no_marks none = record {
  session = p.session;
  found = p.found;
  begun = p.begun;
  first = p.first;
  started = p.started;
  whole = p.whole;
  applied = rw (none, append-nil) p.applied;
  marked = rw no_marks none;
}

-- a statement that stands, and what stands behind it
next_stands : (all before rest : List Statement) (s : Statement) → session_behind [] all ≡ session_behind before (s ∷ rest) → fault_behind before s.says ≡ None
    → (after : List Statement) × ((session_behind [] all).stands ≡ before ++ s ∷ after)
next_stands all before rest s session none =
    let more = front (before ++ s ∷ []) rest in
    (more.0, ap (λ (x : Session). x.stands) (session ∙ goes_on before rest s none) ∙ more.1 ∙ append_assoc before (s ∷ []) more.0)

-- an event configures nothing
same_config : (c : Configuration) (says : Says) → has_events says ≡ true → configured_by c says ≡ c
same_config c (Events e times) is = refl
same_config c (Config s has_end) is = absurd cc
same_config c (Refused f) is = absurd cc

config_stays : (before : List Statement) (s : Statement) → has_events s.says ≡ true → configuration_of (before ++ s ∷ []) ≡ configuration_of before
config_stays before s is = config_of-more before s ∙ same_config (configuration_of before) s.says is

-- what is told of the next that is configuration is told behind an event too
late_behind : (c : Configuration) (says : Says) (more : Option Fault) → has_events says ≡ true → late_by c says more ≡ more
late_behind c (Events e times) more is = refl
late_behind c (Config s has_end) more is = absurd cc
late_behind c (Refused f) more is = absurd cc

or_true : (b : Bool) → (b || true) ≡ true
or_true true = refl
or_true false = refl

begun_last : (before : List Statement) → LastIsEvent before → has_begun before ≡ true
begun_last before l = ap has_begun l.is ∙ has_begun-more l.earlier l.last ∙ ap (λ b. has_begun l.earlier || b) l.event ∙ or_true (has_begun l.earlier)

-- what is told of configuration behind an event is a fault
late_some : (own : Option ConfigFault) (has_end : Bool) → is_some (unless_late own has_end true) ≡ true
late_some (Some own) has_end = refl
late_some None true = refl
late_some None false = refl

module _ (o : Options) (all before rest : List Statement) (s : Statement) (late : Option Fault) (now : Machine) (out : List ℕ) (marks : List Mark) (text : List ℕ)
    (p : Progress o all before (s ∷ rest) late now out marks text) where
  -- a fault of a statement
  stops : (f : Fault) → fault_behind before s.says ≡ Some f → ComesTo o all (Err (Stopped f s.line)) out marks text
  stops f some =
      let is = p.session ∙ stops_at before rest s f some in
      record { outcome = rw is (refl, Lists-applied o before (events_of before) p.first now (out ++ text) p.started p.whole p.applied); marked = p.marked }

  -- the first times of an event
  first_times : (e : Event) (times : ℕ) (new : List ℕ) → s.says ≡ Events e times → (a : AreAppliedInPart now e times text new)
      → take a.done (events_in s.says) ≡ replicate a.done e
  first_times e times new is a = ap (λ x. take a.done (events_in x)) is ∙ take-replicate a.done times e a.within

  within_statement : (e : Event) (times : ℕ) (new : List ℕ) → s.says ≡ Events e times → (a : AreAppliedInPart now e times text new)
      → a.done ≤ length (events_in s.says)
  within_statement e times new is a = rw is (omega (arith, length-replicate times e, a.within))

  -- the chain goes on with them
  listed : (e : Event) (times : ℕ) (new : List ℕ) → s.says ≡ Events e times → (a : AreAppliedInPart now e times text new)
      → IsListedLast o (session_behind [] all).stands s.line (out ++ text) (text_of_all a.applied.entries)
  listed e times new is a =
      let next = next_stands all before rest s p.session (ap (fault_behind before) is) in
      record {
        before = before;
        statement = s;
        after = next.0;
        stands_so = next.1;
        at = refl;
        done = a.done;
        in_statement = within_statement e times new is a;
        lists = record {
          lists = Lists-applied o before (events_of before) p.first now (out ++ text) p.started p.whole p.applied;
          last = a.reached;
          entries = a.applied.entries;
          drives = subst (λ es. Drives now es a.applied.entries a.reached) (sym (first_times e times new is a)) a.applied.drives;
          text = refl;
        };
      }

  -- all of it
  listed_all : (e : Event) (times : ℕ) (new : List ℕ) → s.says ≡ Events e times → (a : AreAppliedInPart now e times text new) → ListsUpTo o before s (out ++ new)
  listed_all e times new is a = record {
    done = a.done;
    in_statement = within_statement e times new is a;
    lists = rw (first_times e times new is a) (Lists-applied o before (events_of before ++ replicate a.done e) p.first a.reached (out ++ new) p.started p.whole
        (AreApplied-append p.first now a.reached (events_of before) (replicate a.done e) [] (out ++ text) (out ++ new) p.applied
        (AreApplied-behind now a.reached (replicate a.done e) out text new a.applied)));
  }

  -- memory was wanting for the next
  wanting : (e : Event) (times : ℕ) (new : List ℕ) → s.says ≡ Events e times → AreAppliedInPart now e times text new
      → WantsMemoryIn o (session_behind [] all).stands (out ++ new)
  wanting e times new is a =
      let next = next_stands all before rest s p.session (ap (fault_behind before) is) in
      record { before = before; statement = s; after = next.0; stands_so = next.1; lists = listed_all e times new is a }

  marked_more : (e : Event) (times : ℕ) (new : List ℕ) (new_marks : List Mark) → s.says ≡ Events e times → AreAppliedInPart now e times text new
      → new_marks ≡ marks ++ mark_at s.line text ∷ []
      → AreMarks o (session_behind [] all).stands (length out) out new_marks new
  marked_more e times new new_marks is a more =
      rw (more, a.applied.text_so) (AreMarks-more o (session_behind [] all).stands (length out) out marks text (text_of_all a.applied.entries) s.line (length text)
      (sym (length-append out text)) p.marked (listed e times new is a))

  -- all of its times
  Progress-more : (e : Event) (times : ℕ) (after : Machine) (new : List ℕ) (new_marks : List Mark) → s.says ≡ Events e times
      → new_marks ≡ marks ++ mark_at s.line text ∷ []
      → AreApplied now (replicate times e) after text new → Progress o all (before ++ s ∷ []) rest late after out new_marks new
  Progress-more e times after new new_marks is more a =
      let event : has_events s.says ≡ true = ap has_events is in
      let events : events_of (before ++ s ∷ []) ≡ events_of before ++ replicate times e = events_of-more before s
      ∙ ap (λ x. events_of before ++ events_in x) is in
      record {
        session = p.session ∙ goes_on before rest s (ap (fault_behind before) is);
        found = p.found ∙ late_behind (configuration_of before) s.says (late_in (configuration_of before) rest) event ∙
            ap (λ x. late_in x rest) (sym (config_stays before s event));
        begun = inl (record { earlier = before; last = s; is = refl; event = event });
        first = p.first;
        started = rw (config_stays before s event) p.started;
        whole = p.whole;
        applied = rw events (AreApplied-append p.first now after (events_of before) (replicate times e) [] (out ++ text) (out ++ new) p.applied
            (AreApplied-behind now after (replicate times e) out text new a));
        marked = marked_more e times new new_marks is (record { done = times; within = omega arith; reached = after; applied = a }) more;
      }

  wants : (e : Event) (times : ℕ) (new : List ℕ) (new_marks : List Mark) → s.says ≡ Events e times → new_marks ≡ marks ++ mark_at s.line text ∷ []
      → AreAppliedInPart now e times text new → ComesTo o all (Err Memory) out new_marks new
  wants e times new new_marks is more a = record { outcome = inl (wanting e times new is a); marked = marked_more e times new new_marks is a more }

  wants_first : (e : Event) (times : ℕ) → s.says ≡ Events e times → ComesTo o all (Err Memory) out marks text
  wants_first e times is = record {
    outcome = inl (wanting e times text is (record { done = 0; within = omega arith; reached = now; applied = AreApplied-none now text }));
    marked = p.marked;
  }

  -- configuration behind the first event
  has_begun_here : (says : Says) → s.says ≡ says → has_events says ≡ false → LastIsEvent before
  has_begun_here says is none = ⊎_elim (λ l. l) (λ next. absurd (let e : true ≡ false = sym next ∙ ap has_events is ∙ none in cc)) p.begun

  found_here : (statement : ConfigStatement) (has_end : Bool) → s.says ≡ Config statement has_end
      → late ≡ unless_late (config_fault (configuration_of before) statement) has_end true
  found_here statement has_end is = p.found ∙ ap (λ x. late_by (configuration_of before) x (late_in (configuration_of before) rest)) is

  found_some : (statement : ConfigStatement) (has_end : Bool) → s.says ≡ Config statement has_end → is_some late ≡ true
  found_some statement has_end is =
      ap is_some (found_here statement has_end is) ∙ late_some (config_fault (configuration_of before) statement) has_end

  stops_late : (statement : ConfigStatement) (has_end : Bool) (f : Fault) → s.says ≡ Config statement has_end → late ≡ Some f
      → ComesTo o all (Err (Stopped f s.line)) out marks text
  stops_late statement has_end f is told =
      let l = has_begun_here (Config statement has_end) is refl in
      let some : fault_behind before s.says ≡ Some f
      = ap (fault_behind before) is ∙ ap (unless_late (config_fault (configuration_of before) statement) has_end) (begun_last before l)
      ∙ sym (found_here statement has_end is) ∙ told in
      stops f some

  fails_by : (says : Says) (fault : SessionFault) (after : Machine) (new_marks : List Mark) (new : List ℕ) → s.says ≡ says
      → StatementRuns {T = Unit {0}} late now s.line says marks text (Err fault) after new_marks new
      → ComesTo o all (Err fault) out new_marks new
  fails_by (Events e times) Memory after new_marks new is h =
      ⊎_elim (λ a. wants e times new new_marks is a.0 a.1) (λ silent. rw (silent.marks_so, silent.text_so) (wants_first e times is)) h
  fails_by (Events e times) (Stopped f at) after new_marks new is h = absurd h
  fails_by (Events e times) (WriteFailed at) after new_marks new is h = absurd h
  fails_by (Refused own) fault after new_marks new is h = rw (h.0, h.1.marks_so, h.1.text_so) (stops own (ap (fault_behind before) is))
  fails_by (Config statement has_end) fault after new_marks new is h =
      rw (h.2, h.3.marks_so, h.3.text_so) (stops_late statement has_end h.0 is h.1)

  Progress-fails : (fault : SessionFault) (after : Machine) (new_marks : List Mark) (new : List ℕ)
      → StatementRuns {T = Unit {0}} late now s.line s.says marks text (Err fault) after new_marks new → ComesTo o all (Err fault) out new_marks new
  Progress-fails fault after new_marks new h = fails_by s.says fault after new_marks new refl h

  runs_by : (says : Says) (after : Machine) (new_marks : List Mark) (new : List ℕ) → s.says ≡ says
      → StatementRuns {T = Unit {0}} late now s.line says marks text (Ok tt) after new_marks new
      → Progress o all (before ++ s ∷ []) rest late after out new_marks new
  runs_by (Events e times) after new_marks new is h = Progress-more e times after new new_marks is h.0 h.1
  runs_by (Refused own) after new_marks new is h = absurd h
  runs_by (Config statement has_end) after new_marks new is h = absurd h

  Progress-runs : (after : Machine) (new_marks : List Mark) (new : List ℕ)
      → StatementRuns {T = Unit {0}} late now s.line s.says marks text (Ok tt) after new_marks new
      → Progress o all (before ++ s ∷ []) rest late after out new_marks new
  Progress-runs after new_marks new h = runs_by s.says after new_marks new refl h

-- the statement at an index of the rest behind the configuration
module _ (o : Options) (all rest : List Statement) (from index : ℕ) (s : Statement) (back : rest ≡ drop from all) (within : index < length rest)
    (item : s ≡ get_or rest index s) where
  pub Progress-next : (late : Option Fault) (now after : Machine) (out : List ℕ) (marks new_marks : List Mark) (text new : List ℕ)
      → Progress o all (take (from + index) all) (drop (from + index) all) late now out marks text
      → StatementRuns {T = Unit {0}} late now s.line s.says marks text (Ok tt) after new_marks new
      → Progress o all (take (from + (index + 1)) all) (drop (from + (index + 1)) all) late after out new_marks new
  Progress-next late now after out marks new_marks text new p h =
      let at = rest_at all rest from index s back within item in
      let here = rw at.0 at p in
      rw at.1
      (Progress-runs o all (take (from + index) all) (drop (from + (index + 1)) all) s late now out marks text here after new_marks new h)

  pub Progress-found : (late : Option Fault) (now : Machine) (out : List ℕ) (marks : List Mark) (text : List ℕ)
      (statement : ConfigStatement) (has_end : Bool) → Progress o all (take (from + index) all) (drop (from + index) all) late now out marks text
      → s.says ≡ Config statement has_end → is_some late ≡ true
  Progress-found late now out marks text statement has_end p is =
      let at = rest_at all rest from index s back within item in
      let here = rw at.0 at p in
      found_some o all (take (from + index) all) (drop (from + (index + 1)) all) s late now out marks text here statement has_end is

  pub Progress-last : (late : Option Fault) (now after : Machine) (out : List ℕ) (marks new_marks : List Mark) (text new : List ℕ)
      (fault : SessionFault) → Progress o all (take (from + index) all) (drop (from + index) all) late now out marks text
      → StatementRuns {T = Unit {0}} late now s.line s.says marks text (Err fault) after new_marks new → ComesTo o all (Err fault) out new_marks new
  Progress-last late now after out marks new_marks text new fault p h =
      let at = rest_at all rest from index s back within item in
      let here = rw at.0 at p in
      Progress-fails o all (take (from + index) all) (drop (from + (index + 1)) all) s late now out marks text here fault after new_marks new h
