-- The machine that events leave, one part behind another.
use Rattle.std.proofs.Common.{ℕ, List, [], ◌++◌, replicate, Option, Result, Ok, Err, refl}
use Rattle.std.specs.Prelude.{OnErr}
use Rattle.std.specs.Io.KnownBytes.{Appends}
use Rattle.session_input.specs.declared.event.Event.{Event}
use Rattle.sched_core.specs.Systems.{Machine}
use Rattle.session_text.specs.declared.fault.Fault.{Fault}
use Rattle.session_text.specs.declared.statement.Says.{Says}
use Rattle.session_text.specs.declared.statement.Says.TheVariants.{Config, Events, Refused}
use Rattle.session_core.specs.declared.listing.Mark.{Mark}
use Rattle.session_core.specs.Leaving.{IsLeft, ListsWhole, WritesWhole, reached_so}
use Rattle.session_core.specs.Running.{AreApplied, StatementRuns}
use Rattle.session_core.specs.Streams.{SinkState}
use Rattle.session_core.proofs.Applied.{AreApplied-append, AreApplied-behind, AreApplied-none}
use Rattle.session_core.proofs.Streams.{appended_twice}

pub nothing_left : (machine : Machine) (text : List ℕ) → ListsWhole machine machine text text
nothing_left machine text = record { events = []; reached = machine; applied = AreApplied-none machine text; left = reached_so refl }

pub all_left : (old new : Machine) (events : List Event) (text new_text : List ℕ) → AreApplied old events new text new_text → ListsWhole old new text new_text
all_left old new events text new_text a = record { events = events; reached = new; applied = a; left = reached_so refl }

pub part_left : (old reached new : Machine) (events : List Event) (text new_text : List ℕ) → AreApplied old events reached text new_text → IsLeft reached new
    → ListsWhole old new text new_text
part_left old reached new events text new_text a left = record { events = events; reached = reached; applied = a; left = left }

-- where an answer is an error
pub left_on_err : {T E : Type 0} (r : Result T E) (reached new : Machine) → IsLeft reached new → OnErr r (IsLeft reached new)
left_on_err (Ok v) reached new h = tt
left_on_err (Err e) reached new h = h

-- behind events of which all lines are written out or held
pub ListsWhole-behind : (first old new : Machine) (events : List Event) (out text new_text : List ℕ) → AreApplied first events old [] (out ++ text)
    → ListsWhole old new text new_text → ListsWhole first new [] (out ++ new_text)
ListsWhole-behind first old new events out text new_text a l = record {
  events = events ++ l.events;
  reached = l.reached;
  applied = AreApplied-append first old l.reached events l.events [] (out ++ text) (out ++ new_text) a
      (AreApplied-behind old l.reached l.events out text new_text l.applied);
  left = l.left;
}

pub written_whole : (a : SinkState) (b : Option (List ℕ)) (c : SinkState) (old new : Machine) (out text : List ℕ) → Appends a.contents b out
    → Appends b c.contents text → ListsWhole old new [] (out ++ text) → WritesWhole a c old new
written_whole a b c old new out text first more l = record {
  written = out ++ text;
  appended = appended_twice a.contents b c.contents out text first more;
  lists = l;
}

-- a statement that stands goes on from there
module _ (late : Option Fault) (first now new : Machine) (line : ℕ) (marks new_marks : List Mark) (text new_text out : List ℕ) (events : List Event)
    (a : AreApplied first events now [] (out ++ text)) where
  pub applied_more : (says : Says) → StatementRuns {T = Unit {0}} late now line says marks text (Ok tt) new new_marks new_text
      → (more : List Event) × AreApplied first more new [] (out ++ new_text)
  applied_more (Events event times) h = (
    events ++ replicate times event,
    AreApplied-append first now new events (replicate times event) [] (out ++ text) (out ++ new_text) a
        (AreApplied-behind now new (replicate times event) out text new_text h.1),
  )
  applied_more (Refused own) h = absurd h
  applied_more (Config statement has_end) h = absurd h
