-- A session that is played on: which events are added, and what is written. (This profile)
use Rattle.std.specs.Prelude.{◌≡◌, ◌⊎◌, ℕ, ◌<◌, ◌≤◌, List, [], ◌++◌, length, take, true, is_some, Option, Some, None, Result, Err}
use Rattle.std.specs.Io.KnownBytes.{Appends}
use Rattle.cb_meaning.specs.declared.layout.TheConstants.{QUEUE_LAYOUT}
use Rattle.sched_core.specs.Starting.{IsStarted}
use Rattle.sched_core.specs.Systems.{Machine}
use Rattle.session_core.specs.Outcomes.{WritesOutcome}
use Rattle.session_core.specs.Sessions.{Session, configuration_of, refuses_in, session_of}
use Rattle.session_core.specs.Streams.{IsRead, SinkState, SourceState, sink_state, source_state}
use Rattle.session_core.specs.declared.TheConstants.{MOST_BYTES}
use Rattle.run_options.specs.declared.Options.{Options}
use Rattle.session_core.specs.declared.SessionEnd.{SessionEnd}
use Rattle.session_core.specs.declared.SessionFault.{SessionFault}
use Rattle.session_core.specs.declared.SessionFault.TheVariants.{Memory}
use Rattle.session_core.specs.declared.stream.Sink.{Sink}
use Rattle.session_core.specs.declared.stream.Source.{Source}
use Rattle.session_text.specs.declared.fault.Fault.{Fault}
use Rattle.session_text.specs.declared.statement.Ending.{Ending}
use Rattle.session_text.specs.declared.statement.Statement.{Statement}
use Rattle.play_core.specs.Given.{statements_at}
use Rattle.play_core.specs.Searching.{Plays}
use Rattle.play_core.specs.Texts.{line_behind, with_events}
use Rattle.play_core.specs.declared.given.Given.{Given}
use Rattle.play_core.specs.declared.giving.Added.{Added}
use Rattle.play_core.specs.declared.text.Extended.{Extended}
use Rattle.play_core.specs.declared.text.Extended.TheVariants.{Cut, HasFault, OutOfMemory, TooLong, Written}

-- A session without a fault leads from a machine that it configures to one that takes the added events, one after another, until nothing moves.
pub record IsPlayedOut (o : Options) (s : Session) (given : List Given) : Type 0 where
  pub first : Machine
  pub started : IsStarted (configuration_of s.stands) (refuses_in o) o.views o.explains QUEUE_LAYOUT first
  pub plays : Plays first s.stands given

-- To a session with a fault nothing is added.
abbrev pub IsFoundBy : Options → Session → Option (Fault × ℕ) → List Given → Type 0
IsFoundBy o s None given = IsPlayedOut o s given
IsFoundBy o s (Some fault) given = given ≡ []

-- the same, where they are looked for
abbrev pub AreFound : Options → Session → Option Added → Type 0
AreFound o s None = is_some s.fault ≡ true
AreFound o s (Some added) = (s.fault ≡ None) × IsPlayedOut o s added.given.items

abbrev pub IsFound : Options → Session → List Given → Type 0
IsFound o s given = IsFoundBy o s s.fault given

-- a session with statements more, unless it has a fault
abbrev pub behind : Option (Fault × ℕ) → List Statement → List Statement → List Statement
behind None stands added = stands ++ added
behind (Some fault) stands added = stands

abbrev pub played : Session → List Statement → Session
played s added = record { stands = behind s.fault s.stands added; fault = s.fault }

-- The text was read, the events were found, and what is written is the listing of the session with them, each with the line that it has behind the text.
pub record PlaysOn (o : Options) (source source_after : SourceState) (sink sink_after : SinkState) (given : List Given)
    (result : Result SessionEnd SessionFault) : Type 0 where
  pub text : List ℕ
  pub ending : Ending
  pub read : IsRead source source_after text ending
  pub found : IsFound o (session_of ending text) given
  pub writes : WritesOutcome o sink sink_after [] (played (session_of ending text) (statements_at (line_behind text) given)) result

-- memory was wanting before the first line was written
pub record Starves (sink sink_after : SinkState) (given : List Given)
    (result : Result SessionEnd SessionFault) : Type 0 where
  pub memory : result ≡ Err Memory
  pub writes : Appends sink.contents sink_after.contents []
  pub none : given ≡ []

-- the session of a source is played on, and its listing is written to a sink; or memory is missing before
abbrev pub PlaysStreams : {R W : Type 0} → (R → Option (List ℕ)) → (W → Option (List ℕ)) → Options → Source R → Source R → Sink W → Sink W
    → List Given → Result SessionEnd SessionFault → Type 0
PlaysStreams remaining contents o source source_after sink sink_after given result =
    PlaysOn o (source_state remaining source) (source_state remaining source_after) (sink_state contents sink) (sink_state contents sink_after) given result
    ⊎ Starves (sink_state contents sink) (sink_state contents sink_after) given result

-- The session with its events, as they are written; nothing is written of one with a fault, or where it would be too long.
abbrev pub IsAdded : Options → Session → List Given → Type 0
IsAdded o s given = (s.fault ≡ None) × IsPlayedOut o s given

abbrev pub IsExtended : Options → Session → List ℕ → SinkState → SinkState → Extended → Type 0
IsExtended o s text sink sink_after (Written waits) =
    (given : List Given) × IsAdded o s given × (length (with_events text given) ≤ MOST_BYTES)
    × Appends sink.contents sink_after.contents (with_events text given)
IsExtended o s text sink sink_after Cut =
    (given : List Given) × IsAdded o s given × ((n : ℕ) × Appends sink.contents sink_after.contents (take n (with_events text given)))
IsExtended o s text sink sink_after (HasFault fault line) = (s.fault ≡ Some (fault, line)) × Appends sink.contents sink_after.contents []
IsExtended o s text sink sink_after TooLong =
    (given : List Given) × IsAdded o s given × (MOST_BYTES < length (with_events text given)) × Appends sink.contents sink_after.contents []
IsExtended o s text sink sink_after OutOfMemory = Appends sink.contents sink_after.contents []

-- the fault of a session that has one, or memory was wanting
abbrev pub IsFaultTold : Session → Extended → Type 0
IsFaultTold s (HasFault fault line) = s.fault ≡ Some (fault, line)
IsFaultTold s OutOfMemory = Unit {0}
IsFaultTold s other = ⊥

-- the text was read; or memory was wanting before
pub record Extends (o : Options) (source source_after : SourceState) (sink sink_after : SinkState) (result : Extended) : Type 0 where
  pub text : List ℕ
  pub ending : Ending
  pub read : IsRead source source_after text ending
  pub extended : IsExtended o (session_of ending text) text sink sink_after result

pub record ExtendsNone (sink sink_after : SinkState) (result : Extended) : Type 0 where
  pub memory : result ≡ OutOfMemory
  pub writes : Appends sink.contents sink_after.contents []

-- the session of a source is written with its events to a sink; or memory is missing before
abbrev pub ExtendsStreams : {R W : Type 0} → (R → Option (List ℕ)) → (W → Option (List ℕ)) → Options → Source R → Source R → Sink W → Sink W
    → Extended → Type 0
ExtendsStreams remaining contents o source source_after sink sink_after result =
    Extends o (source_state remaining source) (source_state remaining source_after) (sink_state contents sink) (sink_state contents sink_after) result
    ⊎ ExtendsNone (sink_state contents sink) (sink_state contents sink_after) result
