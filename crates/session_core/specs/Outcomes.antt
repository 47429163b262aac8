-- A whole session: from the bytes that are read to the bytes that are written.
use Rattle.std.specs.Prelude.{◌≡◌, ◌⊎◌, ℕ, Bool, true, false, List, [], ◌∷◌, ◌++◌, Option, Some, None, Result, Ok, Err}
use Rattle.std.specs.Io.KnownBytes.{Appends}
use Rattle.session_text.specs.declared.statement.Ending.{Ending}
use Rattle.session_text.specs.declared.statement.Statement.{Statement}
use Rattle.run_options.specs.declared.Options.{Options}
use Rattle.session_core.specs.declared.SessionFault.{SessionFault}
use Rattle.session_core.specs.declared.SessionFault.TheVariants.{Stopped, WriteFailed, Memory}
use Rattle.session_core.specs.declared.stream.Sink.{Sink}
use Rattle.session_core.specs.declared.stream.Source.{Source}
use Rattle.session_core.specs.Failures.{AreTold}
use Rattle.session_core.specs.Listings.{Lists, ListsUpTo, StopsIn}
use Rattle.session_core.specs.Sessions.{Session, events_of, session_behind, session_of}
use Rattle.session_core.specs.Streams.{IsRead, IsReadInPart, SinkState, SourceState, sink_state, source_state}

-- memory was wanting within a statement: the events before it are listed, and of its own those before one for which memory was wanting
pub record WantsMemoryIn (o : Options) (stands : List Statement) (written : List ℕ) : Type 0 where
  pub before : List Statement
  pub statement : Statement
  pub after : List Statement
  pub stands_so : stands ≡ before ++ statement ∷ after
  pub lists : ListsUpTo o before statement written

-- memory was wanting before the first statement
abbrev pub WritesNothing : List ℕ → Type 0
WritesNothing written = written ≡ []

-- The answer of a session with these options, and what is written with it. All was read; or the first fault and its line; or the line of the statement
-- in whose lines the writing ended, where a line was still to be written; or memory was wanting.
abbrev pub IsOutcome : {T : Type 0} → Options → Session → Result T SessionFault → List ℕ → Type 0
IsOutcome o s (Ok end) written = (s.fault ≡ None) × Lists o s.stands (events_of s.stands) written
IsOutcome o s (Err (Stopped fault line)) written = (s.fault ≡ Some (fault, line)) × Lists o s.stands (events_of s.stands) written
IsOutcome o s (Err (WriteFailed line)) written = StopsIn o s.stands line written
IsOutcome o s (Err Memory) written = WantsMemoryIn o s.stands written ⊎ WritesNothing written

-- what is written with the answer, behind what was written before
pub record WritesOutcome {T : Type 0} (o : Options) (old new : SinkState) (before : List ℕ) (s : Session) (result : Result T SessionFault) : Type 0 where
  pub written : List ℕ
  pub appended : Appends old.contents new.contents written
  pub outcome : IsOutcome o s result (before ++ written)

-- so of the session of these statements, before which nothing was written
abbrev pub WritesSession : {T : Type 0} → Options → SinkState → SinkState → List Statement → Result T SessionFault → Type 0
WritesSession o old new statements result = WritesOutcome o old new [] (session_behind [] statements) result

-- the answer is that the listing cannot be written further
abbrev pub is_write_fault : {T : Type 0} → Result T SessionFault → Bool
is_write_fault (Ok end) = false
is_write_fault (Err (Stopped fault line)) = false
is_write_fault (Err (WriteFailed line)) = true
is_write_fault (Err Memory) = false

-- a text was read, and what was written is the listing of its session with these options
pub record Ran {T : Type 0} (o : Options) (source source_after : SourceState) (sink sink_after : SinkState) (result : Result T SessionFault) : Type 0 where
  pub text : List ℕ
  pub ending : Ending
  pub read : IsRead source source_after text ending
  pub writes : WritesOutcome o sink sink_after [] (session_of ending text) result

-- memory was wanting while the text was read, before a call of either stream failed
pub record Starved {T : Type 0} (source source_after : SourceState) (sink sink_after : SinkState) (result : Result T SessionFault) : Type 0 where
  pub memory : result ≡ Err Memory
  pub read : IsReadInPart source source_after
  pub writes : Appends sink.contents sink_after.contents []

abbrev pub IsRun : {T : Type 0} → Options → SourceState → SourceState → SinkState → SinkState → Result T SessionFault → Type 0
IsRun o source source_after sink sink_after result = Ran o source source_after sink sink_after result ⊎ Starved source source_after sink sink_after result

-- so of two streams, of which these functions say what is known of their reader and of their writer
abbrev pub IsRunOfStreams : {R W T : Type 0} → (R → Option (List ℕ)) → (W → Option (List ℕ)) → Options → Source R → Source R → Sink W → Sink W →
    Result T SessionFault → Type 0
IsRunOfStreams remaining contents o source source_after sink sink_after result =
    IsRun o (source_state remaining source) (source_state remaining source_after) (sink_state contents sink) (sink_state contents sink_after) result

-- a session with these options, of a reader and a writer of which so much is known before and behind it: their calls failed or did not, and that is told
pub record IsSession {T : Type 0} (o : Options) (unread rest old new : Option (List ℕ)) (result : Result T SessionFault) : Type 0 where
  pub read_failed : Bool
  pub write_failed : Bool
  pub run : IsRun o (record { unread = unread; failed = false }) (record { unread = rest; failed = read_failed })
      (record { contents = old; failed = false }) (record { contents = new; failed = write_failed }) result
  pub told : AreTold read_failed write_failed result
