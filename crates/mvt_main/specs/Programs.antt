-- What the program ends with.
use Rattle.std.specs.Prelude.{◌≡◌, ℕ, Bool, List, [], ◌++◌, codes, decimal, Option, Result, Ok, Err}
use Rattle.std.specs.Bool.{OnTrue}
use Rattle.std.specs.Io.KnownBytes.{Appends}
use Rattle.clap.specs.Words.{Text, kind_of}
use Rattle.clap.specs.declared.error.Error.{Error}
use Rattle.command_line.specs.CommandLines.{IsRead}
use Rattle.command_line.specs.Endings.{EndsUnrun, prompt_of}
use Rattle.command_line.specs.declared.ended.Ended.{Ended}
use Rattle.command_line.specs.declared.options.Asked.{Asked}
use Rattle.run_options.specs.declared.Options.{Options}
use Rattle.session_core.specs.declared.SessionEnd.{SessionEnd}
use Rattle.session_core.specs.declared.SessionFault.{SessionFault}
use Rattle.session_core.specs.declared.SessionFault.TheVariants.{Stopped, WriteFailed, Memory}
use Rattle.session_core.specs.Failures.{AreTold}
use Rattle.session_core.specs.Outcomes.{IsRun}
use Rattle.session_core.specs.Streams.{SinkState, SourceState, sink_state, source_state}
use Rattle.session_core.specs.declared.stream.Sink.{Sink}
use Rattle.session_core.specs.declared.stream.Source.{Source}
use Rattle.session_text.specs.FaultNumbers.{number_of}
use Rattle.mvt_main.specs.declared.report.Message.{Message}
use Rattle.mvt_main.specs.declared.report.Message.TheVariants.{Nothing, Fault, OutOfMemory}

-- the status and the message of a session's end
abbrev pub reported : Result SessionEnd SessionFault → ℕ × Message
reported (Ok end) = (0, Nothing)
reported (Err (Stopped fault line)) = (1, Fault (number_of fault) line)
reported (Err (WriteFailed line)) = (1, Fault 7 line)
reported (Err Memory) = (3, OutOfMemory)

abbrev pub text_of : Message → List ℕ
text_of Nothing = []
text_of (Fault number line) = codes "session fault S" ++ decimal number ++ codes " at line " ++ decimal line
text_of OutOfMemory = codes "out of memory"

-- what is said of it on standard error, on a line of its own
abbrev pub said_of : Message → List ℕ
said_of Nothing = []
said_of (Fault number line) = text_of (Fault number line) ++ codes "\n"
said_of OutOfMemory = text_of OutOfMemory ++ codes "\n"

-- what is told of a session that was run with these options, of a source and a sink of which this is seen before and behind it
pub record IsReported (o : Options) (source source_after : SourceState) (sink sink_after : SinkState) (answer : ℕ × Message) : Type 0 where
  pub outcome : Result SessionEnd SessionFault
  pub run : IsRun o source source_after sink sink_after outcome
  pub failures : AreTold source_after.failed sink_after.failed outcome
  pub told : answer ≡ reported outcome

-- the same of a source and a sink
abbrev pub ReportsRun : {R W : Type 0} → (R → Option (List ℕ)) → (W → Option (List ℕ)) → Options → Source R → Source R → Sink W → Sink W
    → ℕ × Message → Type 0
ReportsRun remaining contents o source source_after sink sink_after answer =
    IsReported o (source_state remaining source) (source_state remaining source_after) (sink_state contents sink) (sink_state contents sink_after) answer

-- A session was run with these options, and what is told of it is said, where all of that was written. Before it stands from where a
-- session is read, where that is a terminal.
pub record EndsSession (o : Options) (at_terminal : Bool) (source source_after : SourceState) (sink sink_after : SinkState)
    (errors errors_after : Option (List ℕ)) (answer : Ended) : Type 0 where
  pub message : Message
  pub reported : IsReported o source source_after sink sink_after (answer.status, message)
  pub said : OnTrue answer.said (Appends errors errors_after (prompt_of (codes "mvt") at_terminal ++ said_of message))

-- the same of a source, a sink and the stream of errors
abbrev pub SaysEnd : {R W E : Type 0} → (R → Option (List ℕ)) → (W → Option (List ℕ)) → (E → Option (List ℕ)) → Options → Bool
    → Source R → Source R → Sink W → Sink W → E → E → Ended → Type 0
SaysEnd remaining contents said o at_terminal source source_after sink sink_after errors errors_after answer =
    EndsSession o at_terminal (source_state remaining source) (source_state remaining source_after) (sink_state contents sink) (sink_state contents sink_after)
    (said errors) (said errors_after) answer

-- The program ended: the words were read, and with the options that they ask for a session was run; or they ask for none, and neither
-- stream was called.
abbrev pub EndsAs : Result Asked Error → Bool → SourceState → SourceState → SinkState → SinkState → Option (List ℕ) → Option (List ℕ)
    → Ended → Type 0
EndsAs (Ok asked) at_terminal source source_after sink sink_after errors errors_after answer =
    EndsSession asked.options at_terminal source source_after sink sink_after errors errors_after answer
EndsAs (Err error) at_terminal source source_after sink sink_after errors errors_after answer =
    (source_after ≡ source) × (sink_after ≡ sink) × EndsUnrun (kind_of error) errors errors_after answer

-- the words are those of the program `mvt`, which has no option of its own
pub record IsEnded (words : List Text) (at_terminal : Bool) (source source_after : SourceState) (sink sink_after : SinkState)
    (errors errors_after : Option (List ℕ)) (answer : Ended) : Type 0 where
  pub read : Result Asked Error
  pub read_so : IsRead (codes "mvt") [] words read
  pub ends : EndsAs read at_terminal source source_after sink sink_after errors errors_after answer

-- so it ends over a source, a sink and the stream of errors
abbrev pub RunsMvt : {R W E : Type 0} → (R → Option (List ℕ)) → (W → Option (List ℕ)) → (E → Option (List ℕ)) → List Text → Bool
    → Source R → Source R → Sink W → Sink W → E → E → Ended → Type 0
RunsMvt remaining contents said words at_terminal source source_after sink sink_after errors errors_after answer =
    IsEnded words at_terminal (source_state remaining source) (source_state remaining source_after) (sink_state contents sink) (sink_state contents sink_after)
    (said errors) (said errors_after) answer
