-- What the program ends with. (This profile)
use Rattle.std.specs.Prelude.{◌≡◌, ◌⊎◌, ℕ, Bool, true, false, List, codes, Option, Result, Ok, Err}
use Rattle.command_line.specs.CommandLines.{has_text, texts}
use Rattle.command_line.specs.declared.options.Asked.{Asked}
use Rattle.session_core.specs.Streams.{SinkState, SourceState, sink_state, source_state}
use Rattle.session_core.specs.declared.stream.Sink.{Sink}
use Rattle.session_core.specs.declared.stream.Source.{Source}
use Rattle.run_options.specs.declared.Options.{Options}
use Rattle.session_core.specs.declared.SessionEnd.{SessionEnd}
use Rattle.session_core.specs.declared.SessionFault.{SessionFault}
use Rattle.session_core.specs.declared.SessionFault.TheVariants.{Memory, Stopped, WriteFailed}
use Rattle.play_core.specs.Playing.{Extends, ExtendsNone, PlaysOn, Starves}
use Rattle.play_core.specs.declared.given.Given.{Given}
use Rattle.play_core.specs.declared.text.Extended.{Extended}
use Rattle.play_core.specs.declared.text.Extended.TheVariants.{Cut, HasFault, OutOfMemory, TooLong, Written}

-- the status of a session's end
abbrev pub status_of : Result SessionEnd SessionFault → ℕ
status_of (Ok end) = 0
status_of (Err (Stopped fault line)) = 1
status_of (Err (WriteFailed line)) = 1
status_of (Err Memory) = 3

-- and of its text with the added events
abbrev pub status_of_text : Extended → ℕ
status_of_text (Written waits) = 0
status_of_text Cut = 1
status_of_text (HasFault fault line) = 1
status_of_text TooLong = 1
status_of_text OutOfMemory = 3

-- the status is this one; or memory was wanting for what is said of what waits
abbrev pub IsStatus : ℕ → ℕ → Type 0
IsStatus wanted status = (status ≡ wanted) ⊎ (status ≡ 3)

-- the session was played on with these options, and its listing was written
pub record Plays (o : Options) (source source_after : SourceState) (sink sink_after : SinkState) (status : ℕ) : Type 0 where
  pub given : List Given
  pub outcome : Result SessionEnd SessionFault
  pub plays : PlaysOn o source source_after sink sink_after given outcome ⊎ Starves sink sink_after given outcome
  pub status_so : IsStatus (status_of outcome) status

-- or its text with the added events
pub record PlaysAsText (o : Options) (source source_after : SourceState) (sink sink_after : SinkState) (status : ℕ) : Type 0 where
  pub extended : Extended
  pub extends : Extends o source source_after sink sink_after extended ⊎ ExtendsNone sink sink_after extended
  pub status_so : IsStatus (status_of_text extended) status

-- the text where the events are asked for
abbrev pub PlaysAsAsked : Bool → Options → SourceState → SourceState → SinkState → SinkState → ℕ → Type 0
PlaysAsAsked true o source source_after sink sink_after status = PlaysAsText o source source_after sink sink_after status
PlaysAsAsked false o source source_after sink sink_after status = Plays o source source_after sink sink_after status

-- the same of a source and a sink, as the command line asks
abbrev pub RunsAsAsked : {R W : Type 0} → (R → Option (List ℕ)) → (W → Option (List ℕ)) → Asked → Source R → Source R → Sink W → Sink W → ℕ → Type 0
RunsAsAsked remaining contents asked source source_after sink sink_after status =
    PlaysAsAsked (has_text (codes "events") (texts asked.given.items)) asked.options
    (source_state remaining source) (source_state remaining source_after) (sink_state contents sink) (sink_state contents sink_after) status
