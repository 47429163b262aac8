-- What is seen of a session's streams, and what was read of a source.
use Rattle.std.specs.Prelude.{◌≡◌, ℕ, ◌≤◌, Bool, true, false, List, [], ◌∷◌, ◌++◌, length, Option}
use Rattle.std.specs.Io.KnownBytes.{Consumes, IsAtEnd}
use Rattle.session_core.specs.declared.TheConstants.{MOST_BYTES}
use Rattle.session_core.specs.declared.stream.Sink.{Sink}
use Rattle.session_core.specs.declared.stream.Source.{Source}
use Rattle.session_text.specs.declared.statement.Ending.{Ending}
use Rattle.session_text.specs.declared.statement.Ending.TheVariants.{Whole, TooLong, ReadFailed}

-- the bytes that a source's reader has still to give, where they are known, and whether a call of it has failed
pub record SourceState : Type 0 where
  pub unread : Option (List ℕ)
  pub failed : Bool

abbrev pub source_state : {R : Type 0} → (R → Option (List ℕ)) → Source R → SourceState
source_state remaining s = record { unread = remaining s.reader.now; failed = s.failed }

-- the bytes that a sink's writer holds, where they are known, and whether a call of it has failed
pub record SinkState : Type 0 where
  pub contents : Option (List ℕ)
  pub failed : Bool

abbrev pub sink_state : {W : Type 0} → (W → Option (List ℕ)) → Sink W → SinkState
sink_state contents s = record { contents = contents s.writer.now; failed = s.failed }

-- This text was read, and the reading ended so: at the end, at the first byte past the limit, or before either at a call that failed. The
-- last alone leaves a source that has failed.
abbrev pub IsRead : SourceState → SourceState → List ℕ → Ending → Type 0
IsRead old new text Whole = Consumes old.unread new.unread text × IsAtEnd new.unread × (length text ≤ MOST_BYTES) × (new.failed ≡ false)
IsRead old new text TooLong = (b : ℕ) × Consumes old.unread new.unread (text ++ b ∷ []) × (length text ≡ MOST_BYTES) × (new.failed ≡ false)
IsRead old new text ReadFailed = Consumes old.unread new.unread text × (length text ≤ MOST_BYTES) × (new.failed ≡ true)

-- some text was read, and no call failed
pub record IsReadInPart (old new : SourceState) : Type 0 where
  pub seen : List ℕ
  pub consumed : Consumes old.unread new.unread seen
  pub unfailed : new.failed ≡ false
