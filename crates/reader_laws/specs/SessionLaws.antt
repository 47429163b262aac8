-- Sessions that are spelled read back.
use Rattle.std.specs.Prelude.{◌≡◌, List, All}
use Rattle.session_text.specs.declared.statement.Ending.TheVariants.{Whole}
use Rattle.session_text.specs.Statements.{statements_of}
use Rattle.reader_laws.specs.SpelledSessions.{IsSaid, Spelled, numbered, text_of}

abbrev pub SessionReadsBack : Type 0
SessionReadsBack = (session : List Spelled) → All (λ s. IsSaid s.says) session → statements_of Whole (text_of session) ≡ numbered 1 session
