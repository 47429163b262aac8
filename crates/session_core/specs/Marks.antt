-- Where the lines of each statement begin in a listing, and what the writing of it comes to.
use Rattle.std.specs.Prelude.{◌≡◌, ℕ, ◌+◌, ◌<◌, ◌≤◌, List, [], ◌∷◌, ◌++◌, length, take, Result, Err}
use Rattle.session_text.specs.declared.statement.Statement.{Statement}
use Rattle.run_options.specs.declared.Options.{Options}
use Rattle.session_core.specs.declared.SessionEnd.{SessionEnd}
use Rattle.session_core.specs.declared.SessionFault.{SessionFault}
use Rattle.session_core.specs.declared.listing.Mark.{Mark}
use Rattle.session_core.specs.Listings.{ListsOn, StopsIn}
use Rattle.session_core.specs.Outcomes.{IsOutcome, WritesOutcome}
use Rattle.session_core.specs.Sessions.{Session, events_in}
use Rattle.session_core.specs.Streams.{SinkState}

-- a statement of this line is listed last, behind what was listed earlier: with this
pub record IsListedLast (o : Options) (stands : List Statement) (line : ℕ) (earlier own : List ℕ) : Type 0 where
  pub before : List Statement
  pub statement : Statement
  pub after : List Statement
  pub stands_so : stands ≡ before ++ statement ∷ after
  pub at : statement.line ≡ line
  pub done : ℕ
  pub in_statement : done ≤ length (events_in statement.says)
  pub lists : ListsOn o before (take done (events_in statement.says)) earlier own

-- these statements wrote this text, each its own part, behind what was listed earlier; the marks count from behind the first bytes of that
abbrev pub AreMarks : Options → List Statement → ℕ → List ℕ → List Mark → List ℕ → Type 0
AreMarks o stands out earlier [] text = text ≡ []
AreMarks o stands out earlier (mark ∷ marks) text =
    (part : List ℕ) × (rest : List ℕ) × (text ≡ part ++ rest) × (out + mark.start ≡ length earlier) × IsListedLast o stands mark.line earlier part
    × AreMarks o stands out (earlier ++ part) marks rest

-- in the text of these marks a line is that of the statement whose lines have the byte after so many
abbrev pub IsLineAt : List Mark → ℕ → ℕ → Type 0
IsLineAt marks taken line = (o : Options) (stands : List Statement) (before text : List ℕ) → AreMarks o stands (length before) before marks text →
    taken < length text → StopsIn o stands line (before ++ take taken text)

-- A fault of the writing of a text that is held is what the session comes to, whichever it is of which these are the marks.
abbrev pub IsFaultByMarks : SinkState → SinkState → List Mark → List ℕ → SessionFault → Type 0
IsFaultByMarks sink sink_after marks held fault = (o : Options) (s : Session) (before : List ℕ) →
    AreMarks o s.stands (length before) before marks held → WritesOutcome {T = SessionEnd} o sink sink_after before s (Err fault)

-- And so is the answer where the text was held with an outcome.
abbrev pub IsEndByMarks : {T : Type 0} → SinkState → SinkState → List Mark → List ℕ → Result T SessionFault → Result T SessionFault → Type 0
IsEndByMarks sink sink_after marks held outcome result = (o : Options) (s : Session) (before : List ℕ) → IsOutcome o s outcome (before ++ held) →
    AreMarks o s.stands (length before) before marks held → WritesOutcome o sink sink_after before s result
