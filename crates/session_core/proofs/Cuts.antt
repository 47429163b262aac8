-- A text that a failed read cuts: its last statement, and what its session tells.
use Rattle.std.proofs.Common.{◌≡◌, ◌⊎◌, ℕ, ◌+◌, ◌<◌, Bool, true, false, cond, List, [], ◌∷◌, ◌++◌, length, Option, Some, None, position, refl, sym, ap, ◌∙◌, inl, inr, ⊎_elim, append_assoc, arith}
use Rattle.std.proofs.lemmas.List.{append-nil}
use Rattle.std.specs.List.{position_or_len}
use Rattle.session_text.specs.declared.fault.Fault.{Fault}
use Rattle.session_text.specs.declared.fault.Fault.TheVariants as fault
use Rattle.session_text.specs.declared.statement.Block.{Block}
use Rattle.session_text.specs.declared.statement.Ending.TheVariants.{ReadFailed}
use Rattle.session_text.specs.declared.statement.LineSays.{LineSays}
use Rattle.session_text.specs.declared.statement.LineSays.TheVariants as line
use Rattle.session_text.specs.declared.statement.Says.TheVariants.{Refused}
use Rattle.session_text.specs.declared.statement.Statement.{Statement}
use Rattle.session_text.specs.Lines.{lines_of}
use Rattle.session_text.specs.Statements.{behind_end, block_to, by_line, is_end, says_of, statement_at, statements_from}
use Rattle.session_text.proofs.Places.{first_at}
use Rattle.session_core.specs.Failures.{IsStoppedAtCut, IsStoppedIn, TellsCut}
use Rattle.session_core.specs.Sessions.{Session, fault_behind, session_behind, session_by, session_of}

abbrev cut_at : ℕ → Statement
cut_at n = statement_at n (Refused fault.ReadFailed)

-- the last of these tells of a failed read
record IsCut (statements : List Statement) : Type 0 where
  pub whole : List Statement
  pub line : ℕ
  pub last : statements ≡ whole ++ cut_at line ∷ []

cut_more : (s : Statement) (statements : List Statement) → IsCut statements → IsCut (s ∷ statements)
cut_more s statements c = record { whole = s ∷ c.whole; line = c.line; last = ap (λ x. s ∷ x) c.last }

abbrev HasEnd : List (List ℕ) → Type 0
HasEnd rows = position_or_len is_end rows < length rows

cut_block : (at : Option ℕ) (n : ℕ) (block : Block) (rows : List (List ℕ)) (behind : List Statement) → position is_end rows ≡ at
    → (HasEnd rows → IsCut behind) → IsCut (block_to at ReadFailed n block rows behind)
cut_block None n block rows behind is more = record { whole = []; line = n; last = refl }
cut_block (Some end) n block rows behind is more = cut_more _ behind (more (first_at is_end rows end is).1)

cut_line : (l : LineSays) (n : ℕ) (rows : List (List ℕ)) (next behind : List Statement) → IsCut next → (HasEnd rows → IsCut behind)
    → IsCut (by_line l ReadFailed n rows next behind)
cut_line line.Blank n rows next behind first second = first
cut_line (line.One s) n rows next behind first second = cut_more (statement_at n s) next first
cut_line (line.Opens block) n rows next behind first second = cut_block (position is_end rows) n block rows behind refl second

cut_behind : (row : List ℕ) (rows : List (List ℕ)) (n : ℕ) (b : Bool) → is_end row ≡ b → IsCut (statements_from ReadFailed n rows)
    → (HasEnd rows → IsCut (behind_end ReadFailed n rows)) → HasEnd (row ∷ rows)
    → IsCut (cond b (statements_from ReadFailed n rows) (behind_end ReadFailed n rows))
cut_behind row rows n true is first second within = first
cut_behind row rows n false is first second within =
    let next : 1 + position_or_len is_end rows < length (row ∷ rows) = rw is at within in
    second (omega arith)

-- the statements of rows, and those behind the first END of them
cut_rows : (n : ℕ) (rows : List (List ℕ)) → IsCut (statements_from ReadFailed n rows) × (HasEnd rows → IsCut (behind_end ReadFailed n rows))
cut_rows n [] = (record { whole = []; line = n; last = refl }, λ within. absurd (omega arith))
cut_rows n (row ∷ rows) =
    let more = cut_rows (n + 1) rows in
    (cut_line (says_of row) n rows _ _ more.0 more.1, cut_behind row rows (n + 1) (is_end row) refl more.0 more.1)

-- the session of such statements, behind others that stand
record StopsBehind (before whole : List Statement) (s : Session) : Type 0 where
  pub stood : List Statement
  pub statement : Statement
  pub after : List Statement
  pub first : whole ≡ stood ++ statement ∷ after
  pub stands : s.stands ≡ before ++ stood
  pub own : Fault
  pub refused : fault_behind (before ++ stood) statement.says ≡ Some own
  pub told : s.fault ≡ Some (own, statement.line)

abbrev StopsAt : List Statement → List Statement → ℕ → Session → Type 0
StopsAt before whole line s = IsStoppedAtCut (before ++ whole) fault.ReadFailed line s ⊎ StopsBehind before whole s

stops_later : (before whole : List Statement) (s : Statement) (line : ℕ) (more : Session) → StopsAt (before ++ s ∷ []) whole line more
    → StopsAt before (s ∷ whole) line more
stops_later before whole s line more h =
    ⊎_elim (λ at. inl (record { stand = at.stand ∙ append_assoc before (s ∷ []) whole; told = at.told }))
    (λ (b : StopsBehind (before ++ s ∷ []) whole more). inr (record {
      stood = s ∷ b.stood;
      statement = b.statement;
      after = b.after;
      first = ap (λ x. s ∷ x) b.first;
      stands = b.stands ∙ append_assoc before (s ∷ []) b.stood;
      own = b.own;
      refused = rw append_assoc at b.refused;
      told = b.told;
    })) h

stops_by : (own : Option Fault) (before whole : List Statement) (s : Statement) (line : ℕ) (more : Session) → fault_behind before s.says ≡ own
    → StopsAt (before ++ s ∷ []) whole line more → StopsAt before (s ∷ whole) line (session_by own before s more)
stops_by None before whole s line more is h = stops_later before whole s line more h
stops_by (Some f) before whole s line more is h = inr (record {
  stood = [];
  statement = s;
  after = whole;
  first = refl;
  stands = sym (append-nil before);
  own = f;
  refused = rw append-nil is;
  told = refl;
})

stops : (before whole : List Statement) (line : ℕ) → StopsAt before whole line (session_behind before (whole ++ cut_at line ∷ []))
stops before [] line = inl (record { stand = sym (append-nil before); told = refl })
stops before (s ∷ whole) line =
    stops_by (fault_behind before s.says) before whole s line (session_behind (before ++ s ∷ []) (whole ++ cut_at line ∷ [])) refl
    (stops (before ++ s ∷ []) whole line)

stopped_in : (whole : List Statement) (s : Session) → StopsBehind [] whole s → IsStoppedIn whole s
stopped_in whole s b = record {
  statement = b.statement;
  after = b.after;
  first = rw (b.stands) b.first;
  own = b.own;
  refused = rw (b.stands) b.refused;
  told = b.told;
}

pub tells_cut : (text : List ℕ) → TellsCut text (session_of ReadFailed text)
tells_cut text =
    let c = (cut_rows 1 (lines_of ReadFailed text)).0 in
    let at : StopsAt [] c.whole c.line (session_of ReadFailed text) = rw (← ap (session_behind []) c.last) at (stops [] c.whole c.line) in
    record {
      whole = c.whole;
      line = c.line;
      read = c.last;
      told = ⊎_elim (λ x. inl x) (λ x. inr (stopped_in c.whole (session_of ReadFailed text) x)) at;
    }
