-- What is told of a call that failed.
use Rattle.std.specs.Prelude.{◌≡◌, ◌≢◌, ◌⊎◌, ℕ, Bool, true, false, List, [], ◌∷◌, ◌++◌, Some, Result, Ok, Err}
use Rattle.session_text.specs.declared.fault.Fault.{Fault}
use Rattle.session_text.specs.declared.fault.Fault.TheVariants as fault
use Rattle.session_text.specs.declared.statement.Ending.TheVariants.{ReadFailed}
use Rattle.session_text.specs.declared.statement.Says.TheVariants.{Refused}
use Rattle.session_text.specs.declared.statement.Statement.{Statement}
use Rattle.session_text.specs.Statements.{statement_at, statements_of}
use Rattle.session_core.specs.declared.SessionFault.{SessionFault}
use Rattle.session_core.specs.declared.SessionFault.TheVariants.{Stopped, WriteFailed, Memory}
use Rattle.session_core.specs.Sessions.{Session, fault_behind}

-- What an answer says of the calls of the two streams. A session whose text was read to its end and written whole met no failed call; a read
-- fault is told only where a read failed; a write fault exactly where a write failed. Where a read failed, a fault is told (`TellsCut`
-- says which), or memory was wanting.
abbrev pub AreTold : {T : Type 0} → Bool → Bool → Result T SessionFault → Type 0
AreTold read_failed write_failed (Ok end) = (read_failed ≡ false) × (write_failed ≡ false)
AreTold read_failed write_failed (Err (Stopped told line)) = (told ≡ fault.ReadFailed → read_failed ≡ true) × (told ≢ fault.WriteFailed) × (write_failed ≡ false)
AreTold read_failed write_failed (Err (WriteFailed line)) = write_failed ≡ true
AreTold read_failed write_failed (Err Memory) = write_failed ≡ false

-- a session is stopped by the first of these statements that has a fault, and those before it stand
pub record IsStoppedIn (statements : List Statement) (s : Session) : Type 0 where
  pub statement : Statement
  pub after : List Statement
  pub first : statements ≡ s.stands ++ statement ∷ after
  pub own : Fault
  pub refused : fault_behind s.stands statement.says ≡ Some own
  pub told : s.fault ≡ Some (own, statement.line)

-- a session is stopped at the cut of its text, which is behind these statements and tells this fault; they all stand
pub record IsStoppedAtCut (statements : List Statement) (cut : Fault) (line : ℕ) (s : Session) : Type 0 where
  pub stand : s.stands ≡ statements
  pub told : s.fault ≡ Some (cut, line)

-- The session of a text that a failed read cuts. The statements that were read whole are followed by one that tells of the failed read, in
-- place of the one that was cut; so that is told, unless one of those has a fault.
pub record TellsCut (text : List ℕ) (s : Session) : Type 0 where
  pub whole : List Statement
  pub line : ℕ
  pub read : statements_of ReadFailed text ≡ whole ++ statement_at line (Refused fault.ReadFailed) ∷ []
  pub told : IsStoppedAtCut whole fault.ReadFailed line s ⊎ IsStoppedIn whole s
