-- States that a job cannot tell apart, and what it does in both.
use Rattle.std.specs.Prelude.{◌≡◌, List}
use Rattle.jcl_meaning.specs.declared.names.HeldName.{HeldName}
use Rattle.jcl_meaning.specs.Parts.{SamePart}
use Rattle.jcl_meaning.specs.Solo.{Ran}
use Rattle.jcl_meaning.specs.States.{Done, State}

-- equal parts of the stores, the same own state, and the same answers to come
pub record Alike (names : List HeldName) (s t : State) : Type 0 where
  pub part : SamePart names s.store t.store
  pub own : s.own ≡ t.own
  pub answers : s.answers ≡ t.answers

-- the same was done: the same lines, the same fault met, the same set made, and states alike
pub record AlikeDone (names : List HeldName) (d e : Done) : Type 0 where
  pub lines : d.lines ≡ e.lines
  pub meets : d.meets ≡ e.meets
  pub made : d.made ≡ e.made
  pub state : Alike names d.state e.state

-- and by two runs
pub record AlikeRun (names : List HeldName) (a b : Ran) : Type 0 where
  pub lines : a.lines ≡ b.lines
  pub faults : a.faults ≡ b.faults
  pub made : a.made ≡ b.made
  pub state : Alike names a.state b.state
