-- A deck whose cards are read without a fault, and its steps.
use Rattle.std.specs.Prelude.{◌≡◌, ℕ, List, [], ◌∷◌, codes, replicate, Some, None, Ok}
use Rattle.card_core.specs.declared.statement.Statement.{Statement}
use Rattle.card_core.specs.Deck.{statements_of}
use Rattle.list_values.specs.Conditions.{no_condition}
use Rattle.jcl_cards.specs.declared.coded.Coded.TheVariants.{Value}
use Rattle.jcl_dds.specs.declared.dd.Word.TheVariants.{Cards, Dummy}
use Rattle.jcl_dds.specs.Examples.{empty_dd}
use Rattle.jcl_deck.specs.Decks.{deck_of}
use Rattle.jcl_procs.specs.declared.step.FlatStep.{FlatStep}
use Rattle.jcl_procs.specs.Expansions.{and_then, flat_of}
use Rattle.statement_laws.specs.Examples.{greatest}

-- a line of 80 tildes, and one of nothing
abbrev pub data_lines : List (List ℕ)
data_lines = replicate 80 126 ∷ [] ∷ []

abbrev pub lines : List (List ℕ)
lines = codes "//J JOB" ∷ codes "//P PROC C=A" ∷ codes "//Q EXEC PGM=X" ∷ codes "//O DD SYSOUT=&C" ∷ codes "// PEND" ∷ codes "//S EXEC P,C=9,COND=(4095,LT)"
    ∷ codes "//Q.N DD DUMMY" ∷ codes "// DD DUMMY" ∷ codes "//T EXEC PGM=Y" ∷ codes "//D DD *" ∷ data_lines

abbrev pub statement : List ℕ → List ℕ → List ℕ → Statement
statement name operation operand = record { name = name; operation = operation; operand = operand; cards = None }

abbrev pub cards : List (List ℕ)
cards = replicate 80 126 ∷ replicate 80 32 ∷ []

abbrev pub statements : List Statement
statements = statement (codes "J") (codes "JOB") [] ∷ statement (codes "P") (codes "PROC") (codes "C=A")
    ∷ statement (codes "Q") (codes "EXEC") (codes "PGM=X") ∷ statement (codes "O") (codes "DD") (codes "SYSOUT=&C")
    ∷ statement [] (codes "PEND") [] ∷ statement (codes "S") (codes "EXEC") (codes "P,C=9,COND=(4095,LT)")
    ∷ statement (codes "Q.N") (codes "DD") (codes "DUMMY") ∷ statement [] (codes "DD") (codes "DUMMY")
    ∷ statement (codes "T") (codes "EXEC") (codes "PGM=Y") ∷ record (statement (codes "D") (codes "DD") (codes "*")) { cards = Some cards } ∷ []

-- the step of the call, to which a DD is added, with one that continues it
abbrev pub called_step : FlatStep
called_step = record {
  name = Some (codes "S");
  procedure_step = Some (codes "Q");
  call = Some 1;
  program = codes "X";
  condition = greatest;
  dds = record (empty_dd (codes "O")) { sysout = Value 57 } ∷ record (empty_dd (codes "N")) { word = Some Dummy }
      ∷ record (empty_dd []) { name = None; word = Some Dummy } ∷ [];
}

abbrev pub own_step : FlatStep
own_step = record {
  name = Some (codes "T");
  procedure_step = None;
  call = None;
  program = codes "Y";
  condition = no_condition;
  dds = record (empty_dd (codes "D")) { word = Some (Cards cards) } ∷ [];
}

pub record Example : Type 0 where
  pub read : statements_of lines ≡ Ok statements
  pub steps : and_then (deck_of statements) (flat_of []) ≡ Ok (called_step ∷ own_step ∷ [])
