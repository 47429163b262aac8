-- Decks and steps whose cards hold values in their ranges.
use Rattle.std.specs.Prelude.{ℕ, ◌≤◌, List, [], ◌∷◌, length, Option, Some, None, All}
use Rattle.jname_core.specs.Grammar.{IsName8}
use Rattle.card_core.specs.declared.statement.Statement.{Statement}
use Rattle.cb_meaning.specs.Writable.{IsName}
use Rattle.jcl_dds.specs.declared.dd.DdCard.{DdCard}
use Rattle.jcl_deck.specs.declared.deck.Deck.{Deck}
use Rattle.jcl_deck.specs.declared.deck.DeckStep.{DeckStep}
use Rattle.jcl_deck.specs.declared.deck.Procedure.{Procedure}
use Rattle.jcl_procs.specs.declared.step.FlatStep.{FlatStep}
use Rattle.statement_laws.specs.CardLaws.{AreCards}
use Rattle.statement_laws.specs.Ranges.{HasSoundCodes, IsSoundDd, IsSoundExec, IsSoundJob}

-- the data behind a statement
abbrev pub HoldsCards : Statement → Type 0
HoldsCards s = AreCards s.cards

abbrev pub IsNamed : Option (List ℕ) → Type 0
IsNamed None = ⊥
IsNamed (Some name) = Unit {0}

-- the first has a name
abbrev pub BeginsWithName : List DdCard → Type 0
BeginsWithName [] = Unit {0}
BeginsWithName (dd ∷ dds) = IsNamed dd.name

pub record IsSoundDeckStep (s : DeckStep) : Type 0 where
  pub exec : IsSoundExec s.exec
  pub begins_named : BeginsWithName s.dds
  pub dds : All IsSoundDd s.dds

abbrev pub KeepsCards : Procedure → Type 0
KeepsCards p = All HoldsCards p.statements

-- a deck of one step or more
pub record IsSoundDeck (deck : Deck) : Type 0 where
  pub job : IsSoundJob deck.job
  pub procedures : All KeepsCards deck.procedures
  pub some_step : 1 ≤ length deck.steps
  pub steps : All IsSoundDeckStep deck.steps

-- a step as it runs
pub record IsSoundStep (s : FlatStep) : Type 0 where
  pub name : IsName s.name
  pub procedure_step : IsName s.procedure_step
  pub program : IsName8 s.program
  pub codes : HasSoundCodes s.condition
  pub begins_named : BeginsWithName s.dds
  pub dds : All IsSoundDd s.dds
