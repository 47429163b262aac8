-- Laws of decks and of the steps that they give.
use Rattle.std.specs.Prelude.{◌≡◌, ℕ, ◌≤◌, List, length, Ok, All}
use Rattle.card_core.specs.declared.statement.Statement.{Statement}
use Rattle.card_core.specs.Deck.{statements_of}
use Rattle.jcl_deck.specs.declared.deck.Deck.{Deck}
use Rattle.jcl_deck.specs.Decks.{deck_of}
use Rattle.jcl_procs.specs.declared.step.FlatStep.{FlatStep}
use Rattle.jcl_procs.specs.Expansions.{flat_of}
use Rattle.proc_library.specs.declared.library.LibraryProcedure.{LibraryProcedure}
use Rattle.deck_laws.specs.Sound.{HoldsCards, IsSoundDeck, IsSoundStep}

-- The data behind a statement are cards.
abbrev pub DataAreCards : Type 0
DataAreCards = (lines : List (List ℕ)) (statements : List Statement) → statements_of lines ≡ Ok statements → All HoldsCards statements

-- What is read of such statements is in its range,
abbrev pub DecksAreSound : Type 0
DecksAreSound = (statements : List Statement) (deck : Deck) → All HoldsCards statements → deck_of statements ≡ Ok deck → IsSoundDeck deck

-- and the calls of such a deck give a step or more, in which it is too.
abbrev pub StepsAreSound : Type 0
StepsAreSound = (library : List LibraryProcedure) (deck : Deck) (steps : List FlatStep) → IsSoundDeck deck → flat_of library deck ≡ Ok steps →
    (1 ≤ length steps) × All IsSoundStep steps
