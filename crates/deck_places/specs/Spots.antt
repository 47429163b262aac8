-- The cards of the statement at which a deck is refused. Cards and statements count from 0. (This profile)
use Rattle.std.specs.Prelude.{◌≡◌, ◌⊎◌, ◌<◌, ◌≤◌, ℕ, ◌+◌, List, length, Some, slice_get}
use Rattle.std.specs.List.{Contains}
use Rattle.jcl_plan.specs.declared.fault.Cause.{Cause}
use Rattle.proc_library.specs.declared.library.LibraryProcedure.{LibraryProcedure}
use Rattle.deck_places.specs.Cards.{walk_of}
use Rattle.deck_places.specs.Places.{IsPlace}
use Rattle.deck_places.specs.declared.judge.At.{At}
use Rattle.deck_places.specs.declared.judge.At.TheVariants as place

-- it is the card on which the k-th statement begins, or one between that and the next statement
pub record IsOfStatement (begun : List ℕ) (k n : ℕ) : Type 0 where
  pub first : ℕ
  pub there : slice_get begun k ≡ Some first
  pub from : first ≤ n
  pub to : (next : ℕ) → slice_get begun (k + 1) ≡ Some next → (n ≡ first) ⊎ (n < next)

-- By the cards on which statements begin: a card of the place where a deck is refused. At the deck's end it is the first of some statement.
abbrev pub IsCardOf : List ℕ → At → ℕ → Type 0
IsCardOf begun (place.Card m) n = n ≡ m
IsCardOf begun (place.Statement k) n = IsOfStatement begun k n
IsCardOf begun place.End n = Contains begun n
IsCardOf begun (place.Call k) n = IsOfStatement begun k n
IsCardOf begun (place.Planned part k) n = IsOfStatement begun k n

-- a place among the statements that begin there
abbrev pub IsWithin : List ℕ → At → Type 0
IsWithin begun (place.Card m) = Unit {0}
IsWithin begun (place.Statement k) = k < length begun
IsWithin begun place.End = Unit {0}
IsWithin begun (place.Call k) = k < length begun
IsWithin begun (place.Planned part k) = k < length begun

-- where a deck is refused at a statement, one begins
abbrev pub PlacesHaveStatements : Type 0
PlacesHaveStatements =
    (units : List (List ℕ)) (library : List LibraryProcedure) (lines : List (List ℕ)) (cause : Cause) (at : At) →
    IsPlace units library lines cause at → IsWithin (walk_of lines).begun at
