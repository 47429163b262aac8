-- The statement of a called procedure that is told where a deck is refused at a call. Lines of a procedure count from 1, cards from 0. (This profile)
use Rattle.std.specs.Prelude.{◌≡◌, ℕ, ◌+◌, ◌-◌, List, slice_get, Option, None, Some}
use Rattle.jcl_plan.specs.declared.fault.Cause.{Cause}
use Rattle.proc_library.specs.declared.library.LibraryProcedure.{LibraryProcedure}
use Rattle.deck_places.specs.Called.{IsCalled, lines_of}
use Rattle.deck_places.specs.declared.called.CalledPlace.{CalledPlace}
use Rattle.deck_places.specs.declared.judge.At.{At}
use Rattle.deck_places.specs.declared.judge.At.TheVariants as place
use Rattle.check_core.specs.declared.report.Inside.{Inside}

-- the lines of a procedure of the deck count from the card behind its PROC statement on, those of one of the session from its first
abbrev pub line_behind : Option ℕ → ℕ → ℕ
line_behind (Some head) card = card - head
line_behind None card = card + 1

abbrev pub line_in : CalledPlace → ℕ
line_in called = line_behind called.head called.card

-- what is told of a statement: its procedure, the line on which it begins, and that line
pub record IsInside (library : List LibraryProcedure) (lines : List (List ℕ)) (cause : Cause) (k : ℕ) (inside : Inside) : Type 0 where
  pub called : CalledPlace
  pub is_called : IsCalled library lines k cause (Some called)
  pub procedure : inside.procedure ≡ called.procedure
  pub line : inside.line ≡ line_in called
  pub card : slice_get (lines_of library lines called) called.card ≡ Some inside.card

abbrev pub IsInsideOf : List LibraryProcedure → List (List ℕ) → Cause → ℕ → Option Inside → Type 0
IsInsideOf library lines cause k None = IsCalled library lines k cause None
IsInsideOf library lines cause k (Some inside) = IsInside library lines cause k inside

-- the statement for which a deck is refused for this at a call; at another place there is none
abbrev pub IsInsideAt : List LibraryProcedure → List (List ℕ) → Cause → At → Option Inside → Type 0
IsInsideAt library lines cause (place.Card n) inside = inside ≡ None
IsInsideAt library lines cause (place.Statement k) inside = inside ≡ None
IsInsideAt library lines cause place.End inside = inside ≡ None
IsInsideAt library lines cause (place.Call k) inside = IsInsideOf library lines cause k inside
IsInsideAt library lines cause (place.Planned part k) inside = inside ≡ None
