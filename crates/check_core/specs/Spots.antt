-- The cards that are shown for a place where a deck is refused. Cards count from 0. (This profile)
use Rattle.std.specs.Prelude.{◌≡◌, ◌⊎◌, ◌<◌, ◌≤◌, ℕ, ◌+◌, List, [], length, Option, None, Some, slice_get}
use Rattle.std.specs.List.{Contains}
use Rattle.jcl_plan.specs.declared.fault.Cause.{Cause}
use Rattle.proc_library.specs.declared.library.LibraryProcedure.{LibraryProcedure}
use Rattle.deck_places.specs.Cards.{walk_of}
use Rattle.deck_places.specs.Parts.{IsMark}
use Rattle.deck_places.specs.Places.{IsPlace}
use Rattle.deck_places.specs.Spots.{IsCardOf}
use Rattle.deck_places.specs.declared.judge.At.{At}
use Rattle.deck_places.specs.declared.judge.At.TheVariants as place
use Rattle.deck_places.specs.declared.marks.Mark.{Mark}
use Rattle.check_core.specs.declared.mended.Span.{Span}
use Rattle.check_core.specs.declared.report.Report.{Report}
use Rattle.check_core.specs.declared.report.Spot.{Spot}

-- the card that is shown is one of the place; none is at the end of a deck without statements alone
abbrev pub IsCardShown : List ℕ → At → Option ℕ → Type 0
IsCardShown begun at (Some n) = IsCardOf begun at n
IsCardShown begun at None = (at ≡ place.End) × (begun ≡ [])

-- a mark is shown on its card, in its column
abbrev pub spot_at : Mark → Spot
spot_at mark = record { card = Some mark.card; column = mark.column }

-- where a deck that is refused for this at a place is marked: at a statement by its mark, else on a card of the place
abbrev pub IsSpotOf : List (List ℕ) → Cause → At → Spot → Type 0
IsSpotOf lines cause (place.Card m) spot = IsCardShown (walk_of lines).begun (place.Card m) spot.card
IsSpotOf lines cause (place.Statement k) spot = (mark : Mark) × IsMark lines k cause mark × (spot ≡ spot_at mark)
IsSpotOf lines cause place.End spot = IsCardShown (walk_of lines).begun place.End spot.card
IsSpotOf lines cause (place.Call k) spot = IsCardShown (walk_of lines).begun (place.Call k) spot.card
IsSpotOf lines cause (place.Planned part k) spot = IsCardShown (walk_of lines).begun (place.Planned part k) spot.card

-- a report is marked there
abbrev pub HasSpot : List (List ℕ) → Cause → At → Report → Type 0
HasSpot lines cause at report = IsSpotOf lines cause at report.spot

-- what holds where a deck is refused for this at a place, whatever the names of units and the procedures of the session
abbrev pub IfRefusedAt : List (List ℕ) → Cause → At → Type 0 → Type 0
IfRefusedAt lines cause at fact = (units : List (List ℕ)) (library : List LibraryProcedure) → IsPlace units library lines cause at → fact

-- one on which a statement begins; none where none begins
abbrev pub IsAtFirst : List ℕ → Option ℕ → Type 0
IsAtFirst begun (Some n) = Contains begun n
IsAtFirst begun None = begun ≡ []

-- the first card of these, or another
abbrev pub IsFirstOrWithin : Span → Option ℕ → Type 0
IsFirstOrWithin span (Some n) = (n ≡ span.from) ⊎ (span.from ≤ n) × (n < span.to)
IsFirstOrWithin span None = ⊥

-- the k-th statement's cards, where there is one: they end at the latest where the next begins
pub record AreCardsOf (begun : List ℕ) (k : ℕ) (span : Span) : Type 0 where
  pub first : slice_get begun k ≡ Some span.from
  pub to : (next : ℕ) → slice_get begun (k + 1) ≡ Some next → span.to ≤ next

abbrev pub IsSpanOf : List ℕ → ℕ → Option Span → Type 0
IsSpanOf begun k None = length begun ≤ k
IsSpanOf begun k (Some span) = AreCardsOf begun k span

abbrev pub IsSpanAt : List ℕ → At → Option Span → Type 0
IsSpanAt begun (place.Card m) None = ⊥
IsSpanAt begun (place.Card m) (Some span) = Unit {0}
IsSpanAt begun (place.Statement k) span = IsSpanOf begun k span
IsSpanAt begun place.End None = Unit {0}
IsSpanAt begun place.End (Some span) = ⊥
IsSpanAt begun (place.Call k) span = IsSpanOf begun k span
IsSpanAt begun (place.Planned part k) span = IsSpanOf begun k span
