-- The part of its operand for which a statement is refused where it stands, and where that part stands on the statement's cards. Cards, columns and parts
-- count from 0. (This profile)
use Rattle.std.specs.Prelude.{◌≡◌, ℕ, ◌+◌, ◌-◌, ◌<◌, ◌≤◌, Bool, false, ◌&&◌, nat_le, List, [], ◌∷◌, ◌++◌, length, map, take, drop, remove, sum_by, flat_map, Option, None, Some, slice_get, Ok, Err, if◌then◌else◌}
use Rattle.card_core.specs.declared.statement.Statement.{Statement}
use Rattle.card_core.specs.Cards.{columns, filled}
use Rattle.card_core.specs.Deck.{Card}
use Rattle.card_core.specs.Fields.{behind_operation, ends_with_comma, operand_text, without_blanks}
use Rattle.jcl_deck.specs.Decks.{Place, behind, start}
use Rattle.jcl_job.specs.Jobs.{statements_in}
use Rattle.jcl_plan.specs.declared.fault.Cause.{Cause}
use Rattle.operand_core.specs.Operands.{places_of}
use Rattle.deck_places.specs.Cards.{walk_from}
use Rattle.deck_places.specs.Statements.{TakenTo, read_from}
use Rattle.deck_places.specs.declared.marks.Mark.{Mark}

-- parts with a comma between each two
abbrev pub behind_comma : List ℕ → List ℕ
behind_comma part = 44 ∷ part

abbrev pub joined : List (List ℕ) → List ℕ
joined [] = []
joined (part ∷ parts) = part ++ flat_map behind_comma parts

-- an operand without one of its parts
abbrev pub without : List (List ℕ) → ℕ → List ℕ
without parts n = joined (remove parts n)

abbrev pub statement_without : ℕ → Statement → Statement
statement_without n s = record {
  name = s.name;
  operation = s.operation;
  operand = without (places_of s.operand) n;
  cards = s.cards;
}

-- without this part the statement is refused for the same
abbrev pub IsRefusedWithout : Place → Statement → Cause → ℕ → Type 0
IsRefusedWithout place s cause n = behind place (statement_without n s) ≡ Err cause

-- as many parts as an operand may have that is not too long to be read
abbrev pub most_parts : ℕ
most_parts = 1025

-- The first part without which it is refused otherwise, or not at all. Of an operand with more parts than these none is looked at.
abbrev pub IsPart : Place → Statement → Cause → Option ℕ → Type 0
IsPart place s cause None = length (places_of s.operand) ≤ most_parts → (m : ℕ) → m < length (places_of s.operand) → IsRefusedWithout place s cause m
IsPart place s cause (Some n) =
    (n < length (places_of s.operand)) × (IsRefusedWithout place s cause n → ⊥) × ((m : ℕ) → m < n → IsRefusedWithout place s cause m)

-- where a part begins in its operand
abbrev pub start_of : List (List ℕ) → ℕ → ℕ
start_of parts n = sum_by (λ part. length part + 1) (take n parts)

-- a place in an operand is behind its text on a card, which goes on
abbrev pub is_behind : ℕ → Option (List ℕ) → Bool
is_behind place None = false
is_behind place (Some text) = ends_with_comma text && nat_le (length text) place

abbrev pub left_behind : ℕ → Option (List ℕ) → ℕ
left_behind place None = place
left_behind place (Some text) = place - length text

-- A place in the operand of a statement that stands on card n, and on these behind it; field is what stands on card n from the operand on, to column 71.
abbrev pub place_from : ℕ → ℕ → List ℕ → List Card → Mark
place_from n place field [] = record { card = n; column = Some (71 - length field + place) }
place_from n place field (card ∷ cards) =
    if is_behind place (operand_text false field)
    then place_from (n + 1) (left_behind place (operand_text false field)) (without_blanks (columns 4 71 card)) cards
    else record { card = n; column = Some (71 - length field + place) }

-- in the operand of a statement that begins with the first of these cards
abbrev pub place_on : ℕ → ℕ → List Card → Mark
place_on n place [] = record { card = n; column = None }
place_on n place (card ∷ cards) = place_from n place (behind_operation card) cards

-- its part, or its first card
abbrev pub mark_of : ℕ → Option ℕ → List (List ℕ) → List Card → Mark
mark_of n None parts cards = record { card = n; column = None }
mark_of n (Some part) parts cards = place_on n (start_of parts part) cards

-- the mark of a statement that is refused for this at a place in the deck; it begins with the first of these cards, which is the n-th
abbrev pub IsMarkAt : Place → Statement → Cause → ℕ → List Card → Mark → Type 0
IsMarkAt place s cause n cards mark = (part : Option ℕ) × IsPart place s cause part × (mark ≡ mark_of n part (places_of s.operand) cards)

-- on these cards as many statements begin as there are
abbrev pub BeginAsMany : List Card → List Statement → Type 0
BeginAsMany cards statements = length (walk_from false 0 0 cards).begun ≡ length statements

-- the mark of these statements of these cards, of which the k-th is refused for this
pub record IsMarkAmong (cards : List Card) (statements : List Statement) (k : ℕ) (cause : Cause) (mark : Mark) : Type 0 where
  pub place : Place
  pub before : read_from 0 start (take k statements) ≡ TakenTo place
  pub statement : Statement
  pub there : slice_get statements k ≡ Some statement
  pub part : Option ℕ
  pub is_part : IsPart place statement cause part
  pub first : ℕ
  pub begins : slice_get (walk_from false 0 0 cards).begun k ≡ Some first
  pub so : mark ≡ mark_of first part (places_of statement.operand) (drop first cards)

-- the mark of a deck that is refused for this at its k-th statement
abbrev pub IsMark : List (List ℕ) → ℕ → Cause → Mark → Type 0
IsMark lines k cause mark =
    (statements : List Statement) × (statements_in lines ≡ Ok statements) × IsMarkAmong (map filled lines) statements k cause mark
