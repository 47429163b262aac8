-- A place in an operand, card by card.
use Rattle.std.proofs.Common.{◌≡◌, ◌∷◌, ℕ, zero, suc, ◌+◌, ◌-◌, ◌<◌, false, List, [], Some, drop, get_or, length, ap, arith, refl, sym}
use Rattle.card_core.specs.Deck.{Card}
use Rattle.card_core.specs.Fields.{behind_operation, operand_text}
use Rattle.deck_places.specs.Parts.{is_behind, place_from, place_on}

-- an operand begins on its statement's first card
pub begins : (n place : ℕ) (cards : List Card) (i : ℕ) (card : Card) → i < length cards → card ≡ get_or cards i card →
    place_on n place (drop i cards) ≡ place_from n place (behind_operation card) (drop (suc i) cards)
begins n place [] i card within is = absurd (omega (arith, within))
begins n place (x ∷ cards) zero card within is = ap (λ c. place_from n place (behind_operation c) cards) (sym is)
begins n place (x ∷ cards) (suc i) card within is = begins n place cards i card (omega (arith, within)) is

-- a place that is not behind the text on a card stands on it
pub stands : (n place : ℕ) (field : List ℕ) (cards : List Card) (i : ℕ) → i < length cards → is_behind place (operand_text false field) ≡ false →
    place_from n place field (drop i cards) ≡ record { card = n; column = Some (71 - length field + place) }
stands n place field [] i within e = absurd (omega (arith, within))
stands n place field (card ∷ cards) zero within e = rw e refl
stands n place field (card ∷ cards) (suc i) within e = stands n place field cards i (omega (arith, within)) e
