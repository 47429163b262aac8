-- the statements of cards, one after another
use Rattle.std.proofs.Common.{◌≡◌, ℕ, zero, suc, ◌+◌, Bool, List, [], ◌∷◌, ◌++◌, drop, Result, Ok, Err, refl, sym, ap, subst, ◌∙◌, append_assoc}
use Rattle.card_core.specs.declared.operand.Operand.{Operand}
use Rattle.card_core.specs.declared.begun.Begun.{Begun}
use Rattle.card_core.specs.declared.fault.CardFault.{CardFault}
use Rattle.card_core.specs.declared.read.ReadError.{ReadError}
use Rattle.card_core.specs.declared.read.Place.{Place}
use Rattle.card_core.specs.declared.statement.Statement.{Statement}
use Rattle.card_core.specs.declared.card.Kind.{Kind}
use Rattle.card_core.specs.Cards.{kind_of}
use Rattle.card_core.specs.Fields.{name_of, operation_of}
use Rattle.card_core.specs.Deck.{Card, Statements, onto, begins, statements_behind, comment_cards, with_data, with_operand}
use Rattle.card_core.specs.Reading.{Begins, behind_others}

-- a statement with its operand, and with the cards that continue its comment
pub Begins-with_operand : (result : Result Begun ReadError) (called : Bool) (card : Card) (cards : List Card) (operand : Operand) (denoted : Result Operand CardFault) (count : ℕ) (behind : List Card) →
    denoted ≡ Ok operand → count ≡ comment_cards operand.last (drop operand.cards cards) → behind ≡ drop (operand.cards + count) cards →
    Begins result (with_data called (name_of card) (operation_of card) operand.text (operand.cards + count) behind) → Begins result (with_operand called card cards denoted)
Begins-with_operand result called card cards operand denoted count behind is count_is behind_is begins =
    let begun : ℕ → List Card → (Bool → ℕ → Statements) → Statements = with_data called (name_of card) (operation_of card) operand.text in
    let same = ap (begun (operand.cards + count)) behind_is
    ∙ ap (λ (k : ℕ). begun (operand.cards + k) (drop (operand.cards + k) cards)) count_is
    ∙ sym (ap (with_operand called card cards) is) in
    subst (Begins result) same begins

-- used cards are passed over
pub statements_behind-used : (called : Bool) (used : ℕ) (cards : List Card) → statements_behind called used cards ≡ statements_behind called 0 (drop used cards)
statements_behind-used called zero cards = refl
statements_behind-used called (suc used) [] = refl
statements_behind-used called (suc used) (card ∷ cards) = statements_behind-used called used cards

behind_others-onto : (others : List Statement) (statement : Statement) (statements : Statements) →
    behind_others others (onto statement statements) ≡ behind_others (others ++ statement ∷ []) statements
behind_others-onto others statement (Ok statements) = ap (λ (all : List Statement). Ok all) (sym (append_assoc others (statement ∷ []) statements))
behind_others-onto others statement (Err fault) = refl

-- what a card begins, put behind the statements before it
pub passes-begun : (old new : List Statement) (called : Bool) (kind : Kind) (card : Card) (cards : List Card) (begun : Begun) (place : Place) →
    kind_of card ≡ kind →
    begins kind called card cards (λ c used. statements_behind c used cards) ≡ onto begun.statement (statements_behind begun.called begun.used cards) →
    new ≡ old ++ begun.statement ∷ [] → place ≡ record { called = begun.called; used = begun.used } →
    behind_others old (statements_behind called 0 (card ∷ cards)) ≡ behind_others new (statements_behind place.called 0 (drop place.used cards))
passes-begun old new called kind card cards begun place is begins_is new_is place_is =
    ap (λ (k : Kind). behind_others old (begins k called card cards (λ c used. statements_behind c used cards))) is
    ∙ ap (behind_others old) begins_is
    ∙ ap (λ (s : Statements). behind_others old (onto begun.statement s)) (statements_behind-used begun.called begun.used cards)
    ∙ behind_others-onto old begun.statement (statements_behind begun.called 0 (drop begun.used cards))
    ∙ ap (λ (others : List Statement). behind_others others (statements_behind begun.called 0 (drop begun.used cards))) (sym new_is)
    ∙ ap (λ (p : Place). behind_others new (statements_behind p.called 0 (drop p.used cards))) (sym place_is)
