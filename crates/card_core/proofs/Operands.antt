-- an operand, character by character and card by card
use Rattle.std.proofs.Common.{◌≡◌, ℕ, suc, ◌+◌, ◌-◌, ◌<◌, Bool, true, false, cond, not, ◌&&◌, ◌==◌, take_while, drop, List, [], ◌∷◌, ◌++◌, length, get_or, Option, Some, None, Result, Ok, Err, refl, sym, ap, ◌∙◌, arith, nat_eq}
use Rattle.card_core.specs.declared.operand.Operand.{Operand}
use Rattle.card_core.specs.declared.fault.CardFault.{CardFault}
use Rattle.std.proofs.lemmas.List.Sums.{take_while-cons}
use Rattle.card_core.specs.Cards.{is_blank}
use Rattle.card_core.specs.Fields.{begins_quoted, begun_with, ends_with_comma, is_unquoted, operand_text}

-- an operand's text behind what was read before
abbrev pub behind_front : List ℕ → Option (List ℕ) → Option (List ℕ)
behind_front before None = None
behind_front before (Some text) = Some (before ++ text)

ends_with_comma-cons : (c : ℕ) (text : List ℕ) → 0 < length text → ends_with_comma (c ∷ text) ≡ ends_with_comma text
ends_with_comma-cons c [] lt = absurd (omega arith)
ends_with_comma-cons c (d ∷ text) lt = refl

pub ends_with_comma-last : (text : List ℕ) → 0 < length text → ends_with_comma text ≡ nat_eq (get_or text (length text - 1) 0) 44
ends_with_comma-last [] lt = absurd (omega arith)
ends_with_comma-last (c ∷ []) lt = refl
ends_with_comma-last (c ∷ d ∷ text) lt =
    let place : length (c ∷ d ∷ text) - 1 ≡ suc (length (d ∷ text) - 1) = omega arith in
    ends_with_comma-last (d ∷ text) (omega arith) ∙ sym (ap (λ k. nat_eq (get_or (c ∷ d ∷ text) k 0) 44) place)

-- an operand that takes so many cards more
abbrev pub cards_more : ℕ → Result Operand CardFault → Result Operand CardFault
cards_more count (Ok operand) = Ok (record { text = operand.text; cards = operand.cards + count; last = operand.last })
cards_more count (Err fault) = Err fault

-- an operand's text that ends before an apostrophe stands
pub unquoted_text : (text : List ℕ) → begins_quoted (drop (length (take_while is_unquoted text)) text) ≡ false →
    operand_text false text ≡ Some (take_while is_unquoted text)
unquoted_text [] none = refl
unquoted_text (c ∷ cs) none = cases (λ h. unquoted_text cs h) (is_blank c) (c == 39) refl refl none
  where
    text_is : (blank apostrophe : Bool) → is_blank c ≡ blank → (c == 39) ≡ apostrophe →
        operand_text false (c ∷ cs) ≡ cond (blank && true) (Some []) (begun_with c (operand_text (cond apostrophe true false) cs))
    text_is blank apostrophe b a =
        ap (λ (x : Bool). cond (x && true) (Some []) (begun_with c (operand_text (cond (c == 39) true false) cs))) b
        ∙ ap (λ (x : Bool). cond (blank && true) (Some []) (begun_with c (operand_text (cond x true false) cs))) a

    front_is : (blank apostrophe : Bool) → is_blank c ≡ blank → (c == 39) ≡ apostrophe →
        take_while is_unquoted (c ∷ cs) ≡ cond (not blank && not apostrophe) (c ∷ take_while is_unquoted cs) []
    front_is blank apostrophe b a =
        take_while-cons is_unquoted c cs
        ∙ ap (λ (x : Bool). cond (not x && not (c == 39)) (c ∷ take_while is_unquoted cs) []) b
        ∙ ap (λ (x : Bool). cond (not blank && not x) (c ∷ take_while is_unquoted cs) []) a

    cases : (begins_quoted (drop (length (take_while is_unquoted cs)) cs) ≡ false → operand_text false cs ≡ Some (take_while is_unquoted cs)) →
        (blank apostrophe : Bool) → is_blank c ≡ blank → (c == 39) ≡ apostrophe →
        begins_quoted (drop (length (take_while is_unquoted (c ∷ cs))) (c ∷ cs)) ≡ false →
        operand_text false (c ∷ cs) ≡ Some (take_while is_unquoted (c ∷ cs))
    cases next false false b a none =
        let front : take_while is_unquoted (c ∷ cs) ≡ c ∷ take_while is_unquoted cs = front_is false false b a in
        let later = next (sym (ap (λ f. begins_quoted (drop (length f) (c ∷ cs))) front) ∙ none) in
        text_is false false b a ∙ ap (begun_with c) later ∙ sym (ap (λ f. Some f) front)
    cases next true apostrophe b a none = text_is true apostrophe b a ∙ sym (ap (λ f. Some f) (front_is true apostrophe b a))
    cases next false true b a none =
        absurd (cc (sym (ap (λ f. begins_quoted (drop (length f) (c ∷ cs))) (front_is false true b a)) ∙ none, a))
