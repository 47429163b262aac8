-- An operand over its cards.
use Rattle.std.proofs.Common.{◌≡◌, ◌≤◌, ◌-◌, ◌++◌, ℕ, Bool, true, false, cond, List, [], ◌∷◌, Option, Some, Result, Ok, Err, All, map, length, refl, sym, ap, ◌∙◌, subst, arith, append_assoc, add-one}
use Rattle.std.specs.Prelude.{not, nat_lt}
use Rattle.std.specs.List.{list_all}
use Rattle.std.proofs.lemmas.Bool.{and_parts}
use Rattle.std.proofs.lemmas.List.{length-replicate}
use Rattle.std.proofs.lemmas.List.Elements.{All-head, All-tail}
use Rattle.card_core.specs.declared.fault.CardFault.{CardFault}
use Rattle.card_core.specs.declared.operand.Operand.{Operand}
use Rattle.card_core.specs.Cards.{columns, filled, is_null, may_continue}
use Rattle.card_core.specs.Fields.{continued, ends_with_comma, front, goes_on, one_card_more, operand_text, resumes_outside, without_blanks}
use Rattle.reader_laws.specs.WrittenCards.{IsContinuation, Part, blanks, card_with, continuation, ends_in_comma, fields_of_part, is_blank, is_chain, operand_of}
use Rattle.reader_laws.proofs.Columns.{fields_are, fields_behind_are, filled_is, part_fields, read_behind_blanks, whole_not_blank, whole_stops}
use Rattle.reader_laws.proofs.Fronts.{all_replicate, front_is, other_before, other_behind}

not_null : (b : Bool) → b ≡ false → not b ≡ true
not_null true h = absurd cc
not_null false h = refl

-- a card whose column 3 is blank, and which has something behind it, may continue another
pub may : (fields : List ℕ) (mark : ℕ) (behind : List ℕ) → length (32 ∷ fields) ≤ 69 → list_all is_blank fields ≡ false →
    may_continue (card_with (32 ∷ fields) mark behind) ≡ true
may fields mark behind fits something =
    not_null (is_null (card_with (32 ∷ fields) mark behind))
    (ap (list_all is_blank) (fields_are (32 ∷ fields) mark behind fits) ∙ other_before is_blank fields (blanks (69 - length (32 ∷ fields))) something)

part_not_blank : (p : Part) → IsContinuation p → list_all is_blank (fields_of_part p) ≡ false
part_not_blank p h =
    other_behind is_blank (blanks p.blanks_before) (p.text ++ p.comment)
    (other_before is_blank p.text p.comment (whole_not_blank p.text h.text.whole h.something))

not_less : (n : ℕ) → n ≤ 12 → nat_lt 12 n ≡ false
not_less n h = grind (arith)

-- a card that continues an operand is read
pub resumes : (before : List ℕ) (p : Part) (behind : List ℕ) (cards : List (List ℕ)) → IsContinuation p →
    (let card : List ℕ = card_with (32 ∷ fields_of_part p) p.mark behind in
    continued before (card ∷ cards) ≡ one_card_more (goes_on before (Some p.text) card (λ text. continued text cards)))
resumes before p behind cards h =
    let card : List ℕ = card_with (32 ∷ fields_of_part p) p.mark behind in
    let n : ℕ = 69 - length (32 ∷ fields_of_part p) in
    let fields : columns 4 71 card ≡ fields_of_part p ++ blanks n = fields_behind_are (fields_of_part p) p.mark behind h.columns.fits in
    let more : Result Operand CardFault =
    one_card_more (goes_on before (operand_text false (without_blanks (columns 4 71 card))) card (λ text. continued text cards)) in
    let at : length (front is_blank (columns 4 71 card)) ≡ p.blanks_before =
    ap (λ (text : List ℕ). length (front is_blank text)) (fields ∙ part_fields p.blanks_before p.text p.comment n)
    ∙ ap length (front_is is_blank (blanks p.blanks_before) (p.text ++ (p.comment ++ blanks n)) (all_replicate is_blank 32 p.blanks_before refl)
    (whole_stops p.text (p.comment ++ blanks n) h.text.whole h.something))
    ∙ length-replicate p.blanks_before 32 in
    let inside : resumes_outside card ≡ false = ap (nat_lt 12) at ∙ not_less p.blanks_before h.resumes in
    ap (λ (b : Bool). cond b (cond (resumes_outside card) (Err CardFault.ResumedOutside) more) (Err CardFault.NotContinued))
    (may (fields_of_part p) p.mark behind h.columns.fits (part_not_blank p h))
    ∙ ap (λ (b : Bool). cond b (Err CardFault.ResumedOutside) more) inside
    ∙ ap (λ (text : Option (List ℕ)). one_card_more (goes_on before text card (λ t. continued t cards)))
    (ap (λ (text : List ℕ). operand_text false (without_blanks text)) fields
    ∙ read_behind_blanks p.blanks_before p.text p.comment n h.text.whole h.text.apart h.something)

-- the last of the cards
abbrev pub last_card : List ℕ → List Part → List ℕ
last_card card [] = card
last_card card (p ∷ parts) = last_card (filled (continuation p)) parts

same_comma : (text : List ℕ) → ends_with_comma text ≡ ends_in_comma text
same_comma [] = refl
same_comma (c ∷ []) = refl
same_comma (c ∷ d ∷ text) = same_comma (d ∷ text)

resumed : (before : List ℕ) (p : Part) (cards : List (List ℕ)) → IsContinuation p →
    continued before (filled (continuation p) ∷ cards) ≡ one_card_more (goes_on before (Some p.text) (filled (continuation p)) (λ text. continued text cards))
resumed before p cards h =
    let behind : List ℕ = p.identification ++ blanks (80 - length (continuation p)) in
    subst (λ (card : List ℕ). continued before (card ∷ cards) ≡ one_card_more (goes_on before (Some p.text) card (λ text. continued text cards)))
    (sym (filled_is (32 ∷ fields_of_part p) p.mark p.identification)) (resumes before p behind cards h)

is_false : (b : Bool) → not b ≡ true → b ≡ false
is_false true h = absurd cc
is_false false h = refl

-- an operand in a chain of parts is read over their cards
pub goes : (before : List ℕ) (p : Part) (card : List ℕ) (parts : List Part) (cards : List (List ℕ)) → All IsContinuation parts → is_chain p parts ≡ true →
    goes_on before (Some p.text) card (λ text. continued text (map filled (map continuation parts) ++ cards))
    ≡ Ok (record { text = before ++ operand_of p parts; cards = length parts; last = last_card card parts })
goes before p card [] cards all chain =
    let over : Result Operand CardFault = Ok (record { text = before ++ p.text; cards = 0; last = card }) in
    ap (λ (b : Bool). cond b (continued (before ++ p.text) cards) over) (same_comma p.text ∙ is_false (ends_in_comma p.text) chain)
goes before p card (q ∷ parts) cards all chain =
    let over : Result Operand CardFault = Ok (record { text = before ++ p.text; cards = 0; last = card }) in
    let rest : List (List ℕ) = map filled (map continuation parts) ++ cards in
    let halves = and_parts (ends_in_comma p.text) (is_chain q parts) chain in
    ap (λ (b : Bool). cond b (continued (before ++ p.text) (filled (continuation q) ∷ rest)) over) (same_comma p.text ∙ halves.0)
    ∙ resumed (before ++ p.text) q rest (All-head IsContinuation q parts all)
    ∙ ap one_card_more (goes (before ++ p.text) q (filled (continuation q)) parts cards (All-tail IsContinuation q parts all) halves.1)
    ∙ λ i. Ok (record {
      text = append_assoc before p.text (operand_of q parts) i;
      cards = add-one (length parts) i;
      last =
          last_card (filled (continuation q)) parts;
    })
