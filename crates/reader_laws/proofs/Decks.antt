-- Written statements, one after another.
use Rattle.std.proofs.Common.{◌≡◌, ◌+◌, ◌-◌, ◌++◌, ℕ, Bool, true, List, [], ◌∷◌, Result, Ok, All, map, length, drop, refl, ap, ◌∙◌, arith, append_assoc}
use Rattle.std.proofs.lemmas.List.{map-append}
use Rattle.std.specs.Prelude.{not, ◌||◌, suc, zero}
use Rattle.std.proofs.lemmas.Bool.{and_parts}
use Rattle.std.proofs.lemmas.List.Elements.{All-head, All-tail}
use Rattle.std.proofs.Math.Seq.{drop-append_seam, drop-append-add}
use Rattle.card_core.specs.declared.card.Kind.{Kind}
use Rattle.card_core.specs.declared.fault.CardFault.{CardFault}
use Rattle.card_core.specs.declared.operand.Operand as reader
use Rattle.card_core.specs.Cards.{filled}
use Rattle.card_core.specs.Deck.{Card, Statements, begins, comment_cards, is_exec, onto, statements_behind, with_data, with_operand}
use Rattle.card_core.specs.Fields.{name_of, operation_of}
use Rattle.reader_laws.specs.WrittenCards.{IsWritten, Part, Written, blanks, comment_lines, continuation, data_lines, first_card, first_fields, has_cards, is_in_order, last_part, lines_of, lines_of_all, operand_of, statement_of}
use Rattle.reader_laws.proofs.Cards.{comment_is, first_kind, first_marked, first_reads, last_marked, on_first, operand_is}
use Rattle.reader_laws.proofs.Columns.{filled_is}
use Rattle.reader_laws.proofs.Continuations.{last_card}
use Rattle.reader_laws.proofs.InStream.{data_are}

-- used cards are passed over
used_are : (called : Bool) (used : ℕ) (cards : List Card) → statements_behind called used cards ≡ statements_behind called 0 (drop used cards)
used_are called zero cards = refl
used_are called (suc used) [] = refl
used_are called (suc used) (card ∷ cards) = used_are called used cards

-- the cards of a statement behind its first, filled
abbrev continued_on : Written → List Card
continued_on w = map filled (map continuation w.more)

abbrev commented_on : Written → List Card
commented_on w = map filled (comment_lines w.comment)

abbrev data_on : Written → List Card
data_on w = map filled (data_lines w.cards)

abbrev behind_first : Written → List Card → List Card
behind_first w rest = continued_on w ++ (commented_on w ++ (data_on w ++ rest))

cards_are : (w : Written) (rest : List Card) →
    map filled (map continuation w.more ++ (comment_lines w.comment ++ data_lines w.cards)) ++ rest ≡ behind_first w rest
cards_are w rest =
    ap (λ (cards : List Card). cards ++ rest) (map-append filled (map continuation w.more) (comment_lines w.comment ++ data_lines w.cards))
    ∙ append_assoc (continued_on w) (map filled (comment_lines w.comment ++ data_lines w.cards)) rest
    ∙ ap (λ (cards : List Card). continued_on w ++ (cards ++ rest)) (map-append filled (comment_lines w.comment) (data_lines w.cards))
    ∙ ap (λ (cards : List Card). continued_on w ++ cards) (append_assoc (commented_on w) (data_on w) rest)

length_map : (xs : List Part) → length xs ≡ length (map filled (map continuation xs))
length_map [] = refl
length_map (x ∷ xs) = ap suc (length_map xs)

three_behind : (xs ys zs rest : List Card) → drop (length xs + length ys + length zs) (xs ++ (ys ++ (zs ++ rest))) ≡ rest
three_behind xs ys zs rest =
    let together : length xs + length ys + length zs ≡ length xs + (length ys + length zs) = omega arith in
    ap (λ (i : ℕ). drop i (xs ++ (ys ++ (zs ++ rest)))) together
    ∙ drop-append-add xs (ys ++ (zs ++ rest)) (length ys + length zs)
    ∙ drop-append-add ys (zs ++ rest) (length zs)
    ∙ drop-append_seam zs rest

-- a statement whose first card is filled in this way
begun : (called : Bool) (w : Written) (behind : List ℕ) (rest : List Card) → IsWritten w → (called || not (has_cards w.cards)) ≡ true →
    statements_behind called 0 (on_first w behind ∷ behind_first w rest) ≡ onto (statement_of w) (statements_behind (called || is_exec w.operation) 0 rest)
begun called w behind rest h early =
    let card : Card = on_first w behind in
    let text : List ℕ = operand_of w.first w.more in
    let last : Card = last_card card w.more in
    let behind_operand : List Card = commented_on w ++ (data_on w ++ rest) in
    let cards : List Card = behind_first w rest in
    let next : Bool → ℕ → Statements = λ c used. statements_behind c used cards in
    let reads = first_reads w behind h in
    let n : ℕ = length w.more in
    let m : ℕ = length (commented_on w) in
    let k : ℕ = length (data_on w) in
    let left : drop n cards ≡ behind_operand =
    ap (λ (i : ℕ). drop i cards) (length_map w.more) ∙ drop-append_seam (continued_on w) behind_operand in
    let count : comment_cards last (drop n cards) ≡ m =
    ap (comment_cards last) left
    ∙ comment_is (last_part w.first w.more).mark w.comment last (data_on w ++ rest) (last_marked w.first card w.more
    (first_marked w behind h) h.more) h.goes_on in
    let at_data : drop (n + m) cards ≡ data_on w ++ rest =
    ap (λ (i : ℕ). drop (i + m) cards) (length_map w.more) ∙ drop-append-add (continued_on w) behind_operand m
    ∙ drop-append_seam (commented_on w) (data_on w ++ rest) in
    let at_rest : drop (n + m + k) cards ≡ rest =
    ap (λ (i : ℕ). drop (i + m + k) cards) (length_map w.more) ∙ three_behind (continued_on w) (commented_on w) (data_on w) rest in
    ap (λ (kind : Kind). begins kind called card cards next) (first_kind w behind h)
    ∙ ap (λ (operand : Result reader.Operand CardFault). with_operand called card cards operand next) (operand_is w behind behind_operand h)
    ∙ ap (λ (i : ℕ). with_data called (name_of card) (operation_of card) text (n + i) (drop (n + i) cards) next) count
    ∙ ap (λ (name : List ℕ). with_data called name (operation_of card) text (n + m) (drop (n + m) cards) next) reads.name_is
    ∙ ap (λ (operation : List ℕ). with_data called w.name operation text (n + m) (drop (n + m) cards) next) reads.operation_is
    ∙ ap (λ (left_cards : List Card). with_data called w.name w.operation text (n + m) left_cards next) at_data
    ∙ data_are called w.name w.operation text (n + m) w.cards rest next h.in_stream early
    ∙ ap (onto (statement_of w)) (used_are (called || is_exec w.operation) (n + m + k) cards ∙ ap (statements_behind (called || is_exec w.operation) 0) at_rest)

one : (called : Bool) (w : Written) (rest : List Card) → IsWritten w → (called || not (has_cards w.cards)) ≡ true →
    statements_behind called 0 (map filled (lines_of w) ++ rest) ≡ onto (statement_of w) (statements_behind (called || is_exec w.operation) 0 rest)
one called w rest h early =
    let behind : List ℕ = w.first.identification ++ blanks (80 - length (first_card w)) in
    ap (λ (cards : List Card). statements_behind called 0 (filled (first_card w) ∷ cards)) (cards_are w rest)
    ∙ ap (λ (card : Card). statements_behind called 0 (card ∷ behind_first w rest)) (filled_is (first_fields w) w.first.mark w.first.identification)
    ∙ begun called w behind rest h early

-- all statements of a deck, before what gives none
pub all_are : (called : Bool) (deck : List Written) (rest : List Card) → All IsWritten deck → is_in_order called deck ≡ true →
    ((c : Bool) → statements_behind c 0 rest ≡ Ok []) → statements_behind called 0 (map filled (lines_of_all deck) ++ rest) ≡ Ok (map statement_of deck)
all_are called [] rest all order over = over called
all_are called (w ∷ deck) rest all order over =
    let halves = and_parts (called || not (has_cards w.cards)) (is_in_order (called || is_exec w.operation) deck) order in
    ap (λ (cards : List Card). statements_behind called 0 (cards ++ rest)) (map-append filled (lines_of w) (lines_of_all deck))
    ∙ ap (statements_behind called 0) (append_assoc (map filled (lines_of w)) (map filled (lines_of_all deck)) rest)
    ∙ one called w (map filled (lines_of_all deck) ++ rest) (All-head IsWritten w deck all) halves.0
    ∙ ap (onto (statement_of w)) (all_are (called || is_exec w.operation) deck rest (All-tail IsWritten w deck all) halves.1 over)
