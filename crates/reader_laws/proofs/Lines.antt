-- The lines of written statements have no fault, and a line that is short reads as a filled one.
use Rattle.std.proofs.Common.{◌≡◌, ◌≤◌, ◌+◌, ◌-◌, ◌++◌, ℕ, Bool, true, false, cond, List, [], ◌∷◌, Option, Some, None, All, map, length, refl, sym, ap, ◌∙◌, arith, append-nil, length-append}
use Rattle.std.specs.Prelude.{not, ◌||◌, nat_lt, codes, suc}
use Rattle.std.specs.List.{list_all, list_any}
use Rattle.std.proofs.lemmas.Bool.{and_parts}
use Rattle.std.proofs.lemmas.List.{length-replicate}
use Rattle.std.proofs.lemmas.List.Elements.{All-append, All-cons, All-head, All-nil, All-tail}
use Rattle.card_core.specs.declared.fault.CardFault.{CardFault}
use Rattle.card_core.specs.Cards.{filled, first_line_fault, first_of, is_printable, line_fault}
use Rattle.card_core.specs.Deck.{statements_behind, statements_of, unless}
use Rattle.reader_laws.specs.WrittenCards.{AreLines, CommentCard, GoesOn, IsContinuation, IsLine, IsWritten, Part, Written, blanks, comment_lines, continuation, data_lines, first_card, last_part, lines_of, lines_of_all, on_card}

not_more : (n : ℕ) → n ≤ 80 → nat_lt 80 n ≡ false
not_more n h = grind (arith)

no_other : (line : List ℕ) → list_all is_printable line ≡ true → list_any (λ c. not (is_printable c)) line ≡ false
no_other [] h = refl
no_other (c ∷ line) h =
    let halves = and_parts (is_printable c) (list_all is_printable line) h in
    ap (λ (b : Bool). not b || list_any (λ d. not (is_printable d)) line) halves.0 ∙ no_other line halves.1

no_fault : (line : List ℕ) → IsLine line → line_fault line ≡ None
no_fault line h =
    let byte : Option CardFault = cond (list_any (λ c. not (is_printable c)) line) (Some CardFault.BadByte) None in
    ap (λ (b : Bool). cond b (Some CardFault.LineTooLong) byte) (not_more (length line) h.fits)
    ∙ ap (λ (b : Bool). cond b (Some CardFault.BadByte) None) (no_other line h.printable)

pub no_faults : (lines : List (List ℕ)) → All IsLine lines → first_line_fault lines ≡ None
no_faults [] all = refl
no_faults (line ∷ lines) all =
    ap (λ (fault : Option CardFault). first_of fault (first_line_fault lines)) (no_fault line (All-head IsLine line lines all))
    ∙ no_faults lines (All-tail IsLine line lines all)

more_lines : (more : List Part) → All IsContinuation more → All IsLine (map continuation more)
more_lines [] all = All-nil IsLine
more_lines (p ∷ more) all =
    All-cons IsLine (continuation p) (map continuation more) (All-head IsContinuation p more all).columns.line (more_lines more
    (All-tail IsContinuation p more all))

comments_are_lines : (mark : ℕ) (comment : Option CommentCard) → GoesOn mark comment → All IsLine (comment_lines comment)
comments_are_lines mark None h = All-nil IsLine
comments_are_lines mark (Some card) h = All-cons IsLine _ [] h.1.columns.line (All-nil IsLine)

delimiter : IsLine (codes "/*")
delimiter = record { fits = omega arith; printable = refl }

data_are_lines : (cards : Option (List (List ℕ))) → AreLines cards → All IsLine (data_lines cards)
data_are_lines None h = All-nil IsLine
data_are_lines (Some cards) h = All-append IsLine cards (codes "/*" ∷ []) h (All-cons IsLine (codes "/*") [] delimiter (All-nil IsLine))

written_lines : (w : Written) → IsWritten w → All IsLine (lines_of w)
written_lines w h =
    All-cons IsLine (first_card w) (map continuation w.more ++ (comment_lines w.comment ++ data_lines w.cards)) h.card.line
    (All-append IsLine (map continuation w.more) (comment_lines w.comment ++ data_lines w.cards) (more_lines w.more h.more)
    (All-append IsLine (comment_lines w.comment) (data_lines w.cards) (comments_are_lines (last_part w.first w.more).mark w.comment h.goes_on)
    (data_are_lines w.cards h.lines)))

pub all_written_lines : (deck : List Written) → All IsWritten deck → All IsLine (lines_of_all deck)
all_written_lines [] all = All-nil IsLine
all_written_lines (w ∷ deck) all =
    All-append IsLine (lines_of w) (lines_of_all deck) (written_lines w (All-head IsWritten w deck all)) (all_written_lines deck
    (All-tail IsWritten w deck all))

-- short lines
on_card_fills : (line : List ℕ) → length line ≤ 80 → length (on_card line) ≡ 80
on_card_fills line h =
    let sum : length line + (80 - length line) ≡ 80 = omega arith in
    length-append line (blanks (80 - length line)) ∙ ap (λ (n : ℕ). length line + n) (length-replicate (80 - length line) 32) ∙ sum

filled_twice : (line : List ℕ) → length line ≤ 80 → filled (on_card line) ≡ filled line
filled_twice line h = ap (λ (n : ℕ). on_card line ++ blanks (80 - n)) (on_card_fills line h) ∙ append-nil (on_card line)

list_any_append : (p : ℕ → Bool) (xs ys : List ℕ) → list_any p ys ≡ false → list_any p (xs ++ ys) ≡ list_any p xs
list_any_append p [] ys h = h
list_any_append p (x ∷ xs) ys h = ap (λ (b : Bool). p x || b) (list_any_append p xs ys h)

blanks_are_printable : (n : ℕ) → list_any (λ c. not (is_printable c)) (blanks n) ≡ false
blanks_are_printable ℕ.zero = refl
blanks_are_printable (suc n) = blanks_are_printable n

same_fault : (line : List ℕ) → length line ≤ 80 → line_fault (on_card line) ≡ line_fault line
same_fault line h =
    let by : Bool → Bool → Option CardFault = λ long other. cond long (Some CardFault.LineTooLong) (cond other (Some CardFault.BadByte) None) in
    ap (λ (b : Bool). by b (list_any (λ c. not (is_printable c)) (on_card line))) (not_more (length (on_card line)) (omega
    (arith, on_card_fills line h)) ∙ sym (not_more (length line) h))
    ∙ ap (by (nat_lt 80 (length line))) (list_any_append (λ c. not (is_printable c)) line (blanks (80 - length line)) (blanks_are_printable (80 - length line)))

abbrev IsShort : List ℕ → Type 0
IsShort line = length line ≤ 80

same_faults : (lines : List (List ℕ)) → All IsShort lines → first_line_fault (map on_card lines) ≡ first_line_fault lines
same_faults [] all = refl
same_faults (line ∷ lines) all = λ i. first_of (same_fault line (All-head IsShort line lines all) i) (same_faults lines (All-tail IsShort line lines all) i)

same_cards : (lines : List (List ℕ)) → All IsShort lines → map filled (map on_card lines) ≡ map filled lines
same_cards [] all = refl
same_cards (line ∷ lines) all = λ i. filled_twice line (All-head IsShort line lines all) i ∷ same_cards lines (All-tail IsShort line lines all) i

pub short_read : (lines : List (List ℕ)) → All (λ line. length line ≤ 80) lines → statements_of (map on_card lines) ≡ statements_of lines
short_read lines all = λ i. unless (same_faults lines all i) (statements_behind false 0 (same_cards lines all i))
