-- A line without a fault is a card.
use Rattle.std.proofs.Common.{◌≡◌, ℕ, ◌+◌, ◌-◌, ◌≤◌, Bool, true, false, not, nat_le, nat_lt, List, [], ◌∷◌, length, map, replicate, Option, Some, None, refl, arith}
use Rattle.std.proofs.Common.{if◌then◌else◌, ◌∙◌, ap}
use Rattle.std.specs.Prelude.{All}
use Rattle.std.specs.List.{list_any}
use Rattle.std.proofs.lemmas.Bool.{and_parts, leb-true, ltb-false, not-false, or_parts}
use Rattle.std.proofs.lemmas.List.{length-append, length-replicate}
use Rattle.std.proofs.lemmas.List.Elements.{All-append, All-cons, All-nil, All-replicate}
use Rattle.card_core.specs.declared.fault.CardFault.{CardFault}
use Rattle.card_core.specs.declared.fault.CardFault.TheVariants.{BadByte, LineTooLong}
use Rattle.card_core.specs.Cards.{filled, first_line_fault, first_of, is_printable, line_fault}
use Rattle.cb_meaning.specs.Writable.{IsCard}

abbrev IsPrinted : ℕ → Type 0
IsPrinted c = (32 ≤ c) × (c ≤ 126)

printed : (c : ℕ) → not (is_printable c) ≡ false → IsPrinted c
printed c h =
    let both = and_parts (nat_le 32 c) (nat_le c 126) (not-false (is_printable c) h) in
    (leb-true 32 c both.0, leb-true c 126 both.1)

all_printed : (line : List ℕ) → list_any (λ c. not (is_printable c)) line ≡ false → All IsPrinted line
all_printed [] h = All-nil IsPrinted
all_printed (c ∷ line) h =
    let parts = or_parts (not (is_printable c)) (list_any (λ c. not (is_printable c)) line) h in
    All-cons IsPrinted c line (printed c parts.0) (all_printed line parts.1)

-- neither too long nor with another character
neither : (long bad : Bool) → (if long then Some LineTooLong else (if bad then Some BadByte else None)) ≡ None → (long ≡ false) × (bad ≡ false)
neither true bad h = absurd (cc)
neither false true h = absurd (cc)
neither false false h = (refl, refl)

filled_is : (line : List ℕ) → line_fault line ≡ None → IsCard (filled line)
filled_is line h =
    let parts = neither (nat_lt 80 (length line)) (list_any (λ c. not (is_printable c)) line) h in
    let short : length line ≤ 80 = ltb-false 80 (length line) parts.0 in
    record {
      columns = length-append line (replicate (80 - length line) 32) ∙ ap (λ n. length line + n) (length-replicate (80 - length line) 32)
          ∙ omega (arith, short);
      printable = All-append IsPrinted line (replicate (80 - length line) 32) (all_printed line parts.1)
          (All-replicate IsPrinted (80 - length line) 32 (omega (arith), omega (arith)));
    }

neither_first : (a b : Option CardFault) → first_of a b ≡ None → (a ≡ None) × (b ≡ None)
neither_first None b h = (refl, h)
neither_first (Some a) b h = absurd (cc)

pub all_filled : (lines : List (List ℕ)) → first_line_fault lines ≡ None → All IsCard (map filled lines)
all_filled [] h = All-nil IsCard
all_filled (line ∷ lines) h =
    let none = neither_first (line_fault line) (first_line_fault lines) h in
    All-cons IsCard (filled line) (map filled lines) (filled_is line none.0) (all_filled lines none.1)
