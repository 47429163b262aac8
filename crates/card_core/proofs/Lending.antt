-- cards that lie in memory as their lines
use Rattle.std.proofs.Common.{◌≡◌, ℕ, zero, suc, ◌+◌, ◌-◌, ◌≤◌, Bool, true, false, cond, not, if◌then◌else◌, ◌&&◌, ◌++◌, nat_lt, List, [], ◌∷◌, length, take, drop, replicate, Option, Some, None, refl, sym, ap, ◌∙◌, arith}
use Rattle.std.specs.List.{All, list_all, list_any}
use Rattle.std.proofs.lemmas.Bool.Decides.{nat_tests}
use Rattle.std.proofs.lemmas.List.{append-nil, drop-take}
use Rattle.std.proofs.lemmas.List.Elements.{All-cons, All-nil}
use Rattle.card_core.specs.Cards.{are_blank, columns, filled, first_line_fault, first_of, is_blank, is_printable, line_fault}
use Rattle.card_core.specs.declared.fault.CardFault.{CardFault}
use Rattle.card_core.specs.declared.fault.CardFault.TheVariants.{BadByte, LineTooLong}

-- the blanks behind a line's end are blank
all_blank : (n m k : ℕ) → list_all is_blank (take m (drop n (replicate k 32))) ≡ true
all_blank zero zero k = refl
all_blank zero (suc m) zero = refl
all_blank zero (suc m) (suc k) = all_blank zero m k
all_blank (suc n) zero zero = refl
all_blank (suc n) (suc m) zero = refl
all_blank (suc n) m (suc k) = all_blank n m k

none_there : (n m : ℕ) → list_all is_blank (take m (drop n [])) ≡ true
none_there zero zero = refl
none_there zero (suc m) = refl
none_there (suc n) zero = refl
none_there (suc n) (suc m) = refl

blank_behind : (n m k : ℕ) (line : List ℕ) → list_all is_blank (take m (drop n (line ++ replicate k 32))) ≡ list_all is_blank (take m (drop n line))
blank_behind n m k [] = all_blank n m k ∙ sym (none_there n m)
blank_behind zero zero k (c ∷ line) = refl
blank_behind zero (suc m) k (c ∷ line) = ap (λ b. is_blank c && b) (blank_behind zero m k line)
blank_behind (suc n) m k (c ∷ line) = blank_behind n m k line

-- columns are blank where those that the line has are
pub blank_columns : (first last : ℕ) (line : List ℕ) → 1 ≤ first → first ≤ last →
    list_all is_blank (drop (first - 1) (take last line)) ≡ are_blank (columns first last (filled line))
blank_columns first last line from order =
    let count : last ≡ first - 1 + (last + 1 - first) = omega arith in
    ap (λ n. list_all is_blank (drop (first - 1) (take n line))) count
    ∙ ap (list_all is_blank) (drop-take (first - 1) (last + 1 - first) line)
    ∙ sym (blank_behind (first - 1) (last + 1 - first) (80 - length line) line)

-- a line without a fault is short
pub short_line : (line : List ℕ) → line_fault line ≡ None → length line ≤ 80
short_line line none = cases (nat_lt 80 (length line)) (if list_any (λ c. not (is_printable c)) line then Some BadByte else None) refl none
  where
    cases : (long : Bool) (other : Option CardFault) → nat_lt 80 (length line) ≡ long → cond long (Some LineTooLong) other ≡ None → length line ≤ 80
    cases true other is none = absurd (cc)
    cases false other is none = grind (arith, nat_tests)

none_of_both : (a b : Option CardFault) → first_of a b ≡ None → (a ≡ None) × (b ≡ None)
none_of_both (Some fault) b none = absurd (cc)
none_of_both None b none = (refl, none)

pub short_lines : (lines : List (List ℕ)) → first_line_fault lines ≡ None → All (λ line. length line ≤ 80) lines
short_lines [] none = All-nil (λ line. length line ≤ 80)
short_lines (line ∷ lines) none =
    let both = none_of_both (line_fault line) (first_line_fault lines) none in
    All-cons (λ line. length line ≤ 80) line lines (short_line line both.0) (short_lines lines both.1)

-- a card with all its columns is filled
pub filled_whole : (card : List ℕ) → length card ≡ 80 → filled card ≡ card
filled_whole card whole = ap (λ n. card ++ replicate (80 - n) 32) whole ∙ append-nil card
