-- The line of a place, character for character.
use Rattle.std.proofs.Common.{◌≡◌, ◌∙◌, ◌+◌, ◌<◌, ◌≤◌, ◌==◌, ◌⊎◌, inl, inr, ℕ, false, cond, List, [], ◌∷◌, ap, arith, get_or, length, subst, take}
use Rattle.std.specs.List.{count_by}
use Rattle.std.proofs.lemmas.Bool.{cases_lt}
use Rattle.std.proofs.lemmas.List.{take_more}
use Rattle.std.proofs.lemmas.List.Sums.{sum_by-append}
use Rattle.lone_deck.specs.Framing.{is_card_on, is_line_end, line_at}

abbrev pub one_if : ℕ → ℕ
one_if c = cond (c == 10) 1 0

pub line_more : (text : List ℕ) (n : ℕ) (d : ℕ) → n < length text → line_at text (n + 1) ≡ line_at text n + one_if (get_or text n d)
line_more text n d h =
    let added : count_by is_line_end (take (n + 1) text) ≡ count_by is_line_end (take n text) + (0 + one_if (get_or text n d)) =
    ap (count_by is_line_end) (take_more text n d h) ∙ sum_by-append one_if (take n text) (get_or text n d ∷ []) in
    omega (arith, added)

-- no card stands before a place, nor at it
pub none_more : (number : ℕ) (text : List ℕ) (place : ℕ) → ((n : ℕ) → n < place → is_card_on number text n ≡ false) →
    is_card_on number text place ≡ false → (n : ℕ) → n < place + 1 → is_card_on number text n ≡ false
none_more number text place before here n h = by (cases_lt n place)
  where
    by : (n < place) ⊎ (place ≤ n) → is_card_on number text n ≡ false
    by (inl less) = before n less
    by (inr more) =
        let same : place ≡ n = omega (arith, h, more) in
        subst (λ m. is_card_on number text m ≡ false) same here
