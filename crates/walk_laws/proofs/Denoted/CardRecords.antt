-- The records of cards of a job have no fault.
use Rattle.std.proofs.Common.{◌≡◌, ◌==◌, ◌-◌, ◌≤◌, ◌&&◌, arith, ℕ, true, false, not, List, [], ◌∷◌, ◌++◌, length, take, drop, replicate, None, refl, ap, ◌∙◌}
use Rattle.std.specs.Prelude.{All, nat_le, nat_lt}
use Rattle.std.specs.List.{flat_map, list_all}
use Rattle.std.proofs.lemmas.Bool.{and_from, and_left, and_right, le-leb, not_from_true}
use Rattle.std.proofs.lemmas.List.{append_assoc, drop_at, take_at}
use Rattle.std.proofs.lemmas.List.Elements.{All-head, All-tail}
use Rattle.cb_meaning.specs.declared.layout.Layout.{Layout}
use Rattle.cb_meaning.specs.Fields.{byte_at, part, then_zeros}
use Rattle.cb_meaning.specs.Spelled.{SpellsCards}
use Rattle.cb_meaning.specs.Walks.{are_printable, card_faults, lowest}
use Rattle.cb_meaning.specs.Writable.{IsCard}
use Rattle.walk_laws.proofs.Denoted.Bytes.{part_within}
use Rattle.walk_laws.proofs.Denoted.NoFault.{no_six, one_none}
use Rattle.walk_laws.proofs.Denoted.Tests.{zero_take, zeros_are}

printable_is : (text : List ℕ) → All (λ c. (32 ≤ c) × (c ≤ 126)) text → are_printable text ≡ true
printable_is [] h = refl
printable_is (c ∷ cs) h =
    let one = All-head (λ c. (32 ≤ c) × (c ≤ 126)) c cs h in
    and_from (nat_le 32 c && nat_le c 126) (are_printable cs) (and_from (nat_le 32 c) (nat_le c 126) (le-leb 32 c one.0) (le-leb c 126 one.1))
    (printable_is cs (All-tail (λ c. (32 ≤ c) × (c ≤ 126)) c cs h))

abbrev joined : List (List ℕ) → List ℕ
joined cards = flat_map (λ card. card) cards

abbrev zeros : List (List ℕ) → List ℕ
zeros cards = replicate (160 - length (joined cards)) 0

module _ (r : List ℕ) (card : List ℕ) (cards : List (List ℕ)) (is : part r 16 160 ≡ then_zeros 160 (joined (card ∷ cards))) (one : IsCard card) where
  split : part r 16 160 ≡ card ++ (joined cards ++ zeros (card ∷ cards))
  split = is ∙ append_assoc card (joined cards) (zeros (card ∷ cards))

  first_card : part r 16 80 ≡ card
  first_card =
      part_within r 16 160 0 80 (omega arith)
      ∙ (ap (take 80) split ∙ take_at card (joined cards ++ zeros (card ∷ cards)) 80 one.columns)

  behind_card : part r 96 80 ≡ take 80 (joined cards ++ zeros (card ∷ cards))
  behind_card =
      part_within r 16 160 80 80 (omega arith)
      ∙ ap (take 80) (ap (drop 80) split ∙ drop_at card (joined cards ++ zeros (card ∷ cards)) 80 one.columns)

  first_printable : not (are_printable (part r 16 80)) ≡ false
  first_printable = not_from_true (are_printable (part r 16 80)) (ap are_printable first_card ∙ printable_is card one.printable)

second_card : (r card other : List ℕ) → part r 16 160 ≡ then_zeros 160 (joined (card ∷ other ∷ [])) → IsCard card → IsCard other → part r 96 80 ≡ other
second_card r card other is one two =
    behind_card r card (other ∷ []) is one
    ∙ (ap (take 80) (append_assoc other [] (zeros (card ∷ other ∷ []))) ∙ take_at other (zeros (card ∷ other ∷ [])) 80 two.columns)

pub card_none : (l : Layout) (here : List (List ℕ)) (r : List ℕ) → SpellsCards l here r → All IsCard here → lowest (card_faults l r) ≡ None
card_none l [] r s h = let low = s.some in absurd (omega (arith, low))
card_none l (card ∷ []) r s h =
    let one = All-head IsCard card [] h in
    let behind : list_all (λ b. b == 0) (part r 96 80) ≡ true =
    ap (λ bs. list_all (λ b. b == 0) bs) (behind_card r card [] s.cards one)
    ∙ zero_take 80 (zeros (card ∷ [])) (zeros_are (160 - length (joined (card ∷ [])))) in
    one_none 12 _ (no_six _ _ _ _ _ _ (ap (λ n. nat_lt n 1) s.count) (ap (λ n. nat_lt 2 n) s.count) (first_printable r card [] s.cards one)
    (and_left (byte_at r 10 == 2) (not (are_printable (part r 96 80))) (ap (λ n. n == 2) s.count))
    (and_right (byte_at r 10 == 1) (not (list_all (λ b. b == 0) (part r 96 80))) (not_from_true (list_all (λ b. b == 0) (part r 96 80)) behind))
    (not_from_true _ s.unused))
card_none l (card ∷ other ∷ []) r s h =
    let one = All-head IsCard card (other ∷ []) h in
    let two = All-head IsCard other [] (All-tail IsCard card (other ∷ []) h) in
    let behind : are_printable (part r 96 80) ≡ true = ap are_printable (second_card r card other s.cards one two) ∙ printable_is other two.printable in
    one_none 12 _ (no_six _ _ _ _ _ _ (ap (λ n. nat_lt n 1) s.count) (ap (λ n. nat_lt 2 n) s.count) (first_printable r card (other ∷ []) s.cards one)
    (and_right (byte_at r 10 == 2) (not (are_printable (part r 96 80))) (not_from_true (are_printable (part r 96 80)) behind))
    (and_left (byte_at r 10 == 1) (not (list_all (λ b. b == 0) (part r 96 80))) (ap (λ n. n == 1) s.count))
    (not_from_true _ s.unused))
card_none l (card ∷ other ∷ third ∷ cards) r s h = let most = s.most in absurd (omega (arith, most))
