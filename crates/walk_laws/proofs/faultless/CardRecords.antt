-- A record of cards without a fault spells what is read of it.
use Rattle.std.proofs.Common.{◌≡◌, ℕ, zero, suc, ◌-◌, ◌≤◌, ◌==◌, true, not, cond, ◌&&◌, ◌||◌, List, [], ◌∷◌, ◌++◌, length, replicate, None, refl, sym, ap, ◌∙◌, subst, arith, inl, inr, eq-eqb}
use Rattle.std.specs.Prelude.{All, nat_le, nat_lt, ◌⊎◌}
use Rattle.std.specs.List.{list_all}
use Rattle.std.proofs.lemmas.Bool.{and_parts, leb-true, ltb-false, or_parts}
use Rattle.std.proofs.lemmas.List.{append-nil, length-append}
use Rattle.std.proofs.lemmas.List.Elements.{All-cons, All-nil}
use Rattle.cb_meaning.specs.declared.layout.Layout.{Layout}
use Rattle.cb_meaning.specs.Fields.{byte_at, is_zero_but, part}
use Rattle.cb_meaning.specs.Readings.{cards_of_record}
use Rattle.cb_meaning.specs.Spelled.{SpellsCards, card_fields}
use Rattle.cb_meaning.specs.Walks.{are_printable, card_faults, lowest}
use Rattle.cb_meaning.specs.Writable.{IsCard}
use Rattle.walk_laws.specs.WalkLaws.{IsRecord}
use Rattle.walk_laws.proofs.faultless.Parts.{all_same_long, in_two, part_long}
use Rattle.walk_laws.proofs.faultless.Told.{second_false, told_false, true_of}

record CardsFine (l : Layout) (r : List ℕ) : Type 0 where
  low : 1 ≤ byte_at r 10
  high : byte_at r 10 ≤ 2
  first : are_printable (part r 16 80) ≡ true
  second : byte_at r 10 ≡ 2 → are_printable (part r 96 80) ≡ true
  behind : byte_at r 10 ≡ 1 → list_all (λ b. b == 0) (part r 96 80) ≡ true
  unused : is_zero_but (card_fields l) r ≡ true

cards_fine : (l : Layout) (r : List ℕ) → lowest (card_faults l r) ≡ None → CardsFine l r
cards_fine l r h =
    let low = nat_lt (byte_at r 10) 1 in
    let high = nat_lt 2 (byte_at r 10) in
    let first = not (are_printable (part r 16 80)) in
    let second = byte_at r 10 == 2 && not (are_printable (part r 96 80)) in
    let behind = byte_at r 10 == 1 && not (list_all (λ b. b == 0) (part r 96 80)) in
    let unused = not (is_zero_but (card_fields l) r) in
    let a = or_parts (low || high || first || second || behind) unused (told_false 12 (low || high || first || second || behind || unused) h) in
    let b = or_parts (low || high || first || second) behind a.0 in
    let c = or_parts (low || high || first) second b.0 in
    let e = or_parts (low || high) first c.0 in
    let f = or_parts low high e.0 in
    record {
      low = ltb-false (byte_at r 10) 1 f.0;
      high = ltb-false 2 (byte_at r 10) f.1;
      first = true_of (are_printable (part r 16 80)) e.1;
      second = λ is. true_of (are_printable (part r 96 80))
          (second_false (byte_at r 10 == 2) (not (are_printable (part r 96 80))) (eq-eqb (byte_at r 10) 2 is) c.1);
      behind = λ is. true_of (list_all (λ b. b == 0) (part r 96 80))
          (second_false (byte_at r 10 == 1) (not (list_all (λ b. b == 0) (part r 96 80))) (eq-eqb (byte_at r 10) 1 is) b.1);
      unused = true_of (is_zero_but (card_fields l) r) a.1;
    }

printable : (cs : List ℕ) → are_printable cs ≡ true → All (λ c. (32 ≤ c) × (c ≤ 126)) cs
printable [] h = All-nil (λ c. (32 ≤ c) × (c ≤ 126))
printable (c ∷ cs) h =
    let parts = and_parts (nat_le 32 c && nat_le c 126) (are_printable cs) h in
    let bounds = and_parts (nat_le 32 c) (nat_le c 126) parts.0 in
    All-cons (λ x. (32 ≤ x) × (x ≤ 126)) c cs (leb-true 32 c bounds.0, leb-true c 126 bounds.1) (printable cs parts.1)

pub record CardsRead (l : Layout) (r : List ℕ) (cards : List (List ℕ)) : Type 0 where
  pub spells : SpellsCards l cards r
  pub fit : All IsCard cards

abbrev cards_by : List ℕ → ℕ → List (List ℕ)
cards_by r n = cond (n == 2) (part r 16 80 ∷ part r 96 80 ∷ []) (part r 16 80 ∷ [])

one_or_two : (n : ℕ) → 1 ≤ n → n ≤ 2 → (n ≡ 1) ⊎ (n ≡ 2)
one_or_two zero h g = absurd (omega (arith, h))
one_or_two (suc zero) h g = inl refl
one_or_two (suc (suc zero)) h g = inr refl
one_or_two (suc (suc (suc n))) h g = absurd (omega (arith, g))

module _ (l : Layout) (r : List ℕ) (is : IsRecord r) (fine : CardsFine l r) where
  long : length r ≡ 176
  long = is.size

  first_long : length (part r 16 80) ≡ 80
  first_long = part_long r 16 80 (omega (arith, long))

  second_long : length (part r 96 80) ≡ 80
  second_long = part_long r 96 80 (omega (arith, long))

  first_card : IsCard (part r 16 80)
  first_card = record { columns = first_long; printable = printable (part r 16 80) fine.first }

  one_card : byte_at r 10 ≡ 1 → CardsRead l r (part r 16 80 ∷ [])
  one_card e =
      let first = part r 16 80 in
      let size : 160 - length (first ++ []) ≡ 80 = ap (λ (xs : List ℕ). 160 - length xs) (append-nil first) ∙ ap (λ n. 160 - n) first_long in
      let zeros = all_same_long 0 80 (part r 96 80) second_long (fine.behind e) in
      record {
        spells = record {
          count = e;
          some = omega arith;
          most = omega arith;
          cards = in_two r 16 80 80 ∙ ((λ i. sym (append-nil first) i ++ zeros i) ∙ ap (λ n. (first ++ []) ++ replicate n 0) (sym size));
          unused = fine.unused;
        };
        fit = All-cons IsCard first [] first_card (All-nil IsCard);
      }

  two_cards : byte_at r 10 ≡ 2 → CardsRead l r (part r 16 80 ∷ part r 96 80 ∷ [])
  two_cards e =
      let first = part r 16 80 in
      let second = part r 96 80 in
      let both = first ++ (second ++ []) in
      let longer = length-append first (second ++ []) in
      let behind = length-append second [] in
      let size : 160 - length both ≡ 0 = omega (arith, longer, behind, first_long, second_long) in
      let other : IsCard second = record { columns = second_long; printable = printable second (fine.second e) } in
      record {
        spells = record {
          count = e;
          some = omega arith;
          most = omega arith;
          cards = in_two r 16 80 80 ∙ (ap (λ (xs : List ℕ). first ++ xs) (sym (append-nil second)) ∙ (sym (append-nil both)
              ∙ ap (λ n. both ++ replicate n 0) (sym size)));
          unused = fine.unused;
        };
        fit = All-cons IsCard first (second ∷ []) first_card (All-cons IsCard second [] other (All-nil IsCard));
      }

  read_by : CardsRead l r (cards_by r (byte_at r 10))
  read_by =
      let By : ℕ → Type 0 = λ n. CardsRead l r (cards_by r n) in
      elim (one_or_two (byte_at r 10) fine.low fine.high) [
        | inl one ↦ subst By (sym one) (one_card one)
        | inr two ↦ subst By (sym two) (two_cards two)
      ]

pub cards_spelled : (l : Layout) (r : List ℕ) → IsRecord r → lowest (card_faults l r) ≡ None → CardsRead l r (cards_of_record r)
cards_spelled l r is h = read_by l r is (cards_fine l r h)
