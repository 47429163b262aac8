-- A card of a chain of records: it is in the first of them, or in those behind it.
use Rattle.std.proofs.Common.{◌≡◌, ◌≢◌, ◌∙◌, ℕ, zero, suc, ◌+◌, ◌-◌, ◌<◌, ◌≤◌, ◌==◌, Bool, true, false, cond, List, [], ◌∷◌, ◌++◌, ap, arith, inl, inr, length, refl, subst, sym}
use Rattle.std.proofs.lemmas.Bool.{cases_lt}
use Rattle.std.proofs.lemmas.List.{get_or-append_right, get_or_append_left, length-append}
use Rattle.cb_meaning.specs.Fields.{byte_at, part}
use Rattle.cb_meaning.specs.Readings.{cards_of_record, cards_read}
use Rattle.cb_meaning.specs.Spelled.{card_record}
use Rattle.cb_queue.specs.RecordQueues.{RecordQueue, shown}
use Rattle.cb_read.specs.Kinds.{AreCards, IsOfKind}
use Rattle.cb_read.proofs.Chained.{IsChain, cards_chain}
use Rattle.cb_read.proofs.OfKind.{first_along, rest_along}
use Rattle.job_text.specs.Places.{card_at}
use Rattle.job_records.specs.declared.cards.CardPlace.{CardPlace}
use Rattle.job_records.specs.Recorded.{HasCard, IsCardPlace, IsPassed, along, cards_in_front, next_cards}
use Rattle.job_records.proofs.Placed.{along_next, along_on}

module _ (q : RecordQueue) where
  abbrev pub cards_left : ℕ → ℕ → List (List ℕ)
  cards_left records n = cards_read q.layout (shown q) records n

  abbrev pub here : ℕ → List (List ℕ)
  here n = cards_of_record ((shown q).at n)

  chain : IsChain cards_left here (next_cards q)
  chain = cards_chain q.layout (shown q)

  pub none_left : (records n left : ℕ) → records ≤ 0 → left < length (cards_left records n) → ⊥
  none_left records n left spent there =
      let is : records ≡ 0 = omega (arith, spent) in
      let size = ap (λ r. length (cards_left r n)) is ∙ ap length (chain.spent n) in
      omega (arith, there, size)

  module _ (records n left : ℕ) (some : 0 < records) (there : left < length (cards_left records n)) where
    one : records ≡ suc (records - 1)
    one = omega (arith, some)

    pub is_there : n ≢ 0
    is_there e =
        let size = (λ i. length (cards_left (one i) (e i))) ∙ ap length (chain.end (records - 1)) in
        omega (arith, there, size)

    pub of_kind : AreCards q records n → IsOfKind q card_record n
    of_kind kinds = first_along (next_cards q) (IsOfKind q card_record) records n some is_there kinds

    pub rest : AreCards q records n → (m : ℕ) → m ≡ next_cards q n → AreCards q (records - 1) m
    rest kinds m on = rest_along (next_cards q) (IsOfKind q card_record) records n some is_there kinds m on

    whole : cards_left records n ≡ here n ++ cards_left (records - 1) (next_cards q n)
    whole = ap (λ r. cards_left r n) one ∙ chain.more (records - 1) n is_there

    pub in_first : left < length (here n) → card_at (cards_left records n) left ≡ card_at (here n) left
    in_first less = ap (λ cs. card_at cs left) whole ∙ get_or_append_left (here n) (cards_left (records - 1) (next_cards q n)) _ left less

    module _ (m : ℕ) (on : m ≡ next_cards q n) (count : ℕ) (size : count ≡ length (here n)) (past : count ≤ left) where
      pub in_rest : card_at (cards_left records n) left ≡ card_at (cards_left (records - 1) m) (left - count)
      in_rest =
          ap (λ cs. card_at cs left) whole ∙ get_or-append_right (here n) (cards_left (records - 1) (next_cards q n)) count left _ (sym size) past
          ∙ ap (λ k. card_at (cards_left (records - 1) k) (left - count)) (sym on)

      pub left_there : left - count < length (cards_left (records - 1) m)
      left_there =
          let all = ap length whole ∙ length-append (here n) (cards_left (records - 1) (next_cards q n)) in
          let same = ap (λ k. length (cards_left (records - 1) k)) on in
          omega (arith, there, all, same, size, past)

  -- a record of cards has one at least
  pub some_here : (n : ℕ) → 0 < length (here n)
  some_here n = some (byte_at ((shown q).at n) 10 == 2)
    where
      some : (b : Bool) → 0 < length (cond b (part ((shown q).at n) 16 80 ∷ part ((shown q).at n) 96 80 ∷ []) (part ((shown q).at n) 16 80 ∷ []))
      some true = omega arith
      some false = omega arith

  pub two_at_most : (n : ℕ) → length (here n) ≤ 2
  two_at_most n = few (byte_at ((shown q).at n) 10 == 2)
    where
      few : (b : Bool) → length (cond b (part ((shown q).at n) 16 80 ∷ part ((shown q).at n) 96 80 ∷ []) (part ((shown q).at n) 16 80 ∷ [])) ≤ 2
      few true = omega arith
      few false = omega arith

  -- more records than there are change nothing
  pub more_fuel : (records more n left : ℕ) → left < length (cards_left records n) →
      (left < length (cards_left (records + more) n)) × (card_at (cards_left (records + more) n) left ≡ card_at (cards_left records n) left)
  more_fuel zero more n left there = absurd (none_left zero n left (omega arith) there)
  more_fuel (suc records) more n left there =
      let nonzero = is_there (suc records) n left (omega arith) there in
      let more_so : suc (records + more) ≡ suc records + more = omega arith in
      let all = chain.more records n nonzero in
      let wide = ap (λ r. cards_left r n) (sym more_so) ∙ chain.more (records + more) n nonzero in
      let size = ap length all ∙ length-append (here n) (cards_left records (next_cards q n)) in
      let wide_size = ap length wide ∙ length-append (here n) (cards_left (records + more) (next_cards q n)) in
      elim (cases_lt left (length (here n))) [
        | inl less ↦ (
          omega (arith, less, wide_size),
          ap (λ cs. card_at cs left) wide ∙ get_or_append_left (here n) (cards_left (records + more) (next_cards q n)) _ left less
              ∙ sym (ap (λ cs. card_at cs left) all ∙ get_or_append_left (here n) (cards_left records (next_cards q n)) _ left less),
        )
        | inr past ↦
            (let rest = more_fuel records more (next_cards q n) (left - length (here n)) (omega (arith, there, size, past)) in
            let less = rest.0 in (
              omega (arith, less, wide_size, past),
              ap (λ cs. card_at cs left) wide ∙ get_or-append_right (here n) (cards_left (records + more) (next_cards q n)) (length (here n)) left _ refl past ∙ rest.1
                  ∙ sym (ap (λ cs. card_at cs left) all ∙ get_or-append_right (here n) (cards_left records (next_cards q n)) (length (here n)) left _ refl past),
            ))
      ]

  -- so of as many as a queue may have
  module _ (n left : ℕ) (has : HasCard q n left) where
    all_fuel : has.records + (q.layout.most_records + 1 - has.records) ≡ q.layout.most_records + 1
    all_fuel = let few = has.few in omega (arith, few)

    pub there_whole : left < length (cards_left (q.layout.most_records + 1) n)
    there_whole =
        subst (λ r. left < length (cards_left r n)) all_fuel (more_fuel has.records (q.layout.most_records + 1 - has.records) n left has.there).0

    pub some_records : 0 < has.records
    some_records = elim (cases_lt 0 has.records) [
      | inl some ↦ some
      | inr none ↦ absurd (none_left has.records n left none has.there)
    ]

    pub kind_here : IsOfKind q card_record n
    kind_here = of_kind has.records n left some_records has.there has.kinds

    pub first_card : left < length (here n) → card_at (cards_left (q.layout.most_records + 1) n) left ≡ card_at (here n) left
    first_card less = in_first (q.layout.most_records + 1) n left (omega arith) there_whole less

    module _ (m : ℕ) (on : m ≡ next_cards q n) (count : ℕ) (size : count ≡ length (here n)) (past : count ≤ left) where
      pub has_rest : HasCard q m (left - count)
      has_rest =
          let few = has.few in
          record {
            records = has.records - 1;
            few = omega (arith, few);
            kinds = rest has.records n left some_records has.there has.kinds m on;
            there = left_there has.records n left some_records has.there m on count size past;
          }

      pub rest_card : card_at (cards_left (q.layout.most_records + 1) n) left ≡ card_at (cards_left (q.layout.most_records + 1) m) (left - count)
      rest_card =
          let one : q.layout.most_records + 1 - 1 + 1 ≡ q.layout.most_records + 1 = omega arith in
          let less = left_there (q.layout.most_records + 1) n left (omega arith) there_whole m on count size past in
          in_rest (q.layout.most_records + 1) n left (omega arith) there_whole m on count size past
          ∙ sym (more_fuel (q.layout.most_records + 1 - 1) 1 m (left - count) less).1 ∙ ap (λ r. card_at (cards_left r m) (left - count)) one

  -- the cards in front, by the last record of these, and of records one behind the other
  pub front_more : (n k : ℕ) → cards_in_front q n (suc k) ≡ cards_in_front q n k + length (here (along (next_cards q) n k))
  front_more n zero = omega arith
  front_more n (suc k) =
      let rest = front_more (next_cards q n) k in
      let same = ap (λ m. length (here m)) (along_next (next_cards q) n k) in
      omega (arith, rest, same)

  pub front_on : (n a b : ℕ) → cards_in_front q n (a + b) ≡ cards_in_front q n a + cards_in_front q (along (next_cards q) n a) b
  front_on n a zero = let e : a + 0 ≡ a = omega arith in ap (cards_in_front q n) e ∙ omega arith
  front_on n a (suc b) =
      let e : suc (a + b) ≡ a + suc b = omega arith in
      let last = front_more n (a + b) in
      let before = front_on n a b in
      let own = front_more (along (next_cards q) n a) b in
      let same = ap (λ m. length (here m)) (along_on (next_cards q) n a b) in
      sym (ap (cards_in_front q n) e) ∙ omega (arith, last, before, own, same)

  -- a card that is behind a record of the chain is found from there on
  pub record IsBehind (first card n : ℕ) (passed : ℕ) : Type 0 where
    pub has : HasCard q n (card - passed)
    pub is : card_at (cards_left (q.layout.most_records + 1) first) card ≡ card_at (cards_left (q.layout.most_records + 1) n) (card - passed)

  pub behind_record : (first card links : ℕ) → HasCard q first card → cards_in_front q first links ≤ card →
      IsBehind first card (along (next_cards q) first links) (cards_in_front q first links)
  behind_record first card zero has few =
      let same : card ≡ card - 0 = omega arith in
      record { has = subst (HasCard q first) same has; is = ap (card_at (cards_left (q.layout.most_records + 1) first)) same }
  behind_record first card (suc links) has few =
      let count = length (here first) in
      let past : count ≤ card = omega (arith, few) in
      let on = behind_record (next_cards q first) (card - count) links (has_rest first card has (next_cards q first) refl count refl past) (omega (arith, few)) in
      let same : card - count - cards_in_front q (next_cards q first) links ≡ card - (count + cards_in_front q (next_cards q first) links) = omega arith in
      let there = along_next (next_cards q) first links in
      record {
        has = subst (λ m. HasCard q m (card - (count + cards_in_front q (next_cards q first) links))) there
            (subst (HasCard q (along (next_cards q) (next_cards q first) links)) same on.has);
        is = rest_card first card has (next_cards q first) refl count refl past ∙ on.is
            ∙ (λ i. card_at (cards_left (q.layout.most_records + 1) (there i)) (same i));
      }

  pub from_passed : (first card n cards : ℕ) → HasCard q first card → IsPassed q first n cards → cards ≤ card → IsBehind first card n cards
  from_passed first card n cards has p few =
      subst (λ m. IsBehind first card m cards) (sym p.is)
      (subst (IsBehind first card (along (next_cards q) first p.links)) (sym p.cards_so)
      (behind_record first card p.links has (subst (λ x. x ≤ card) p.cards_so few)))

  pub place_on : (first card n cards : ℕ) (at : CardPlace) → IsBehind first card n cards → IsPassed q first n cards → cards ≤ card →
      IsCardPlace q n (card - cards) at → IsCardPlace q first card at
  place_on first card n cards at behind p few found =
      let within = found.within in
      let front = front_on first p.links found.passed.links in
      let before = p.cards_so in
      let after = found.passed.cards_so in
      let same = ap (λ m. cards_in_front q m found.passed.links) p.is in
      record {
        kind = found.kind;
        there = found.there;
        is = behind.is ∙ found.is;
        within = omega (arith, within);
        passed = record {
          links = p.links + found.passed.links;
          is = found.passed.is ∙ ap (λ m. along (next_cards q) m found.passed.links) p.is ∙ along_on (next_cards q) first p.links found.passed.links;
          cards_so = omega (arith, within, front, before, after, same, few);
        };
      }
