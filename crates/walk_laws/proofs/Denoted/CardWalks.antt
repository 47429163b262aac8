-- The walk over the records of a DD's cards.
use Rattle.std.proofs.Common.{◌≡◌, ◌==◌, ◌+◌, ◌≤◌, ◌<◌, ◌++◌, arith, ℕ, zero, suc, false, List, [], ◌∷◌, length, Ok, ap, ◌∙◌, subst, length-append}
use Rattle.std.specs.Prelude.{All, nat_lt}
use Rattle.std.proofs.lemmas.Bool.{cond-false, cond-true, eq-eqb, le-ltb}
use Rattle.std.proofs.lemmas.List.Elements.{All-cons, All-head, All-nil, All-tail}
use Rattle.cb_meaning.specs.declared.layout.Layout.{Layout}
use Rattle.cb_meaning.specs.Fields.{byte_at, number_at}
use Rattle.cb_meaning.specs.Spelled.{CardChain, IsOwned, Records, SpellsCards, card_record}
use Rattle.cb_meaning.specs.Walks.{walk_cards}
use Rattle.cb_meaning.specs.Writable.{IsCard}
use Rattle.walk_laws.proofs.Denoted.Arrivals.{arrived, no_end, passes}
use Rattle.walk_laws.proofs.Denoted.CardRecords.{card_none}
use Rattle.walk_laws.proofs.Denoted.Seen.{AreNew, is_among, met}

all_front : {X : Type 0} (P : X → Type 0) (xs ys : List X) → All P (xs ++ ys) → All P xs
all_front P [] ys h = All-nil P
all_front P (x ∷ xs) ys h = All-cons P x xs (All-head P x (xs ++ ys) h) (all_front P xs ys (All-tail P x (xs ++ ys) h))

all_back : {X : Type 0} (P : X → Type 0) (xs ys : List X) → All P (xs ++ ys) → All P ys
all_back P [] ys h = h
all_back P (x ∷ xs) ys h = all_back P xs ys (All-tail P x (xs ++ ys) h)

module _ (l : Layout) (q : Records) (job stated : ℕ) where
  one_record : (fuel read n : ℕ) (seen : List ℕ) (here : List (List ℕ)) → IsOwned l q job card_record n → SpellsCards l here (q.at n) → All IsCard here →
      is_among n seen ≡ false → read + byte_at (q.at n) 10 ≤ stated →
      walk_cards l q job (suc fuel) stated read seen n
      ≡ walk_cards l q job fuel stated (read + byte_at (q.at n) 10) (n ∷ seen) (number_at (q.at n) l.next_cards)
  unfolding walk_cards
  one_record fuel read n seen here owned spells cards new few =
      cond-false (n == 0) _ _ (no_end l q job card_record n owned)
      ∙ (passes _ _ (arrived l q job card_record n owned seen new)
      ∙ (passes _ _ (card_none l here (q.at n) spells cards)
      ∙ cond-false (nat_lt stated (read + byte_at (q.at n) 10)) _ _ (le-ltb stated (read + byte_at (q.at n) 10) few)))

  at_end : (fuel read first : ℕ) (seen : List ℕ) → first ≡ 0 → read ≡ stated → walk_cards l q job (suc fuel) stated read seen first ≡ Ok seen
  unfolding walk_cards
  at_end fuel read first seen e f = cond-true (first == 0) _ _ (eq-eqb first 0 e) ∙ cond-true (read == stated) _ _ (eq-eqb read stated f)

  pub cards_walk : (fuel read first : ℕ) (seen numbers : List ℕ) (cards : List (List ℕ)) → CardChain l q job first numbers cards → All IsCard cards →
      length numbers < fuel → stated ≡ read + length cards → AreNew seen numbers → walk_cards l q job fuel stated read seen first ≡ Ok (met seen numbers)
  cards_walk zero read first seen numbers cards c h few count new = absurd (omega (arith, few))
  cards_walk (suc fuel) read first seen [] cards c h few count new =
      let none : length cards ≡ 0 = ap length c.1 in at_end fuel read first seen c.0 (omega (arith, none, count))
  cards_walk (suc fuel) read first seen (n ∷ numbers) cards c h few count new =
      let all : All IsCard (c.0 ++ c.1) = subst (All IsCard) c.3 h in
      let parts : length cards ≡ length c.0 + length c.1 = ap length c.3 ∙ length-append c.0 c.1 in
      let some : byte_at (q.at n) 10 ≡ length c.0 = c.5.count in
      ap (λ m. walk_cards l q job (suc fuel) stated read seen m) c.2
      ∙ (one_record fuel read n seen c.0 c.4 c.5 (all_front IsCard c.0 c.1 all) new.0 (omega (arith, parts, some, count))
      ∙ cards_walk fuel (read + byte_at (q.at n) 10) (number_at (q.at n) l.next_cards) (n ∷ seen) numbers c.1 c.6 (all_back IsCard c.0 c.1 all)
      (omega (arith, few)) (omega (arith, parts, some, count)) new.1)
