-- Records of cards that are walked through spell the cards that are read of them.
use Rattle.std.proofs.Common.{◌≡◌, ℕ, zero, suc, ◌+◌, ◌≤◌, ◌==◌, true, false, cond, List, [], ◌∷◌, ◌++◌, length, None, refl, sym, ap, ◌∙◌, subst, arith, inl, inr, eqb-true}
use Rattle.std.specs.Prelude.{All, Result, Ok, Err, nat_lt, if◌then◌else◌}
use Rattle.std.proofs.lemmas.Bool.{cases_Bool}
use Rattle.std.proofs.lemmas.List.{length-append}
use Rattle.std.proofs.lemmas.List.Elements.{All-append, All-nil}
use Rattle.cb_meaning.specs.declared.layout.Layout.{Layout}
use Rattle.cb_meaning.specs.Fields.{byte_at, number_at}
use Rattle.cb_meaning.specs.Readings.{cards_of_record, cards_read}
use Rattle.cb_meaning.specs.Spelled.{CardChain, Records, card_record}
use Rattle.cb_meaning.specs.Walks.{arrival_fault, card_faults, lowest, unless_fault, walk_cards}
use Rattle.cb_meaning.specs.Writable.{IsCard}
use Rattle.walk_laws.specs.WalkLaws.{AreRecords}
use Rattle.walk_laws.proofs.faultless.CardRecords.{cards_spelled}
use Rattle.walk_laws.proofs.faultless.Passing.{Passes, passes_first, passes_none}
use Rattle.walk_laws.proofs.faultless.Told.{arrives, counted, first_of, not_refused, rest_of, unless_parts}

pub record CardsWalked (l : Layout) (q : Records) (job stated read n : ℕ) (seen met : List ℕ) (cards : List (List ℕ)) : Type 0 where
  pub numbers : List ℕ
  pub chain : CardChain l q job n numbers cards
  pub passes : Passes seen numbers met
  pub count : read + length cards ≡ stated
  pub fit : All IsCard cards

cards_spent : (l : Layout) (q : Records) (job stated read n : ℕ) (seen met : List ℕ) → walk_cards l q job 0 stated read seen n ≡ Ok met → ⊥
unfolding walk_cards
cards_spent l q job stated read n seen met h = cc

cards_end : (l : Layout) (q : Records) (job fuel stated read n : ℕ) (seen met : List ℕ) → (n == 0) ≡ true →
    walk_cards l q job (suc fuel) stated read seen n ≡ Ok met → ((read == stated) ≡ true) × (seen ≡ met)
unfolding walk_cards
cards_end l q job fuel stated read n seen met e h = counted (read == stated) 5 seen met (first_of (n == 0) _ _ met e h)

record CardsStep (l : Layout) (q : Records) (job fuel stated read n : ℕ) (seen met : List ℕ) : Type 0 where
  arrival : arrival_fault l q job card_record seen n ≡ None
  faults : lowest (card_faults l (q.at n)) ≡ None
  goes : walk_cards l q job fuel stated (read + byte_at (q.at n) 10) (n ∷ seen) (number_at (q.at n) l.next_cards) ≡ Ok met

abbrev counted_cards : Layout → Records → ℕ → ℕ → ℕ → ℕ → List ℕ → ℕ → Result (List ℕ) ℕ
counted_cards l q job fuel stated read seen n =
    if nat_lt stated (read + byte_at (q.at n) 10) then Err 10
    else walk_cards l q job fuel stated (read + byte_at (q.at n) 10) (n ∷ seen) (number_at (q.at n) l.next_cards)

cards_step : (l : Layout) (q : Records) (job fuel stated read n : ℕ) (seen met : List ℕ) → (n == 0) ≡ false →
    walk_cards l q job (suc fuel) stated read seen n ≡ Ok met → CardsStep l q job fuel stated read n seen met
unfolding walk_cards
cards_step l q job fuel stated read n seen met e h =
    let on = counted_cards l q job fuel stated read seen n in
    let a = unless_parts (arrival_fault l q job card_record seen n) (λ _. unless_fault (lowest (card_faults l (q.at n))) (λ _. on)) met
    (rest_of (n == 0) _ _ met e h) in
    let b = unless_parts (lowest (card_faults l (q.at n))) (λ _. on) met a.1 in
    let c = not_refused (nat_lt stated (read + byte_at (q.at n) 10)) 10 _ met b.1 in
    record { arrival = a.0; faults = b.0; goes = c.1 }

none_read : (l : Layout) (q : Records) (more n : ℕ) → (n == 0) ≡ true → cards_read l q (suc more) n ≡ []
unfolding cards_read
none_read l q more n e = ap (λ b. cond b [] (cards_of_record (q.at n) ++ cards_read l q more (number_at (q.at n) l.next_cards))) e

more_read : (l : Layout) (q : Records) (more n : ℕ) → (n == 0) ≡ false →
    cards_read l q (suc more) n ≡ cards_of_record (q.at n) ++ cards_read l q more (number_at (q.at n) l.next_cards)
unfolding cards_read
more_read l q more n e = ap (λ b. cond b [] (cards_of_record (q.at n) ++ cards_read l q more (number_at (q.at n) l.next_cards))) e

module _ (l : Layout) (q : Records) (job : ℕ) (all : AreRecords q) where
  ended : (fuel stated read n : ℕ) (seen met : List ℕ) (cards : List (List ℕ)) → (n == 0) ≡ true → cards ≡ [] →
      walk_cards l q job (suc fuel) stated read seen n ≡ Ok met → CardsWalked l q job stated read n seen met cards
  ended fuel stated read n seen met cards e none h =
      let stop = cards_end l q job fuel stated read n seen met e h in
      let same = eqb-true read stated stop.0 in
      let size = ap length none in
      record {
        numbers = [];
        chain = (eqb-true n 0 e, none);
        passes = passes_none seen met (sym stop.1);
        count = omega (arith, same, size);
        fit = subst (All IsCard) (sym none) (All-nil IsCard);
      }

  stepped : (fuel stated read n : ℕ) (seen met : List ℕ) (cards rest : List (List ℕ)) → (n == 0) ≡ false → cards ≡ cards_of_record (q.at n) ++ rest →
      CardsStep l q job fuel stated read n seen met →
      CardsWalked l q job stated (read + byte_at (q.at n) 10) (number_at (q.at n) l.next_cards) (n ∷ seen) met rest →
      CardsWalked l q job stated read n seen met cards
  stepped fuel stated read n seen met cards rest e is step behind =
      let here = cards_of_record (q.at n) in
      let came = arrives l q job card_record seen n refl all step.arrival in
      let spelled = cards_spelled l (q.at n) (all n came.in_use) step.faults in
      let size = ap length is ∙ length-append here rest in
      let count = spelled.spells.count in
      let later = behind.count in
      record {
        numbers = n ∷ behind.numbers;
        chain = (here, rest, refl, is, came.owned, spelled.spells, behind.chain);
        passes = passes_first n seen behind.numbers met came.new behind.passes;
        count = omega (arith, size, count, later);
        fit = subst (All IsCard) (sym is) (All-append IsCard here rest spelled.fit behind.fit);
      }

  pub cards_walked : (fuel stated read n : ℕ) (seen met : List ℕ) (more : ℕ) → fuel ≤ more → walk_cards l q job fuel stated read seen n ≡ Ok met →
      CardsWalked l q job stated read n seen met (cards_read l q more n)
  cards_walked zero stated read n seen met more le h = absurd (cards_spent l q job stated read n seen met h)
  cards_walked (suc fuel) stated read n seen met zero le h = absurd (omega (arith, le))
  cards_walked (suc fuel) stated read n seen met (suc more) le h =
      elim (cases_Bool (n == 0)) [
        | inl end ↦ ended fuel stated read n seen met (cards_read l q (suc more) n) end (none_read l q more n end) h
        | inr some ↦ (let step = cards_step l q job fuel stated read n seen met some h in
            let next = number_at (q.at n) l.next_cards in
            stepped fuel stated read n seen met (cards_read l q (suc more) n) (cards_read l q more next) some (more_read l q more n some) step
            (cards_walked fuel stated (read + byte_at (q.at n) 10) next (n ∷ seen) met more (omega (arith, le)) step.goes))
      ]
