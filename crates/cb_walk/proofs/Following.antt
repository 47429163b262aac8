-- The walk over cards, a record further.
use Rattle.std.proofs.Common.{◌≡◌, ℕ, suc, ◌+◌, ◌<◌, ◌≤◌, ◌≢◌, Bool, List, ◌∷◌, Option, Some, None, refl, sym, ap, subst, ◌∙◌, eq-eqb}
use Rattle.std.specs.Prelude.{Ok, Err}
use Rattle.std.proofs.lemmas.Bool.{le-ltb, lt-ltb, ne_eqb}
use Rattle.cb_meaning.specs.declared.layout.Layout.{Layout}
use Rattle.cb_meaning.specs.Fields.{byte_at, number_at}
use Rattle.cb_meaning.specs.Spelled.{Records, card_record}
use Rattle.cb_meaning.specs.Walks.{arrival_fault, card_faults, lowest, walk_cards}
use Rattle.cb_queue.specs.RecordQueues.{RecordQueue, bytes_or_zeros, record_at, shown}
use Rattle.cb_walk.specs.Marks.{AreMarked, IsAt}
use Rattle.cb_walk.specs.Follows.{Follows, PassesCards, Refuses, cards_from}

cards_spent : (l : Layout) (q : Records) (job stated read n : ℕ) (seen : List ℕ) → walk_cards l q job 0 stated read seen n ≡ Err 4
unfolding walk_cards
cards_spent l q job stated read n seen = refl

cards_whole : (l : Layout) (q : Records) (job fuel stated read n : ℕ) (seen : List ℕ) → n ≡ 0 → read ≡ stated →
    walk_cards l q job (suc fuel) stated read seen n ≡ Ok seen
unfolding walk_cards
cards_whole l q job fuel stated read n seen e s = rw (eq-eqb n 0 e) (rw (eq-eqb read stated s) refl)

cards_miscounted : (l : Layout) (q : Records) (job fuel stated read n : ℕ) (seen : List ℕ) → n ≡ 0 → read ≢ stated →
    walk_cards l q job (suc fuel) stated read seen n ≡ Err 5
unfolding walk_cards
cards_miscounted l q job fuel stated read n seen e s = rw (eq-eqb n 0 e) (rw (ne_eqb read stated s) refl)

pub cards_unmet : (l : Layout) (q : Records) (job fuel stated read n : ℕ) (seen : List ℕ) (fault : ℕ) → n ≢ 0 →
    arrival_fault l q job card_record seen n ≡ Some fault → walk_cards l q job (suc fuel) stated read seen n ≡ Err fault
unfolding walk_cards
cards_unmet l q job fuel stated read n seen fault some e = rw (ne_eqb n 0 some) (rw e refl)

cards_bad : (l : Layout) (q : Records) (job fuel stated read n : ℕ) (seen : List ℕ) (fault : ℕ) → n ≢ 0 →
    arrival_fault l q job card_record seen n ≡ None → lowest (card_faults l (q.at n)) ≡ Some fault →
    walk_cards l q job (suc fuel) stated read seen n ≡ Err fault
unfolding walk_cards
cards_bad l q job fuel stated read n seen fault some e f = rw (ne_eqb n 0 some) (rw e (rw f refl))

cards_many : (l : Layout) (q : Records) (job fuel stated read n : ℕ) (seen : List ℕ) → n ≢ 0 →
    arrival_fault l q job card_record seen n ≡ None → lowest (card_faults l (q.at n)) ≡ None → stated < read + byte_at (q.at n) 10 →
    walk_cards l q job (suc fuel) stated read seen n ≡ Err 10
unfolding walk_cards
cards_many l q job fuel stated read n seen some e f many =
    rw (ne_eqb n 0 some) (rw e (rw f (rw (lt-ltb stated (read + byte_at (q.at n) 10) many) refl)))

cards_pass : (l : Layout) (q : Records) (job fuel stated read n : ℕ) (seen : List ℕ) → n ≢ 0 →
    arrival_fault l q job card_record seen n ≡ None → lowest (card_faults l (q.at n)) ≡ None → read + byte_at (q.at n) 10 ≤ stated →
    walk_cards l q job (suc fuel) stated read seen n ≡ walk_cards l q job fuel stated (read + byte_at (q.at n) 10) (n ∷ seen) (number_at (q.at n) l.next_cards)
unfolding walk_cards
cards_pass l q job fuel stated read n seen some e f few =
    rw (ne_eqb n 0 some) (rw e (rw f (rw (le-ltb stated (read + byte_at (q.at n) 10) few) refl)))

told_here : (l m : Layout) (r s : List ℕ) (o : Option ℕ) → l ≡ m → r ≡ s → o ≡ lowest (card_faults l r) → lowest (card_faults m s) ≡ o
told_here l m r s o e f told = sym (told ∙ ap (λ x. lowest (card_faults x r)) e ∙ ap (λ x. lowest (card_faults m x)) f)

abbrev pub Arrived : RecordQueue → ℕ → ℕ → List ℕ → List ℕ → List ℕ → Type 0
Arrived q job n marks later r = (seen : List ℕ) → AreMarked marks seen → IsAt q job card_record seen n later r

pub bad_cards : (q : RecordQueue) (l : Layout) → l ≡ q.layout → (job stated read n : ℕ) (marks later : List ℕ) (r : List ℕ) (fault : ℕ) → n ≢ 0 →
    Arrived q job n marks later r → Some fault ≡ lowest (card_faults l r) → (fuel : ℕ) → Refuses marks (cards_from q job (suc fuel) stated read n) fault
bad_cards q l same job stated read n marks later r fault some arrived told fuel seen marked =
    let here = arrived seen marked in
    cards_bad q.layout (shown q) job fuel stated read n seen fault some here.fine
    (told_here l q.layout r (bytes_or_zeros (record_at q n)) (Some fault) same here.bytes told)

pub many_cards : (q : RecordQueue) (l : Layout) → l ≡ q.layout → (job stated read n : ℕ) (marks later : List ℕ) (r : List ℕ) (byte : ℕ) → n ≢ 0 →
    Arrived q job n marks later r → None ≡ lowest (card_faults l r) → byte ≡ byte_at r 10 → stated < read + byte →
    (fuel : ℕ) → Refuses marks (cards_from q job (suc fuel) stated read n) 10
many_cards q l same job stated read n marks later r byte some arrived told is many fuel seen marked =
    let here = arrived seen marked in
    let P : ℕ → Type 0 = λ x. stated < read + x in
    cards_many q.layout (shown q) job fuel stated read n seen some here.fine
    (told_here l q.layout r (bytes_or_zeros (record_at q n)) None same here.bytes told) (subst P (is ∙ ap (λ x. byte_at x 10) here.bytes) many)

pub passed_cards : (q : RecordQueue) (l : Layout) → l ≡ q.layout → (job stated read n : ℕ) (marks later : List ℕ) (r : List ℕ) (byte next : ℕ) → n ≢ 0 →
    Arrived q job n marks later r → None ≡ lowest (card_faults l r) → byte ≡ byte_at r 10 → read + byte ≤ stated → next ≡ number_at r l.next_cards →
    PassesCards q job stated read n marks later (read + byte) next
passed_cards q l same job stated read n marks later r byte next some arrived told is few link = record {
  within = few;
  follows = λ fuel seen marked.
      let here = arrived seen marked in
      let s : List ℕ = bytes_or_zeros (record_at q n) in
      let count : byte ≡ byte_at s 10 = is ∙ ap (λ x. byte_at x 10) here.bytes in
      let then_next : next ≡ number_at s q.layout.next_cards =
      link ∙ ap (λ x. number_at r x.next_cards) same ∙ ap (λ x. number_at x q.layout.next_cards) here.bytes in
      let P : ℕ → Type 0 = λ x. read + x ≤ stated in (
        n ∷ seen,
        here.marked,
        cards_pass q.layout (shown q) job fuel stated read n seen some here.fine
            (told_here l q.layout r s None same here.bytes told) (subst P count few)
            ∙ ap (λ x. walk_cards q.layout (shown q) job fuel stated (read + x) (n ∷ seen) (number_at s q.layout.next_cards)) (sym count)
            ∙ ap (λ x. walk_cards q.layout (shown q) job fuel stated (read + byte) (n ∷ seen) x) (sym then_next),
      );
}

-- at the end of the cards
pub cards_end : (q : RecordQueue) (job stated read n : ℕ) (marks : List ℕ) → n ≡ 0 → read ≡ stated →
    (fuel : ℕ) → Follows marks marks (cards_from q job (suc fuel) stated read n) (λ met. Ok met)
cards_end q job stated read n marks end same fuel seen marked = (seen, marked, cards_whole q.layout (shown q) job fuel stated read n seen end same)

pub cards_other : (q : RecordQueue) (job stated read n : ℕ) (marks : List ℕ) → n ≡ 0 → read ≢ stated →
    (fuel : ℕ) → Refuses marks (cards_from q job (suc fuel) stated read n) 5
cards_other q job stated read n marks end other fuel seen marked = cards_miscounted q.layout (shown q) job fuel stated read n seen end other

pub cards_none : (q : RecordQueue) (job stated read n : ℕ) (marks : List ℕ) → Refuses marks (cards_from q job 0 stated read n) 4
cards_none q job stated read n marks seen marked = cards_spent q.layout (shown q) job stated read n seen
