-- The walk over what stands below an SIOT.
use Rattle.std.proofs.Common.{◌≡◌, ℕ, ◌+◌, Bool, true, false, List, ◌∷◌, length, Option, Some, None, refl, sym, ap, ◌∙◌}
use Rattle.std.specs.Prelude.{Result, Ok, Err}
use Rattle.cb_meaning.specs.declared.layout.Layout.{Layout}
use Rattle.cb_meaning.specs.Fields.{number_at}
use Rattle.cb_meaning.specs.Spelled.{Records, jfcb}
use Rattle.cb_meaning.specs.Walks.{arrival_fault, has_cards, is_set, jfcb_faults, lowest, walk_jfcb, with_dds}
use Rattle.cb_queue.specs.RecordQueues.{RecordQueue, bytes_or_zeros, record_at, shown}
use Rattle.cb_walk.specs.Below.{below_from, jfcb_from}
use Rattle.cb_walk.specs.Follows.{Ends, Follows, From, Refuses, cards_from}
use Rattle.cb_walk.specs.Marks.{AreMarked, IsAt}

jfcb_unmet : (l : Layout) (q : Records) (job : ℕ) (steps : List (List Bool)) (k d : ℕ) (s seen : List ℕ) (n fault : ℕ) →
    arrival_fault l q job jfcb seen n ≡ Some fault → walk_jfcb l q job steps k d s seen n ≡ Err fault
jfcb_unmet l q job steps k d s seen n fault e = rw e refl

jfcb_bad : (l : Layout) (q : Records) (job : ℕ) (steps : List (List Bool)) (k d : ℕ) (s seen : List ℕ) (n fault : ℕ) →
    arrival_fault l q job jfcb seen n ≡ None → lowest (jfcb_faults l steps k d s (q.at n)) ≡ Some fault → walk_jfcb l q job steps k d s seen n ≡ Err fault
jfcb_bad l q job steps k d s seen n fault e f = rw e (rw f refl)

jfcb_good : (l : Layout) (q : Records) (job : ℕ) (steps : List (List Bool)) (k d : ℕ) (s seen : List ℕ) (n : ℕ) →
    arrival_fault l q job jfcb seen n ≡ None → lowest (jfcb_faults l steps k d s (q.at n)) ≡ None → walk_jfcb l q job steps k d s seen n ≡ Ok (n ∷ seen)
jfcb_good l q job steps k d s seen n e f = rw e (rw f refl)

told_here : (l m : Layout) (steps : List (List Bool)) (k d : ℕ) (s r t : List ℕ) (o : Option ℕ) → l ≡ m → r ≡ t →
    o ≡ lowest (jfcb_faults l steps k d s r) → lowest (jfcb_faults m steps k d s t) ≡ o
told_here l m steps k d s r t o e f told =
    sym (told ∙ ap (λ x. lowest (jfcb_faults x steps k d s r)) e ∙ ap (λ x. lowest (jfcb_faults m steps k d s x)) f)

pub unmet_set : (q : RecordQueue) (job : ℕ) (steps : List (List Bool)) (dds : List Bool) (s : List ℕ) (n fault : ℕ) (marks : List ℕ) →
    ((seen : List ℕ) → AreMarked marks seen → arrival_fault q.layout (shown q) job jfcb seen n ≡ Some fault) →
    Refuses marks (jfcb_from q job steps dds s n) fault
unmet_set q job steps dds s n fault marks unmet seen marked =
    jfcb_unmet q.layout (shown q) job (with_dds steps dds) (length steps + 1) (length dds + 1) s seen n fault (unmet seen marked)

pub bad_set : (q : RecordQueue) (l : Layout) → l ≡ q.layout → (job : ℕ) (steps : List (List Bool)) (dds : List Bool) (s : List ℕ) (n fault : ℕ)
    (marks later : List ℕ) (r : List ℕ) → ((seen : List ℕ) → AreMarked marks seen → IsAt q job jfcb seen n later r) →
    Some fault ≡ lowest (jfcb_faults l (with_dds steps dds) (length steps + 1) (length dds + 1) s r) → Refuses marks (jfcb_from q job steps dds s n) fault
bad_set q l same job steps dds s n fault marks later r arrived told seen marked =
    let here = arrived seen marked in
    jfcb_bad q.layout (shown q) job (with_dds steps dds) (length steps + 1) (length dds + 1) s seen n fault here.fine
    (told_here l q.layout (with_dds steps dds) (length steps + 1) (length dds + 1) s r (bytes_or_zeros (record_at q n)) (Some fault) same here.bytes told)

pub good_set : (q : RecordQueue) (l : Layout) → l ≡ q.layout → (job : ℕ) (steps : List (List Bool)) (dds : List Bool) (s : List ℕ) (n : ℕ)
    (marks later : List ℕ) (r : List ℕ) → ((seen : List ℕ) → AreMarked marks seen → IsAt q job jfcb seen n later r) →
    None ≡ lowest (jfcb_faults l (with_dds steps dds) (length steps + 1) (length dds + 1) s r) →
    Follows marks later (jfcb_from q job steps dds s n) (λ met. Ok met)
good_set q l same job steps dds s n marks later r arrived told seen marked =
    let here = arrived seen marked in (
      n ∷ seen,
      here.marked,
      jfcb_good q.layout (shown q) job (with_dds steps dds) (length steps + 1) (length dds + 1) s seen n here.fine
          (told_here l q.layout (with_dds steps dds) (length steps + 1) (length dds + 1) s r (bytes_or_zeros (record_at q n)) None same here.bytes told),
    )

-- the same walk ends the same way
pub ends_alike : (marks later : List ℕ) (f g : From (List ℕ)) (result : Result (Unit {0}) ℕ) → ((seen : List ℕ) → f seen ≡ g seen) →
    Ends marks later g result → Ends marks later f result
ends_alike marks later f g (Ok x) same ends = λ seen marked. let a = ends seen marked in (a.0, a.1, same seen ∙ a.2)
ends_alike marks later f g (Err fault) same ends = λ seen marked. same seen ∙ ends seen marked

pub below_set : (q : RecordQueue) (l : Layout) → l ≡ q.layout → (job fuel : ℕ) (steps : List (List Bool)) (dds : List Bool) (s : List ℕ) (n : ℕ) →
    n ≡ number_at s l.below → is_set s ≡ true → (seen : List ℕ) → below_from q job fuel steps dds s seen ≡ jfcb_from q job steps dds s n seen
below_set q l same job fuel steps dds s n link e seen =
    rw e (ap (λ x. jfcb_from q job steps dds s x seen) (sym (link ∙ ap (λ x. number_at s x.below) same)))

pub below_cards : (q : RecordQueue) (l : Layout) → l ≡ q.layout → (job fuel : ℕ) (steps : List (List Bool)) (dds : List Bool) (s : List ℕ) (stated n : ℕ) →
    stated ≡ number_at s l.cards → n ≡ number_at s l.below → is_set s ≡ false → has_cards s ≡ true →
    (seen : List ℕ) → below_from q job fuel steps dds s seen ≡ cards_from q job fuel stated 0 n seen
below_cards q l same job fuel steps dds s stated n count link e f seen =
    rw e (rw f (ap (λ x. cards_from q job fuel x 0 (number_at s q.layout.below) seen) (sym (count ∙ ap (λ x. number_at s x.cards) same))
    ∙ ap (λ x. cards_from q job fuel stated 0 x seen) (sym (link ∙ ap (λ x. number_at s x.below) same))))

pub below_none : (q : RecordQueue) (job fuel : ℕ) (steps : List (List Bool)) (dds : List Bool) (s : List ℕ) → is_set s ≡ false → has_cards s ≡ false →
    (seen : List ℕ) → below_from q job fuel steps dds s seen ≡ Ok seen
below_none q job fuel steps dds s e f seen = rw e (rw f refl)
