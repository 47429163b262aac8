-- The walk over records that are read alike ends alike.
use Rattle.std.proofs.Common.{◌≡◌, ◌≢◌, ℕ, zero, suc, ◌+◌, ◌≤◌, ◌==◌, ◌||◌, not, Bool, true, false, cond, List, [], ◌∷◌, ◌++◌, length, Option, Some, None, refl, sym, ap, ◌∙◌, subst, arith}
use Rattle.std.specs.Prelude.{nat_lt, if◌then◌else◌, Result, Ok, Err}
use Rattle.std.specs.List.{list_any}
use Rattle.std.proofs.lemmas.Bool.{cases_Bool, eqb-true, ltb-false, not-false, or_parts}
use Rattle.cb_meaning.specs.declared.layout.Layout.{Layout}
use Rattle.cb_meaning.specs.Fields.{byte_at, field, number_at}
use Rattle.cb_meaning.specs.Spelled.{Records, card_record, jct, jfcb, sct, siot}
use Rattle.cb_meaning.specs.Walks.{and_then, arrival_fault, card_faults, fault_told, first_fault, has_cards, is_free, is_set, jct_faults, jfcb_faults, kind_of, lowest, owner_of, sct_faults, siot_faults, unless_fault, walk_below, walk_cards, walk_dds, walk_jfcb, walk_job, walk_steps, with_dds}
use Rattle.cb_meaning.specs.Writable.{most_dds}
use Rattle.world_meaning.specs.Records.{AgreeBut, IsQueueLayout, has_status}
use Rattle.open_laws.specs.Reading.{AreAlikeFor}
use Rattle.open_laws.proofs.Alike.{card_count_same, card_same, cards_same, jct_same, jfcb_same, kind_same, number, opened, sct_same, set_same, siot_same, volume_same}

unless_next : {A : Type 0} (f : Option ℕ) (x y : Unit {0} → Result A ℕ) → (f ≡ None → x tt ≡ y tt) → unless_fault f x ≡ unless_fault f y
unless_next (Some fault) x y h = refl
unless_next None x y h = h refl

-- two faults that are the same, and what follows where there is none
unless_same : {A : Type 0} (f g : Option ℕ) (x y : Unit {0} → Result A ℕ) → f ≡ g → (g ≡ None → x tt ≡ y tt) → unless_fault f x ≡ unless_fault g y
unless_same f g x y e h = ap (λ o. unless_fault o x) e ∙ unless_next g x y h

then_same : {A B : Type 0} (a b : Result A ℕ) (x y : A → Result B ℕ) → a ≡ b → ((c : A) → x c ≡ y c) → and_then a x ≡ and_then b y
then_same {A = A} a b x y e h = ap (λ r. and_then r x) e ∙ after b
  where
    after : (r : Result A ℕ) → and_then r x ≡ and_then r y
    after (Err fault) = refl
    after (Ok c) = h c

abbrev arrival_by : Bool → Bool → Bool → Bool → Option ℕ
arrival_by bad other foreign met = if bad then Some 1 else (if other then Some 2 else (if foreign then Some 3 else (if met then Some 4 else None)))

parts_of : (a b c d : Bool) → arrival_by a b c d ≡ None → (a ≡ false) × (b ≡ false)
parts_of true b c d e = absurd cc
parts_of false true c d e = absurd cc
parts_of false false c d e = (refl, refl)

record IsInPlace (l : Layout) (q : Records) (kind n : ℕ) : Type 0 where
  low : 1 ≤ n
  high : n ≤ l.most_records
  used : is_free q n ≡ false
  of_kind : byte_at (q.at n) 0 ≡ kind

used_is : (b : Bool) (kind k : ℕ) → kind ≢ 0 → cond b 0 k ≡ kind → (b ≡ false) × (k ≡ kind)
used_is true kind k some e = absurd (some (sym e))
used_is false kind k some e = (refl, e)

arrived : (l : Layout) (q : Records) (job kind : ℕ) (seen : List ℕ) (n : ℕ) → kind ≢ 0 → arrival_fault l q job kind seen n ≡ None → IsInPlace l q kind n
arrived l q job kind seen n some none =
    let parts = parts_of (nat_lt n 1 || nat_lt l.most_records n) (not (kind_of q n == kind)) (not (owner_of q n == job)) (list_any (λ m. m == n) seen) none in
    let place = or_parts (nat_lt n 1) (nat_lt l.most_records n) parts.0 in
    let of_kind : kind_of q n ≡ kind = eqb-true (kind_of q n) kind (not-false (kind_of q n == kind) parts.1) in
    let there = used_is (is_free q n) kind (byte_at (q.at n) 0) some of_kind in
    record { low = ltb-false n 1 place.0; high = ltb-false l.most_records n place.1; used = there.0; of_kind = there.1 }

module _ (l : Layout) (own : IsQueueLayout l) (units job : ℕ) (old new : Records) (alike : AreAlikeFor l job old new) where
  record AreTold (n : ℕ) : Type 0 where
    kinds : kind_of new n ≡ kind_of old n
    owners : (owner_of new n == job) ≡ (owner_of old n == job)

  told_in : (n : ℕ) → 1 ≤ n → n ≤ l.most_records → (b : Bool) → is_free old n ≡ b → AreTold n
  told_in n low high true e =
      let now : is_free new n ≡ true = alike.free n low high ∙ e in
      record {
        kinds = ap (λ t. cond t 0 (byte_at (new.at n) 0)) now ∙ sym (ap (λ t. cond t 0 (byte_at (old.at n) 0)) e);
        owners = ap (λ t. cond t 0 (number_at (new.at n) (field 2 2)) == job) now ∙ sym (ap (λ t. cond t 0 (number_at (old.at n) (field 2 2)) == job) e);
      }
  told_in n low high false e =
      let now : is_free new n ≡ false = alike.free n low high ∙ e in
      let same = alike.used n low high e in
      record {
        kinds = ap (λ t. cond t 0 (byte_at (new.at n) 0)) now ∙ kind_same l own (has_status (byte_at (old.at n) 0)) (old.at n) (new.at n) same.bytes
            ∙ sym (ap (λ t. cond t 0 (byte_at (old.at n) 0)) e);
        owners = ap (λ t. cond t 0 (number_at (new.at n) (field 2 2)) == job) now ∙ same.owner
            ∙ sym (ap (λ t. cond t 0 (number_at (old.at n) (field 2 2)) == job) e);
      }

  arrival_same : (kind : ℕ) (seen : List ℕ) (n : ℕ) → arrival_fault l new job kind seen n ≡ arrival_fault l old job kind seen n
  arrival_same kind seen n = by_place (nat_lt n 1 || nat_lt l.most_records n) refl
    where
      by_place : (b : Bool) → (nat_lt n 1 || nat_lt l.most_records n) ≡ b → arrival_fault l new job kind seen n ≡ arrival_fault l old job kind seen n
      by_place true e =
          ap (λ t. arrival_by t (not (kind_of new n == kind)) (not (owner_of new n == job)) (list_any (λ m. m == n) seen)) e
          ∙ sym (ap (λ t. arrival_by t (not (kind_of old n == kind)) (not (owner_of old n == job)) (list_any (λ m. m == n) seen)) e)
      by_place false e =
          let parts = or_parts (nat_lt n 1) (nat_lt l.most_records n) e in
          let told = told_in n (ltb-false n 1 parts.0) (ltb-false l.most_records n parts.1) (is_free old n) refl in
          (λ i. arrival_by (nat_lt n 1 || nat_lt l.most_records n) (not (told.kinds i == kind)) (not (told.owners i)) (list_any (λ m. m == n) seen))

  agreed : (kind n : ℕ) → IsInPlace l old kind n → AgreeBut (opened l (has_status kind)) (old.at n) (new.at n)
  agreed kind n here = subst (λ k. AgreeBut (opened l (has_status k)) (old.at n) (new.at n)) here.of_kind (alike.used n here.low here.high here.used).bytes

  here_is : (kind : ℕ) (seen : List ℕ) (n : ℕ) → kind ≢ 0 → arrival_fault l old job kind seen n ≡ None → AgreeBut (opened l (has_status kind)) (old.at n) (new.at n)
  here_is kind seen n is none = agreed kind n (arrived l old job kind seen n is none)

  -- cards
  abbrev card_next : Records → ℕ → ℕ → ℕ → List ℕ → ℕ → Result (List ℕ) ℕ
  card_next q fuel stated read seen n =
      if nat_lt stated (read + byte_at (q.at n) 10) then Err 10
      else walk_cards l q job fuel stated (read + byte_at (q.at n) 10) (n ∷ seen) (number_at (q.at n) l.next_cards)

  abbrev card_here : Records → ℕ → ℕ → ℕ → List ℕ → ℕ → Result (List ℕ) ℕ
  card_here q fuel stated read seen n = unless_fault (lowest (card_faults l (q.at n))) (λ _. card_next q fuel stated read seen n)

  walked_cards : (fuel stated read : ℕ) (seen : List ℕ) (n : ℕ) → walk_cards l new job fuel stated read seen n ≡ walk_cards l old job fuel stated read seen n
  unfolding walk_cards
  walked_cards zero stated read seen n = refl
  walked_cards (suc fuel) stated read seen n =
      ap (λ on. cond (n == 0) (if read == stated then Ok seen else Err 5) on)
      (unless_same (arrival_fault l new job card_record seen n) (arrival_fault l old job card_record seen n) (λ _. card_here new fuel stated read seen n)
      (λ _. card_here old fuel stated read seen n) (arrival_same card_record seen n) (λ none.
      let is = here_is card_record seen n (λ e. omega (arith, e)) none in
      let count = card_count_same l own false (old.at n) (new.at n) is in
      let next = number l own false (old.at n) (new.at n) is l.next_cards own.next_cards in
      unless_same (lowest (card_faults l (new.at n))) (lowest (card_faults l (old.at n))) (λ _. card_next new fuel stated read seen n)
      (λ _. card_next old fuel stated read seen n) (ap lowest (card_same l own false (old.at n) (new.at n) is refl)) (λ fine.
      (λ i. cond (nat_lt stated (read + count i)) (Err 10) (walk_cards l new job fuel stated (read + count i) (n ∷ seen) (next i)))
      ∙ ap (λ on. cond (nat_lt stated (read + byte_at (old.at n) 10)) (Err 10) on)
      (walked_cards fuel stated (read + byte_at (old.at n) 10) (n ∷ seen) (number_at (old.at n) l.next_cards)))))

  -- what stands below a DD
  walked_jfcb : (steps : List (List Bool)) (k d : ℕ) (t u seen : List ℕ) (n : ℕ) → byte_at u 28 ≡ byte_at t 28 →
      walk_jfcb l new job steps k d u seen n ≡ walk_jfcb l old job steps k d t seen n
  walked_jfcb steps k d t u seen n volume =
      unless_same (arrival_fault l new job jfcb seen n) (arrival_fault l old job jfcb seen n)
      (λ _. unless_fault (lowest (jfcb_faults l steps k d u (new.at n))) (λ _. Ok (n ∷ seen)))
      (λ _. unless_fault (lowest (jfcb_faults l steps k d t (old.at n))) (λ _. Ok (n ∷ seen))) (arrival_same jfcb seen n) (λ none.
      let is = here_is jfcb seen n (λ e. omega (arith, e)) none in
      ap (λ faults. unless_fault (lowest faults) (λ _. Ok (n ∷ seen))) (jfcb_same l own false (old.at n) (new.at n) is refl steps k d t u volume))

  abbrev below_by : Records → ℕ → List (List Bool) → ℕ → ℕ → List ℕ → List ℕ → Bool → Bool → ℕ → ℕ → Result (List ℕ) ℕ
  below_by q fuel steps k d r seen set cards below count =
      if set then walk_jfcb l q job steps k d r seen below
      else (if cards then walk_cards l q job fuel count 0 seen below else Ok seen)

  walked_below : (fuel : ℕ) (steps : List (List Bool)) (k d : ℕ) (t u seen : List ℕ) → AgreeBut (opened l true) t u →
      walk_below l new job fuel steps k d u seen ≡ walk_below l old job fuel steps k d t seen
  walked_below fuel steps k d t u seen is =
      let set = set_same l own true t u is in
      let cards = cards_same l own true t u is in
      let below = number l own true t u is l.below own.below in
      let count = number l own true t u is l.cards own.cards in
      (λ i. below_by new fuel steps k d u seen (set i) (cards i) (below i) (count i))
      ∙ (λ i. cond (is_set t) (walked_jfcb steps k d t u seen (number_at t l.below) (volume_same l own true t u is) i)
      (cond (has_cards t) (walked_cards fuel (number_at t l.cards) 0 seen (number_at t l.below) i) (Ok seen)))

  -- DDs
  abbrev dd_next : Records → ℕ → ℕ → List (List Bool) → List Bool → ℕ → List ℕ → Result (List Bool × List ℕ) ℕ
  dd_next q fuel stated steps dds n met = walk_dds l units q job fuel stated steps (dds ++ is_set (q.at n) ∷ []) met (number_at (q.at n) l.next_dd)

  abbrev dd_below : Records → ℕ → ℕ → List (List Bool) → List Bool → List ℕ → ℕ → Result (List Bool × List ℕ) ℕ
  dd_below q fuel stated steps dds seen n =
      and_then (walk_below l q job (suc fuel) (with_dds steps dds) (length steps + 1) (length dds + 1) (q.at n) (n ∷ seen)) (λ met. dd_next q fuel stated steps dds n met)

  abbrev dd_here : Records → ℕ → ℕ → List (List Bool) → List Bool → List ℕ → ℕ → Result (List Bool × List ℕ) ℕ
  dd_here q fuel stated steps dds seen n =
      if length dds == most_dds then Err 10
      else unless_fault (lowest (siot_faults l units (with_dds steps dds) (length steps + 1) (length dds + 1) (q.at n))) (λ _. dd_below q fuel stated steps dds seen n)

  walked_dds : (fuel stated : ℕ) (steps : List (List Bool)) (dds : List Bool) (seen : List ℕ) (n : ℕ) →
      walk_dds l units new job fuel stated steps dds seen n ≡ walk_dds l units old job fuel stated steps dds seen n
  unfolding walk_dds
  walked_dds zero stated steps dds seen n = refl
  walked_dds (suc fuel) stated steps dds seen n =
      ap (λ on. cond (n == 0) (if length dds == stated then Ok (dds, seen) else Err 5) on)
      (unless_same (arrival_fault l new job siot seen n) (arrival_fault l old job siot seen n) (λ _. dd_here new fuel stated steps dds seen n)
      (λ _. dd_here old fuel stated steps dds seen n) (arrival_same siot seen n) (λ none.
      let is = here_is siot seen n (λ e. omega (arith, e)) none in
      let set = set_same l own true (old.at n) (new.at n) is in
      let next = number l own true (old.at n) (new.at n) is l.next_dd own.next_dd in
      ap (λ on. cond (length dds == most_dds) (Err 10) on)
      (unless_same (lowest (siot_faults l units (with_dds steps dds) (length steps + 1) (length dds + 1) (new.at n)))
      (lowest (siot_faults l units (with_dds steps dds) (length steps + 1) (length dds + 1) (old.at n))) (λ _. dd_below new fuel stated steps dds seen n)
      (λ _. dd_below old fuel stated steps dds seen n)
      (ap lowest (siot_same l own true (old.at n) (new.at n) is units (with_dds steps dds) (length steps + 1) (length dds + 1))) (λ fine.
      then_same (walk_below l new job (suc fuel) (with_dds steps dds) (length steps + 1) (length dds + 1) (new.at n) (n ∷ seen))
      (walk_below l old job (suc fuel) (with_dds steps dds) (length steps + 1) (length dds + 1) (old.at n) (n ∷ seen))
      (λ met. dd_next new fuel stated steps dds n met) (λ met. dd_next old fuel stated steps dds n met)
      (walked_below (suc fuel) (with_dds steps dds) (length steps + 1) (length dds + 1) (old.at n) (new.at n) (n ∷ seen) is) (λ met.
      (λ i. walk_dds l units new job fuel stated steps (dds ++ set i ∷ []) met (next i))
      ∙ walked_dds fuel stated steps (dds ++ is_set (old.at n) ∷ []) met (number_at (old.at n) l.next_dd))))))

  -- steps
  abbrev step_next : Records → ℕ → ℕ → List (List Bool) → ℕ → List Bool × List ℕ → Result (List ℕ) ℕ
  step_next q fuel stated steps n read = walk_steps l units q job fuel stated (with_dds steps read.0) read.1 (number_at (q.at n) l.next_step)

  abbrev step_below : Records → ℕ → ℕ → List (List Bool) → List ℕ → ℕ → Result (List ℕ) ℕ
  step_below q fuel stated steps seen n =
      and_then (walk_dds l units q job (l.most_records + 1) (number_at (q.at n) l.dds) steps [] (n ∷ seen) (number_at (q.at n) l.first_dd))
      (λ read. step_next q fuel stated steps n read)

  abbrev step_here : Records → ℕ → ℕ → List (List Bool) → List ℕ → ℕ → Result (List ℕ) ℕ
  step_here q fuel stated steps seen n =
      if length steps == l.most_steps then Err 10
      else unless_fault (lowest (sct_faults l (length steps + 1) (q.at n))) (λ _. step_below q fuel stated steps seen n)

  walked_steps : (fuel stated : ℕ) (steps : List (List Bool)) (seen : List ℕ) (n : ℕ) →
      walk_steps l units new job fuel stated steps seen n ≡ walk_steps l units old job fuel stated steps seen n
  unfolding walk_steps
  walked_steps zero stated steps seen n = refl
  walked_steps (suc fuel) stated steps seen n =
      ap (λ on. cond (n == 0) (if length steps == stated then Ok seen else Err 5) on)
      (unless_same (arrival_fault l new job sct seen n) (arrival_fault l old job sct seen n) (λ _. step_here new fuel stated steps seen n)
      (λ _. step_here old fuel stated steps seen n) (arrival_same sct seen n) (λ none.
      let is = here_is sct seen n (λ e. omega (arith, e)) none in
      let count = number l own true (old.at n) (new.at n) is l.dds own.dds in
      let first = number l own true (old.at n) (new.at n) is l.first_dd own.first_dd in
      let next = number l own true (old.at n) (new.at n) is l.next_step own.next_step in
      ap (λ on. cond (length steps == l.most_steps) (Err 10) on)
      (unless_same (lowest (sct_faults l (length steps + 1) (new.at n))) (lowest (sct_faults l (length steps + 1) (old.at n)))
      (λ _. step_below new fuel stated steps seen n) (λ _. step_below old fuel stated steps seen n)
      (ap lowest (sct_same l own true (old.at n) (new.at n) is (length steps + 1))) (λ fine.
      then_same (walk_dds l units new job (l.most_records + 1) (number_at (new.at n) l.dds) steps [] (n ∷ seen) (number_at (new.at n) l.first_dd))
      (walk_dds l units old job (l.most_records + 1) (number_at (old.at n) l.dds) steps [] (n ∷ seen) (number_at (old.at n) l.first_dd))
      (λ read. step_next new fuel stated steps n read) (λ read. step_next old fuel stated steps n read)
      ((λ i. walk_dds l units new job (l.most_records + 1) (count i) steps [] (n ∷ seen) (first i))
      ∙ walked_dds (l.most_records + 1) (number_at (old.at n) l.dds) steps [] (n ∷ seen) (number_at (old.at n) l.first_dd)) (λ read.
      (λ i. walk_steps l units new job fuel stated (with_dds steps read.0) read.1 (next i))
      ∙ walked_steps fuel stated (with_dds steps read.0) read.1 (number_at (old.at n) l.next_step))))))

  -- the whole job
  abbrev job_on : Records → ℕ → ℕ → ℕ → Result (List ℕ) ℕ
  job_on q n first stated = if first == 0 then Err 5 else walk_steps l units q job (l.most_records + 1) stated [] (n ∷ []) first

  pub walked_job : (n : ℕ) → walk_job l units new job n ≡ walk_job l units old job n
  walked_job n =
      unless_same (arrival_fault l new job jct [] n) (arrival_fault l old job jct [] n)
      (λ _. unless_fault (lowest (jct_faults l (new.at n))) (λ _. job_on new n (number_at (new.at n) l.first_step) (number_at (new.at n) l.steps)))
      (λ _. unless_fault (lowest (jct_faults l (old.at n))) (λ _. job_on old n (number_at (old.at n) l.first_step) (number_at (old.at n) l.steps)))
      (arrival_same jct [] n) (λ none.
      let is = here_is jct [] n (λ e. omega (arith, e)) none in
      let first = number l own true (old.at n) (new.at n) is l.first_step own.first_step in
      let stated = number l own true (old.at n) (new.at n) is l.steps own.steps in
      unless_same (lowest (jct_faults l (new.at n))) (lowest (jct_faults l (old.at n)))
      (λ _. job_on new n (number_at (new.at n) l.first_step) (number_at (new.at n) l.steps))
      (λ _. job_on old n (number_at (old.at n) l.first_step) (number_at (old.at n) l.steps))
      (ap lowest (jct_same l own true (old.at n) (new.at n) is)) (λ fine.
      (λ i. job_on new n (first i) (stated i))
      ∙ ap (λ on. cond (number_at (old.at n) l.first_step == 0) (Err 5) on)
      (walked_steps (l.most_records + 1) (number_at (old.at n) l.steps) [] (n ∷ []) (number_at (old.at n) l.first_step))))

  pub same_fault : (n : ℕ) → first_fault l units new job n ≡ first_fault l units old job n
  same_fault n = ap fault_told (walked_job n)
