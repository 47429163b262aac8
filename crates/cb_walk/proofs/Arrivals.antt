-- What is lent of a record, and arriving at it.
use Rattle.std.proofs.Common.{◌≡◌, ℕ, zero, suc, ◌+◌, ◌-◌, ◌<◌, ◌≤◌, ◌≢◌, ◌==◌, ◌||◌, not, Bool, true, false, cond, List, ◌∷◌, length}
use Rattle.std.proofs.Common.{drop, get_or, replicate, Option, Some, None, refl}
use Rattle.std.proofs.Common.{sym, ap, subst, ◌∙◌, arith, inl, inr}
use Rattle.std.specs.Prelude.{nat_lt, if◌then◌else◌, is_none, IfSome}
use Rattle.std.proofs.lemmas.Bool.{cases_Bool, and_parts, leb-true, ltb-true, ltb-false, ne_eqb, or_parts}
use Rattle.std.proofs.lemmas.Grind.{same_number_lists}
use Rattle.std.proofs.lemmas.List.{get_or-drop, get_or-replicate, get_or-take}
use Rattle.std.proofs.lemmas.Bool.Decides.{eqb_tells}
use Rattle.cb_meaning.specs.declared.layout.Layout.{Layout}
use Rattle.cb_meaning.specs.Fields.{byte_at, field, is_in, number_at, part}
use Rattle.cb_meaning.specs.Walks.{arrival_fault, is_free, kind_of, owner_of}
use Rattle.cb_records.specs.Writes.{ChangesOnly}
use Rattle.cb_queue.specs.RecordQueues.{IsInUse, IsLent, IsSoundQueue, RecordQueue, bytes_or_zeros, last_in_use, record_at, shown}
use Rattle.cb_queue.proofs.LastInUse.{in_use_within}
use Rattle.cb_walk.specs.Marks.{AreMarked, arrival_told, is_marked, is_met}

-- zeros in a link that was changed alone give the record back
pub given_again : (l : Layout) (r s t : List ℕ) → IsInUse l r → ChangesOnly l.link r s → ChangesOnly l.link s t →
    part t l.link.at l.link.width ≡ replicate l.link.width 0 → t ≡ r
given_again l r s t used first second zeros =
    same_number_lists t r (second.size ∙ first.size) (λ k h. elim (cases_Bool (is_in l.link k)) [
      | inl within ↦
          (let parts = and_parts _ _ within in
          let low = leb-true l.link.at k parts.0 in
          let high = ltb-true k (l.link.at + l.link.width) parts.1 in
          let place : l.link.at + (k - l.link.at) ≡ k = omega (arith, low) in
          let read = get_or-take l.link.width (drop l.link.at t) (k - l.link.at) 0 (omega (arith, low, high)) ∙ get_or-drop l.link.at t (k - l.link.at) 0 in
          let byte : get_or t (l.link.at + (k - l.link.at)) 0 ≡ 0 = sym read ∙ ap (λ xs. get_or xs (k - l.link.at) 0) zeros
          ∙ get_or-replicate l.link.width (k - l.link.at) 0 0 (omega (arith, low, high)) in
          ap (λ m. get_or t m 0) (sym place) ∙ byte ∙ sym (used.link k within))
      | inr without ↦ second.others k without ∙ first.others k without
    ])

lent_is : (l : Layout) (o : Option (List ℕ)) (s t : List ℕ) → IfSome o (IsInUse l) → IsLent l o (Some s) → ChangesOnly l.link s t →
    part t l.link.at l.link.width ≡ replicate l.link.width 0 → t ≡ bytes_or_zeros o
lent_is l None s t used lent change zeros = absurd lent
lent_is l (Some r) s t used lent change zeros = given_again l r s t used lent change zeros

pub brought : (q : RecordQueue) → IsSoundQueue q → (l : Layout) → l ≡ q.layout → (n : ℕ) (s t : List ℕ) → IsLent q.layout (record_at q n) (Some s) →
    ChangesOnly l.link s t → part t l.link.at l.link.width ≡ replicate l.link.width 0 → t ≡ bytes_or_zeros (record_at q n)
brought q sound l same n s t lent change zeros =
    let Lent : Layout → Type 0 = λ x. IsLent x (record_at q n) (Some s) in
    let Used : Layout → Type 0 = λ x. IfSome (record_at q n) (IsInUse x) in
    lent_is l (record_at q n) s t (subst Used (sym same) (sound.in_use n)) (subst Lent (sym same) lent) change zeros

pub none_brought : (l : Layout) (o : Option (List ℕ)) → IsLent l o None → bytes_or_zeros o ≡ bytes_or_zeros None
none_brought l None lent = refl
none_brought l (Some r) lent = absurd lent

-- one record more is marked
pub marked_more : (old new seen : List ℕ) (n : ℕ) → is_marked new n ≡ true → ((k : ℕ) → k ≢ n → is_marked new k ≡ is_marked old k) → AreMarked old seen →
    AreMarked new (n ∷ seen)
marked_more old new seen n here others marked m =
    elim (eqb_tells n m) [
      | inl same ↦ subst (λ x. is_marked new x ≡ true) same.1 here ∙ sym (ap (λ b. b || is_met seen m) same.0)
      | inr other ↦ others m (λ e. other.1 (sym e)) ∙ marked m ∙ sym (ap (λ b. b || is_met seen m) other.0)
    ]

-- what is 0 of zeros is seen as 0 of a free record
zero_seen : (f : List ℕ → ℕ) → f (bytes_or_zeros None) ≡ 0 → (o : Option (List ℕ)) (b : Bool) → b ≡ is_none o →
    cond b 0 (f (bytes_or_zeros o)) ≡ f (bytes_or_zeros o)
zero_seen f none None b e = ap (λ x. cond x 0 (f (bytes_or_zeros None))) e ∙ sym none
zero_seen f none (Some r) b e = ap (λ x. cond x 0 (f r)) e

abbrev told_with : ℕ → ℕ → Bool → ℕ → ℕ → Bool → Option ℕ
told_with job kind bad k owner met =
    if bad then Some 1
    else (if not (k == kind) then Some 2
    else (if not (owner == job) then Some 3
    else (if met then Some 4
    else None)))

record AreAlike (k j o p : ℕ) (m n : Bool) : Type 0 where
  kinds : k ≡ j
  owners : o ≡ p
  met : m ≡ n

under : (job kind : ℕ) (bad : Bool) (k j o p : ℕ) (m n : Bool) → (bad ≡ false → AreAlike k j o p m n) →
    told_with job kind bad k o m ≡ told_with job kind bad j p n
under job kind true k j o p m n h = refl
under job kind false k j o p m n h =
    let alike = h refl in
    ap (λ x. told_with job kind false x o m) alike.kinds ∙ ap (λ x. told_with job kind false j x m) alike.owners
    ∙ ap (λ x. told_with job kind false j p x) alike.met

pub told_is : (q : RecordQueue) → IsSoundQueue q → (job kind n : ℕ) (seen : List ℕ) (met : Bool) → (n ≤ q.layout.most_records → met ≡ is_met seen n) →
    arrival_fault q.layout (shown q) job kind seen n ≡ arrival_told q.layout (bytes_or_zeros (record_at q n)) job kind met n
told_is q sound job kind n seen met same =
    let r : List ℕ = bytes_or_zeros (record_at q n) in
    under job kind (nat_lt n 1 || nat_lt q.layout.most_records n) (kind_of (shown q) n) (byte_at r 0) (owner_of (shown q) n)
    (number_at r (field 2 2)) (is_met seen n) met (λ fine.
    let parts = or_parts (nat_lt n 1) (nat_lt q.layout.most_records n) fine in
    let low = ltb-false n 1 parts.0 in
    let high = ltb-false q.layout.most_records n parts.1 in
    let free = sound.free n low high in
    record {
      kinds = zero_seen (λ x. byte_at x 0) refl (record_at q n) (is_free (shown q) n) free;
      owners = zero_seen (λ x. number_at x (field 2 2)) refl (record_at q n) (is_free (shown q) n) free;
      met = sym (same high);
    })

-- a record at which a job arrives is in use
told_of_none : (bad same : Bool) (rest : Option ℕ) → same ≡ false → (if bad then Some 1 else (if not same then Some 2 else rest)) ≡ None → ⊥
told_of_none true same rest other h = absurd cc
told_of_none false true rest other h = absurd cc
told_of_none false false rest other h = absurd cc

used_by : (q : RecordQueue) (l : Layout) (job kind k : ℕ) (met : Bool) (o : Option (List ℕ)) → get_or q.records k None ≡ o → kind ≢ 0 →
    arrival_told l (bytes_or_zeros o) job kind met (suc k) ≡ None → suc k ≤ last_in_use q.records
used_by q l job kind k met None is some told =
    absurd (told_of_none (nat_lt (suc k) 1 || nat_lt l.most_records (suc k)) (0 == kind) _ (ne_eqb 0 kind (λ e. some (sym e))) told)
used_by q l job kind k met (Some r) is some told = in_use_within q.records k r is

pub is_used : (q : RecordQueue) (l : Layout) (job kind n : ℕ) (met : Bool) (room : ℕ) → kind ≢ 0 →
    arrival_told l (bytes_or_zeros (record_at q n)) job kind met n ≡ None → last_in_use q.records < room → n < room
is_used q l job kind zero met room some told last = absurd cc
is_used q l job kind (suc k) met room some told last =
    let used = used_by q l job kind k met (get_or q.records k None) refl some told in omega (arith, used, last)
