-- The tables of a store and the queue that they are.
use Rattle.std.proofs.Common.{◌≡◌, ◌≢◌, ℕ, zero, suc, ◌+◌, ◌-◌, ◌<◌, ◌≤◌, ◌==◌, true, cond, List, [], ◌∷◌, All, length, get_or, map, reverse, take, Option, None, Some, replicate, ◌^◌, arith, ◌∙◌, ap, sym, refl, subst, length-set}
use Rattle.std.specs.Prelude.{IfSome, is_some, slice_set}
use Rattle.std.specs.List.{count_by}
use Rattle.std.proofs.lemmas.Bool.{ne_eqb}
use Rattle.std.proofs.lemmas.List.{get_or-map, get_or_past, length-replicate, length-reverse, map-set, reverse-append, reverse-reverse, set-get_or, take_all, take_more, take_more_set}
use Rattle.std.proofs.lemmas.List.Folds.{sum_by-replicate}
use Rattle.std.proofs.lemmas.List.Sums.{count_by-le-length, sum_by-set}
use Rattle.cb_meaning.specs.declared.layout.Layout.{Layout}
use Rattle.cb_meaning.specs.Fields.{field, number_at}
use Rattle.queue_core.specs.declared.queue.Queued.{Queued}
use Rattle.cb_queue.specs.RecordQueues.{AreInOrder, HasOwnLink, IsInUse, IsQueued, IsSoundQueue, RecordQueue, empty_queue, first_numbers, first_taken, given_back, no_records, owner_in, record_at, taken, with_record_at, zero_record}
use Rattle.cb_queue.specs.Stored.{AreStored, seen_in, seen_record, seen_records}
use Rattle.cb_queue.proofs.Changing.{first_free, first_here, reaches, sound_empty, sound_given, sound_put, sound_taken, sound_waiting}
use Rattle.cb_queue.proofs.Parts.{in_use_zero, owner_zero}
use Rattle.plain.specs.Lists.{numbers_from}

-- one record is another, and one owner
pub seen_set : (os : List ℕ) (rs : List (List ℕ)) (i o : ℕ) (r : List ℕ) → seen_records (slice_set os i o) (slice_set rs i r) ≡ slice_set (seen_records os rs) i (seen_record o r)
seen_set [] rs i o r = refl
seen_set (x ∷ os) [] i o r = by i
  where
    by : (i : ℕ) → seen_records (slice_set (x ∷ os) i o) [] ≡ []
    by zero = refl
    by (suc i) = refl
seen_set (x ∷ os) (y ∷ rs) zero o r = refl
seen_set (x ∷ os) (y ∷ rs) (suc i) o r = ap (λ xs. seen_record x y ∷ xs) (seen_set os rs i o r)

pub seen_at : (os : List ℕ) (rs : List (List ℕ)) (i : ℕ) → i < length os → i < length rs → get_or (seen_records os rs) i None ≡ seen_record (get_or os i 0) (get_or rs i [])
seen_at [] rs i h k = absurd (omega (arith, h))
seen_at (x ∷ os) [] i h k = absurd (omega (arith, k))
seen_at (x ∷ os) (y ∷ rs) zero h k = refl
seen_at (x ∷ os) (y ∷ rs) (suc i) h k = seen_at os rs i (omega (arith, h)) (omega (arith, k))

length-seen : (os : List ℕ) (rs : List (List ℕ)) → length rs ≡ length os → length (seen_records os rs) ≡ length os
length-seen [] rs e = refl
length-seen (x ∷ os) [] e = absurd (omega (arith, e))
length-seen (x ∷ os) (y ∷ rs) e = ap suc (length-seen os rs (omega (arith, e)))

in_record : (o : ℕ) (r : List ℕ) → o ≢ 0 → seen_record o r ≡ Some r
in_record o r h = ap (λ b. cond b None (Some r)) (ne_eqb o 0 h)

-- how many are zero, as one of them changes
abbrev pub zero_count : ℕ → ℕ
zero_count o = cond (o == 0) 1 0

pub count_set : (os : List ℕ) (i o : ℕ) → i < length os → count_by (λ x. x == 0) (slice_set os i o) + zero_count (get_or os i 0) ≡ count_by (λ x. x == 0) os + zero_count o
count_set os i o h = sum_by-set zero_count os i o 0 h

-- the number of a record in use
pub used_number : (q : RecordQueue) (n : ℕ) → is_some (record_at q n) ≡ true → (1 ≤ n) × (n - 1 < length q.records)
used_number q zero e = cc
used_number q (suc i) e = let here = reaches q.records i e in (omega arith, omega (arith, here))

pub owned_record : (l : Layout) (o : Option (List ℕ)) → IfSome o (IsInUse l) → is_some o ≡ true → owner_in o ≢ 0
owned_record l None u e = cc
owned_record l (Some r) u e = u.owner

-- the last of a stack is taken next
pub stack_more : (stack : List ℕ) (count : ℕ) → count < length stack → reverse (take (count + 1) stack) ≡ get_or stack count 0 ∷ reverse (take count stack)
stack_more stack count h = ap reverse (take_more stack count 0 h) ∙ reverse-append (take count stack) (get_or stack count 0 ∷ [])

stack_pushed : (stack : List ℕ) (count n : ℕ) → count < length stack → reverse (take (count + 1) (slice_set stack count n)) ≡ n ∷ reverse (take count stack)
stack_pushed stack count n h = ap reverse (take_more_set stack count n h) ∙ reverse-append (take count stack) (n ∷ [])

module _ (l : Layout) (os : List ℕ) (rs : List (List ℕ)) (stack : List ℕ) (count : ℕ) (waiting : List Queued) (h : AreStored l os rs stack count waiting) where
  abbrev now : RecordQueue
  now = seen_in l os rs stack count waiting

  abbrev all : List (Option (List ℕ))
  all = seen_records os rs

  abbrev queue_of : List (Option (List ℕ)) → List ℕ → RecordQueue
  queue_of records free = record { layout = l; records = records; free = free; waiting = waiting }

  pub owner_seen : (i : ℕ) → i < l.most_records → get_or os i 0 ≡ owner_in (get_or all i None)
  owner_seen i here =
      ap (λ xs. get_or xs i 0) (sym h.owned) ∙ get_or-map owner_in all i None 0 (let size = h.sound.size in omega (arith, here, size))

  pub past_seen : (i : ℕ) → l.most_records ≤ i → 0 ≡ owner_in (get_or all i None)
  past_seen i past = sym (ap owner_in (get_or_past all i None (let size = h.sound.size in omega (arith, past, size))))

  -- record i + 1 is in use
  module _ (i : ℕ) (used : is_some (get_or all i None) ≡ true) where
    pub here : i < l.most_records
    here = let r = reaches all i used in let size = h.sound.size in omega (arith, r, size)

    pub has_owner : get_or os i 0 ≢ 0
    has_owner none = owned_record l (get_or all i None) (h.sound.in_use (suc i)) used (sym (owner_seen i here) ∙ none)

    pub record_is : get_or all i None ≡ Some (get_or rs i [])
    record_is =
        let a = h.owners_room in
        let b = h.records_room in
        let w = here in
        seen_at os rs i (omega (arith, a, w)) (omega (arith, b, w)) ∙ in_record (get_or os i 0) (get_or rs i []) has_owner

    pub in_use : IsInUse l (get_or rs i [])
    in_use = subst (λ o. IfSome o (IsInUse l)) record_is (h.sound.in_use (suc i))

    records_put : (r : List ℕ) → seen_records os (slice_set rs i r) ≡ slice_set all i (Some r)
    records_put r =
        ap (λ xs. seen_records xs (slice_set rs i r)) (sym (set-get_or os i 0)) ∙ seen_set os rs i (get_or os i 0) r
        ∙ ap (λ o. slice_set all i o) (in_record (get_or os i 0) r has_owner)

    pub seen_put : (r : List ℕ) → seen_in l os (slice_set rs i r) stack count waiting ≡ with_record_at now (suc i) (Some r)
    seen_put r = ap (λ xs. queue_of xs (reverse (take count stack))) (records_put r)

    pub stored_put : (r : List ℕ) → IsInUse l r → number_at r (field 2 2) ≡ get_or os i 0 → AreStored l os (slice_set rs i r) stack count waiting
    stored_put r u owner = record {
      sound = subst IsSoundQueue (sym (seen_put r)) (sound_put now i r h.sound used u (owner ∙ owner_seen i here));
      few = h.few;
      records_room = length-set rs i r ∙ h.records_room;
      owners_room = h.owners_room;
      stack_room = h.stack_room;
      owned =
          ap (map owner_in) (records_put r) ∙ map-set owner_in all i (Some r) ∙ ap (λ o. slice_set (map owner_in all) i o) owner
          ∙ ap (λ xs. slice_set xs i (get_or os i 0)) h.owned ∙ set-get_or os i 0;
      free_count = h.free_count;
    }

    count_given : count_by (λ x. x == 0) (slice_set os i 0) ≡ count + 1
    count_given =
        let a = h.owners_room in
        let w = here in
        let is = h.free_count in
        let step = count_set os i 0 (omega (arith, a, w)) in
        let was : zero_count (get_or os i 0) ≡ 0 = ap (λ b. cond b 1 0) (ne_eqb (get_or os i 0) 0 has_owner) in
        omega (arith, is, step, was)

    pub room : count < length stack
    room =
        let most = count_by-le-length (λ x. x == 0) (slice_set os i 0) in
        let size = length-set os i 0 in
        let a = h.owners_room in
        let b = h.stack_room in
        omega (arith, count_given, most, size, a, b)

    records_given : seen_records (slice_set os i 0) rs ≡ slice_set all i None
    records_given = ap (λ xs. seen_records (slice_set os i 0) xs) (sym (set-get_or rs i [])) ∙ seen_set os rs i 0 (get_or rs i [])

    pub seen_given : seen_in l (slice_set os i 0) rs (slice_set stack count (suc i)) (count + 1) waiting ≡ given_back now (suc i)
    seen_given = λ j. queue_of (records_given j) (stack_pushed stack count (suc i) room j)

    pub stored_given : All (λ x. x.jct ≢ suc i) waiting → AreStored l (slice_set os i 0) rs (slice_set stack count (suc i)) (count + 1) waiting
    stored_given unqueued = record {
      sound = subst IsSoundQueue (sym seen_given) (sound_given now i h.sound used unqueued);
      few = h.few;
      records_room = h.records_room;
      owners_room = length-set os i 0 ∙ h.owners_room;
      stack_room = length-set stack count (suc i) ∙ h.stack_room;
      owned = ap (map owner_in) records_given ∙ map-set owner_in all i None ∙ ap (λ xs. slice_set xs i 0) h.owned;
      free_count = sym count_given;
    }

  pub none_seen : (i : ℕ) → i < l.most_records → get_or os i 0 ≡ 0 → get_or all i None ≡ None
  none_seen i here e =
      let a = h.owners_room in
      let b = h.records_room in
      seen_at os rs i (omega (arith, a, here)) (omega (arith, b, here)) ∙ ap (λ o. seen_record o (get_or rs i [])) e

  pub in_stack : (c : ℕ) → c + 1 ≡ count → c < length stack
  in_stack c more =
      let most = count_by-le-length (λ x. x == 0) os in
      let a = h.owners_room in
      let b = h.stack_room in
      let is = h.free_count in
      omega (arith, most, a, b, is, more)

  -- the last number of the stack is taken
  module _ (c i owner : ℕ) (more : c + 1 ≡ count) (last : get_or stack c 0 ≡ suc i) (some : owner ≢ 0) where
    first_is : now.free ≡ suc i ∷ reverse (take c stack)
    first_is =
        ap (λ k. reverse (take k stack)) (sym more) ∙ stack_more stack c (in_stack c more) ∙ ap (λ n. n ∷ reverse (take c stack)) last

    pub taken_here : i < l.most_records
    taken_here = let f = first_here now i owner (reverse (take c stack)) h.sound first_is in let size = h.sound.size in omega (arith, f, size)

    no_owner : get_or os i 0 ≡ 0
    no_owner = owner_seen i taken_here ∙ first_free now i owner (reverse (take c stack)) h.sound first_is

    records_taken : seen_records (slice_set os i owner) (slice_set rs i (zero_record owner)) ≡ slice_set all i (Some (zero_record owner))
    records_taken = seen_set os rs i owner (zero_record owner) ∙ ap (λ o. slice_set all i o) (in_record owner (zero_record owner) some)

    pub seen_taken : seen_in l (slice_set os i owner) (slice_set rs i (zero_record owner)) stack c waiting ≡ taken now owner
    seen_taken = ap (λ xs. queue_of xs (reverse (take c stack))) records_taken ∙ ap (λ free. first_taken now owner free) (sym first_is)

    count_taken : c ≡ count_by (λ x. x == 0) (slice_set os i owner)
    count_taken =
        let a = h.owners_room in
        let w = taken_here in
        let is = h.free_count in
        let step = count_set os i owner (omega (arith, a, w)) in
        let was : zero_count (get_or os i 0) ≡ 1 = ap zero_count no_owner in
        let new : zero_count owner ≡ 0 = ap (λ b. cond b 1 0) (ne_eqb owner 0 some) in
        omega (arith, is, step, was, new, more)

    pub stored_taken : All (λ b. b < 256) (zero_record owner) → AreStored l (slice_set os i owner) (slice_set rs i (zero_record owner)) stack c waiting
    stored_taken bytes = record {
      sound = subst IsSoundQueue (sym seen_taken) (sound_taken now i owner (reverse (take c stack)) h.sound first_is (in_use_zero l h.sound.own_link owner some bytes));
      few = h.few;
      records_room = length-set rs i (zero_record owner) ∙ h.records_room;
      owners_room = length-set os i owner ∙ h.owners_room;
      stack_room = h.stack_room;
      owned =
          ap (map owner_in) records_taken ∙ map-set owner_in all i (Some (zero_record owner)) ∙ ap (λ o. slice_set (map owner_in all) i o) (owner_zero l h.sound.own_link owner)
          ∙ ap (λ xs. slice_set xs i owner) h.owned;
      free_count = count_taken;
    }

  -- other jobs wait
  pub stored_waiting : (jobs : List Queued) → AreInOrder jobs → All (IsQueued now) jobs → AreStored l os rs stack count jobs
  stored_waiting jobs order queued = record {
    sound = sound_waiting now jobs h.sound order queued;
    few = h.few;
    records_room = h.records_room;
    owners_room = h.owners_room;
    stack_room = h.stack_room;
    owned = h.owned;
    free_count = h.free_count;
  }

-- all records are free
length-numbers : (n count : ℕ) → length (numbers_from n count) ≡ count
length-numbers n zero = refl
length-numbers n (suc count) = ap suc (length-numbers (n + 1) count)

none_owned : (r : List ℕ) (m : ℕ) → seen_records (replicate m 0) (replicate m r) ≡ replicate m None
none_owned r zero = refl
none_owned r (suc m) = ap (λ xs. None ∷ xs) (none_owned r m)

no_owners : (m : ℕ) → map owner_in (replicate m None) ≡ replicate m 0
no_owners zero = refl
no_owners (suc m) = ap (λ xs. 0 ∷ xs) (no_owners m)

module _ (l : Layout) (r : List ℕ) (os : List ℕ) (rs : List (List ℕ)) (stack : List ℕ) (waiting : List Queued) (owners : os ≡ replicate l.most_records 0)
    (records : rs ≡ replicate l.most_records r) (numbers : stack ≡ reverse (numbers_from 1 l.most_records)) (nobody : waiting ≡ []) where
  records_new : seen_records os rs ≡ replicate l.most_records None
  records_new = (λ i. seen_records (owners i) (records i)) ∙ none_owned r l.most_records

  stack_size : length stack ≡ l.most_records
  stack_size = ap length numbers ∙ length-reverse (numbers_from 1 l.most_records) ∙ length-numbers 1 l.most_records

  free_new : reverse (take l.most_records stack) ≡ numbers_from 1 l.most_records
  free_new =
      ap reverse (take_all l.most_records stack (let size = stack_size in omega (arith, size)) ∙ numbers) ∙ reverse-reverse (numbers_from 1 l.most_records)

  pub seen_new : seen_in l os rs stack l.most_records waiting ≡ empty_queue l
  unfolding first_numbers no_records
  seen_new = λ i. record { layout = l; records = records_new i; free = free_new i; waiting = nobody i }

  pub stored_new : HasOwnLink l → l.most_records < 2 ^ 32 → AreStored l os rs stack l.most_records waiting
  stored_new own few = record {
    sound = subst IsSoundQueue (sym seen_new) (sound_empty l own);
    few = few;
    records_room = ap length records ∙ length-replicate l.most_records r;
    owners_room = ap length owners ∙ length-replicate l.most_records 0;
    stack_room = stack_size;
    owned = ap (map owner_in) records_new ∙ no_owners l.most_records ∙ sym owners;
    free_count = sym (ap (count_by (λ x. x == 0)) owners ∙ sum_by-replicate zero_count l.most_records 0 ∙ omega arith);
  }
