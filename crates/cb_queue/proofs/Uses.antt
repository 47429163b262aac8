-- What is done to a record in use, by its number.
use Rattle.std.proofs.Common.{◌≡◌, ◌≢◌, ℕ, suc, ◌+◌, ◌-◌, ◌<◌, ◌≤◌, ◌==◌, Bool, false, not, MatchBool, List, [], ◌∷◌, All, length, get_or, drop, reverse, take, None, Some, true, arith, ◌∙◌, ap, refl, sym, subst, length-drop}
use Rattle.std.specs.Prelude.{is_some, slice_get, slice_range, slice_set}
use Rattle.std.specs.List.{AllWithin}
use Rattle.std.specs.Option.{option_map}
use Rattle.std.proofs.lemmas.Bool.{eq-eqb, true≢false}
use Rattle.std.proofs.lemmas.List.Edits.{get_or-between}
use Rattle.std.proofs.lemmas.List.{get_or_read, length-take-le}
use Rattle.std.proofs.lemmas.List.Elements.{All-head, All-same}
use Rattle.cb_meaning.specs.Fields.{field, number_at, part, with_part}
use Rattle.cb_meaning.specs.Spelled.{status_bytes}
use Rattle.cb_records.specs.Writes.{ChangesOnly}
use Rattle.cb_queue.specs.declared.list_store.ListStore.TheInside.{Inside}
use Rattle.cb_queue.specs.RecordQueues.{HasNoneBetween, IsInUse, IsLent, given_back, next_free, owner_at, owner_in, record_at, taken, with_record_at, with_status, zero_record}
use Rattle.cb_queue.specs.Stored.{AreStored, IsStored, seen, seen_in}
use Rattle.cb_queue.proofs.Parts.{in_use_status, owner_status, with_part_is}
use Rattle.cb_queue.proofs.Storing.{here, in_stack, in_use, none_seen, owned_record, owner_seen, record_is, room, seen_given, seen_put, seen_taken, stack_more, stored_given, stored_put, stored_taken, used_number}

module _ (a : Inside) (h : IsStored a) (n : ℕ) (used : is_some (record_at (seen a) n) ≡ true) where
  is : suc (n - 1) ≡ n
  is = let k = used_number (seen a) n used in omega (arith, k.0)

  pub from_one : 1 ≤ n
  from_one = (used_number (seen a) n used).0

  at : is_some (record_at (seen a) (suc (n - 1))) ≡ true
  at = subst (λ m. is_some (record_at (seen a) m) ≡ true) (sym is) used

  pub reach : n - 1 < a.layout.most_records
  reach = here a.layout a.owners.items a.records.items a.free.items a.free_count a.waiting h (n - 1) at

  pub owner_there : owner_at (seen a) n ≢ 0
  owner_there = owned_record a.layout (record_at (seen a) n) (h.sound.in_use n) used

  pub record_there : record_at (seen a) n ≡ Some (get_or a.records.items (n - 1) [])
  record_there =
      sym (ap (record_at (seen a)) is) ∙ record_is a.layout a.owners.items a.records.items a.free.items a.free_count a.waiting h (n - 1) at

  pub in_use_there : IsInUse a.layout (get_or a.records.items (n - 1) [])
  in_use_there = in_use a.layout a.owners.items a.records.items a.free.items a.free_count a.waiting h (n - 1) at

  pub put_seen : (r : List ℕ) → seen_in a.layout a.owners.items (slice_set a.records.items (n - 1) r) a.free.items a.free_count a.waiting ≡ with_record_at (seen a) n (Some r)
  put_seen r =
      seen_put a.layout a.owners.items a.records.items a.free.items a.free_count a.waiting h (n - 1) at r ∙ ap (λ m. with_record_at (seen a) m (Some r)) is

  pub put_stored : (r : List ℕ) → IsInUse a.layout r → number_at r (field 2 2) ≡ owner_at (seen a) n →
      AreStored a.layout a.owners.items (slice_set a.records.items (n - 1) r) a.free.items a.free_count a.waiting
  put_stored r u owner =
      stored_put a.layout a.owners.items a.records.items a.free.items a.free_count a.waiting h (n - 1) at r u
      (owner ∙ sym (ap (owner_at (seen a)) is) ∙ sym (owner_seen a.layout a.owners.items a.records.items a.free.items a.free_count a.waiting h (n - 1) reach))

  read_is : (x : List ℕ) → x ≡ get_or a.records.items (n - 1) x → x ≡ get_or a.records.items (n - 1) []
  read_is x read =
      let below = reach in
      let room = h.records_room in
      get_or_read a.records.items (n - 1) x (omega (arith, below, room)) read []

  pub lent_there : (x : List ℕ) → x ≡ get_or a.records.items (n - 1) x → IsLent a.layout (record_at (seen a) n) (Some x)
  lent_there x read =
      subst (λ o. IsLent a.layout o (Some x)) (sym record_there)
      (subst (λ r. ChangesOnly a.layout.link r x) (read_is x read) (record { size = refl; others = λ k out. refl }))

  -- other status bytes in it
  module _ (old new status : List ℕ) (read : old ≡ get_or a.records.items (n - 1) old) (whole : length new ≡ 176) (value : part new 168 8 ≡ status)
      (change : ChangesOnly status_bytes old new) where
    status_size : length status ≡ 8
    status_size = sym (ap length value) ∙ length-take-le 8 (drop 168 new) (let size = length-drop 168 new in omega (arith, size, whole))

    new_is : new ≡ with_part (get_or a.records.items (n - 1) []) 168 status
    new_is =
        with_part_is status_bytes old status (let size = change.size in omega (arith, size, whole)) status_size new value change
        ∙ ap (λ r. with_part r 168 status) (read_is old read)

    pub status_seen : seen_in a.layout a.owners.items (slice_set a.records.items (n - 1) new) a.free.items a.free_count a.waiting ≡ with_status (seen a) n status
    status_seen =
        put_seen new ∙ ap (λ r. with_record_at (seen a) n (Some r)) new_is
        ∙ ap (λ o. with_record_at (seen a) n (option_map (λ r. with_part r 168 status) o)) (sym record_there)

    pub status_stored : All (λ b. b < 256) new → AreStored a.layout a.owners.items (slice_set a.records.items (n - 1) new) a.free.items a.free_count a.waiting
    status_stored bytes =
        put_stored new
        (subst (IsInUse a.layout) (sym new_is) (in_use_status a.layout h.sound.own_link (get_or a.records.items (n - 1) []) status in_use_there status_size
        (All-same (λ b. b < 256) (with_part (get_or a.records.items (n - 1) []) 168 status) new (sym new_is) bytes)))
        (ap (λ r. number_at r (field 2 2)) new_is ∙ owner_status a.layout h.sound.own_link (get_or a.records.items (n - 1) []) status in_use_there status_size
        ∙ sym (ap owner_in record_there))

  pub room_there : a.free_count < length a.free.items
  room_there = room a.layout a.owners.items a.records.items a.free.items a.free_count a.waiting h (n - 1) at

  pub given_seen : seen_in a.layout (slice_set a.owners.items (n - 1) 0) a.records.items (slice_set a.free.items a.free_count n) (a.free_count + 1) a.waiting ≡ given_back (seen a) n
  given_seen =
      subst (λ m. seen_in a.layout (slice_set a.owners.items (n - 1) 0) a.records.items (slice_set a.free.items a.free_count m) (a.free_count + 1) a.waiting ≡ given_back (seen a) m) is
      (seen_given a.layout a.owners.items a.records.items a.free.items a.free_count a.waiting h (n - 1) at)

  pub given_stored : All (λ x. x.jct ≢ n) a.waiting → AreStored a.layout (slice_set a.owners.items (n - 1) 0) a.records.items (slice_set a.free.items a.free_count n) (a.free_count + 1) a.waiting
  given_stored unqueued =
      subst (λ m. AreStored a.layout (slice_set a.owners.items (n - 1) 0) a.records.items (slice_set a.free.items a.free_count m) (a.free_count + 1) a.waiting) is
      (stored_given a.layout a.owners.items a.records.items a.free.items a.free_count a.waiting h (n - 1) at
      (subst (λ m. All (λ x. x.jct ≢ m) a.waiting) (sym is) unqueued))

-- what is done to the record that is taken next
module _ (a : Inside) (h : IsStored a) (n c owner : ℕ) (more : c + 1 ≡ a.free_count) (got : n ≡ get_or a.free.items c n) (some : owner ≢ 0) where
  read : n ≡ get_or a.free.items c 0
  read = get_or_read a.free.items c n (in_stack a.layout a.owners.items a.records.items a.free.items a.free_count a.waiting h c more) got 0

  free_is : (seen a).free ≡ n ∷ reverse (take c a.free.items)
  free_is =
      ap (λ k. reverse (take k a.free.items)) (sym more)
      ∙ stack_more a.free.items c (in_stack a.layout a.owners.items a.records.items a.free.items a.free_count a.waiting h c more)
      ∙ ap (λ m. m ∷ reverse (take c a.free.items)) (sym read)

  pub number : (1 ≤ n) × (n ≤ a.layout.most_records)
  number =
      All-head (λ m. (1 ≤ m) × (m ≤ a.layout.most_records)) n (reverse (take c a.free.items))
      (All-same (λ m. (1 ≤ m) × (m ≤ a.layout.most_records)) (n ∷ reverse (take c a.free.items)) (seen a).free (sym free_is) h.sound.within)

  last : get_or a.free.items c 0 ≡ suc (n - 1)
  last = let k = number in sym read ∙ omega (arith, k.0)

  pub answer_there : Some n ≡ next_free (seen a)
  answer_there = sym (ap (λ xs. slice_get xs 0) free_is)

  pub taken_seen : seen_in a.layout (slice_set a.owners.items (n - 1) owner) (slice_set a.records.items (n - 1) (zero_record owner)) a.free.items c a.waiting ≡ taken (seen a) owner
  taken_seen = seen_taken a.layout a.owners.items a.records.items a.free.items a.free_count a.waiting h c (n - 1) owner more last some

  pub taken_stored : All (λ b. b < 256) (zero_record owner) → AreStored a.layout (slice_set a.owners.items (n - 1) owner) (slice_set a.records.items (n - 1) (zero_record owner)) a.free.items c a.waiting
  taken_stored bytes = stored_taken a.layout a.owners.items a.records.items a.free.items a.free_count a.waiting h c (n - 1) owner more last some bytes

-- the owner of any record
pub owner_read : (a : Inside) (h : IsStored a) (n : ℕ) → 1 ≤ n → n - 1 < a.layout.most_records → get_or a.owners.items (n - 1) 0 ≡ owner_at (seen a) n
owner_read a h n from to =
    let is : suc (n - 1) ≡ n = omega (arith, from) in
    owner_seen a.layout a.owners.items a.records.items a.free.items a.free_count a.waiting h (n - 1) to ∙ ap (owner_at (seen a)) is

pub none_read : (a : Inside) (h : IsStored a) (n : ℕ) → 1 ≤ n → n - 1 < a.layout.most_records → get_or a.owners.items (n - 1) 0 ≡ 0 → record_at (seen a) n ≡ None
none_read a h n from to e =
    let is : suc (n - 1) ≡ n = omega (arith, from) in
    sym (ap (record_at (seen a)) is) ∙ none_seen a.layout a.owners.items a.records.items a.free.items a.free_count a.waiting h (n - 1) to e

-- owners looked at together, none of which is one
pub none_in : (r : Bool) (P Q : Type 0) → MatchBool r P Q → not r ≡ true → Q
none_in true P Q m e = absurd (true≢false (sym e))
none_in false P Q m e = m

pub none_between : (a : Inside) (h : IsStored a) (owner low high : ℕ) (owners : List ℕ) → low ≤ high → high ≤ length a.owners.items → owners ≡ slice_range a.owners.items low high →
    length owners + low ≡ high → AllWithin (λ y. (y == owner) ≡ false) owners 0 (length owners) → HasNoneBetween (seen a) owner low high
none_between a h owner low high owners order reached cut size apart = λ n behind within same.
    let k = n - 1 - low in
    let within_part : k < length owners = omega (arith, size, behind, within) in
    let place : low + k ≡ n - 1 = omega (arith, behind) in
    let seen_there : get_or owners k 0 ≡ get_or a.owners.items (n - 1) 0 =
    ap (λ xs. get_or xs k 0) cut ∙ get_or-between a.owners.items low high k 0 (omega (arith, size, within_part)) ∙ ap (λ m. get_or a.owners.items m 0) place in
    let most : n - 1 < a.layout.most_records = omega (arith, reached, h.owners_room, within, behind) in
    let owned : get_or owners k 0 ≡ owner = seen_there ∙ owner_read a h n (omega (arith, behind)) most ∙ same in
    absurd (true≢false (sym (eq-eqb (get_or owners k 0) owner owned) ∙ apart k 0 (omega arith) within_part))
