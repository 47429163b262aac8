-- A store of linked records stays one as a record is written, taken or given back.
use Rattle.std.proofs.Common.{◌≡◌, ◌≢◌, ℕ, zero, suc, ◌+◌, ◌-◌, ◌^◌, ◌<◌, ◌≤◌, ◌==◌, Bool, true, false, cond, ◌||◌, List, [], ◌∷◌, ◌++◌, Option, None, Some, All, get_or, length, map, replicate, take, arith, ◌∙◌, ap, sym, refl, subst, inl, inr, length-set, get_or-set_other}
use Rattle.std.specs.Prelude.{IfSome, is_none, is_some, slice_range, slice_set}
use Rattle.std.specs.List.{AllWithin, count_by}
use Rattle.std.proofs.lemmas.Bool.{cases_eq, cases_lt, eq-eqb, eqb-false, ne_eqb, true≢false}
use Rattle.std.proofs.lemmas.List.{get_or-append_right, get_or-take, get_or-map, get_or_append_left, get_or_past, length-append, length-map, get_or_read, length-replicate, length-take, set-get_or}
use Rattle.std.proofs.Math.Nat.{pow-le-pow_right}
use Rattle.std.proofs.lemmas.List.Edits.{get_or-between}
use Rattle.std.proofs.lemmas.List.Folds.{sum_by-replicate}
use Rattle.std.proofs.lemmas.List.Sums.{count_by-le-length, sum_by-append}
use Rattle.std.proofs.lemmas.List.Elements.{All-append, All-cons, All-nil, All-replicate, All-same, All-set, All-weaker}
use Rattle.cb_meaning.specs.Fields.{field, number_at}
use Rattle.plain.specs.Lists.{numbers_from}
use Rattle.cb_queue.specs.RecordQueues.{AreInOrder, HasNoneBetween, IsInUse, IsLent, IsQueued, IsSoundQueue, first_taken, given_back, owner_at, owner_in, record_at, taken, unlinked, with_record_at, zero_record}
use Rattle.cb_queue.specs.Stored.{seen_record, seen_records}
use Rattle.cb_queue.proofs.Changing.{first_free, member, sound_given, sound_put, sound_taken}
use Rattle.cb_queue.proofs.Parts.{in_use_zero, owner_zero, zero_at}
use Rattle.cb_queue.proofs.Storing.{count_set, zero_count}
use Rattle.chain_store.specs.Chains.{AreDifferentJobs, AreThere, all_jobs, chain, jobs_of, last_of, no_chain, ordered}
use Rattle.chain_store.specs.Chained.{AreChained, Tables, chain_in, free_in, given_in, jobs_in, known_records, link_in, queue_in, records_in}
use Rattle.chain_store.specs.Links.{AreWhole, Changes, link_at, owned_by, record_of, unlinked_all}
use Rattle.chain_store.proofs.AllJobs.{all_each, chain_of_all, jobs_same, of_all_chains, of_same}
use Rattle.chain_store.proofs.Jobs.{all_left, all_ordered, all_unordered, few_jobs, length_ordered}
use Rattle.chain_store.proofs.Known.{known_more, known_set, owned_more, owned_record, owned_set, owner_known, record_known, used_here}
use Rattle.chain_store.proofs.Bytes.{but_link, record_is}
use Rattle.chain_store.proofs.Walks.{chain_kept, length-chain, length-numbers}
use Rattle.cb_records.specs.Writes.{ChangesOnly}

-- where a number is not among some
pub not_member : (n : ℕ) (xs : List ℕ) → member n xs ≡ false → All (λ m. m ≢ n) xs
not_member n [] e = All-nil (λ m. m ≢ n)
not_member n (x ∷ xs) e = by (x == n) refl e (not_member n xs)
  where
    by : (b : Bool) → (x == n) ≡ b → (b || member n xs) ≡ false → (member n xs ≡ false → All (λ m. m ≢ n) xs) → All (λ m. m ≢ n) (x ∷ xs)
    by true is e rest = cc
    by false is e rest = All-cons (λ m. m ≢ n) x xs (eqb-false x n is) (rest e)

module _ (t : Tables) (h : AreChained t) where
  abbrev behind : ℕ
  behind = t.layout.most_records - length t.owners

  abbrev known : List (List ℕ)
  known = unlinked_all t.layout t.records

  pub room : length t.owners ≤ length known
  room = let r = h.room in let s = length-map t.records (unlinked t.layout) in omega (arith, r, s)

  pub used_there : (i : ℕ) → is_some (record_at (queue_in t) (suc i)) ≡ true → i < length t.owners
  used_there i used = used_here t.owners known behind room h.owned i used

  pub owner_there : (n : ℕ) → owned_by t.owners n ≡ owner_at (queue_in t) n
  owner_there zero = refl
  owner_there (suc i) = owner_known t.owners known behind room h.owned i

  -- what is known of each job that waits
  pub each_waits : All (IsQueued (queue_in t)) (jobs_in t)
  each_waits = all_unordered (IsQueued (queue_in t)) (jobs_in t) h.sound.queued

  -- owners and links of all records but one are as before, which is that of no job that waits
  module _ (new : List (List ℕ)) (owners : List ℕ) (i : ℕ) (links : (m : ℕ) → m ≢ suc i → link_at t.layout new m ≡ link_in t m)
      (owned : (m : ℕ) → m ≢ suc i → owned_by owners m ≡ owned_by t.owners m) (unqueued : All (λ x. x.jct ≢ suc i) (jobs_in t)) where
    pub jobs_stay : all_jobs (owned_by owners) (link_at t.layout new) 0 t.chains ≡ jobs_in t
    jobs_stay = jobs_same (owned_by t.owners) (link_in t) (owned_by owners) (link_at t.layout new) (λ m. m ≢ suc i) owned links 0 t.chains unqueued

    unqueued_at : (place : ℕ) → All (λ x. x.jct ≢ suc i) (jobs_of (owned_by t.owners) (link_in t) place (chain_in t place))
    unqueued_at place =
        elim (cases_lt place (length t.chains)) [
          | inl here ↦ of_all_chains (owned_by t.owners) (link_in t) (λ x. x.jct ≢ suc i) 0 t.chains unqueued place place here (omega arith)
          | inr past ↦
              subst (λ c. All (λ x. x.jct ≢ suc i) (jobs_of (owned_by t.owners) (link_in t) place c)) (sym (get_or_past t.chains place no_chain past)) (All-nil (λ x. x.jct ≢ suc i))
        ]

    pub order_stays : (place : ℕ) → AreInOrder (jobs_of (owned_by owners) (link_at t.layout new) place (chain_in t place))
    order_stays place =
        subst AreInOrder
        (sym (of_same (owned_by t.owners) (link_in t) (owned_by owners) (link_at t.layout new) (λ m. m ≢ suc i) owned links place (chain_in t place).first (chain_in t place).count
        (unqueued_at place)))
        (h.in_order place)

    pub last_stays : (place : ℕ) → (chain_in t place).count ≢ 0 →
        last_of (chain (link_at t.layout new) (chain_in t place).first (chain_in t place).count) ≡ (chain_in t place).last
    last_stays place some =
        ap last_of
        (chain_kept (link_in t) (link_at t.layout new) (λ m. m ≢ suc i) links (chain_in t place).first (chain_in t place).count
        (chain_of_all (owned_by t.owners) (link_in t) (λ x. x.jct ≢ suc i) place (chain_in t place).first (chain_in t place).count (unqueued_at place)))
        ∙ h.last place some

    pub given_stays : All (λ m. m ≢ suc i) (given_in t) → chain (link_at t.layout new) t.first_free t.free_count ≡ given_in t
    given_stays others = chain_kept (link_in t) (link_at t.layout new) (λ m. m ≢ suc i) links t.first_free t.free_count others

  -- a record that changes but for its link
  module _ (i : ℕ) (new : List (List ℕ)) (r : List ℕ) (used : is_some (record_at (queue_in t) (suc i)) ≡ true) (change : Changes t.layout t.records new i r)
      (link : link_at t.layout new (suc i) ≡ link_in t (suc i)) (in_use : IsInUse t.layout r) (owner : number_at r (field 2 2) ≡ owner_at (queue_in t) (suc i)) where
    abbrev written : Tables
    written = record t { records = new }

    links_written : (m : ℕ) → link_at t.layout new m ≡ link_in t m
    links_written zero = refl
    links_written (suc k) = elim (cases_eq k i) [ inl is ↦ ap (λ j. link_at t.layout new (suc j)) is ∙ link ∙ ap (λ j. link_in t (suc j)) (sym is) | inr apart ↦ change.others k apart ]

    link_written : link_at t.layout new ≡ link_in t
    link_written = λ j m. links_written m j

    abbrev o : ℕ
    o = get_or t.owners i 0

    owner_is : o ≡ number_at r (field 2 2)
    owner_is = owner_there (suc i) ∙ sym owner

    seen_written : seen_record o r ≡ Some r
    seen_written = owned_record o r (λ none. in_use.owner (sym owner_is ∙ none))

    known_written : seen_records t.owners (unlinked_all t.layout new) ≡ seen_records (slice_set t.owners i o) (slice_set known i r)
    known_written = ap (seen_records t.owners) change.value ∙ ap (λ os. seen_records os (slice_set known i r)) (sym (set-get_or t.owners i 0))

    records_written : records_in written ≡ slice_set (records_in t) i (Some r)
    records_written =
        ap (λ xs. xs ++ replicate behind None) known_written ∙ known_set t.owners known behind room i o r (used_there i used)
        ∙ ap (slice_set (records_in t) i) seen_written

    pub queue_written : queue_in written ≡ with_record_at (queue_in t) (suc i) (Some r)
    queue_written = λ j. record {
      layout = t.layout;
      records = records_written j;
      free = chain (link_written j) t.first_free t.free_count ++ numbers_from (t.reached + 1) (t.layout.most_records - t.reached);
      waiting = ordered (all_jobs (owned_by t.owners) (link_written j) 0 t.chains);
    }

    pub chained_written : AreChained written
    chained_written = record {
      sound = subst IsSoundQueue (sym queue_written) (sound_put (queue_in t) i r h.sound used in_use owner);
      links = h.links;
      first_free = h.first_free;
      whole = change.whole h.whole;
      room = (let s = change.size in let a = h.room in omega (arith, s, a));
      most = h.most;
      reached = h.reached;
      owned = ap (map owner_in) known_written ∙ owned_set t.owners known behind room h.owned i o r (ap owner_in seen_written ∙ sym owner_is) ∙ set-get_or t.owners i 0;
      numbers = h.numbers;
      given = subst (λ f. AreThere (length t.owners) (chain f t.first_free t.free_count)) (sym link_written) h.given;
      free_count = h.free_count;
      chains = h.chains;
      different = subst (λ f. AreDifferentJobs (all_jobs (owned_by t.owners) f 0 t.chains)) (sym link_written) h.different;
      in_order = λ place. subst (λ f. AreInOrder (jobs_of (owned_by t.owners) f place (chain_in t place))) (sym link_written) (h.in_order place);
      last = λ place some. ap (λ f. last_of (chain f (chain_in t place).first (chain_in t place).count)) link_written ∙ h.last place some;
      waiting = h.waiting ∙ ap (λ f. length (all_jobs (owned_by t.owners) f 0 t.chains)) (sym link_written);
    }

  -- a record that is in use is not free, and where it has no owner there is none
  pub used_not_free : (i : ℕ) → is_some (record_at (queue_in t) (suc i)) ≡ true → All (λ m. m ≢ suc i) (free_in t)
  used_not_free i used =
      let here = used_there i used in
      let most = h.most in
      let is = h.sound.free (suc i) (omega arith) (omega (arith, here, most)) in
      not_member (suc i) (free_in t) (is ∙ by (record_at (queue_in t) (suc i)) used)
    where
      by : (o : Option (List ℕ)) → is_some o ≡ true → is_none o ≡ false
      by None e = cc
      by (Some r) e = refl

  pub none_there : (i : ℕ) → i < length t.owners → get_or t.owners i 0 ≡ 0 → record_at (queue_in t) (suc i) ≡ None
  none_there i here e = record_known t.owners known behind room i here ∙ ap (λ o. seen_record o (get_or known i [])) e

  pub record_there : (i : ℕ) → is_some (record_at (queue_in t) (suc i)) ≡ true → record_at (queue_in t) (suc i) ≡ Some (record_of t.layout t.records i)
  record_there i used =
      record_known t.owners known behind room i (used_there i used)
      ∙ owned_record (get_or t.owners i 0) (get_or known i []) (λ none. by (record_at (queue_in t) (suc i)) used (none_there i (used_there i used) none))
    where
      by : (o : Option (List ℕ)) → is_some o ≡ true → o ≡ None → ⊥
      by None e is = cc
      by (Some r) e is = let bad = ap is_some is in cc

  -- owners looked at together, none of which is one
  pub none_between : (owner low high : ℕ) (owners : List ℕ) → low ≤ high → high ≤ length t.owners → owners ≡ slice_range t.owners low high → length owners + low ≡ high →
      AllWithin (λ y. (y == owner) ≡ false) owners 0 (length owners) → HasNoneBetween (queue_in t) owner low high
  none_between owner low high owners order reached cut size apart = λ n after within same.
      let k = n - 1 - low in
      let within_part : k < length owners = omega (arith, size, after, within) in
      let place : low + k ≡ n - 1 = omega (arith, after) in
      let is : suc (n - 1) ≡ n = omega (arith, after) in
      let seen_there : get_or owners k 0 ≡ get_or t.owners (n - 1) 0 =
      ap (λ xs. get_or xs k 0) cut ∙ get_or-between t.owners low high k 0 (omega (arith, size, within_part)) ∙ ap (λ m. get_or t.owners m 0) place in
      let owned : get_or owners k 0 ≡ owner = seen_there ∙ owner_there (suc (n - 1)) ∙ ap (owner_at (queue_in t)) is ∙ same in
      absurd (true≢false (sym (eq-eqb (get_or owners k 0) owner owned) ∙ apart k 0 (omega arith) within_part))

  -- a record with an owner has its place in the table
  pub owned_place : (n : ℕ) → owner_at (queue_in t) n ≢ 0 → (1 ≤ n) × (n ≤ length t.owners)
  owned_place zero some = absurd (some refl)
  owned_place (suc i) some =
      elim (cases_lt i (length t.owners)) [
        | inl here ↦ (omega arith, omega (arith, here))
        | inr past ↦ absurd (some (sym (owner_there (suc i)) ∙ get_or_past t.owners i 0 past))
      ]

  -- one that is free is taken
  module _ (i owner : ℕ) (rest : List ℕ) (new : List (List ℕ)) (first count reached : ℕ) (some : owner ≢ 0) (is_first : free_in t ≡ suc i ∷ rest) (here : i < length t.owners)
      (change : Changes t.layout t.records new i (zero_record owner)) (bytes : All (λ b. b < 256) (zero_record owner)) (small : first < 256 ^ t.layout.link.width) (number : owner < 2 ^ 16)
      (still : reached ≤ length t.owners) (counted : count + (length t.owners - reached) + 1 ≡ t.free_count + (length t.owners - t.reached))
      (given : AreThere (length t.owners) (chain (link_at t.layout new) first count))
      (left : chain (link_at t.layout new) first count ++ numbers_from (reached + 1) (t.layout.most_records - reached) ≡ rest) where
    abbrev after_take : Tables
    after_take = record t { records = new; owners = slice_set t.owners i owner; first_free = first; free_count = count; reached = reached }

    links_taken : (m : ℕ) → m ≢ suc i → link_at t.layout new m ≡ link_in t m
    links_taken zero other = refl
    links_taken (suc k) other = change.others k (λ is. other (ap suc is))

    owners_taken : (m : ℕ) → m ≢ suc i → owned_by (slice_set t.owners i owner) m ≡ owned_by t.owners m
    owners_taken zero other = refl
    owners_taken (suc k) other = get_or-set_other t.owners i k owner 0 (λ is. other (ap suc is))

    not_owned : owner_at (queue_in t) (suc i) ≡ 0
    not_owned = first_free (queue_in t) i owner rest h.sound is_first

    not_waiting : All (λ x. x.jct ≢ suc i) (jobs_in t)
    not_waiting =
        All-weaker (IsQueued (queue_in t)) (λ x. x.jct ≢ suc i) (λ x own is. own.job (sym own.owner ∙ ap (owner_at (queue_in t)) is ∙ not_owned)) (jobs_in t) each_waits

    known_taken : known_records after_take ≡ seen_records (slice_set t.owners i owner) (slice_set known i (zero_record owner))
    known_taken = ap (seen_records (slice_set t.owners i owner)) change.value

    records_taken : records_in after_take ≡ slice_set (records_in t) i (Some (zero_record owner))
    records_taken =
        ap (λ k. known_records after_take ++ replicate (t.layout.most_records - k) None) (length-set t.owners i owner)
        ∙ ap (λ xs. xs ++ replicate behind None) known_taken ∙ known_set t.owners known behind room i owner (zero_record owner) here
        ∙ ap (slice_set (records_in t) i) (owned_record owner (zero_record owner) some)

    jobs_taken : jobs_in after_take ≡ jobs_in t
    jobs_taken = jobs_stay new (slice_set t.owners i owner) i links_taken owners_taken not_waiting

    pub queue_taken : queue_in after_take ≡ taken (queue_in t) owner
    queue_taken =
        (λ j. record { layout = t.layout; records = records_taken j; free = left j; waiting = ordered (jobs_taken j) })
        ∙ ap (λ free. first_taken (queue_in t) owner free) (sym is_first)

    zero_used : IsInUse t.layout (zero_record owner)
    zero_used = in_use_zero t.layout h.sound.own_link owner some bytes

    count_taken : count + (length (slice_set t.owners i owner) - reached) ≡ count_by (λ o. o == 0) (slice_set t.owners i owner)
    count_taken =
        let size = length-set t.owners i owner in
        let is = h.free_count in
        let step = count_set t.owners i owner here in
        let was : zero_count (get_or t.owners i 0) ≡ 1 = ap zero_count (owner_there (suc i) ∙ not_owned) in
        let now : zero_count owner ≡ 0 = ap (λ b. cond b 1 0) (ne_eqb owner 0 some) in
        let same : length (slice_set t.owners i owner) - reached ≡ length t.owners - reached = ap (λ k. k - reached) size in
        omega (arith, is, step, was, now, same, counted)

    pub chained_taken : AreChained after_take
    chained_taken = record {
      sound = subst IsSoundQueue (sym queue_taken) (sound_taken (queue_in t) i owner rest h.sound is_first zero_used);
      links = h.links;
      first_free = small;
      whole = change.whole h.whole;
      room = (let s = change.size in let a = h.room in let b = length-set t.owners i owner in omega (arith, s, a, b));
      most = (let a = h.most in let b = length-set t.owners i owner in omega (arith, a, b));
      reached = (let b = length-set t.owners i owner in omega (arith, still, b));
      owned = ap (map owner_in) known_taken
          ∙ owned_set t.owners known behind room h.owned i owner (zero_record owner) (ap owner_in (owned_record owner (zero_record owner) some) ∙ owner_zero t.layout h.sound.own_link owner);
      numbers = All-set (λ o. o < 2 ^ 16) t.owners i owner number h.numbers;
      given = subst (λ k. AreThere k (chain (link_at t.layout new) first count)) (sym (length-set t.owners i owner)) given;
      free_count = count_taken;
      chains = h.chains;
      different = subst AreDifferentJobs (sym jobs_taken) h.different;
      in_order = order_stays new (slice_set t.owners i owner) i links_taken owners_taken not_waiting;
      last = last_stays new (slice_set t.owners i owner) i links_taken owners_taken not_waiting;
      waiting = h.waiting ∙ ap length (sym jobs_taken);
    }

  -- one in use is given back
  module _ (i : ℕ) (new : List (List ℕ)) (used : is_some (record_at (queue_in t) (suc i)) ≡ true) (unqueued : All (λ x. x.jct ≢ suc i) (queue_in t).waiting)
      (change : Changes t.layout t.records new i (record_of t.layout t.records i)) (link : link_at t.layout new (suc i) ≡ t.first_free)
      (fits : suc i < 256 ^ t.layout.link.width) where
    abbrev after_give : Tables
    after_give = record t { records = new; owners = slice_set t.owners i 0; first_free = suc i; free_count = t.free_count + 1 }

    links_given : (m : ℕ) → m ≢ suc i → link_at t.layout new m ≡ link_in t m
    links_given zero other = refl
    links_given (suc k) other = change.others k (λ is. other (ap suc is))

    owners_given : (m : ℕ) → m ≢ suc i → owned_by (slice_set t.owners i 0) m ≡ owned_by t.owners m
    owners_given zero other = refl
    owners_given (suc k) other = get_or-set_other t.owners i k 0 0 (λ is. other (ap suc is))

    none_waits : All (λ x. x.jct ≢ suc i) (jobs_in t)
    none_waits = all_unordered (λ x. x.jct ≢ suc i) (jobs_in t) unqueued

    same_known : unlinked_all t.layout new ≡ known
    same_known = change.value ∙ set-get_or known i []

    known_given : known_records after_give ≡ seen_records (slice_set t.owners i 0) (slice_set known i (record_of t.layout t.records i))
    known_given = ap (seen_records (slice_set t.owners i 0)) change.value

    records_given : records_in after_give ≡ slice_set (records_in t) i None
    records_given =
        ap (λ k. known_records after_give ++ replicate (t.layout.most_records - k) None) (length-set t.owners i 0)
        ∙ ap (λ xs. xs ++ replicate behind None) known_given ∙ known_set t.owners known behind room i 0 (record_of t.layout t.records i) (used_there i used)

    jobs_given : jobs_in after_give ≡ jobs_in t
    jobs_given = jobs_stay new (slice_set t.owners i 0) i links_given owners_given none_waits

    given_given : chain (link_at t.layout new) (suc i) (t.free_count + 1) ≡ suc i ∷ given_in t
    given_given =
        ap (chain (link_at t.layout new) (suc i)) (let e : t.free_count + 1 ≡ suc t.free_count = omega arith in e)
        ∙ ap (λ ns. suc i ∷ ns)
        (ap (λ m. chain (link_at t.layout new) m t.free_count) link
        ∙ given_stays new (slice_set t.owners i 0) i links_given owners_given none_waits
        (all_left (λ m. m ≢ suc i) (given_in t) (numbers_from (t.reached + 1) (t.layout.most_records - t.reached)) (used_not_free i used)))

    pub queue_given : queue_in after_give ≡ given_back (queue_in t) (suc i)
    queue_given = λ j. record {
      layout = t.layout;
      records = records_given j;
      free = given_given j ++ numbers_from (t.reached + 1) (t.layout.most_records - t.reached);
      waiting = ordered (jobs_given j);
    }

    has_owner : get_or t.owners i 0 ≢ 0
    has_owner none = by (record_at (queue_in t) (suc i)) used (none_there i (used_there i used) none)
      where
        by : (o : Option (List ℕ)) → is_some o ≡ true → o ≡ None → ⊥
        by None e is = cc
        by (Some r) e is = let bad = ap is_some is in cc

    count_given : t.free_count + 1 + (length (slice_set t.owners i 0) - t.reached) ≡ count_by (λ o. o == 0) (slice_set t.owners i 0)
    count_given =
        let size = length-set t.owners i 0 in
        let is = h.free_count in
        let step = count_set t.owners i 0 (used_there i used) in
        let was : zero_count (get_or t.owners i 0) ≡ 0 = ap (λ b. cond b 1 0) (ne_eqb (get_or t.owners i 0) 0 has_owner) in
        let same : length (slice_set t.owners i 0) - t.reached ≡ length t.owners - t.reached = ap (λ k. k - t.reached) size in
        omega (arith, is, step, was, same)

    -- there are never more of them than records
    pub few_given : t.free_count + 1 ≤ t.layout.most_records
    few_given =
        let all = count_by-le-length (λ o. o == 0) (slice_set t.owners i 0) in
        let size = length-set t.owners i 0 in
        let most = h.most in
        let is = count_given in
        omega (arith, all, size, most, is)

    pub chained_given : AreChained after_give
    chained_given = record {
      sound = subst IsSoundQueue (sym queue_given) (sound_given (queue_in t) i h.sound used unqueued);
      links = h.links;
      first_free = fits;
      whole = change.whole h.whole;
      room = (let s = change.size in let a = h.room in let b = length-set t.owners i 0 in omega (arith, s, a, b));
      most = (let a = h.most in let b = length-set t.owners i 0 in omega (arith, a, b));
      reached = (let r = h.reached in let b = length-set t.owners i 0 in omega (arith, r, b));
      owned = ap (map owner_in) known_given ∙ owned_set t.owners known behind room h.owned i 0 (record_of t.layout t.records i) refl;
      numbers = All-set (λ o. o < 2 ^ 16) t.owners i 0 (omega arith) h.numbers;
      given = All-same (λ n. (1 ≤ n) × (n ≤ length (slice_set t.owners i 0))) (given_in after_give) (suc i ∷ given_in t) given_given
          (subst (λ k. AreThere k (suc i ∷ given_in t)) (sym (length-set t.owners i 0))
          (All-cons (λ n. (1 ≤ n) × (n ≤ length t.owners)) (suc i) (given_in t) (omega arith, (let here = used_there i used in omega (arith, here))) h.given));
      free_count = count_given;
      chains = h.chains;
      different = subst AreDifferentJobs (sym jobs_given) h.different;
      in_order = order_stays new (slice_set t.owners i 0) i links_given owners_given none_waits;
      last = last_stays new (slice_set t.owners i 0) i links_given owners_given none_waits;
      waiting = h.waiting ∙ ap length (sym jobs_given);
    }

  -- there is memory for more records
  module _ (new : List (List ℕ)) (owners : List ℕ) (more : ℕ) (kept : take (length t.records) new ≡ t.records) (whole : AreWhole new)
      (zeros : owners ≡ t.owners ++ replicate more 0) (fits : length owners ≤ length new) (most : length owners ≤ t.layout.most_records) where
    abbrev with_room : Tables
    with_room = record t { records = new; owners = owners }

    longer : length owners ≡ length t.owners + more
    longer = ap length zeros ∙ length-append t.owners (replicate more 0) ∙ ap (λ k. length t.owners + k) (length-replicate {A = ℕ} more 0)

    -- each record is the one that it was
    still : (k : ℕ) → k < length t.records → get_or new k [] ≡ get_or t.records k []
    still k here = sym (get_or-take (length t.records) new k [] here) ∙ ap (λ rs. get_or rs k []) kept

    links_room : (n : ℕ) → n ≤ length t.records → link_at t.layout new n ≡ link_in t n
    links_room zero here = refl
    links_room (suc k) here = ap (λ r. number_at r t.layout.link) (still k (omega (arith, here)))

    owners_room : (n : ℕ) → owned_by owners n ≡ owned_by t.owners n
    owners_room zero = refl
    owners_room (suc k) =
        elim (cases_lt k (length t.owners)) [
          | inl here ↦ ap (λ os. get_or os k 0) zeros ∙ get_or_append_left t.owners (replicate more 0) 0 k here
          | inr past ↦
              ap (λ os. get_or os k 0) zeros ∙ get_or-append_right t.owners (replicate more 0) (length t.owners) k 0 refl past ∙ zero_at more (k - length t.owners)
              ∙ sym (get_or_past t.owners k 0 past)
        ]

    still_unlinked : (k : ℕ) → k < length known → get_or (unlinked_all t.layout new) k [] ≡ get_or known k []
    still_unlinked k here =
        let old = length-map t.records (unlinked t.layout) in
        let in_old : k < length t.records = omega (arith, here, old) in
        let size = ap length kept in
        let in_new : k < length new = omega (arith, in_old, length-take (length t.records) new, size) in
        get_or-map (unlinked t.layout) new k [] [] in_new ∙ ap (unlinked t.layout) (still k in_old) ∙ sym (get_or-map (unlinked t.layout) t.records k [] [] in_old)

    known_room : records_in with_room ≡ records_in t
    known_room =
        let a = h.room in
        let b = h.most in
        let c = longer in
        let size = length-map new (unlinked t.layout) in
        let old = length-map t.records (unlinked t.layout) in
        ap (λ os. seen_records os (unlinked_all t.layout new) ++ replicate (t.layout.most_records - length owners) None) zeros
        ∙ known_more t.owners known (unlinked_all t.layout new) more behind (t.layout.most_records - length owners) room (omega (arith, fits, c, size)) still_unlinked (omega (arith, b, c, most))

    waits_there : All (λ x. x.jct ≤ length t.records) (jobs_in t)
    waits_there =
        All-weaker (IsQueued (queue_in t)) (λ x. x.jct ≤ length t.records)
        (λ x own. let at = owned_place x.jct (λ none. own.job (sym own.owner ∙ none)) in let a = h.room in omega (arith, at.1, a)) (jobs_in t) each_waits

    given_there : All (λ n. n ≤ length t.records) (given_in t)
    given_there = All-weaker (λ n. (1 ≤ n) × (n ≤ length t.owners)) (λ n. n ≤ length t.records) (λ n at. let a = h.room in omega (arith, at.1, a)) (given_in t) h.given

    jobs_room : jobs_in with_room ≡ jobs_in t
    jobs_room = jobs_same (owned_by t.owners) (link_in t) (owned_by owners) (link_at t.layout new) (λ n. n ≤ length t.records) (λ n at. owners_room n) links_room 0 t.chains waits_there

    given_room : given_in with_room ≡ given_in t
    given_room = chain_kept (link_in t) (link_at t.layout new) (λ n. n ≤ length t.records) links_room t.first_free t.free_count given_there

    pub queue_room : queue_in with_room ≡ queue_in t
    queue_room = λ j. record {
      layout = t.layout;
      records = known_room j;
      free = given_room j ++ numbers_from (t.reached + 1) (t.layout.most_records - t.reached);
      waiting = ordered (jobs_room j);
    }

    there_at : (place : ℕ) → All (λ x. x.jct ≤ length t.records) (jobs_of (owned_by t.owners) (link_in t) place (chain_in t place))
    there_at place =
        elim (cases_lt place (length t.chains)) [
          | inl here ↦ of_all_chains (owned_by t.owners) (link_in t) (λ x. x.jct ≤ length t.records) 0 t.chains waits_there place place here (omega arith)
          | inr past ↦
              subst (λ c. All (λ x. x.jct ≤ length t.records) (jobs_of (owned_by t.owners) (link_in t) place c)) (sym (get_or_past t.chains place no_chain past))
              (All-nil (λ x. x.jct ≤ length t.records))
        ]

    pub chained_room : AreChained with_room
    chained_room = record {
      sound = subst IsSoundQueue (sym queue_room) h.sound;
      links = h.links;
      first_free = h.first_free;
      whole = whole;
      room = fits;
      most = most;
      reached = (let r = h.reached in let c = longer in omega (arith, r, c));
      owned =
          ap (λ os. map owner_in (seen_records os (unlinked_all t.layout new))) zeros
          ∙ owned_more t.owners known (unlinked_all t.layout new) more room
          (let c = longer in let size = length-map new (unlinked t.layout) in omega (arith, fits, c, size)) still_unlinked h.owned
          ∙ sym zeros;
      numbers = All-same (λ o. o < 2 ^ 16) owners (t.owners ++ replicate more 0) zeros
          (All-append (λ o. o < 2 ^ 16) t.owners (replicate more 0) h.numbers (All-replicate (λ o. o < 2 ^ 16) more 0 (omega arith)));
      given = subst (λ ns. AreThere (length owners) ns) (sym given_room)
          (All-weaker (λ n. (1 ≤ n) × (n ≤ length t.owners)) (λ n. (1 ≤ n) × (n ≤ length owners)) (λ n at. (at.0, let c = longer in omega (arith, at.1, c))) (given_in t) h.given);
      free_count =
          (let is = h.free_count in
          let c = longer in
          let r = h.reached in
          let counted = ap (count_by (λ o. o == 0)) zeros ∙ sum_by-append zero_count t.owners (replicate more 0) in
          let all = sum_by-replicate zero_count more 0 in
          omega (arith, is, c, r, counted, all));
      chains = h.chains;
      different = subst AreDifferentJobs (sym jobs_room) h.different;
      in_order = λ place.
          subst AreInOrder
          (sym (of_same (owned_by t.owners) (link_in t) (owned_by owners) (link_at t.layout new) (λ n. n ≤ length t.records) (λ n at. owners_room n) links_room place
          (chain_in t place).first (chain_in t place).count (there_at place))) (h.in_order place);
      last = λ place some.
          ap last_of
          (chain_kept (link_in t) (link_at t.layout new) (λ n. n ≤ length t.records) links_room (chain_in t place).first (chain_in t place).count
          (chain_of_all (owned_by t.owners) (link_in t) (λ x. x.jct ≤ length t.records) place (chain_in t place).first (chain_in t place).count (there_at place)))
          ∙ h.last place some;
      waiting = h.waiting ∙ ap length (sym jobs_room);
    }

  -- what is lent of a record
  pub lent_there : (i : ℕ) → is_some (record_at (queue_in t) (suc i)) ≡ true → (x : List ℕ) → x ≡ get_or t.records i x →
      IsLent t.layout (record_at (queue_in t) (suc i)) (Some x)
  lent_there i used x read =
      let here : i < length t.records = (let a = used_there i used in let b = h.room in omega (arith, a, b)) in
      let change = but_link t.layout h.sound.own_link x (ap length read ∙ h.whole i x here) in
      subst (λ o. IsLent t.layout o (Some x)) (sym (record_there i used))
      (subst (λ r. ChangesOnly t.layout.link r x) (sym (record_is t.layout t.records i here ∙ ap (unlinked t.layout) (sym (get_or_read t.records i x here read []))))
      (record { size = sym change.size; others = λ k out. sym (change.others k out) }))

  pub used_record : (i : ℕ) → is_some (record_at (queue_in t) (suc i)) ≡ true → IsInUse t.layout (record_of t.layout t.records i)
  used_record i used = subst (λ o. IfSome o (IsInUse t.layout)) (record_there i used) (h.sound.in_use (suc i))

  pub free_size : t.free_count + (t.layout.most_records - t.reached) ≡ length (free_in t)
  free_size =
      sym (length-append (given_in t) (numbers_from (t.reached + 1) (t.layout.most_records - t.reached))
      ∙ ap (λ k. k + length (numbers_from (t.reached + 1) (t.layout.most_records - t.reached))) (length-chain (link_in t) t.first_free t.free_count)
      ∙ ap (λ k. t.free_count + k) (length-numbers (t.reached + 1) (t.layout.most_records - t.reached)))

  -- those that were given back are among those that were taken once
  pub given_reached : t.free_count ≤ t.reached
  given_reached =
      let is = h.free_count in
      let all = count_by-le-length (λ o. o == 0) t.owners in
      let r = h.reached in
      omega (arith, is, all, r)

  -- the number of a job
  pub small_owner : (n : ℕ) → owned_by t.owners n < 2 ^ 16
  small_owner zero = omega arith
  small_owner (suc i) =
      elim (cases_lt i (length t.owners)) [
        | inl here ↦ h.numbers i 0 here
        | inr past ↦ subst (λ o. o < 2 ^ 16) (sym (get_or_past t.owners i 0 past)) (omega arith)
      ]

  -- so many jobs wait at most
  pub few_wait : length (jobs_in t) ≤ 2 ^ 16
  few_wait =
      let each = all_each (owned_by t.owners) (link_in t) (λ x. x.job < 2 ^ 16) (λ place n. small_owner n) 0 t.chains in
      let few = few_jobs (2 ^ 16) (ordered (jobs_in t)) h.sound.in_order (all_ordered (λ x. x.job < 2 ^ 16) (jobs_in t) each) in
      let size = length_ordered (jobs_in t) in
      omega (arith, few, size)

  -- the number of a record fits a word
  pub few_records : t.layout.most_records < 2 ^ 32
  few_records =
      let links = h.links in
      let few = h.sound.own_link.fits.link.few in
      (let most : 256 ^ t.layout.link.width ≤ 256 ^ 4 = pow-le-pow_right (omega arith) few in omega (arith, links, most))
