-- A record is found by its spot, and leaves its chain.
use Rattle.std.proofs.Common.{◌≡◌, ◌≢◌, ℕ, zero, suc, ◌+◌, ◌-◌, ◌/◌, ◌%◌, ◌<◌, ◌≤◌, inl, inr, List, [], ◌∷◌, ◌++◌, All, Option, None, Some, length, length-set, arith, ◌∙◌, ap, sym, refl, subst}
use Rattle.std.specs.Prelude.{IfSome, filter, slice_index_or, slice_set}
use Rattle.std.proofs.lemmas.Bool.{cases_eq, cases_lt}
use Rattle.std.proofs.lemmas.List.{append-nil, get_or_read}
use Rattle.queue_core.specs.declared.queue.Queued.{Queued}
use Rattle.queue_core.specs.Queues.{IsJobOf}
use Rattle.cb_queue.specs.RecordQueues.{HasNoneBetween, owner_at}
use Rattle.chain_store.specs.declared.chains.Chain.{Chain}
use Rattle.chain_store.specs.declared.spots.Found.{Found}
use Rattle.chain_store.specs.declared.spots.Spot.{Spot}
use Rattle.chain_store.specs.Chains.{chain, is_other, last_of, no_chain, walk}
use Rattle.chain_store.specs.Chained.{AreChained, Tables, chain_in, chained_in, link_in, queue_in}
use Rattle.chain_store.specs.Links.{Changes, link_at, owned_by, record_of}
use Rattle.chain_store.specs.Spots.{AreNoted, HasNoSpot, IsAmong, IsFound, Stand, spot_of}
use Rattle.chain_store.proofs.Leaving.{b, chain_left, counted}
use Rattle.chain_store.proofs.Noted.{Differ, IsApart, IsReached, all_among, among_all, among_walk, apart_chains, among_right, apart_one, last_from_none, noted_last, noted_middle, reached, stand_walk}
use Rattle.chain_store.proofs.Ops.{owner_there}
use Rattle.chain_store.proofs.Placed.{all_there, chains_differ, links_but, list_here, list_there, some_here}
use Rattle.chain_store.proofs.Removing as removing
use Rattle.chain_store.proofs.Removing.{IsStanding, IsWithout, Standing}
use Rattle.chain_store.proofs.Selecting.{none_found}
use Rattle.chain_store.proofs.Walks.{chain_split, last_behind, last_chain}

some_not_none : (s : Spot) → Some s ≡ None → ⊥
some_not_none s e = cc

-- the spot of a record that stands somewhere
pub not_none : (spots : List (Option Spot)) (place before : ℕ) (ns : List ℕ) (n : ℕ) → Stand spots place before ns → IsAmong n ns → spot_of spots n ≢ None
not_none spots place before [] n s bad = absurd bad
not_none spots place before (m ∷ ms) n s (inl is) = λ none. some_not_none (record { place = place; before = before }) (sym s.0 ∙ ap (spot_of spots) (sym is) ∙ none)
not_none spots place before (m ∷ ms) n s (inr rest) = not_none spots place m ms n s.1 rest

abbrev spot_or : Option Spot → Spot
spot_or None = record { place = 0; before = 0 }
spot_or (Some s) = s

-- spots stay as many
pub leave_size : (spots now : List (Option Spot)) (n last next : ℕ) → (n ≡ last → now ≡ slice_set spots (n - 1) None) →
    (n ≢ last → now ≡ slice_set (slice_set spots (n - 1) None) (next - 1) (spot_of spots n)) → length now ≡ length spots
leave_size spots now n last next at_end in_middle =
    elim (cases_eq n last) [
      | inl e ↦ ap length (at_end e) ∙ length-set spots (n - 1) None
      | inr more ↦ ap length (in_middle more) ∙ length-set (slice_set spots (n - 1) None) (next - 1) (spot_of spots n) ∙ length-set spots (n - 1) None
    ]

-- what a chain is without a record, by the record and the one before it
pub record IsLeft (jobs : Chain) (n before next : ℕ) (left : Chain) : Type 0 where
  pub count : left.count + 1 ≡ jobs.count
  pub front : before ≡ 0 → left.first ≡ next
  pub behind : before ≢ 0 → left.first ≡ jobs.first
  pub end : n ≡ jobs.last → left.last ≡ before
  pub middle : n ≢ jobs.last → left.last ≡ jobs.last

module _ (t : Tables) (h : AreChained t) (spots : List (Option Spot)) (noted : AreNoted spots (chained_in t)) where
  -- no record of a job that waits was found
  pub none_left : (job low high most : ℕ) → HasNoneBetween (queue_in t) job 0 low → HasNoneBetween (queue_in t) job high most → length t.owners ≤ most →
      HasNoSpot t.owners spots job low high → All (λ x. x.job ≢ job) (queue_in t).waiting
  none_left job low high most before behind size none =
      none_found t h job (λ place here. all_among (λ n. owned_by t.owners n ≢ job) (chained_in t place) (λ n among is. each place n among is))
    where
      each : (place n : ℕ) → IsAmong n (chained_in t place) → owned_by t.owners n ≡ job → ⊥
      each place n among is =
          let there = among_all (λ m. (1 ≤ m) × (m ≤ length t.owners)) n (chained_in t place) (all_there t h place) among in
          let owned : owner_at (queue_in t) n ≡ job = sym (owner_there t h n) ∙ is in
          elim (cases_lt low n) [
            | inl above ↦
                elim (cases_lt high n) [
                  | inl far ↦ behind n far (omega (arith, there.1, size)) owned
                  | inr within ↦ not_none spots place 0 (chained_in t place) n (noted.each place) among (none n above within is)
                ]
            | inr below ↦ before n (omega (arith, there.0)) below owned
          ]

  module _ (job : ℕ) (found : Found) (is : IsFound t.owners spots job found) where
    abbrev place : ℕ
    place = found.spot.place

    abbrev old : Chain
    old = chain_in t place

    abbrev link : ℕ → ℕ
    link = link_in t

    among : IsAmong found.n (chained_in t place)
    among = subst (λ o. IfSome o (λ s. IsAmong found.n (chained_in t s.place))) is.spot (noted.only found.n)

    pub here : place < length t.chains
    here = some_here t h place found.n among

    pub there : (1 ≤ found.n) × (found.n ≤ length t.owners)
    there = among_all (λ m. (1 ≤ m) × (m ≤ length t.owners)) found.n (chained_in t place) (all_there t h place) among

    way : IsReached link old.first old.count found.n
    way = reached link old.first old.count found.n among

    abbrev at : ℕ
    at = way.links

    before_is : last_of (chain link old.first at) ≡ found.spot.before
    before_is =
        sym (last_from_none (chain link old.first at))
        ∙ ap (λ o. (spot_or o).before) (sym (stand_walk spots link place 0 old.first old.count at way.within (noted.each place)) ∙ ap (spot_of spots) way.is ∙ is.spot)

    abbrev standing : Standing
    standing = record { place = at; before = found.spot.before; n = found.n }

    stands : IsStanding (owned_by t.owners) link old job standing
    stands = record { place = way.within; n = way.is; of_job = is.of_job; before = before_is }

    some : old.count ≢ 0
    some none = let w = way.within in absurd (omega (arith, w, none))

    -- it is the first where none is before it
    first_none : at ≡ 0 → found.spot.before ≡ 0
    first_none zero_at = sym before_is ∙ ap (λ k. last_of (chain link old.first k)) zero_at

    later_some : at ≢ 0 → (1 ≤ found.spot.before) × (found.spot.before ≤ length t.owners)
    later_some later = removing.before_place t h place here job standing stands later

    none_first : found.spot.before ≡ 0 → at ≡ 0
    none_first none = elim (cases_eq at 0) [ inl e ↦ e | inr later ↦ (let s = later_some later in absurd (omega (arith, s.0, none))) ]

    some_later : found.spot.before ≢ 0 → at ≢ 0
    some_later some_before e = some_before (first_none e)

    pub before_there : found.spot.before ≤ length t.owners
    before_there =
        elim (cases_eq at 0) [
          | inl e ↦ (let none = first_none e in omega (arith, none))
          | inr later ↦ (later_some later).1
        ]

    -- those before it and those behind
    abbrev front : List ℕ
    front = chain link old.first at

    c : ℕ
    c = old.count - suc at

    c_is : old.count ≡ at + suc c
    unfolding c
    c_is = let w = way.within in omega (arith, w)

    abbrev rest : List ℕ
    rest = chain link (link found.n) c

    had : chained_in t place ≡ front ++ found.n ∷ rest
    had = chain_split link old.first at (suc c) old.count c_is ∙ ap (λ m. front ++ chain link m (suc c)) way.is

    apart : IsApart found.n front rest
    apart = apart_one found.n front rest (subst Differ had (chains_differ t h place))

    last_is : last_of (found.n ∷ rest) ≡ old.last
    last_is = sym (last_behind front found.n rest) ∙ ap last_of (sym had) ∙ h.last place some

    end_last : c ≡ 0 → found.n ≡ old.last
    end_last none = sym (ap (λ k. last_of (found.n ∷ chain link (link found.n) k)) none) ∙ last_is

    middle_last : c ≢ 0 → found.n ≢ old.last
    middle_last more same =
        let k : c ≡ suc (c - 1) = omega (arith, more) in
        let it : walk link (link found.n) (c - 1) ≡ old.last =
        sym (last_chain link found.n (suc (c - 1))) ∙ ap (λ m. last_of (chain link found.n (suc m))) (sym k) ∙ last_is in
        among_all (λ m. m ≢ found.n) old.last rest apart.behind
        (subst (λ n. IsAmong n rest) it (among_walk link (link found.n) c (c - 1) (omega (arith, k)))) (sym same)

    last_end : found.n ≡ old.last → c ≡ 0
    last_end same = elim (cases_eq c 0) [ inl e ↦ e | inr more ↦ absurd (middle_last more same) ]

    last_middle : found.n ≢ old.last → c ≢ 0
    last_middle other e = other (end_last e)

    pub next_there : found.n ≢ old.last → (1 ≤ link found.n) × (link found.n ≤ length t.owners)
    next_there other =
        let more = last_middle other in
        among_all (λ m. (1 ≤ m) × (m ≤ length t.owners)) (link found.n) (chained_in t place) (all_there t h place)
        (subst (λ ns. IsAmong (link found.n) ns) (sym had) (among_right (link found.n) front (found.n ∷ rest) (inr (among_walk link (link found.n) c 0 (omega (arith, more))))))

    module _ (ch : Chain) (read : ch ≡ slice_index_or t.chains place ch) where
      pub is_read : ch ≡ old
      is_read = get_or_read t.chains place ch here read no_chain

      pub some_read : ch.count ≢ 0
      some_read none = some (ap (λ (x : Chain). x.count) (sym is_read) ∙ none)

      pub next_read : found.n ≢ ch.last → (1 ≤ link found.n) × (link found.n ≤ length t.owners)
      next_read other = next_there (λ same. other (same ∙ ap (λ (x : Chain). x.last) (sym is_read)))

      pub fewer : 1 ≤ t.waiting
      fewer = let f = removing.fewer t h place here ch read job standing stands in omega (arith, f)

      pub is_job_of : (q : Queued) → q.job ≡ job → q.jct ≡ found.n → q.class ≡ 65 + place / 14 → q.priority ≡ 13 - place % 14 → IsJobOf (queue_in t).waiting job q
      is_job_of q its_job jct class priority = removing.is_job_of t h place here ch read job standing stands q its_job jct class priority

      module _ (next : ℕ) (next_is : next ≡ link found.n) (left : Chain) (facts : IsLeft ch found.n found.spot.before next left) where
        without : IsWithout ch standing next left
        without = record {
          count = facts.count;
          front = λ e. facts.front (first_none e);
          behind = λ later. facts.behind (λ none. later (none_first none));
          end = λ e. facts.end (end_last (let k = c_is in let n = ap (λ (x : Chain). x.count) is_read in omega (arith, e, k, n)) ∙ ap (λ (x : Chain). x.last) (sym is_read));
          middle = λ more. facts.middle (λ same. more (let k = c_is in let n = ap (λ (x : Chain). x.count) is_read in
              let e = last_end (same ∙ ap (λ (x : Chain). x.last) is_read) in omega (arith, e, k, n)));
        }

        module _ (new : List (List ℕ)) (none : found.spot.before ≡ 0 → new ≡ t.records)
            (change : found.spot.before ≢ 0 → Changes t.layout t.records new (found.spot.before - 1) (record_of t.layout t.records (found.spot.before - 1)))
            (led : found.spot.before ≢ 0 → link_at t.layout new found.spot.before ≡ next) where
          abbrev after : Tables
          after = record t { records = new; chains = slice_set t.chains place left; waiting = t.waiting - 1 }

          pub chained_after : AreChained after
          chained_after =
              elim (cases_eq found.spot.before 0) [
                | inl e ↦
                    subst (λ rs. AreChained (record t { records = rs; chains = slice_set t.chains place left; waiting = t.waiting - 1 })) (sym (none e))
                    (removing.chained_without_first t h place here ch read job standing stands next next_is left without (none_first e))
                | inr some ↦
                    removing.chained_without_later t h place here ch read job standing stands next next_is left without (some_later some) new (change some) (led some)
              ]

          pub queue_after : queue_in after ≡ record (queue_in t) { waiting = filter (is_other job) (queue_in t).waiting }
          queue_after =
              elim (cases_eq found.spot.before 0) [
                | inl e ↦
                    subst (λ rs. queue_in (record t { records = rs; chains = slice_set t.chains place left; waiting = t.waiting - 1 }) ≡
                    record (queue_in t) { waiting = filter (is_other job) (queue_in t).waiting }) (sym (none e))
                    (removing.queue_without_first t h place here ch read job standing stands next next_is left without (none_first e))
                | inr some ↦
                    removing.queue_without_later t h place here ch read job standing stands next next_is left without (some_later some) new (change some) (led some)
              ]

          -- where its chain has the records that were before it and those that were behind
          list_left : chain (link_at t.layout new) left.first left.count ≡ front ++ rest
          list_left =
              elim (cases_eq found.spot.before 0) [
                | inl e ↦ first_list (none_first e) (none e)
                | inr some ↦ later_list some (some_later some)
              ]
            where
              count_left : left.count + 1 ≡ old.count
              count_left = facts.count ∙ ap (λ (x : Chain). x.count) is_read

              first_list : at ≡ 0 → new ≡ t.records → chain (link_at t.layout new) left.first left.count ≡ front ++ rest
              first_list zero_at same =
                  let k = c_is in
                  let n = count_left in
                  let size : left.count ≡ c = omega (arith, k, n, zero_at) in
                  (λ j. chain (link_at t.layout (same j)) ((facts.front (first_none zero_at) ∙ next_is) j) (size j))
                  ∙ sym (ap (λ m. chain link old.first m ++ rest) zero_at)

              later_list : found.spot.before ≢ 0 → at ≢ 0 → chain (link_at t.layout new) left.first left.count ≡ front ++ rest
              later_list some later =
                  let ahead = removing.ahead t h place here job standing stands later in
                  let ahead_is = removing.ahead_is t h place here job standing stands later in
                  let within = removing.ahead_within t h place here job standing stands later in
                  let gone_is = removing.before_is t h place here job standing stands later in
                  let n_is = removing.n_behind t h place here job standing stands later in
                  let fewer_by = removing.fewer t h place here ch read job standing stands in
                  let k = c_is in
                  let size = counted t h place here (t.waiting - 1) fewer_by ahead found.spot.before found.n within gone_is n_is in
                  let same : b t h place here (t.waiting - 1) fewer_by ahead found.spot.before found.n within gone_is n_is ≡ c = omega (arith, k, size, ahead_is) in
                  chain_left t h place here (t.waiting - 1) fewer_by ahead found.spot.before found.n within gone_is n_is new (change some) (led some ∙ next_is) left
                  (facts.behind some ∙ ap (λ (x : Chain). x.first) is_read) count_left
                  (λ e. without.end (omega (arith, e, ahead_is, facts.count, count_left))) (λ more. without.middle (λ e. more (omega (arith, e, ahead_is, facts.count, count_left))) ∙ ap (λ (x : Chain). x.last) is_read)
                  ∙ (λ j. chain link old.first (sym ahead_is j) ++ chain link (link found.n) (same j))

          others : (p : ℕ) → p ≢ place → chained_in after p ≡ chained_in t p
          others p other =
              elim (cases_eq found.spot.before 0) [
                | inl e ↦
                    list_there t h spots noted place here left new (t.waiting - 1) (λ m. Unit {0}) (λ m u. ap (λ rs. link_at t.layout rs m) (none e)) p other (λ k d l. tt)
                | inr some ↦
                    (let there = later_some (some_later some) in
                    let number : found.spot.before ≡ suc (found.spot.before - 1) = omega (arith, there.0) in
                    list_there t h spots noted place here left new (t.waiting - 1) (λ m. m ≢ found.spot.before)
                    (λ m apart. links_but t new (found.spot.before - 1) (record_of t.layout t.records (found.spot.before - 1)) (change some) m (λ is. apart (is ∙ sym number))) p other
                    (apart_chains spots (chained_in t) noted found.spot.before place p (before_among (some_later some)) other))
              ]
            where
              before_among : at ≢ 0 → IsAmong found.spot.before (chained_in t place)
              before_among later =
                  subst (λ n. IsAmong n (chained_in t place)) (removing.before_is t h place here job standing stands later)
                  (among_walk link old.first old.count (removing.ahead t h place here job standing stands later)
                  (let w = removing.ahead_within t h place here job standing stands later in omega (arith, w)))

          module _ (size : length t.owners ≤ length spots) (spots_now : List (Option Spot)) (at_end : found.n ≡ ch.last → spots_now ≡ slice_set spots (found.n - 1) None)
              (in_middle : found.n ≢ ch.last → spots_now ≡ slice_set (slice_set spots (found.n - 1) None) (next - 1) (spot_of spots found.n)) where
            abbrev last_read : ch.last ≡ old.last
            last_read = ap (λ (x : Chain). x.last) is_read

            pub noted_after : AreNoted spots_now (chained_in after)
            noted_after = by c refl
              where
                one : 1 ≤ found.n
                one = there.0

                in_spots : found.n ≤ length spots
                in_spots = let at = there.1 in omega (arith, at, size)

                now_is : chained_in after place ≡ front ++ rest
                now_is = list_here t h spots noted place here left new (t.waiting - 1) ∙ list_left

                by : (k : ℕ) → c ≡ k → AreNoted spots_now (chained_in after)
                by zero is_zero =
                    subst (λ ss. AreNoted ss (chained_in after)) (sym (at_end (end_last is_zero ∙ sym last_read)))
                    (noted_last spots (chained_in t) noted (chained_in after) found.n place front others (chains_differ t h place) one in_spots
                    (had ∙ ap (λ k. front ++ found.n ∷ chain link (link found.n) k) is_zero)
                    (now_is ∙ ap (λ k. front ++ chain link (link found.n) k) is_zero ∙ append-nil front))
                by (suc k) is_more =
                    let other : found.n ≢ old.last = middle_last (λ none. absurd (omega (arith, none, is_more))) in
                    let next_at = next_there other in
                    subst (λ ss. AreNoted ss (chained_in after))
                    (sym (in_middle (λ same. other (same ∙ last_read)) ∙ ap (λ m. slice_set (slice_set spots (found.n - 1) None) (m - 1) (spot_of spots found.n)) next_is))
                    (noted_middle spots (chained_in t) noted (chained_in after) found.n place front others (chains_differ t h place) one in_spots
                    (link found.n) (chain link (link (link found.n)) k)
                    (had ∙ ap (λ k. front ++ found.n ∷ chain link (link found.n) k) is_more)
                    (now_is ∙ ap (λ k. front ++ chain link (link found.n) k) is_more)
                    next_at.0 (let at = next_at.1 in omega (arith, at, size)))
