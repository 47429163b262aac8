-- The records of the chains of a store stand where it is noted, as records change and a job enters.
use Rattle.std.proofs.Common.{◌≡◌, ◌≢◌, ℕ, zero, suc, ◌+◌, ◌-◌, ◌<◌, ◌≤◌, inl, inr, List, [], ◌∷◌, ◌++◌, All, Option, Some, get_or, length, map, take, arith, ◌∙◌, ap, sym, refl, subst, get_or-set_other, get_or-set_same}
use Rattle.std.specs.Prelude.{slice_set}
use Rattle.std.proofs.lemmas.Bool.{cases_eq, cases_lt}
use Rattle.std.proofs.lemmas.List.{get_or-take, get_or_past}
use Rattle.std.proofs.lemmas.List.Elements.{All-nil, All-weaker}
use Rattle.cb_meaning.specs.Fields.{number_at}
use Rattle.queue_core.specs.declared.queue.Queued.{Queued}
use Rattle.cb_queue.specs.RecordQueues.{AreInOrder, IsQueued}
use Rattle.cb_queue.proofs.Changing.{first_free}
use Rattle.chain_store.specs.declared.chains.Chain.{Chain}
use Rattle.chain_store.specs.declared.spots.Spot.{Spot}
use Rattle.chain_store.specs.Chains.{AreThere, chain, job_at, last_of, no_chain, walk}
use Rattle.chain_store.specs.Chained.{AreChained, Tables, chain_in, chained_in, free_in, link_in, queue_in}
use Rattle.chain_store.specs.Links.{Changes, link_at, owned_by}
use Rattle.chain_store.specs.Spots.{AreNoted, IsAmong}
use Rattle.chain_store.proofs.AllJobs.{chain_of_all}
use Rattle.chain_store.proofs.Noted.{Differ, among_walk, apart_chains, noted_entered, noted_still}
use Rattle.chain_store.proofs.Entering.{waits_owned}
use Rattle.chain_store.proofs.Ops.{owned_place, owner_there}
use Rattle.chain_store.proofs.Selecting.{of_waiting, there_of}
use Rattle.chain_store.proofs.Walks.{chain_kept, last_chain}

-- one record of a table is another
pub links_but : (t : Tables) (new : List (List ℕ)) (i : ℕ) (r : List ℕ) → Changes t.layout t.records new i r → (m : ℕ) → m ≢ suc i → link_at t.layout new m ≡ link_in t m
links_but t new i r change zero other = refl
links_but t new i r change (suc k) other = change.others k (λ is. other (ap suc is))

pub links_all : (t : Tables) (new : List (List ℕ)) (i : ℕ) (r : List ℕ) → Changes t.layout t.records new i r → link_at t.layout new (suc i) ≡ link_in t (suc i) →
    (m : ℕ) → link_at t.layout new m ≡ link_in t m
links_all t new i r change same m =
    elim (cases_eq m (suc i)) [ inl is ↦ ap (link_at t.layout new) is ∙ same ∙ ap (link_in t) (sym is) | inr other ↦ links_but t new i r change m other ]

in_order_differ : (owner link : ℕ → ℕ) (place n count : ℕ) → AreInOrder (map (job_at owner place) (chain link n count)) → Differ (chain link n count)
in_order_differ owner link place n zero order = tt
in_order_differ owner link place n (suc count) order = (
  All-weaker (λ m. owner n < owner m) (λ m. m ≢ n) (λ m less is. let same = ap owner is in absurd (omega (arith, less, same))) (chain link (link n) count)
      (chain_of_all owner link (λ x. owner n < x.job) place (link n) count order.0),
  in_order_differ owner link place (link n) count order.1,
)

module _ (t : Tables) (h : AreChained t) where
  room_links : (new : List (List ℕ)) → take (length t.records) new ≡ t.records → (n : ℕ) → n ≤ length t.records → link_at t.layout new n ≡ link_in t n
  room_links new kept zero here = refl
  room_links new kept (suc k) here =
      ap (λ r. number_at r t.layout.link) (sym (get_or-take (length t.records) new k [] (omega (arith, here))) ∙ ap (λ rs. get_or rs k []) kept)

  -- what holds of each chain that there is
  pub all_lists : (P : ℕ → Type 0) → ((place : ℕ) → place < length t.chains → All P (chained_in t place)) → (place : ℕ) → All P (chained_in t place)
  all_lists P each place =
      elim (cases_lt place (length t.chains)) [
        | inl here ↦ each place here
        | inr past ↦ subst (λ (c : Chain). All P (chain (link_in t) c.first c.count)) (sym (get_or_past t.chains place no_chain past)) (All-nil P)
      ]

  -- what holds of each job that waits
  pub all_owners : (P : ℕ → Type 0) → All (λ x. P x.job) (queue_in t).waiting → (place : ℕ) → All (λ m. P (owned_by t.owners m)) (chained_in t place)
  all_owners P all =
      all_lists (λ m. P (owned_by t.owners m))
      (λ place here. chain_of_all (owned_by t.owners) (link_in t) (λ x. P x.job) place (chain_in t place).first (chain_in t place).count (of_waiting t h (λ x. P x.job) all place here))

  pub all_records : (P : ℕ → Type 0) → All (λ x. P x.jct) (queue_in t).waiting → (place : ℕ) → All P (chained_in t place)
  all_records P all =
      all_lists P
      (λ place here. chain_of_all (owned_by t.owners) (link_in t) (λ x. P x.jct) place (chain_in t place).first (chain_in t place).count (of_waiting t h (λ x. P x.jct) all place here))

  pub all_owned : (place : ℕ) → All (λ m. owned_by t.owners m ≢ 0) (chained_in t place)
  all_owned = all_owners (λ job. job ≢ 0) (All-weaker (IsQueued (queue_in t)) (λ x. x.job ≢ 0) (λ x own. own.job) (queue_in t).waiting h.sound.queued)

  -- the record that is taken next is in none
  pub next_out : (i : ℕ) (rest : List ℕ) → free_in t ≡ suc i ∷ rest → (place : ℕ) → All (λ m. m ≢ suc i) (chained_in t place)
  next_out i rest first place =
      All-weaker (λ m. owned_by t.owners m ≢ 0) (λ m. m ≢ suc i)
      (λ m owned is. owned (ap (owned_by t.owners) is ∙ owner_there t h (suc i) ∙ first_free (queue_in t) i 0 rest h.sound first)) (chained_in t place) (all_owned place)

  pub all_there : (place : ℕ) → AreThere (length t.owners) (chained_in t place)
  all_there = all_lists (λ n. (1 ≤ n) × (n ≤ length t.owners)) (λ place here. there_of t h place here)

  pub chains_differ : (place : ℕ) → Differ (chained_in t place)
  chains_differ place = in_order_differ (owned_by t.owners) (link_in t) place (chain_in t place).first (chain_in t place).count (h.in_order place)

  pub some_here : (place n : ℕ) → IsAmong n (chained_in t place) → place < length t.chains
  some_here place n among =
      elim (cases_lt place (length t.chains)) [
        | inl here ↦ here
        | inr past ↦ absurd (subst (λ (c : Chain). IsAmong n (chain (link_in t) c.first c.count)) (get_or_past t.chains place no_chain past) among)
      ]

  module _ (spots : List (Option Spot)) (noted : AreNoted spots (chained_in t)) where
    -- the links of all records that are in chains are as they were
    pub noted_kept : (P : ℕ → Type 0) (new : List (List ℕ)) → ((m : ℕ) → P m → link_at t.layout new m ≡ link_in t m) → ((place : ℕ) → All P (chained_in t place)) →
        AreNoted spots (chained_in (record t { records = new }))
    noted_kept P new keeps all =
        noted_still spots (chained_in t) noted (chained_in (record t { records = new }))
        (λ place. chain_kept (link_in t) (link_at t.layout new) P keeps (chain_in t place).first (chain_in t place).count (all place))

    -- a record that nobody owns, or that is given back
    pub noted_relinked : (new : List (List ℕ)) (i : ℕ) (r : List ℕ) → Changes t.layout t.records new i r → ((place : ℕ) → All (λ m. m ≢ suc i) (chained_in t place)) →
        AreNoted spots (chained_in (record t { records = new }))
    noted_relinked new i r change out = noted_kept (λ m. m ≢ suc i) new (links_but t new i r change) out

    pub noted_rewritten : (new : List (List ℕ)) (i : ℕ) (r : List ℕ) → Changes t.layout t.records new i r → link_at t.layout new (suc i) ≡ link_in t (suc i) →
        AreNoted spots (chained_in (record t { records = new }))
    noted_rewritten new i r change same =
        noted_kept (λ m. Unit {0}) new (λ m u. links_all t new i r change same m) (λ place. all_lists (λ m. Unit {0}) (λ p here. λ k d l. tt) place)

    -- there is memory for more records
    pub noted_room : (new : List (List ℕ)) → take (length t.records) new ≡ t.records → AreNoted spots (chained_in (record t { records = new }))
    noted_room new kept =
        noted_kept (λ n. n ≤ length t.records) new (room_links new kept)
        (λ place. All-weaker (λ n. (1 ≤ n) × (n ≤ length t.owners)) (λ n. n ≤ length t.records) (λ n at. let room = h.room in omega (arith, at.1, room)) (chained_in t place) (all_there place))

    -- one chain is another: its records, and those of the others
    module _ (place : ℕ) (here : place < length t.chains) (c : Chain) (new : List (List ℕ)) (waiting : ℕ) where
      abbrev pub rechained : Tables
      rechained = record t { records = new; chains = slice_set t.chains place c; waiting = waiting }

      pub list_here : chained_in rechained place ≡ chain (link_at t.layout new) c.first c.count
      list_here = ap (λ (x : Chain). chain (link_at t.layout new) x.first x.count) (get_or-set_same t.chains place c no_chain here)

      pub list_there : (P : ℕ → Type 0) → ((m : ℕ) → P m → link_at t.layout new m ≡ link_in t m) → (p : ℕ) → p ≢ place → All P (chained_in t p) →
          chained_in rechained p ≡ chained_in t p
      list_there P keeps p other all =
          ap (λ (x : Chain). chain (link_at t.layout new) x.first x.count) (get_or-set_other t.chains place p c no_chain other)
          ∙ chain_kept (link_in t) (link_at t.layout new) P keeps (chain_in t p).first (chain_in t p).count all

      -- a job enters
      module _ (q : Queued) (own : IsQueued (queue_in t) q) (its_job : owned_by t.owners q.jct ≡ q.job) (there : (1 ≤ q.jct) × (q.jct ≤ length spots))
          (later : All (λ x. x.job < q.job) (queue_in t).waiting) (before : ℕ) where
        alone : (p : ℕ) → All (λ m. m ≢ q.jct) (chained_in t p)
        alone p =
            All-weaker (λ m. owned_by t.owners m < q.job) (λ m. m ≢ q.jct)
            (λ m less is. let same = ap (owned_by t.owners) is ∙ its_job in absurd (omega (arith, less, same))) (chained_in t p)
            (all_owners (λ job. job < q.job) later p)

        pub entered : chain (link_at t.layout new) c.first c.count ≡ chained_in t place ++ q.jct ∷ [] → before ≡ last_of (chained_in t place) →
            ((p : ℕ) → p ≢ place → chained_in rechained p ≡ chained_in t p) →
            AreNoted (slice_set spots (q.jct - 1) (Some (record { place = place; before = before }))) (chained_in rechained)
        entered longer is others =
            subst (λ b. AreNoted (slice_set spots (q.jct - 1) (Some (record { place = place; before = b }))) (chained_in rechained)) (sym is)
            (noted_entered spots (chained_in t) noted (chained_in rechained) q.jct place (list_here ∙ longer) others alone there.0 there.1)

    -- where a chain has a record, its last one is in it, and in no other
    module _ (place : ℕ) (some : (chain_in t place).count ≢ 0) where
      k : ℕ
      k = (chain_in t place).count - 1

      count_is : (chain_in t place).count ≡ suc k
      unfolding k
      count_is = omega (arith, some)

      last_is : walk (link_in t) (chain_in t place).first k ≡ (chain_in t place).last
      last_is =
          sym (last_chain (link_in t) (chain_in t place).first k) ∙ ap (λ m. last_of (chain (link_in t) (chain_in t place).first m)) (sym count_is) ∙ h.last place some

      pub last_among : IsAmong (chain_in t place).last (chained_in t place)
      last_among =
          subst (λ n. IsAmong n (chained_in t place)) last_is
          (among_walk (link_in t) (chain_in t place).first (chain_in t place).count k (let c = count_is in omega (arith, c)))

      pub last_apart : (p : ℕ) → p ≢ place → All (λ m. m ≢ (chain_in t place).last) (chained_in t p)
      last_apart p other = apart_chains spots (chained_in t) noted (chain_in t place).last place p last_among other

    -- a job enters a chain without a record
    module _ (place : ℕ) (here : place < length t.chains) (q : Queued) (own : IsQueued (queue_in t) q) (later : All (λ x. x.job < q.job) (queue_in t).waiting) (size : length t.owners ≤ length spots) where
      abbrev q_spot : ℕ → Option Spot
      q_spot before = Some (record { place = place; before = before })

      its_job : owned_by t.owners q.jct ≡ q.job
      its_job = owner_there t h q.jct ∙ own.owner

      pub jct_there : (1 ≤ q.jct) × (q.jct ≤ length spots)
      jct_there = let at = owned_place t h q.jct (waits_owned t h q own) in (at.0, omega (arith, at.1, size))

      pub noted_alone : (waiting : ℕ) → (chain_in t place).count ≡ 0 →
          AreNoted (slice_set spots (q.jct - 1) (q_spot 0)) (chained_in (rechained place here (record { first = q.jct; last = q.jct; count = 1 }) t.records waiting))
      noted_alone waiting none =
          entered place here (record { first = q.jct; last = q.jct; count = 1 }) t.records waiting q own its_job jct_there later 0
          (sym (ap (λ k. chain (link_in t) (chain_in t place).first k ++ q.jct ∷ []) none)) (sym (ap (λ k. last_of (chain (link_in t) (chain_in t place).first k)) none))
          (λ p other. list_there place here (record { first = q.jct; last = q.jct; count = 1 }) t.records waiting (λ m. Unit {0}) (λ m u. refl) p other (λ k d l. tt))

      -- and one with records, whose last one leads to it now
      pub noted_longer : (waiting : ℕ) (new : List (List ℕ)) → (some : (chain_in t place).count ≢ 0) →
          ((m : ℕ) → m ≢ (chain_in t place).last → link_at t.layout new m ≡ link_in t m) →
          chain (link_at t.layout new) (chain_in t place).first ((chain_in t place).count + 1) ≡ chained_in t place ++ q.jct ∷ [] →
          AreNoted (slice_set spots (q.jct - 1) (q_spot (chain_in t place).last))
          (chained_in (rechained place here (record { first = (chain_in t place).first; last = q.jct; count = (chain_in t place).count + 1 }) new waiting))
      noted_longer waiting new some links longer =
          entered place here (record { first = (chain_in t place).first; last = q.jct; count = (chain_in t place).count + 1 }) new waiting q own its_job jct_there later (chain_in t place).last
          longer (sym (h.last place some))
          (λ p other. list_there place here (record { first = (chain_in t place).first; last = q.jct; count = (chain_in t place).count + 1 }) new waiting (λ m. m ≢ (chain_in t place).last) links p other
          (last_apart place some p other))
