-- The next free record is taken: the one that was given back last, or one that was never taken.
use Rattle.std.proofs.Common.{◌≡◌, ◌≢◌, ℕ, zero, suc, ◌+◌, ◌-◌, ◌^◌, ◌<◌, ◌≤◌, Bool, true, false, not, List, [], ◌∷◌, ◌++◌, Some, All, length, arith, ◌∙◌, ap, sym, refl, subst}
use Rattle.std.specs.Prelude.{slice_get, slice_set}
use Rattle.std.proofs.lemmas.Bool.{and_parts}
use Rattle.std.proofs.lemmas.List.Elements.{All-head, All-nil, All-same, All-tail}
use Rattle.plain.specs.Lists.{are_different, numbers_from}
use Rattle.cb_queue.specs.RecordQueues.{next_free, taken, zero_record}
use Rattle.cb_queue.proofs.Changing.{member}
use Rattle.chain_store.specs.Chains.{AreThere, chain}
use Rattle.chain_store.specs.Chained.{AreChained, Tables, chained_in, free_in, given_in, link_in, queue_in}
use Rattle.chain_store.specs.Links.{Changes, link_at}
use Rattle.chain_store.proofs.Jobs.{all_left}
use Rattle.chain_store.proofs.Ops.{chained_taken, free_size, not_member, queue_taken}
use Rattle.chain_store.proofs.Placed.{next_out}
use Rattle.chain_store.proofs.Walks.{chain_kept}

is_false : (b : Bool) → not b ≡ true → b ≡ false
is_false true e = cc
is_false false e = refl

module _ (t : Tables) (h : AreChained t) (owner : ℕ) (some : owner ≢ 0) (small : owner < 2 ^ 16) where
  -- one that was given back
  module _ (more : t.free_count ≢ 0) where
    k : ℕ
    k = t.free_count - 1

    count_is : t.free_count ≡ suc k
    unfolding k
    count_is = omega (arith, more)

    abbrev next : ℕ
    next = link_in t t.first_free

    given_is : given_in t ≡ t.first_free ∷ chain (link_in t) next k
    given_is = ap (chain (link_in t) t.first_free) count_is

    pub first_there : (1 ≤ t.first_free) × (t.first_free ≤ length t.owners)
    first_there =
        All-head (λ n. (1 ≤ n) × (n ≤ length t.owners)) t.first_free (chain (link_in t) next k)
        (All-same (λ n. (1 ≤ n) × (n ≤ length t.owners)) (t.first_free ∷ chain (link_in t) next k) (given_in t) (sym given_is) h.given)

    abbrev i : ℕ
    i = t.first_free - 1

    number : t.first_free ≡ suc i
    number = let there = first_there in omega (arith, there.0)

    abbrev rest : List ℕ
    rest = chain (link_in t) next k ++ numbers_from (t.reached + 1) (t.layout.most_records - t.reached)

    free_is : free_in t ≡ suc i ∷ rest
    free_is =
        ap (λ ns. ns ++ numbers_from (t.reached + 1) (t.layout.most_records - t.reached)) given_is ∙ ap (λ n. n ∷ rest) number

    -- it is in no chain
    pub out_given : (place : ℕ) → All (λ m. m ≢ suc i) (chained_in t place)
    out_given = next_out t h i rest free_is

    pub answer_given : Some t.first_free ≡ next_free (queue_in t)
    answer_given = ap Some number ∙ sym (ap (λ ns. slice_get ns 0) free_is)

    others : All (λ m. m ≢ suc i) (chain (link_in t) next k)
    others =
        all_left (λ m. m ≢ suc i) (chain (link_in t) next k) (numbers_from (t.reached + 1) (t.layout.most_records - t.reached))
        (not_member (suc i) rest (is_false (member (suc i) rest) (and_parts _ _ (sym (ap are_different free_is) ∙ h.sound.once)).0))

    module _ (new : List (List ℕ)) (first : ℕ) (first_is : first ≡ next) (fits : first < 256 ^ t.layout.link.width) (change : Changes t.layout t.records new i (zero_record owner))
        (bytes : All (λ b. b < 256) (zero_record owner)) where
      links : (m : ℕ) → m ≢ suc i → link_at t.layout new m ≡ link_in t m
      links zero other = refl
      links (suc j) other = change.others j (λ is. other (ap suc is))

      chain_left : chain (link_at t.layout new) first (t.free_count - 1) ≡ chain (link_in t) next k
      unfolding k
      chain_left =
          ap (λ n. chain (link_at t.layout new) n (t.free_count - 1)) first_is
          ∙ chain_kept (link_in t) (link_at t.layout new) (λ m. m ≢ suc i) links next (t.free_count - 1) others

      still_there : AreThere (length t.owners) (chain (link_at t.layout new) first (t.free_count - 1))
      still_there =
          subst (AreThere (length t.owners)) (sym chain_left)
          (All-tail (λ n. (1 ≤ n) × (n ≤ length t.owners)) t.first_free (chain (link_in t) next k)
          (All-same (λ n. (1 ≤ n) × (n ≤ length t.owners)) (t.first_free ∷ chain (link_in t) next k) (given_in t) (sym given_is) h.given))

      abbrev after_given : Tables
      after_given = record t { records = new; owners = slice_set t.owners i owner; first_free = first; free_count = t.free_count - 1; reached = t.reached }

      pub queue_from_given : queue_in after_given ≡ taken (queue_in t) owner
      queue_from_given =
          queue_taken t h i owner rest new first (t.free_count - 1) t.reached some free_is (let there = first_there in omega (arith, there.0, there.1)) change bytes fits small h.reached
          (omega (arith, more)) still_there (ap (λ ns. ns ++ numbers_from (t.reached + 1) (t.layout.most_records - t.reached)) chain_left)

      pub chained_from_given : AreChained after_given
      chained_from_given =
          chained_taken t h i owner rest new first (t.free_count - 1) t.reached some free_is (let there = first_there in omega (arith, there.0, there.1)) change bytes fits small h.reached
          (omega (arith, more)) still_there (ap (λ ns. ns ++ numbers_from (t.reached + 1) (t.layout.most_records - t.reached)) chain_left)

  -- one that was never taken
  module _ (none : t.free_count ≡ 0) (more : t.reached ≢ t.layout.most_records) where
    below_most : t.reached < t.layout.most_records
    below_most = let r = h.reached in let m = h.most in omega (arith, r, m, more)

    abbrev fresh : List ℕ
    fresh = numbers_from (t.reached + 1 + 1) (t.layout.most_records - (t.reached + 1))

    numbers_are : numbers_from (t.reached + 1) (t.layout.most_records - t.reached) ≡ suc t.reached ∷ fresh
    numbers_are =
        let b = below_most in
        let size : t.layout.most_records - t.reached ≡ suc (t.layout.most_records - (t.reached + 1)) = omega (arith, b) in
        let first : t.reached + 1 ≡ suc t.reached = omega arith in
        ap (numbers_from (t.reached + 1)) size ∙ ap (λ n. n ∷ fresh) first

    fresh_free : free_in t ≡ suc t.reached ∷ fresh
    fresh_free = ap (λ c. chain (link_in t) t.first_free c ++ numbers_from (t.reached + 1) (t.layout.most_records - t.reached)) none ∙ numbers_are

    pub out_fresh : (place : ℕ) → All (λ m. m ≢ suc t.reached) (chained_in t place)
    out_fresh = next_out t h t.reached fresh fresh_free

    pub answer_fresh : Some (t.reached + 1) ≡ next_free (queue_in t)
    answer_fresh = (let first : t.reached + 1 ≡ suc t.reached = omega arith in ap Some first) ∙ sym (ap (λ ns. slice_get ns 0) fresh_free)

    module _ (room : 1 ≤ length (free_in t) → t.layout.most_records - length t.owners + 1 ≤ length (free_in t)) where
      pub fresh_there : t.reached < length t.owners
      fresh_there =
          let b = below_most in
          let size = free_size t h in
          let enough = room (omega (arith, size, b)) in
          let most = h.most in
          omega (arith, enough, size, none, b, most)

      module _ (new : List (List ℕ)) (change : Changes t.layout t.records new t.reached (zero_record owner)) (bytes : All (λ b. b < 256) (zero_record owner)) where
        abbrev after_fresh : Tables
        after_fresh = record t { records = new; owners = slice_set t.owners t.reached owner; first_free = t.first_free; free_count = t.free_count; reached = t.reached + 1 }

        nothing_given : chain (link_at t.layout new) t.first_free t.free_count ≡ []
        nothing_given = ap (chain (link_at t.layout new) t.first_free) none

        none_there : AreThere (length t.owners) (chain (link_at t.layout new) t.first_free t.free_count)
        none_there = subst (AreThere (length t.owners)) (sym nothing_given) (All-nil (λ n. (1 ≤ n) × (n ≤ length t.owners)))

        pub queue_from_fresh : queue_in after_fresh ≡ taken (queue_in t) owner
        queue_from_fresh =
            queue_taken t h t.reached owner fresh new t.first_free t.free_count (t.reached + 1) some fresh_free fresh_there change bytes h.first_free small
            (let there = fresh_there in omega (arith, there)) (let there = fresh_there in omega (arith, there)) none_there (ap (λ ns. ns ++ fresh) nothing_given)

        pub chained_from_fresh : AreChained after_fresh
        chained_from_fresh =
            chained_taken t h t.reached owner fresh new t.first_free t.free_count (t.reached + 1) some fresh_free fresh_there change bytes h.first_free small
            (let there = fresh_there in omega (arith, there)) (let there = fresh_there in omega (arith, there)) none_there (ap (λ ns. ns ++ fresh) nothing_given)

  -- none is free
  pub none_free : t.free_count ≡ 0 → t.reached ≡ t.layout.most_records → length (free_in t) ≡ 0
  none_free none all = let size = free_size t h in omega (arith, size, none, all)
