-- Chains of records, as a link leads elsewhere.
use Rattle.std.proofs.Common.{◌≡◌, ◌≢◌, ℕ, zero, suc, ◌+◌, ◌<◌, List, [], ◌∷◌, ◌++◌, All, get_or, length, arith, ◌∙◌, ap, refl, subst}
use Rattle.std.proofs.lemmas.List.Elements.{All-head, All-tail}
use Rattle.plain.specs.Lists.{numbers_from}
use Rattle.chain_store.specs.Chains.{chain, last_of, walk}

pub length-chain : (link : ℕ → ℕ) (n count : ℕ) → length (chain link n count) ≡ count
length-chain link n zero = refl
length-chain link n (suc count) = ap suc (length-chain link (link n) count)

pub length-numbers : (n count : ℕ) → length (numbers_from n count) ≡ count
length-numbers n zero = refl
length-numbers n (suc count) = ap suc (length-numbers (n + 1) count)

pub chain_split : (link : ℕ → ℕ) (n a b m : ℕ) → m ≡ a + b → chain link n m ≡ chain link n a ++ chain link (walk link n a) b
chain_split link n zero b m is = ap (chain link n) (omega (arith, is))
chain_split link n (suc a) b zero is = absurd (omega (arith, is))
chain_split link n (suc a) b (suc m) is = ap (λ ns. n ∷ ns) (chain_split link (link n) a b m (omega (arith, is)))

pub walk_more : (link : ℕ → ℕ) (n a : ℕ) → walk link n (suc a) ≡ link (walk link n a)
walk_more link n zero = refl
walk_more link n (suc a) = walk_more link (link n) a

pub last_chain : (link : ℕ → ℕ) (n a : ℕ) → last_of (chain link n (suc a)) ≡ walk link n a
last_chain link n zero = refl
last_chain link n (suc a) = last_chain link (link n) a

pub last_push : (ns : List ℕ) (n : ℕ) → last_of (ns ++ n ∷ []) ≡ n
last_push [] n = refl
last_push (m ∷ []) n = refl
last_push (m ∷ (k ∷ ns)) n = last_push (k ∷ ns) n

pub last_behind : (ns : List ℕ) (m : ℕ) (ms : List ℕ) → last_of (ns ++ m ∷ ms) ≡ last_of (m ∷ ms)
last_behind [] m ms = refl
last_behind (n ∷ []) m ms = refl
last_behind (n ∷ (k ∷ ns)) m ms = last_behind (k ∷ ns) m ms

-- the links of some records are as before
module _ (link new : ℕ → ℕ) (P : ℕ → Type 0) (keeps : (m : ℕ) → P m → new m ≡ link m) where
  pub chain_kept : (n count : ℕ) → All P (chain link n count) → chain new n count ≡ chain link n count
  chain_kept n zero all = refl
  chain_kept n (suc count) all =
      let rest = chain link (link n) count in
      ap (λ ns. n ∷ ns) (ap (λ m. chain new m count) (keeps n (All-head P n rest all)) ∙ chain_kept (link n) count (All-tail P n rest all))

-- those of all but one
module _ (link new : ℕ → ℕ) (gone : ℕ) (keeps : (m : ℕ) → m ≢ gone → new m ≡ link m) where
  -- its record was the last of a chain, and leads to another now
  pub chain_pushed : (n count next : ℕ) → new gone ≡ next → last_of (chain link n (suc count)) ≡ gone → All (λ m. m ≢ gone) (chain link n count) →
      chain new n (suc (suc count)) ≡ chain link n (suc count) ++ next ∷ []
  chain_pushed n zero next to last all = ap (λ m. n ∷ (m ∷ [])) (ap new last ∙ to)
  chain_pushed n (suc count) next to last all =
      let rest = chain link (link n) count in
      ap (λ ns. n ∷ ns)
      (ap (λ m. chain new m (suc (suc count))) (keeps n (All-head (λ m. m ≢ gone) n rest all))
      ∙ chain_pushed (link n) count next to last (All-tail (λ m. m ≢ gone) n rest all))

  -- its record leads past the one behind it now
  pub chain_cut : (n a b next m : ℕ) → m ≡ a + b → new gone ≡ next → walk link n a ≡ gone → All (λ k. k ≢ gone) (chain link n a) →
      All (λ k. k ≢ gone) (chain link next b) → chain new n (suc m) ≡ chain link n (suc a) ++ chain link next b
  chain_cut n zero b next m is to here front back =
      let size : m ≡ b = omega (arith, is) in
      ap (λ ns. n ∷ ns) (ap (λ k. chain new k m) (ap new here ∙ to) ∙ ap (chain new next) size ∙ chain_kept link new (λ k. k ≢ gone) keeps next b back)
  chain_cut n (suc a) b next zero is to here front back = absurd (omega (arith, is))
  chain_cut n (suc a) b next (suc m) is to here front back =
      let rest = chain link (link n) a in
      ap (λ ns. n ∷ ns)
      (ap (λ k. chain new k (suc m)) (keeps n (All-head (λ k. k ≢ gone) n rest front))
      ∙ chain_cut (link n) a b next m (omega (arith, is)) to here (All-tail (λ k. k ≢ gone) n rest front) back)

pub chain_at : (link : ℕ → ℕ) (n count p d : ℕ) → p < count → get_or (chain link n count) p d ≡ walk link n p
chain_at link n zero p d h = absurd (omega (arith, h))
chain_at link n (suc count) zero d h = refl
chain_at link n (suc count) (suc p) d h = chain_at link (link n) count p d (omega (arith, h))

-- what holds of all of a chain holds of the one to which so many links lead
pub at_walk : (P : ℕ → Type 0) (link : ℕ → ℕ) (n count p : ℕ) → p < count → All P (chain link n count) → P (walk link n p)
at_walk P link n count p h all =
    subst P (chain_at link n count p 0 h) (all p 0 (let size = length-chain link n count in omega (arith, h, size)))
