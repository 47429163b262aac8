-- A tree of maxima: a write carried up, and the way down to the first number that is large enough.
use Rattle.std.proofs.Common.{◌≡◌, ◌≢◌, ℕ, zero, suc, ◌+◌, ◌-◌, ◌*◌, ◌/◌, ◌^◌, ◌<◌, ◌≤◌, List, drop, length, get_or, max, ap, ◌∙◌, arith, ⊎_elim, add-one, length-drop}
use Rattle.std.proofs.lemmas.Bool.{cases_eq}
use Rattle.std.proofs.lemmas.List.{get_or-drop}
use Rattle.std.proofs.lemmas.Nat.{pow_pos}
use Rattle.std.proofs.Math.Nat.{two-pow-succ}
use Rattle.std.proofs.Math.Pow.{pow_mono}
use Rattle.extent_core.specs.Maxima.{AreLargest, IsFirst, IsFirstLargest, IsLargest, IsTree}

-- each node is the larger of the two below it, but for the one above this node
abbrev pub AreLargestBut : List ℕ → ℕ → Type 0
AreLargestBut nodes n = (i : ℕ) → 0 < i → 2 * i < length nodes → 2 * i ≢ n → 2 * i + 1 ≢ n → IsLargest nodes i

-- below this node of a level stands the first number that is large enough
pub record IsOnWay (level : ℕ) (nodes : List ℕ) (least node : ℕ) : Type 0 where
  pub lower : 2 ^ level ≤ node
  pub upper : node < 2 ^ level + 2 ^ level
  pub enough : least ≤ get_or nodes node 0
  pub before : (k : ℕ) → 2 ^ level ≤ k → k < node → get_or nodes k 0 < least

pub two_pow_more : (level : ℕ) → 2 ^ (level + 1) ≡ 2 ^ level + 2 ^ level
two_pow_more level = ap (λ n. 2 ^ n) (add-one level) ∙ two-pow-succ level

-- the nodes below one of a level above the last are nodes
pub below_within : (level height n size : ℕ) → level < height → n < 2 ^ level + 2 ^ level → size ≡ 2 ^ height + 2 ^ height → n * 2 + 1 < size
below_within level height n size l u s =
    let m : 2 ^ (level + 1) ≤ 2 ^ height = pow_mono (omega arith) in
    omega (arith, two_pow_more level)

-- a level down: what stands in front of a node is small where what stands in front of the one above it is
before_below : (nodes : List ℕ) (p n least : ℕ) → 0 < p → n * 2 < length nodes → AreLargest nodes → ((k : ℕ) → p ≤ k → k < n → get_or nodes k 0 < least) → (k : ℕ) → p + p ≤ k → k < n * 2 → get_or nodes k 0 < least
before_below nodes p n least z l tree before k low high =
    let h = k / 2 in
    let t : get_or nodes h 0 ≡ max (get_or nodes (2 * h) 0) (get_or nodes (2 * h + 1) 0) = tree h (omega arith) (omega arith) in
    let s : get_or nodes h 0 < least = before h (omega arith) (omega arith) in
    ⊎_elim
    (λ (q : k ≡ 2 * h). rw q (omega arith))
    (λ (q : k ≢ 2 * h). let r : k ≡ 2 * h + 1 = omega arith in rw r (omega arith))
    (cases_eq k (2 * h))

pub way_left : (level : ℕ) (nodes : List ℕ) (least n : ℕ) → n * 2 + 1 < length nodes → AreLargest nodes → IsOnWay level nodes least n → least ≤ get_or nodes (n * 2) 0 → IsOnWay (level + 1) nodes least (n * 2)
way_left level nodes least n l tree way e =
    let two : 2 ^ (level + 1) ≡ 2 ^ level + 2 ^ level = two_pow_more level in
    let lower : 2 ^ level ≤ n = way.lower in
    let upper : n < 2 ^ level + 2 ^ level = way.upper in
    record {
      lower = omega arith;
      upper = omega arith;
      enough = e;
      before = λ k a b. before_below nodes (2 ^ level) n least (pow_pos level) (omega arith) tree way.before k (omega arith) b;
    }

pub way_right : (level : ℕ) (nodes : List ℕ) (least n : ℕ) → n * 2 + 1 < length nodes → AreLargest nodes → IsOnWay level nodes least n → get_or nodes (n * 2) 0 < least → IsOnWay (level + 1) nodes least (n * 2 + 1)
way_right level nodes least n l tree way e =
    let two : 2 ^ (level + 1) ≡ 2 ^ level + 2 ^ level = two_pow_more level in
    let z : 0 < 2 ^ level = pow_pos level in
    let lower : 2 ^ level ≤ n = way.lower in
    let upper : n < 2 ^ level + 2 ^ level = way.upper in
    let top : get_or nodes n 0 ≡ max (get_or nodes (2 * n) 0) (get_or nodes (2 * n + 1) 0) = tree n (omega arith) (omega arith) in
    let left : 2 * n ≡ n * 2 = omega arith in
    let first : get_or nodes (2 * n) 0 < least = rw left e in
    let right : 2 * n + 1 ≡ n * 2 + 1 = omega arith in
    record {
      lower = omega arith;
      upper = omega arith;
      enough = rw (← right) (let enough : least ≤ get_or nodes n 0 = way.enough in omega arith);
      before = λ k a b.
          ⊎_elim
          (λ (q : k ≡ n * 2). rw q e)
          (λ (q : k ≢ n * 2). before_below nodes (2 ^ level) n least z (omega arith) tree way.before k (omega arith) (omega arith))
          (cases_eq k (n * 2));
    }

-- no node is above the root
root_above : (fuel : ℕ) (nodes : List ℕ) (i : ℕ) → i ≤ fuel → AreLargest nodes → 0 < i → i < length nodes → get_or nodes i 0 ≤ get_or nodes 1 0
root_above zero nodes i f tree z l = absurd (omega arith)
root_above (suc fuel) nodes i f tree z l =
    ⊎_elim
    (λ (q : i ≡ 1). rw q (omega arith))
    (λ (q : i ≢ 1).
    let h = i / 2 in
    let t : get_or nodes h 0 ≡ max (get_or nodes (2 * h) 0) (get_or nodes (2 * h + 1) 0) = tree h (omega arith) (omega arith) in
    let s : get_or nodes h 0 ≤ get_or nodes 1 0 = root_above fuel nodes h (omega arith) tree (omega arith) (omega arith) in
    ⊎_elim
    (λ (r : i ≡ 2 * h). rw r (omega arith))
    (λ (r : i ≢ 2 * h). let o : i ≡ 2 * h + 1 = omega arith in rw o (omega arith))
    (cases_eq i (2 * h)))
    (cases_eq i 1)

-- no number is above the root
pub numbers_below : (height : ℕ) (nodes : List ℕ) (k : ℕ) → IsTree height nodes → k < length (drop (2 ^ height) nodes) → get_or (drop (2 ^ height) nodes) k 0 ≤ get_or nodes 1 0
numbers_below height nodes k tree l =
    let p = 2 ^ height in
    let z : 0 < p = pow_pos height in
    let l' : k < length nodes - p = omega (arith, length-drop p nodes) in
    rw (get_or-drop p nodes k 0) (root_above (p + k) nodes (p + k) (omega arith) tree.largest (omega arith) (omega arith))

-- what the way down finds, among the numbers
pub found_first : (height : ℕ) (nodes : List ℕ) (least leaf place : ℕ) → IsTree height nodes → place ≡ leaf - 2 ^ height → 2 ^ height ≤ leaf → leaf < length nodes → least ≤ get_or nodes leaf 0 → ((k : ℕ) → 2 ^ height ≤ k → k < leaf → get_or nodes k 0 < least) → IsFirst (drop (2 ^ height) nodes) least place
found_first height nodes least leaf place tree q low high enough before =
    let p = 2 ^ height in
    let at : p + place ≡ leaf = omega arith in
    record {
      within = rw (length-drop p nodes) (omega arith);
      enough = rw (get_or-drop p nodes place 0, at) enough;
      before = λ k l. rw (get_or-drop p nodes k 0) (before (p + k) (omega arith) (omega arith));
    }

pub found_largest : (height : ℕ) (nodes : List ℕ) (place : ℕ) → IsTree height nodes → IsFirst (drop (2 ^ height) nodes) (get_or nodes 1 0) place → IsFirstLargest (drop (2 ^ height) nodes) place
found_largest height nodes place tree first =
    let numbers = drop (2 ^ height) nodes in
    let top : get_or nodes 1 0 ≤ get_or numbers place 0 = first.enough in
    record {
      within = first.within;
      bound = λ k l. omega (arith, numbers_below height nodes k tree l);
      before = λ k l. omega (arith, first.before k l);
    }
