-- The free extents by place are those that the numbers of tracks tell, one for each number that is not 0.
use Rattle.std.proofs.Common.{◌≡◌, ◌≢◌, ℕ, suc, zero, ◌+◌, ◌-◌, ◌<◌, ◌≤◌, ◌⊎◌, inl, inr, true, false, List, [], ◌∷◌, length, get_or, take, max, Option, Some, None, refl, ap, ◌∙◌, subst, arith, ⊎_elim, nat_eq, nat_le, nat_lt, length-take}
use Rattle.std.specs.List.{Contains, find}
use Rattle.std.proofs.lemmas.Bool.{cases_Bool, cases_eq, cases_lt, eq-eqb, ne_eqb, le-leb, lt-leb, le-ltb, lt-ltb}
use Rattle.std.proofs.lemmas.List.{get_or-take, get_or_past}
use Rattle.extent_core.specs.declared.extent.Extent.{Extent}
use Rattle.extent_core.specs.Extents.{extent, first_of, free_extents, free_from, larger, largest_of, lengthened}
use Rattle.extent_core.specs.Sizes.{AreKept, covered, tracks_of}

-- an extent for each number that is not 0
abbrev pub listed : ℕ → List ℕ → List Extent
listed at [] = []
listed at (zero ∷ zs) = listed (at + 1) zs
listed at (suc n ∷ zs) = extent at (suc n) ∷ listed (at + 1) zs

-- the tracks that an extent further in front has yet
abbrev rest_of : ℕ → ℕ → List Extent → List Extent
rest_of zero at es = es
rest_of (suc n) at es = extent at (suc n) ∷ es

-- what is listed begins at or behind a track
lengthened-listed : (at from : ℕ) (zs : List ℕ) → at + 1 < from → lengthened at (listed from zs) ≡ extent at 1 ∷ listed from zs
lengthened-listed at from [] l = refl
lengthened-listed at from (zero ∷ zs) l = lengthened-listed at (from + 1) zs (omega arith)
lengthened-listed at from (suc n ∷ zs) l = simp (ne_eqb from (at + 1) (λ q. omega arith))

-- sizes behind an extent that has so many tracks from the first on: no extent touches it, nor another
record AreBehind (gap : ℕ) (sizes : List ℕ) : Type 0 where
  reach : gap ≤ length sizes + 1
  clear : (k : ℕ) → 0 < get_or sizes k 0 → gap ≤ k
  within : (k : ℕ) → 0 < get_or sizes k 0 → k + get_or sizes k 0 ≤ length sizes
  apart : (j k : ℕ) → j < k → 0 < get_or sizes j 0 → 0 < get_or sizes k 0 → j + get_or sizes j 0 < k

behind_next : (gap z : ℕ) (zs : List ℕ) → AreBehind gap (z ∷ zs) → AreBehind (max (gap - 1) z) zs
behind_next gap z zs h =
    let none : 0 < z → gap ≤ 0 = λ l. h.clear 0 l in
    record {
      reach = ⊎_elim (λ (l : 0 < z). omega (arith, none l, h.within 0 l, h.reach)) (λ (l : z ≤ 0). omega (arith, h.reach)) (cases_lt 0 z);
      clear = λ k l. ⊎_elim (λ (p : 0 < z). omega (arith, none p, h.apart 0 (suc k) (omega arith) p l)) (λ (p : z ≤ 0). omega (arith, h.clear (suc k) l)) (cases_lt 0 z);
      within = λ k l. omega (arith, h.within (suc k) l);
      apart = λ j k l a b. omega (arith, h.apart (suc j) (suc k) (omega arith) a b);
    }

-- a free track in front of what is listed
free_listed : (n at : ℕ) (zs : List ℕ) → AreBehind (suc n) zs → lengthened at (rest_of n (at + 1) (listed (at + 1) zs)) ≡ extent at (suc n) ∷ listed (at + 1) zs
free_listed zero at [] h = refl
free_listed zero at (zero ∷ zs) h = lengthened-listed at (at + 1 + 1) zs (omega arith)
free_listed zero at (suc m ∷ zs) h = absurd (omega (arith, h.clear 0 (omega arith)))
free_listed (suc n) at zs h = simp (eq-eqb (at + 1) (at + 1) refl) (ap (λ m. extent at m ∷ listed (at + 1) zs) (let q : suc n + 1 ≡ suc (suc n) = omega arith in q))

step_free : (g left m at : ℕ) (zs : List ℕ) → g ≡ suc m → left ≡ m → AreBehind g zs → free_from (at + 1) (covered left zs) ≡ rest_of left (at + 1) (listed (at + 1) zs)
    → free_from at (nat_lt 0 g ∷ covered left zs) ≡ extent at (suc m) ∷ listed (at + 1) zs
step_free g left m at zs e l h more =
    simp (lt-ltb 0 g (omega arith))
    (ap (lengthened at) more ∙ ap (λ n. lengthened at (rest_of n (at + 1) (listed (at + 1) zs))) l ∙ free_listed m at zs (subst (λ k. AreBehind k zs) e h))

step : (before z g left at : ℕ) (zs : List ℕ) → g ≡ max before z → left ≡ g - 1 → (0 < z → before ≡ 0) → AreBehind g zs → free_from (at + 1) (covered left zs) ≡ rest_of left (at + 1) (listed (at + 1) zs)
    → free_from at (nat_lt 0 g ∷ covered left zs) ≡ rest_of before at (listed at (z ∷ zs))
step zero zero g left at zs e l none h more =
    simp (le-ltb 0 g (omega arith)) (more ∙ ap (λ n. rest_of n (at + 1) (listed (at + 1) zs)) (let q : left ≡ 0 = omega arith in q))
step (suc n) zero g left at zs e l none h more = step_free g left n at zs (omega arith) (omega arith) h more
step zero (suc m) g left at zs e l none h more = step_free g left m at zs (omega arith) (omega arith) h more
step (suc n) (suc m) g left at zs e l none h more = absurd (omega (arith, none (omega arith)))

covered_listed : (gap at : ℕ) (sizes : List ℕ) → AreBehind gap sizes → free_from at (covered (gap - 1) sizes) ≡ rest_of (gap - 1) at (listed at sizes)
covered_listed gap at [] h = ap (λ n. rest_of n at []) (let q : 0 ≡ gap - 1 = omega (arith, h.reach) in q)
covered_listed gap at (z ∷ zs) h =
    let g = max (gap - 1) z in
    step (gap - 1) z g (g - 1) at zs refl refl (λ l. omega (arith, h.clear 0 l)) (behind_next gap z zs h) (covered_listed g (at + 1) zs (behind_next gap z zs h))

-- behind the last track no extent begins
pub get_or-take_kept : (count : ℕ) (sizes ends : List ℕ) → AreKept count sizes ends → (k : ℕ) → get_or (take count sizes) k 0 ≡ get_or sizes k 0
get_or-take_kept count sizes ends kept k =
    ⊎_elim
    (λ (l : k < count). get_or-take count sizes k 0 l)
    (λ (l : count ≤ k).
    get_or_past (take count sizes) k 0 (omega (arith, length-take count sizes))
    ∙ ⊎_elim (λ (p : 0 < get_or sizes k 0). absurd (omega (arith, kept.within k p))) (λ (p : get_or sizes k 0 ≤ 0). omega arith) (cases_lt 0 (get_or sizes k 0)))
    (cases_lt k count)

pub length-take_kept : (count : ℕ) (sizes ends : List ℕ) → AreKept count sizes ends → length (take count sizes) ≡ count
length-take_kept count sizes ends kept = omega (arith, length-take count sizes, kept.room)

-- the free extents are those that are listed
pub free_extents_listed : (count : ℕ) (sizes ends : List ℕ) → AreKept count sizes ends → free_extents (tracks_of count sizes) ≡ listed 0 (take count sizes)
free_extents_listed count sizes ends kept =
    let size : length (take count sizes) ≡ count = length-take_kept count sizes ends kept in
    let same = get_or-take_kept count sizes ends kept in
    covered_listed 0 0 (take count sizes) (record {
      reach = omega arith;
      clear = λ k l. omega arith;
      within = λ k l. omega (arith, same k, kept.within k (omega (arith, same k)));
      apart = λ j k l a b. omega (arith, same j, same k, kept.apart j k l (omega (arith, same j)) (omega (arith, same k)));
    })

-- each listed extent has a track
first_of-listed_one : (at : ℕ) (zs : List ℕ) → first_of 0 (listed at zs) ≡ first_of 1 (listed at zs)
first_of-listed_one at [] = refl
first_of-listed_one at (zero ∷ zs) = first_of-listed_one (at + 1) zs
first_of-listed_one at (suc n ∷ zs) = simp (le-leb 0 (suc n) (omega arith), le-leb 1 (suc n) (omega arith))

pub first_of-listed_max : (n at : ℕ) (zs : List ℕ) → first_of n (listed at zs) ≡ first_of (max n 1) (listed at zs)
first_of-listed_max n at zs =
    ⊎_elim
    (λ (q : n ≡ 0). rw q (first_of-listed_one at zs))
    (λ (q : n ≢ 0). let m : max n 1 ≡ n = omega arith in rw m refl)
    (cases_eq n 0)

-- the first that is large enough, by its place
pub first_of-listed : (n at : ℕ) (zs : List ℕ) (k : ℕ) → 0 < n → k < length zs → n ≤ get_or zs k 0 → ((j : ℕ) → j < k → get_or zs j 0 < n) → first_of n (listed at zs) ≡ Some (extent (at + k) (get_or zs k 0))
first_of-listed n at [] k p l e before = absurd (omega arith)
first_of-listed n at (zero ∷ zs) zero p l e before = absurd (omega arith)
first_of-listed n at (suc m ∷ zs) zero p l e before = simp (le-leb n (suc m) e) (ap (λ s. Some (extent s (suc m))) (let q : at ≡ at + 0 = omega arith in q))
first_of-listed n at (zero ∷ zs) (suc k) p l e before =
    first_of-listed n (at + 1) zs k p (omega arith) e (λ j i. before (suc j) (omega arith))
    ∙ ap (λ s. Some (extent s (get_or zs k 0))) (let q : at + 1 + k ≡ at + suc k = omega arith in q)
first_of-listed n at (suc m ∷ zs) (suc k) p l e before =
    simp (lt-leb n (suc m) (before 0 (omega arith)))
    (first_of-listed n (at + 1) zs k p (omega arith) e (λ j i. before (suc j) (omega arith))
    ∙ ap (λ s. Some (extent s (get_or zs k 0))) (let q : at + 1 + k ≡ at + suc k = omega arith in q))

pub first_of-listed_none : (n at : ℕ) (zs : List ℕ) → ((k : ℕ) → k < length zs → get_or zs k 0 < n) → first_of n (listed at zs) ≡ None
first_of-listed_none n at [] small = refl
first_of-listed_none n at (zero ∷ zs) small = first_of-listed_none n (at + 1) zs (λ k l. small (suc k) (omega arith))
first_of-listed_none n at (suc m ∷ zs) small = simp (lt-leb n (suc m) (small 0 (omega arith))) (first_of-listed_none n (at + 1) zs (λ k l. small (suc k) (omega arith)))

-- the largest, by its place
abbrev IsBounded : ℕ → Option Extent → Type 0
IsBounded m o = (o ≡ None) ⊎ ((e : Extent) × (o ≡ Some e) × (e.tracks ≤ m))

larger_bounded : (m : ℕ) (e : Extent) (o : Option Extent) → e.tracks ≤ m → IsBounded m o → IsBounded m (Some (larger e o))
larger_bounded m e o l h =
    ⊎_elim
    (λ (n : o ≡ None). inr (e, ap (λ p. Some (larger e p)) n, l))
    (λ (f : (x : Extent) × (o ≡ Some x) × (x.tracks ≤ m)).
    ⊎_elim
    (λ (b : nat_le f.0.tracks e.tracks ≡ true). inr (e, ap (λ p. Some (larger e p)) f.1 ∙ simp b, l))
    (λ (b : nat_le f.0.tracks e.tracks ≡ false). inr (f.0, ap (λ p. Some (larger e p)) f.1 ∙ simp b, f.2))
    (cases_Bool (nat_le f.0.tracks e.tracks)))
    h

largest_of-bounded : (m from : ℕ) (zs : List ℕ) → ((k : ℕ) → k < length zs → get_or zs k 0 ≤ m) → IsBounded m (largest_of (listed from zs))
largest_of-bounded m from [] bound = inl refl
largest_of-bounded m from (zero ∷ zs) bound = largest_of-bounded m (from + 1) zs (λ k l. bound (suc k) (omega arith))
largest_of-bounded m from (suc n ∷ zs) bound =
    larger_bounded m (extent from (suc n)) (largest_of (listed (from + 1) zs)) (bound 0 (omega arith)) (largest_of-bounded m (from + 1) zs (λ k l. bound (suc k) (omega arith)))

larger_listed : (m at from : ℕ) (zs : List ℕ) → ((k : ℕ) → k < length zs → get_or zs k 0 ≤ m) → larger (extent at m) (largest_of (listed from zs)) ≡ extent at m
larger_listed m at from zs bound =
    ⊎_elim
    (λ (n : largest_of (listed from zs) ≡ None). ap (larger (extent at m)) n)
    (λ (f : (x : Extent) × (largest_of (listed from zs) ≡ Some x) × (x.tracks ≤ m)). ap (larger (extent at m)) f.1 ∙ simp (le-leb f.0.tracks m f.2))
    (largest_of-bounded m from zs bound)

pub largest_of-listed : (at : ℕ) (zs : List ℕ) (k : ℕ) → 0 < get_or zs k 0 → k < length zs → ((j : ℕ) → j < length zs → get_or zs j 0 ≤ get_or zs k 0) → ((j : ℕ) → j < k → get_or zs j 0 < get_or zs k 0) → largest_of (listed at zs) ≡ Some (extent (at + k) (get_or zs k 0))
largest_of-listed at [] k p l bound before = absurd (omega arith)
largest_of-listed at (zero ∷ zs) zero p l bound before = absurd (omega arith)
largest_of-listed at (suc m ∷ zs) zero p l bound before =
    ap Some (larger_listed (suc m) at (at + 1) zs (λ k i. bound (suc k) (omega arith)) ∙ ap (λ s. extent s (suc m)) (let q : at ≡ at + 0 = omega arith in q))
largest_of-listed at (zero ∷ zs) (suc k) p l bound before =
    largest_of-listed (at + 1) zs k p (omega arith) (λ j i. bound (suc j) (omega arith)) (λ j i. before (suc j) (omega arith))
    ∙ ap (λ s. Some (extent s (get_or zs k 0))) (let q : at + 1 + k ≡ at + suc k = omega arith in q)
largest_of-listed at (suc m ∷ zs) (suc k) p l bound before =
    ap (λ o. Some (larger (extent at (suc m)) o)) (largest_of-listed (at + 1) zs k p (omega arith) (λ j i. bound (suc j) (omega arith)) (λ j i. before (suc j) (omega arith)))
    ∙ simp (lt-leb (get_or zs k 0) (suc m) (before 0 (omega arith))) (ap (λ s. Some (extent s (get_or zs k 0))) (let q : at + 1 + k ≡ at + suc k = omega arith in q))

pub largest_of-listed_none : (at : ℕ) (zs : List ℕ) → ((k : ℕ) → k < length zs → get_or zs k 0 ≡ 0) → largest_of (listed at zs) ≡ None
largest_of-listed_none at [] none = refl
largest_of-listed_none at (zero ∷ zs) none = largest_of-listed_none (at + 1) zs (λ k l. none (suc k) (omega arith))
largest_of-listed_none at (suc m ∷ zs) none = absurd (omega (arith, none 0 (omega arith)))

-- the extent that begins at a track
find_behind : (s at : ℕ) (zs : List ℕ) → s < at → find (λ (e : Extent). nat_eq e.start s) (listed at zs) ≡ None
find_behind s at [] l = refl
find_behind s at (zero ∷ zs) l = find_behind s (at + 1) zs (omega arith)
find_behind s at (suc m ∷ zs) l = simp (ne_eqb at s (λ q. omega arith)) (find_behind s (at + 1) zs (omega arith))

pub find-listed : (s at : ℕ) (zs : List ℕ) (k : ℕ) → s ≡ at + k → 0 < get_or zs k 0 → find (λ (e : Extent). nat_eq e.start s) (listed at zs) ≡ Some (extent s (get_or zs k 0))
find-listed s at [] k q p = absurd (omega arith)
find-listed s at (zero ∷ zs) zero q p = absurd (omega arith)
find-listed s at (suc m ∷ zs) zero q p = simp (eq-eqb at s (omega arith)) (ap (λ t. Some (extent t (suc m))) (let r : at ≡ s = omega arith in r))
find-listed s at (zero ∷ zs) (suc k) q p = find-listed s (at + 1) zs k (omega arith) p
find-listed s at (suc m ∷ zs) (suc k) q p = simp (ne_eqb at s (λ r. omega arith)) (find-listed s (at + 1) zs k (omega arith) p)

pub find-listed_none : (s at : ℕ) (zs : List ℕ) (k : ℕ) → s ≡ at + k → get_or zs k 0 ≡ 0 → find (λ (e : Extent). nat_eq e.start s) (listed at zs) ≡ None
find-listed_none s at [] k q p = refl
find-listed_none s at (zero ∷ zs) zero q p = find_behind s (at + 1) zs (omega arith)
find-listed_none s at (suc m ∷ zs) zero q p = absurd (omega arith)
find-listed_none s at (zero ∷ zs) (suc k) q p = find-listed_none s (at + 1) zs k (omega arith) p
find-listed_none s at (suc m ∷ zs) (suc k) q p = simp (ne_eqb at s (λ r. omega arith)) (find-listed_none s (at + 1) zs k (omega arith) p)

-- an extent that is listed, by its place
abbrev pub IsListed : Extent → ℕ → List ℕ → Type 0
IsListed e at zs = (k : ℕ) × (e.start ≡ at + k) × (0 < e.tracks) × (get_or zs k 0 ≡ e.tracks)

pub listed_is : (e : Extent) (at : ℕ) (zs : List ℕ) → Contains (listed at zs) e → IsListed e at zs
listed_is e at [] (k, l, q) = absurd (omega arith)
listed_is e at (zero ∷ zs) h = let r = listed_is e (at + 1) zs h in (suc r.0, omega (arith, r.1), r.2, r.3)
listed_is e at (suc m ∷ zs) (zero, l, q) =
    let size : suc m ≡ e.tracks = ap (λ (x : Extent). x.tracks) q in
    let place : at ≡ e.start = ap (λ (x : Extent). x.start) q in
    (0, omega arith, omega arith, size)
listed_is e at (suc m ∷ zs) (suc k, l, q) = let r = listed_is e (at + 1) zs (k, omega arith, q) in (suc r.0, omega (arith, r.1), r.2, r.3)
