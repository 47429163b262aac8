-- Which tracks are free by the numbers of tracks of free extents: those that an extent reaches.
use Rattle.std.proofs.Common.{◌≡◌, ℕ, suc, zero, ◌+◌, ◌-◌, ◌<◌, ◌≤◌, ◌⊎◌, inl, inr, true, false, List, [], ◌∷◌, length, get_or, take, max, refl, ap, ◌∙◌, arith, ⊎_elim, length-take}
use Rattle.std.proofs.lemmas.Bool.{cases_lt, false≢true, lt-ltb, ltb-true}
use Rattle.std.proofs.lemmas.List.{get_or-take}
use Rattle.extent_core.specs.Sizes.{covered, tracks_of}

-- an extent that begins at or in front of a track reaches it
abbrev pub Reaches : List ℕ → ℕ → Type 0
Reaches sizes track = (j : ℕ) × (j ≤ track) × (track < j + get_or sizes j 0)

pub length-covered : (left : ℕ) (sizes : List ℕ) → length (covered left sizes) ≡ length sizes
length-covered left [] = refl
length-covered left (z ∷ zs) = ap suc (length-covered (max left z - 1) zs)

covered_left : (left : ℕ) (sizes : List ℕ) (k : ℕ) → k < length sizes → k < left → get_or (covered left sizes) k false ≡ true
covered_left left [] k l h = absurd (omega arith)
covered_left left (z ∷ zs) zero l h = lt-ltb 0 (max left z) (omega arith)
covered_left left (z ∷ zs) (suc k) l h = covered_left (max left z - 1) zs k (omega arith) (omega arith)

-- what an extent reaches is free
covered_reached : (left : ℕ) (sizes : List ℕ) (k j : ℕ) → k < length sizes → j ≤ k → k < j + get_or sizes j 0 → get_or (covered left sizes) k false ≡ true
covered_reached left [] k j l a b = absurd (omega arith)
covered_reached left (z ∷ zs) zero zero l a b = lt-ltb 0 (max left z) (omega arith)
covered_reached left (z ∷ zs) zero (suc j) l a b = absurd (omega arith)
covered_reached left (z ∷ zs) (suc k) zero l a b = covered_left (max left z - 1) zs k (omega arith) (omega arith)
covered_reached left (z ∷ zs) (suc k) (suc j) l a b = covered_reached (max left z - 1) zs k j (omega arith) (omega arith) (omega arith)

-- what is free, an extent reaches
reached_covered : (left : ℕ) (sizes : List ℕ) (k : ℕ) → get_or (covered left sizes) k false ≡ true → (k < left) ⊎ Reaches sizes k
reached_covered left [] k h = absurd (false≢true h)
reached_covered left (z ∷ zs) zero h =
    let l : 0 < max left z = ltb-true 0 (max left z) h in
    ⊎_elim (λ (a : 0 < left). inl a) (λ (a : left ≤ 0). inr (0, omega arith, omega arith)) (cases_lt 0 left)
reached_covered left (z ∷ zs) (suc k) h =
    ⊎_elim
    (λ (l : k < max left z - 1). ⊎_elim (λ (a : suc k < left). inl a) (λ (a : left ≤ suc k). inr (0, omega arith, omega arith)) (cases_lt (suc k) left))
    (λ (r : Reaches zs k). inr (suc r.0, omega (arith, r.1), omega (arith, r.2)))
    (reached_covered (max left z - 1) zs k h)

pub length-tracks_of : (count : ℕ) (sizes : List ℕ) → count < length sizes → length (tracks_of count sizes) ≡ count
length-tracks_of count sizes l = length-covered 0 (take count sizes) ∙ (let e : length (take count sizes) ≡ count = omega (arith, length-take count sizes) in e)

pub reached_is_free : (count : ℕ) (sizes : List ℕ) (k : ℕ) → count < length sizes → k < count → Reaches sizes k → get_or (tracks_of count sizes) k false ≡ true
reached_is_free count sizes k r l (j, a, b) =
    let same : get_or (take count sizes) j 0 ≡ get_or sizes j 0 = get_or-take count sizes j 0 (omega arith) in
    covered_reached 0 (take count sizes) k j (omega (arith, length-take count sizes)) a (omega arith)

pub free_is_reached : (count : ℕ) (sizes : List ℕ) (k : ℕ) → k < count → get_or (tracks_of count sizes) k false ≡ true → Reaches sizes k
free_is_reached count sizes k l h =
    ⊎_elim
    (λ (z : k < 0). absurd (omega arith))
    (λ (r : Reaches (take count sizes) k).
    let same : get_or (take count sizes) r.0 0 ≡ get_or sizes r.0 0 = get_or-take count sizes r.0 0 (omega (arith, r.1)) in
    (r.0, r.1, omega (arith, r.2)))
    (reached_covered 0 (take count sizes) k h)
