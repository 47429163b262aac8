-- The largest extents in order, and what is planned of them.
use Rattle.std.proofs.Common.{◌≡◌, ℕ, suc, zero, ◌-◌, true, false, cond, List, [], ◌∷◌, Option, Some, None, if◌then◌else◌, refl, ap, sym, ◌∙◌, subst, ⊎_elim, nat_le, inl, inr, ◌⊎◌}
use Rattle.std.proofs.lemmas.Bool.{cases_Bool}
use Rattle.std.proofs.lemmas.Option.{same_Some, none-some}
use Rattle.extent_core.specs.declared.extent.Extent.{Extent}
use Rattle.extent_core.specs.Extents.{extent, first_of, larger, largest_of}
use Rattle.vtoc_core.specs.Extents.{behind, front_or, largest_taken, left_by, others_by, taken_by}

-- the largest extents in order, so many at most
abbrev pub before : Option Extent → List Extent → List Extent
before None es = []
before (Some e) es = e ∷ es

abbrev pub largest : ℕ → List Extent → List Extent
largest zero es = []
largest (suc k) es = before (largest_of es) (largest k (others_by (largest_of es) es))

-- what is taken of extents: all of the first, and of the last the front
abbrev pub taken_from : List Extent → ℕ → Option (List Extent)
taken_from [] n = None
taken_from (e ∷ es) n = if nat_le n e.tracks then Some (extent e.start n ∷ []) else behind e (taken_from es (n - e.tracks))

taken_by_before : (o : Option Extent) (n : ℕ) (rest : List Extent) → taken_by o n (taken_from rest (left_by o n)) ≡ taken_from (before o rest) n
taken_by_before None n rest = refl
taken_by_before (Some e) n rest = refl

pub largest_taken_is : (k : ℕ) (es : List Extent) (n : ℕ) → largest_taken k es n ≡ taken_from (largest k es) n
largest_taken_is zero es n = refl
largest_taken_is (suc k) es n =
    ap (taken_by (largest_of es) n) (largest_taken_is k (others_by (largest_of es) es) (left_by (largest_of es) n))
    ∙ taken_by_before (largest_of es) n (largest k (others_by (largest_of es) es))

pub none_or_some : {A : Type 0} (o : Option A) → (o ≡ None) ⊎ ((x : A) × (o ≡ Some x))
none_or_some None = inl refl
none_or_some (Some x) = inr (x, refl)

-- one of the extents
abbrev pub IsOneOf : Extent → List Extent → Type 0
IsOneOf e [] = ⊥
IsOneOf e (f ∷ fs) = (e ≡ f) ⊎ IsOneOf e fs

pub largest_is_one : (es : List Extent) (m : Extent) → largest_of es ≡ Some m → IsOneOf m es
largest_is_one [] m h = absurd (none-some m h)
largest_is_one (x ∷ xs) m h =
    ⊎_elim
    (λ (n : largest_of xs ≡ None). inl (sym (same_Some x m (sym (ap (λ o. Some (larger x o)) n) ∙ h))))
    (λ (p : (y : Extent) × (largest_of xs ≡ Some y)).
    let q : cond (nat_le p.0.tracks x.tracks) x p.0 ≡ m = same_Some (larger x (Some p.0)) m (sym (ap (λ o. Some (larger x o)) p.1) ∙ h) in
    ⊎_elim
    (λ (b : nat_le p.0.tracks x.tracks ≡ true). inl (sym (simp b at q)))
    (λ (b : nat_le p.0.tracks x.tracks ≡ false). inr (subst (λ y. IsOneOf y xs) (let r : p.0 ≡ m = simp b at q in r) (largest_is_one xs p.0 p.1)))
    (cases_Bool (nat_le p.0.tracks x.tracks)))
    (none_or_some (largest_of xs))

-- what the search is to find
abbrev pub sought : ℕ → List Extent → Option (List Extent)
sought n es = front_or (first_of n es) n (largest_taken 5 es n)
