-- Kinds of DDs at their places, step by step. Here places count from 0.
use Rattle.std.proofs.Common.{◌≡◌, ℕ, zero, suc, ◌⊎◌, inl, inr, List, [], ◌∷◌, ◌++◌, length, Option, Some, None, refl, ap}
use Rattle.std.specs.Prelude.{slice_get}
use Rattle.jcl_plan.specs.declared.plan.DdKind.{DdKind}

abbrev pub look_in : Option (List DdKind) → ℕ → Option DdKind
look_in None i = None
look_in (Some dds) i = slice_get dds i

abbrev pub look : List (List DdKind) → ℕ → ℕ → Option DdKind
look planned n i = look_in (slice_get planned n) i

-- what stands in one stands in the other
abbrev pub Extends : List (List DdKind) → List (List DdKind) → Type 0
Extends a b = (n i : ℕ) (kind : DdKind) → look a n i ≡ Some kind → look b n i ≡ Some kind

nothing : (kind : DdKind) → (let none : Option DdKind = None in none) ≡ Some kind → ⊥
nothing kind is = cc

in_front : (dds : List DdKind) (i : ℕ) (kind last : DdKind) → slice_get dds i ≡ Some kind → slice_get (dds ++ last ∷ []) i ≡ Some kind
in_front [] i kind last is = absurd (nothing kind is)
in_front (x ∷ dds) zero kind last is = is
in_front (x ∷ dds) (suc i) kind last is = in_front dds i kind last is

-- one more DD
pub more_there : (planned : List (List DdKind)) (here : List DdKind) (last : DdKind) → Extends (planned ++ here ∷ []) (planned ++ (here ++ last ∷ []) ∷ [])
more_there [] here last zero i kind is = in_front here i kind last is
more_there [] here last (suc n) i kind is = is
more_there (dds ∷ planned) here last zero i kind is = is
more_there (dds ∷ planned) here last (suc n) i kind is = more_there planned here last n i kind is

pub record IsLast (planned : List (List DdKind)) (here : List DdKind) (last : DdKind) (n i : ℕ) (kind : DdKind) : Type 0 where
  pub step : n ≡ length planned
  pub dd : i ≡ length here
  pub same : last ≡ kind

one_more : (here : List DdKind) (last : DdKind) (i : ℕ) (kind : DdKind) → slice_get (here ++ last ∷ []) i ≡ Some kind →
    (slice_get here i ≡ Some kind) ⊎ ((i ≡ length here) × (last ≡ kind))
one_more [] last zero kind is = inr (refl, cc)
one_more [] last (suc i) kind is = absurd (nothing kind is)
one_more (x ∷ here) last zero kind is = inl is
one_more (x ∷ here) last (suc i) kind is = by_case (one_more here last i kind is)
  where
    by_case : (slice_get here i ≡ Some kind) ⊎ ((i ≡ length here) × (last ≡ kind)) →
        (slice_get here i ≡ Some kind) ⊎ ((suc i ≡ suc (length here)) × (last ≡ kind))
    by_case (inl old) = inl old
    by_case (inr new) = inr (ap (λ n. suc n) new.0, new.1)

pub was_there : (planned : List (List DdKind)) (here : List DdKind) (last : DdKind) (n i : ℕ) (kind : DdKind) →
    look (planned ++ (here ++ last ∷ []) ∷ []) n i ≡ Some kind → (look (planned ++ here ∷ []) n i ≡ Some kind) ⊎ IsLast planned here last n i kind
was_there [] here last zero i kind is = by_case (one_more here last i kind is)
  where
    by_case : (slice_get here i ≡ Some kind) ⊎ ((i ≡ length here) × (last ≡ kind)) → (slice_get here i ≡ Some kind) ⊎ IsLast [] here last zero i kind
    by_case (inl old) = inl old
    by_case (inr new) = inr (record { step = refl; dd = new.0; same = new.1 })
was_there [] here last (suc n) i kind is = absurd (nothing kind is)
was_there (dds ∷ planned) here last zero i kind is = inl is
was_there (dds ∷ planned) here last (suc n) i kind is = by_case (was_there planned here last n i kind is)
  where
    by_case : (look (planned ++ here ∷ []) n i ≡ Some kind) ⊎ IsLast planned here last n i kind →
        (look (planned ++ here ∷ []) n i ≡ Some kind) ⊎ IsLast (dds ∷ planned) here last (suc n) i kind
    by_case (inl old) = inl old
    by_case (inr new) = inr (record { step = ap (λ m. suc m) new.step; dd = new.dd; same = new.same })

-- a step that has no DD yet
pub empty_there : (planned : List (List DdKind)) → Extends planned (planned ++ [] ∷ [])
empty_there [] n i kind is = absurd (nothing kind is)
empty_there (dds ∷ planned) zero i kind is = is
empty_there (dds ∷ planned) (suc n) i kind is = empty_there planned n i kind is

pub was_before : (planned : List (List DdKind)) → Extends (planned ++ [] ∷ []) planned
was_before [] zero i kind is = absurd (nothing kind is)
was_before [] (suc n) i kind is = absurd (nothing kind is)
was_before (dds ∷ planned) zero i kind is = is
was_before (dds ∷ planned) (suc n) i kind is = was_before planned n i kind is
