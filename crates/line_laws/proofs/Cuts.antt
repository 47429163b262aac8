-- Texts cut at a byte, and at their line feeds.
use Rattle.std.proofs.Common.{◌≡◌, ◌≢◌, ◌⊎◌, inl, inr, ◌++◌, ℕ, List, [], ◌∷◌, refl}
use Rattle.std.specs.Prelude.{All}
use Rattle.std.proofs.lemmas.List.Elements.{All-head, All-tail}

-- none of them is this byte
abbrev pub IsWithout : ℕ → List ℕ → Type 0
IsWithout c text = All (λ d. d ≢ c) text

-- of one text cut in two ways, one cut stands before the other, or behind its byte
pub two_cuts : (x : List ℕ) (c : ℕ) (y w b : List ℕ) → x ++ c ∷ y ≡ w ++ b →
    ((v : List ℕ) × (x ≡ w ++ v)) ⊎ ((v : List ℕ) × (w ≡ x ++ c ∷ v) × (y ≡ v ++ b))
two_cuts x c y [] b e = inl (x, refl)
two_cuts [] c y (d ∷ w) b e = inr (w, cc, cc)
two_cuts (a ∷ x) c y (d ∷ w) b e = on (two_cuts x c y w b cc)
  where
    on : ((v : List ℕ) × (x ≡ w ++ v)) ⊎ ((v : List ℕ) × (w ≡ x ++ c ∷ v) × (y ≡ v ++ b)) →
        ((v : List ℕ) × (a ∷ x ≡ d ∷ w ++ v)) ⊎ ((v : List ℕ) × (d ∷ w ≡ a ∷ x ++ c ∷ v) × (y ≡ v ++ b))
    on (inl s) = inl (s.0, cc)
    on (inr s) = inr (s.0, cc, s.2)

-- texts that end before the first such byte
pub same_cut : (c : ℕ) (x y u v : List ℕ) → IsWithout c x → IsWithout c u → x ++ c ∷ y ≡ u ++ c ∷ v → (x ≡ u) × (y ≡ v)
same_cut c [] y [] v p q e = (refl, cc)
same_cut c [] y (d ∷ u) v p q e = absurd (All-head (λ d. d ≢ c) d u q cc)
same_cut c (a ∷ x) y [] v p q e = absurd (All-head (λ d. d ≢ c) a x p cc)
same_cut c (a ∷ x) y (d ∷ u) v p q e =
    let more = same_cut c x y u v (All-tail (λ d. d ≢ c) a x p) (All-tail (λ d. d ≢ c) d u q) cc in
    (cc, more.1)
