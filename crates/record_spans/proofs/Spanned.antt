-- Records that are taken, given back and added stay in the spans of their owners.
use Rattle.std.proofs.Common.{◌≡◌, ℕ, zero, suc, ◌⊎◌, inl, inr, List, [], ◌∷◌, ap, get_or, refl, replicate, subst, sym, ◌++◌, ◌∙◌}
use Rattle.std.specs.Prelude.{slice_set}
use Rattle.record_spans.specs.declared.spans.Span.{Span}
use Rattle.record_spans.specs.Spans.{AreSpanned, MayOwn}

-- a record that has another owner, or none
set_read : (owners : List ℕ) (i o k : ℕ) → (get_or (slice_set owners i o) k 0 ≡ get_or owners k 0) ⊎ ((k ≡ i) × (get_or (slice_set owners i o) k 0 ≡ o))
set_read [] i o k = inl refl
set_read (x ∷ xs) zero o zero = inr (refl, refl)
set_read (x ∷ xs) zero o (suc k) = inl refl
set_read (x ∷ xs) (suc i) o zero = inl refl
set_read (x ∷ xs) (suc i) o (suc k) = up (set_read xs i o k)
  where
    up : ((get_or (slice_set xs i o) k 0 ≡ get_or xs k 0) ⊎ ((k ≡ i) × (get_or (slice_set xs i o) k 0 ≡ o))) →
        (get_or (slice_set xs i o) k 0 ≡ get_or xs k 0) ⊎ ((suc k ≡ suc i) × (get_or (slice_set xs i o) k 0 ≡ o))
    up (inl e) = inl e
    up (inr e) = inr (ap suc e.0, e.1)

pub spanned_given : (spans : List Span) (owners : List ℕ) (i : ℕ) → AreSpanned spans owners → AreSpanned spans (slice_set owners i 0)
spanned_given spans owners i all k some =
    elim (set_read owners i 0 k) [
      | inl e ↦ subst (λ o. MayOwn spans o k) (sym e) (all k (λ none. some (e ∙ none)))
      | inr e ↦ absurd (some e.1)
    ]

pub spanned_taken : (spans wide : List Span) (owners : List ℕ) (i owner : ℕ) → ((o k : ℕ) → MayOwn spans o k → MayOwn wide o k) → MayOwn wide owner i → AreSpanned spans owners →
    AreSpanned wide (slice_set owners i owner)
spanned_taken spans wide owners i owner still further all k some =
    elim (set_read owners i owner k) [
      | inl e ↦ subst (λ o. MayOwn wide o k) (sym e) (still (get_or owners k 0) k (all k (λ none. some (e ∙ none))))
      | inr e ↦ subst (λ o. MayOwn wide o k) (sym e.1) (subst (λ j. MayOwn wide owner j) (sym e.0) further)
    ]

zero_behind : (more k : ℕ) → get_or (replicate {A = ℕ} more 0) k 0 ≡ 0
zero_behind zero k = refl
zero_behind (suc more) zero = refl
zero_behind (suc more) (suc k) = zero_behind more k

more_read : (owners : List ℕ) (more k : ℕ) → get_or (owners ++ replicate more 0) k 0 ≡ get_or owners k 0
more_read [] more k = zero_behind more k
more_read (o ∷ owners) more zero = refl
more_read (o ∷ owners) more (suc k) = more_read owners more k

pub spanned_more : (spans : List Span) (owners new : List ℕ) (more : ℕ) → new ≡ owners ++ replicate more 0 → AreSpanned spans owners → AreSpanned spans new
spanned_more spans owners new more is all k some =
    let read : get_or new k 0 ≡ get_or owners k 0 = ap (λ os. get_or os k 0) is ∙ more_read owners more k in
    subst (λ o. MayOwn spans o k) (sym read) (all k (λ none. some (read ∙ none)))

pub spanned_first : (spans : List Span) → AreSpanned spans []
spanned_first spans k some = absurd (some refl)

pub spanned_free : (spans : List Span) (owners : List ℕ) (count : ℕ) → owners ≡ replicate count 0 → AreSpanned spans owners
spanned_free spans owners count is = spanned_more spans [] owners count is (spanned_first spans)
