-- The fates of the steps beside the outcomes on a path.
use Rattle.std.proofs.Common.{◌≡◌, ◌+◌, ◌<◌, ◌++◌, ◌∷◌, ℕ, zero, suc, Bool, true, false, List, [], Some, None, length, take, get_or, refl, sym, ap, subst, ◌∙◌, arith, ltb, ltb-true, ltb-false}
use Rattle.std.specs.Prelude.{slice_get}
use Rattle.std.proofs.lemmas.List.{take_more}
use Rattle.std.proofs.lemmas.Option.{slice_get_read}
use Rattle.jcl_plan.specs.declared.entry.JobLine.{JobLine}
use Rattle.jcl_plan.specs.declared.outcome.Fate.{Fate}
use Rattle.jcl_plan.specs.declared.outcome.Outcome.{Outcome}
use Rattle.path_meaning.specs.Certificates.{AreOfFates}
use Rattle.path_meaning.specs.Paths.{fate_told, fates_in}
use Rattle.path_laws.proofs.Seeing.{fates_append}
use Rattle.path_core.specs.FatesMet.{IsOfFateAt}

-- a line more
pub fates_more : (lines : List JobLine) (i : ℕ) (line : JobLine) (fates : List Fate) → i < length lines → line ≡ get_or lines i line →
    fates ≡ fates_in (take i lines) → fates ++ fates_in (line ∷ []) ≡ fates_in (take (i + 1) lines)
fates_more lines i line fates h is known =
    (λ j. known j ++ fates_in (line ∷ []))
    ∙ sym (fates_append (take i lines) (line ∷ []))
    ∙ ap fates_in (sym (take_more lines i line h ∙ ap (λ x. take i lines ++ x ∷ []) (sym is)))

pub told_some : (line : JobLine) (fate : Fate) → fate_told line ≡ Some fate → fates_in (line ∷ []) ≡ fate ∷ []
told_some line fate e = rw e refl

pub told_none : (line : JobLine) → fate_told line ≡ None → fates_in (line ∷ []) ≡ []
told_none line e = rw e refl

-- one outcome more goes with its fate
pub fits_more : (fates : List Fate) (path : List Outcome) (i : ℕ) (o : Outcome) → i < length path → o ≡ get_or path i o →
    ((k : ℕ) (p : Outcome) → k < i → slice_get path k ≡ Some p → IsOfFateAt (slice_get fates k) p) → IsOfFateAt (slice_get fates i) o →
    (k : ℕ) (p : Outcome) → k < i + 1 → slice_get path k ≡ Some p → IsOfFateAt (slice_get fates k) p
fits_more fates path i o h is below here k p less there = by_place (ltb k i) refl
  where
    by_place : (b : Bool) → ltb k i ≡ b → IsOfFateAt (slice_get fates k) p
    by_place true e = below k p (ltb-true k i e) there
    by_place false e =
        let last : k ≡ i = omega (arith, ltb-false k i e) in
        let at : slice_get path i ≡ Some o = slice_get_read path (length path) i o refl h is in
        let both : Some p ≡ Some o = sym there ∙ ap (slice_get path) last ∙ at in
        let same : p ≡ o = cc in
        subst (λ n. IsOfFateAt (slice_get fates n) p) (sym last) (subst (IsOfFateAt (slice_get fates i)) (sym same) here)

-- all outcomes go with their fates where each does
pub all_of_fates : (fates : List Fate) (path : List Outcome) →
    ((k : ℕ) (o : Outcome) → k < length path → slice_get path k ≡ Some o → IsOfFateAt (slice_get fates k) o) → AreOfFates (take (length path) fates) path
all_of_fates [] [] h = tt
all_of_fates (f ∷ fates) [] h = tt
all_of_fates [] (o ∷ path) h = h 0 o (omega arith) refl
all_of_fates (f ∷ fates) (o ∷ path) h = (h 0 o (omega arith) refl, all_of_fates fates path (λ k p less e. h (suc k) p (omega arith) e))

pub each_of_fates : (fates : List Fate) (path : List Outcome) (k : ℕ) (o : Outcome) → AreOfFates (take (length path) fates) path →
    slice_get path k ≡ Some o → IsOfFateAt (slice_get fates k) o
each_of_fates fates [] k o h e = absurd cc
each_of_fates [] (p ∷ path) k o h e = absurd h
each_of_fates (f ∷ fates) (p ∷ path) zero o h e = let same : p ≡ o = cc in subst (IsOfFateAt (Some f)) same h.0
each_of_fates (f ∷ fates) (p ∷ path) (suc k) o h e = each_of_fates fates path k o h.1 e
