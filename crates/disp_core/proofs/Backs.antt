-- The lines of sets given back, one DD after another.
use Rattle.std.proofs.Common.{◌≡◌, ◌+◌, ◌<◌, ℕ, List, [], ◌∷◌, ◌++◌, length, take, get_or, refl, sym, ap, ◌∙◌, append_assoc}
use Rattle.std.proofs.lemmas.List.{append-nil, take_more}
use Rattle.jcl_plan.specs.declared.entry.JobLine.{JobLine}
use Rattle.jcl_meaning.specs.declared.state.DdState.{DdState}
use Rattle.jcl_meaning.specs.TakeActs.{back_line, back_lines}

back_lines-append : (xs ys : List DdState) → back_lines (xs ++ ys) ≡ back_lines xs ++ back_lines ys
back_lines-append [] ys = refl
back_lines-append (x ∷ xs) ys = ap (λ more. back_line x ++ more) (back_lines-append xs ys) ∙ sym (append_assoc (back_line x) (back_lines xs) (back_lines ys))

-- and one more
pub one_more_back : (dds : List DdState) (i : ℕ) (x : DdState) (before so_far new : List JobLine) → i < length dds → x ≡ get_or dds i x →
    so_far ≡ before ++ back_lines (take i dds) → new ≡ so_far ++ back_line x → new ≡ before ++ back_lines (take (i + 1) dds)
one_more_back dds i x before so_far new h e p q =
    let whole : take (i + 1) dds ≡ take i dds ++ x ∷ [] = take_more dds i x h ∙ ap (λ y. take i dds ++ y ∷ []) (sym e) in
    q ∙ ap (λ l. l ++ back_line x) p ∙ append_assoc before (back_lines (take i dds)) (back_line x)
    ∙ ap (λ l. before ++ (back_lines (take i dds) ++ l)) (sym (append-nil (back_line x)))
    ∙ ap (λ l. before ++ l) (sym (back_lines-append (take i dds) (x ∷ [])))
    ∙ ap (λ l. before ++ back_lines l) (sym whole)
