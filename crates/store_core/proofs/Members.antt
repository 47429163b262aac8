-- The DDs of a step, by their numbers: a DD that others continue.
use Rattle.std.proofs.Common.{◌≡◌, ◌+◌, ◌<◌, ◌≤◌, ◌∷◌, ℕ, zero, suc, Bool, true, false, cond, List, [], length, drop, nat_lt, refl, ap, ◌∙◌, arith}
use Rattle.std.proofs.lemmas.List.Sums.{take_while-cons}
use Rattle.jcl_plan.specs.declared.plan.DdPlan.{DdPlan}
use Rattle.jcl_meaning.specs.Programs.{continuing, is_concatenated, is_continued}
use Rattle.job_text.proofs.Members.{drop_dd}
use Rattle.job_text.specs.Places.{dd_at}

pub concatenated_on : (dds : List DdPlan) (d : ℕ) → d + 1 < length dds → is_concatenated (drop d dds) ≡ is_continued (dd_at dds (d + 1)).name
concatenated_on dds d h =
    ap is_concatenated (drop_dd dds d (omega (arith))) ∙ ap (λ l. nat_lt 0 (length (continuing l))) (drop_dd dds (d + 1) h)
    ∙ ap (λ l. nat_lt 0 (length l)) (take_while-cons (λ dd. is_continued dd.name) (dd_at dds (d + 1)) (drop (d + 1 + 1) dds))
    ∙ by_first (is_continued (dd_at dds (d + 1)).name) (dd_at dds (d + 1)) (continuing (drop (d + 1 + 1) dds))
  where
    by_first : (b : Bool) (x : DdPlan) (xs : List DdPlan) → nat_lt 0 (length (cond b (x ∷ xs) [])) ≡ b
    by_first true x xs = grind (arith)
    by_first false x xs = refl

pub concatenated_past : (dds : List DdPlan) (d : ℕ) → length dds ≤ d + 1 → is_concatenated (drop d dds) ≡ false
concatenated_past [] zero h = refl
concatenated_past [] (suc d) h = refl
concatenated_past (x ∷ []) zero h = refl
concatenated_past (x ∷ y ∷ dds) zero h = absurd (omega (arith))
concatenated_past (x ∷ dds) (suc d) h = concatenated_past dds d (omega (arith))
