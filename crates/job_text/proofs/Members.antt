-- The DDs of a step, by their numbers: those that continue a concatenation.
use Rattle.std.proofs.Common.{◌≡◌, ◌+◌, ◌-◌, ◌<◌, ◌≤◌, ◌∷◌, ◌++◌, ℕ, suc, Bool, true, false, cond, List, [], length, drop, take, sym, ap, ◌∙◌, arith, add-one, drop-cons, append_assoc, get_or, get_or-drop}
use Rattle.std.proofs.lemmas.List.{length-drop}
use Rattle.std.proofs.Math.Seq.{take-suc}
use Rattle.std.proofs.lemmas.List.Sums.{take_while-cons}
use Rattle.jcl_plan.specs.declared.plan.DdPlan.{DdPlan}
use Rattle.jcl_meaning.specs.Programs.{continuing, is_continued, members_at}
use Rattle.job_text.specs.Places.{dd_at, no_dd}

-- the DD at a place, and those after it
pub drop_dd : (dds : List DdPlan) (d : ℕ) → d < length dds → drop d dds ≡ dd_at dds d ∷ drop (d + 1) dds
drop_dd dds d h = drop-cons dds d no_dd h ∙ ap (λ n. dd_at dds d ∷ drop n dds) (sym (add-one d))

-- those that are found so far, and what is left decides on the others
pub members_first : (dds : List DdPlan) (d : ℕ) → d < length dds →
    members_at (drop d dds) ≡ take (d + 1 - d) (drop d dds) ++ continuing (drop (d + 1) dds)
members_first dds d h =
    ap members_at (drop_dd dds d h)
    ∙ sym (ap (λ n. take n (drop d dds) ++ continuing (drop (d + 1) dds)) one ∙ ap (λ l. take 1 l ++ continuing (drop (d + 1) dds)) (drop_dd dds d h))
  where
    one : d + 1 - d ≡ 1
    one = omega (arith)

pub members_none : (dds : List DdPlan) (n : ℕ) → n < length dds → is_continued (dd_at dds n).name ≡ false → continuing (drop n dds) ≡ []
members_none dds n h e = ap continuing (drop_dd dds n h) ∙ take_while-cons (λ dd. is_continued dd.name) (dd_at dds n) (drop (n + 1) dds)
    ∙ ap (λ b. cond b (dd_at dds n ∷ continuing (drop (n + 1) dds)) []) e

pub members_next : (dds : List DdPlan) (n : ℕ) → n < length dds → is_continued (dd_at dds n).name ≡ true →
    continuing (drop n dds) ≡ dd_at dds n ∷ continuing (drop (n + 1) dds)
members_next dds n h e = ap continuing (drop_dd dds n h) ∙ take_while-cons (λ dd. is_continued dd.name) (dd_at dds n) (drop (n + 1) dds)
    ∙ ap (λ b. cond b (dd_at dds n ∷ continuing (drop (n + 1) dds)) []) e

pub members_on : (dds : List DdPlan) (d n : ℕ) → d + 1 ≤ n → n < length dds → is_continued (dd_at dds n).name ≡ true →
    take (n - d) (drop d dds) ++ continuing (drop n dds) ≡ take (n + 1 - d) (drop d dds) ++ continuing (drop (n + 1) dds)
members_on dds d n before h e =
    ap (λ l. take (n - d) (drop d dds) ++ l) (members_next dds n h e)
    ∙ sym (append_assoc (take (n - d) (drop d dds)) (dd_at dds n ∷ []) (continuing (drop (n + 1) dds)))
    ∙ ap (λ l. l ++ continuing (drop (n + 1) dds)) (sym (ap (λ k. take k (drop d dds)) count ∙ take-suc (drop d dds) (n - d) no_dd within
    ∙ ap (λ x. take (n - d) (drop d dds) ++ x ∷ []) at))
  where
    count : n + 1 - d ≡ suc (n - d)
    count = omega (arith)

    within : n - d < length (drop d dds)
    within = grind (arith, length-drop)

    behind : d + (n - d) ≡ n
    behind = omega (arith)

    at : get_or (drop d dds) (n - d) no_dd ≡ dd_at dds n
    at = get_or-drop d dds (n - d) no_dd ∙ ap (λ k. dd_at dds k) behind
