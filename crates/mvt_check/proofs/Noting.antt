-- What jobs are answered is kept at their numbers.
use Rattle.std.proofs.Common.{◌≡◌, ℕ, zero, suc, ◌<◌, Bool, true, false, List, [], ◌∷◌, ◌++◌, Option, Some, None, get_or, length, nat_eq, refl, sym, ap, ◌∙◌}
use Rattle.std.specs.Prelude.{if◌then◌else◌, option_map}
use Rattle.std.proofs.Math.ListN.{set}
use Rattle.std.proofs.lemmas.Bool.{eqb-false, eqb-true}
use Rattle.std.proofs.lemmas.List.{get_or-set_other, get_or-set_same}
use Rattle.jcl_plan.specs.declared.entry.JobLine.{JobLine}
use Rattle.mvt_check.specs.Answers.{answer_by, answer_for, answered_by}
use Rattle.mvt_check.specs.declared.answers.answer.Answer.{Answer}

-- a place without an answer tells as much as none
pub place_more : (answers : List (Option Answer)) (job : ℕ) → get_or (answers ++ None ∷ []) job None ≡ get_or answers job None
place_more [] zero = refl
place_more [] (suc job) = refl
place_more (a ∷ answers) zero = refl
place_more (a ∷ answers) (suc job) = place_more answers job

-- the answer of one job is set
pub set_for : (answers : List (Option Answer)) (place : ℕ) (answer : Answer) (job : ℕ) → place < length answers →
    get_or (set answers place (Some answer)) job None ≡ (if nat_eq place job then Some answer else get_or answers job None)
set_for answers place answer job within = by (nat_eq place job) refl
  where
    by : (b : Bool) → nat_eq place job ≡ b → get_or (set answers place (Some answer)) job None ≡ (if b then Some answer else get_or answers job None)
    by true same =
        ap (λ n. get_or (set answers place (Some answer)) n None) (sym (eqb-true place job same)) ∙ get_or-set_same answers place (Some answer) None within
    by false other =
        get_or-set_other answers place job (Some answer) None (λ same. eqb-false place job other (sym same))

pub noted : (answers : List (Option Answer)) (place own job : ℕ) (path : List JobLine) (told : Option (ℕ × JobLine)) (l : JobLine) (answer : Answer)
    (before : Option Answer) → told ≡ Some (own, l) → Some answer ≡ answer_by path l → place ≡ own → place < length answers →
    get_or answers job None ≡ before → get_or (set answers place (Some answer)) job None ≡ answer_for job before (answered_by path told)
noted answers place own job path told l answer before is so numbered within same =
    set_for answers place answer job within
    ∙ ap (λ b. if nat_eq place job then Some answer else b) same
    ∙ ap (λ n. if nat_eq n job then Some answer else before) numbered
    ∙ sym (ap (λ t. answer_for job before (answered_by path t)) is ∙ ap (λ o. answer_for job before (option_map (λ a. (own, a)) o)) (sym so))
