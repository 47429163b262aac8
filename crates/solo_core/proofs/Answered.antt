-- The answers of a store of lists.
use Rattle.std.proofs.Common.{◌≡◌, ℕ, Bool, true, false, List, Option, Some, None, is_some, refl, sym, ◌∙◌}
use Rattle.std.proofs.lemmas.Bool.{true≢false}
use Rattle.jcl_plan.specs.declared.plan.DdKind.{DdKind}
use Rattle.jcl_plan.specs.declared.plan.DdKind.TheVariants.{Sysout, Dummy, Cards, Set}
use Rattle.jcl_plan.specs.declared.plan.SetPlan.{SetPlan}
use Rattle.jcl_meaning.specs.declared.state.Own.{Own}
use Rattle.jcl_meaning.specs.declared.state.Resolution.{Resolution}
use Rattle.jcl_meaning.specs.declared.state.Resolution.TheVariants.{Means, Fails}
use Rattle.jcl_meaning.specs.RequestActs.{head_or}
use Rattle.jcl_meaning.specs.Resolutions.{meaning_at}
use Rattle.jcl_meaning.specs.States.{Answers, Fixed, others}
use Rattle.jcl_meaning.specs.Stores.{Store}
use Rattle.jcl_meaning.specs.Takes.{looked_at}
use Rattle.disp_core.specs.Grants.{granted_by, granted_on, primary_granted}
use Rattle.request_core.specs.Requests.{Grants, Growth, answers_left}
use Rattle.disp_core.specs.Takings.{target_in}

granted_there : (n dd : ℕ) (p : SetPlan) (serial : Option (List ℕ)) → granted_on (λ place tracks. true) n dd p serial ≡ true
granted_there n dd p None = refl
granted_there n dd p (Some serial) = refl

granted_for : (fixed : Fixed) (n dd : ℕ) (p : SetPlan) (seen : Store) (own : Own) (means : Resolution) →
    granted_by (λ key place tracks. true) fixed n dd p seen own means ≡ true
granted_for fixed n dd p seen own (Fails fault) = refl
granted_for fixed n dd p seen own (Means key) = granted_there n dd p (looked_at (target_in fixed n dd p key seen own))

-- a primary is granted
pub primary_is_granted : (fixed : Fixed) (n dd : ℕ) (kind : DdKind) (seen : Store) (own : Own) →
    primary_granted (λ key place tracks. true) fixed n dd kind seen own ≡ true
primary_is_granted fixed n dd (Sysout class) seen own = refl
primary_is_granted fixed n dd Dummy seen own = refl
primary_is_granted fixed n dd (Cards cards) seen own = refl
primary_is_granted fixed n dd (Set p) seen own = granted_for fixed n dd p seen own (meaning_at fixed.meanings n dd)

-- a growth is granted by the next answer
pub next_grants : (growth : Option Growth) (answers : Answers) (granted : Bool) → granted ≡ head_or true answers.grants →
    Grants (λ key serial tracks. granted) growth answers
next_grants None answers granted h = tt
next_grants (Some g) answers granted h = sym h

abbrev pub with_grants : Answers → List Bool → Answers
with_grants a grants = record a { grants = grants }

-- which is then used up
pub grant_left : (growth : Option Growth) (answers : Answers) (asked : Bool) → asked ≡ is_some growth → asked ≡ true →
    answers_left growth answers ≡ with_grants answers (others answers.grants)
grant_left None answers asked h e = absurd (true≢false (sym e ∙ h))
grant_left (Some g) answers asked h e = refl

-- and is left where no tracks are asked for
pub no_grant_left : (growth : Option Growth) (answers : Answers) (asked : Bool) → asked ≡ is_some growth → asked ≡ false → answers_left growth answers ≡ answers
no_grant_left None answers asked h e = refl
no_grant_left (Some g) answers asked h e = absurd (true≢false (sym h ∙ e))
