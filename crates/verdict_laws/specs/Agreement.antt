-- What all analyses of one job agree in, whichever way each keeps its views. (This profile)
use Rattle.std.specs.Prelude.{◌≡◌, ℕ, length}
use Rattle.jcl_plan.specs.declared.plan.JobPlan.{JobPlan}
use Rattle.jcl_meaning.specs.States.{Fixed}
use Rattle.jcl_meaning.specs.Stores.{Store}
use Rattle.path_search.specs.declared.verdict.Verdict.{Verdict}
use Rattle.path_search.specs.declared.verdict.Verdict.TheVariants.{Risk, Safe, TooMany}
use Rattle.path_search.specs.Verdicts.{IsVerdict}

-- Two verdicts are the same but for how the steps end on the path of a Risk, and which fault it leads to. Both are Safe, with sets made at the same
-- places; or both are Risk, with a fault met at the same place of the path's agenda, which is of one step and DD, and on paths on which as many steps
-- have ended; or both are TooMany, at the same step.
abbrev pub AreTheSame : (fixed : Fixed) (plan : JobPlan) (store : Store) (limit : ℕ) (verdict other : Verdict) →
    IsVerdict fixed plan store limit verdict → IsVerdict fixed plan store limit other → Type 0
AreTheSame fixed plan store limit (Safe places) (Safe others) first second = places.items ≡ others.items
AreTheSame fixed plan store limit (Risk report) (Risk other) first second =
    (first.meets.place ≡ second.meets.place) × (report.step ≡ other.step) × (report.dd ≡ other.dd)
    × (length report.path.items ≡ length other.path.items)
AreTheSame fixed plan store limit (TooMany step) (TooMany other) first second = step ≡ other
AreTheSame fixed plan store limit verdict other first second = ⊥

-- Two verdicts of one job, for one limit and one store, are the same, whatever the job is: nothing more is asked of it.
abbrev pub VerdictsAgree : Type 0
VerdictsAgree = (fixed : Fixed) (plan : JobPlan) (store : Store) (limit : ℕ) (verdict other : Verdict) →
    (first : IsVerdict fixed plan store limit verdict) → (second : IsVerdict fixed plan store limit other) →
    AreTheSame fixed plan store limit verdict other first second
