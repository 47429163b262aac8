-- Outcomes within the range of those that a step may have.
use Rattle.std.proofs.Common.{◌≡◌, ◌≤◌, arith, ℕ, Bool, true, false, cond, refl, leb-true, le-leb}
use Rattle.std.specs.Prelude.{nat_le}
use Rattle.std.proofs.lemmas.Bool.{cond-true}
use Rattle.jcl_plan.specs.declared.outcome.Outcome.{Outcome}
use Rattle.jcl_plan.specs.declared.outcome.Outcome.TheVariants as outcome
use Rattle.jcl_meaning.specs.History.{IsStepOutcome}

-- an outcome that a step may have
abbrev pub in_range : Outcome → Outcome
in_range (outcome.Code code) = cond (nat_le code 4095) (outcome.Code code) (outcome.Code 0)
in_range other = other

pub range_good : (o : Outcome) → IsStepOutcome (in_range o)
range_good (outcome.Code code) = by_code (nat_le code 4095) refl
  where
    by_code : (b : Bool) → nat_le code 4095 ≡ b → IsStepOutcome (cond b (outcome.Code code) (outcome.Code 0))
    by_code true e = leb-true code 4095 e
    by_code false e = let le : 0 ≤ 4095 = omega arith in le
range_good (outcome.Abend a) = tt
range_good outcome.Bypassed = tt
range_good outcome.Flushed = tt

pub range_same : (o : Outcome) → IsStepOutcome o → in_range o ≡ o
range_same (outcome.Code code) h = cond-true (nat_le code 4095) (outcome.Code code) (outcome.Code 0) (le-leb code 4095 h)
range_same (outcome.Abend a) h = refl
range_same outcome.Bypassed h = refl
range_same outcome.Flushed h = refl
