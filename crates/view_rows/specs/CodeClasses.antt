-- Classes of completion codes, where a test changes: `code_classes` gives the classes of its tests, and `CodeClasses::class_of` the greatest of
-- their least codes that is not above a code. (cond_core)
use Rattle.std.specs.Prelude.{◌≡◌, ℕ, List, [], ◌∷◌, Option, Some, None, nat_le, if◌then◌else◌}
use Rattle.jcl_plan.specs.declared.plan.Operator.{Operator}
use Rattle.jcl_plan.specs.declared.plan.Operator.TheVariants.{Gt, Ge, Eq, Lt, Le, Ne}
use Rattle.jcl_plan.specs.declared.plan.Test.{Test}
use Rattle.cond_core.specs.Classes.{AreClasses, IsInClass}

abbrev pub test_of : ℕ → Operator → Option ℕ → Test
test_of code operator step = record { code = code; operator = operator; step = step }

-- the classes of one test have these least codes
abbrev pub Begin : ℕ → Operator → List ℕ → Type 0
Begin code operator least = AreClasses (test_of code operator None ∷ []) least

pub record HasClasses : Type 0 where
  pub without_tests : AreClasses [] (0 ∷ [])
  pub above : Begin 4 Gt (0 ∷ 4 ∷ [])
  pub not_above : Begin 4 Le (0 ∷ 4 ∷ [])
  pub not_below : Begin 4 Ge (0 ∷ 5 ∷ [])
  pub below : Begin 4 Lt (0 ∷ 5 ∷ [])
  pub equal : Begin 4 Eq (0 ∷ 4 ∷ 5 ∷ [])
  pub not_equal : Begin 4 Ne (0 ∷ 4 ∷ 5 ∷ [])
  pub below_none : Begin 0 Gt (0 ∷ [])
  pub equal_to_0 : Begin 0 Eq (0 ∷ 1 ∷ [])
  pub below_all : Begin 4095 Ge (0 ∷ [])
  pub above_4095 : Begin 4095 Gt (0 ∷ 4095 ∷ [])
  pub not_equal_to_4095 : Begin 4095 Ne (0 ∷ 4095 ∷ [])
  pub of_tests_that_change_together : AreClasses
      (test_of 256 Eq None ∷ test_of 4 Lt (Some 1) ∷ test_of 4 Lt (Some 2) ∷ test_of 5 Le None ∷ test_of 255 Ge None ∷ [])
      (0 ∷ 5 ∷ 256 ∷ 257 ∷ [])

-- the greatest of these that is not above the code
abbrev pub greatest_below : ℕ → List ℕ → ℕ
greatest_below code [] = 0
greatest_below code (r ∷ rs) = let more = greatest_below code rs in if nat_le r code then (if nat_le more r then r else more) else more

abbrev pub ClassIsGreatestBelow : Type 0
ClassIsGreatestBelow = (representatives : List ℕ) (least code : ℕ) → IsInClass representatives least code → least ≡ greatest_below code representatives
