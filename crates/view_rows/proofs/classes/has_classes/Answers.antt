use Rattle.std.proofs.Common.{[], ◌∷◌, None, Some, refl}
use Rattle.jcl_plan.specs.declared.plan.Operator.TheVariants.{Eq, Ge, Gt, Le, Lt, Ne}
use Rattle.view_rows.specs.CodeClasses.{test_of}
use Rattle.view_rows.proofs.CodeClasses.{classes_from}
use Rattle.view_rows.proofs.classes.has_classes.Goals as goal

pub returns : goal.returns
returns c = record {
  without_tests = classes_from [] (0 ∷ []) refl refl refl refl;
  above = classes_from (test_of 4 Gt None ∷ []) (0 ∷ 4 ∷ []) refl refl refl refl;
  not_above = classes_from (test_of 4 Le None ∷ []) (0 ∷ 4 ∷ []) refl refl refl refl;
  not_below = classes_from (test_of 4 Ge None ∷ []) (0 ∷ 5 ∷ []) refl refl refl refl;
  below = classes_from (test_of 4 Lt None ∷ []) (0 ∷ 5 ∷ []) refl refl refl refl;
  equal = classes_from (test_of 4 Eq None ∷ []) (0 ∷ 4 ∷ 5 ∷ []) refl refl refl refl;
  not_equal = classes_from (test_of 4 Ne None ∷ []) (0 ∷ 4 ∷ 5 ∷ []) refl refl refl refl;
  below_none = classes_from (test_of 0 Gt None ∷ []) (0 ∷ []) refl refl refl refl;
  equal_to_0 = classes_from (test_of 0 Eq None ∷ []) (0 ∷ 1 ∷ []) refl refl refl refl;
  below_all = classes_from (test_of 4095 Ge None ∷ []) (0 ∷ []) refl refl refl refl;
  above_4095 = classes_from (test_of 4095 Gt None ∷ []) (0 ∷ 4095 ∷ []) refl refl refl refl;
  not_equal_to_4095 = classes_from (test_of 4095 Ne None ∷ []) (0 ∷ 4095 ∷ []) refl refl refl refl;
  of_tests_that_change_together = classes_from (test_of 256 Eq None ∷ test_of 4 Lt (Some 1) ∷ test_of 4 Lt (Some 2) ∷ test_of 5 Le None ∷ test_of 255 Ge None ∷ []) (0 ∷ 5 ∷ 256 ∷ 257 ∷ []) refl refl refl refl;
}
