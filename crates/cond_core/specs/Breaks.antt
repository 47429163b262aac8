-- Where the answer of a test changes: at its code, behind it, or both. (This profile)
use Rattle.std.specs.Prelude.{ℕ, ◌+◌, Bool, true, false, ◌&&◌, nat_lt, List, [], ◌∷◌, ◌++◌}
use Rattle.std.specs.List.{flat_map}
use Rattle.jcl_plan.specs.declared.plan.Operator.{Operator}
use Rattle.jcl_plan.specs.declared.plan.Operator.TheVariants.{Gt, Ge, Eq, Lt, Le, Ne}
use Rattle.jcl_plan.specs.declared.plan.Test.{Test}

abbrev pub changes_at : Operator → Bool
changes_at Gt = true
changes_at Ge = false
changes_at Eq = true
changes_at Lt = false
changes_at Le = true
changes_at Ne = true

abbrev pub changes_behind : Operator → Bool
changes_behind Gt = false
changes_behind Ge = true
changes_behind Eq = true
changes_behind Lt = true
changes_behind Le = false
changes_behind Ne = true

abbrev pub listed_if : Bool → ℕ → List ℕ
listed_if true n = n ∷ []
listed_if false n = []

abbrev pub breaks_at : Operator → ℕ → List ℕ
breaks_at operator code = listed_if (changes_at operator) code ++ listed_if (changes_behind operator && nat_lt code 4095) (code + 1)

abbrev pub breaks_of : Test → List ℕ
breaks_of test = breaks_at test.operator test.code

abbrev pub starts_of : List Test → List ℕ
starts_of tests = 0 ∷ flat_map breaks_of tests
