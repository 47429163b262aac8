-- Classes of completion codes of which each test holds alike. (This profile)
use Rattle.std.specs.Prelude.{◌≡◌, ℕ, ◌-◌, ◌≤◌, List, slice_get, Some, All, Contains}
use Rattle.std.specs.List.Sorted.{IsStrictlyIncreasing}
use Rattle.jcl_plan.specs.declared.plan.Test.{Test}
use Rattle.jcl_meaning.specs.History.{holds}

-- a test holds of both codes or of neither, whatever steps it looks at
abbrev pub IsAlike : ℕ → ℕ → Test → Type 0
IsAlike c d test = holds test.operator test.code c ≡ holds test.operator test.code d

abbrev pub Agree : List Test → ℕ → ℕ → Type 0
Agree tests c d = All (IsAlike c d) tests

-- A class is the codes from its representative on, up to the next representative.
pub record IsInClass (representatives : List ℕ) (least code : ℕ) : Type 0 where
  pub is_code : code ≤ 4095
  pub begun : Contains representatives least
  pub from_least : least ≤ code
  pub none_between : All (λ r. r ≤ code → r ≤ least) representatives

pub record IsInOneClass (representatives : List ℕ) (code : ℕ) : Type 0 where
  pub least : ℕ
  pub there : IsInClass representatives least code
  pub no_other : (other : ℕ) → IsInClass representatives other code → other ≡ least

-- The classes of a list of tests, by their representatives: each code is in one class, the codes of a class agree on each test, and no two
-- neighbouring classes could be one.
pub record AreClasses (tests : List Test) (representatives : List ℕ) : Type 0 where
  pub begin_at_zero : slice_get representatives 0 ≡ Some 0
  pub rise : IsStrictlyIncreasing representatives
  pub are_codes : All (λ r. r ≤ 4095) representatives
  pub in_one_class : (code : ℕ) → code ≤ 4095 → IsInOneClass representatives code
  pub agree : (r c d : ℕ) → IsInClass representatives r c → IsInClass representatives r d → Agree tests c d
  pub represent_themselves : All (λ r. IsInClass representatives r r) representatives
  pub are_apart : All (λ r. 1 ≤ r → ¬ (Agree tests (r - 1) r)) representatives
