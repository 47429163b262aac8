-- Classes of codes by which a step may end, as they are kept.
use Rattle.std.specs.Prelude.{◌≡◌, ◌<◌, ◌≤◌, ℕ, ◌+◌, ◌*◌, ◌^◌, nat_lt, false, if◌then◌else◌, All, List, drop, length, map, slice_index_or}
use Rattle.cond_core.specs.Classes.{AreClasses}
use Rattle.jcl_plan.specs.declared.outcome.Outcome.TheVariants as outcome
use Rattle.jcl_plan.specs.declared.plan.JobPlan.{JobPlan}
use Rattle.jcl_plan.specs.declared.plan.Test.{Test}
use Rattle.jcl_meaning.specs.History.{looks_at, met_by}
use Rattle.view_core.specs.Bits.{kept_tests, looking}
use Rattle.packed_core.specs.declared.classes.Class.{Class}
use Rattle.packed_core.specs.declared.room.Room.{Room}
use Rattle.packed_core.specs.Rooms.{room_at}
use Rattle.packed_core.specs.Words.{AreWords, IsCleared, IsRow, bit, met_of}

-- the bit of a test that is kept, by its place among them
abbrev pub bit_at : Room → ℕ → ℕ
bit_at room i = if nat_lt i room.job then i + 1 else i + room.passed + 1

-- the tests that step n meets, which ends by a code, as bits
pub record IsMask (n : ℕ) (tests : List Test) (room : Room) (code : ℕ) (mask : List ℕ) : Type 0 where
  pub row : IsRow room mask
  pub unnumbered : slice_index_or mask 0 0 ≡ 0
  pub calm : bit mask 0 ≡ false
  pub met : met_of room mask ≡ map (λ t. met_by t n (outcome.Code code)) tests

-- So many bits of a class's mask can be cleared, from one of them on, and then it is the mask of step n too.
pub record Serves (n : ℕ) (tests : List Test) (room : Room) (from count : ℕ) (class : Class) : Type 0 where
  pub there : from + count + 64 ≤ 64 * length class.mask.items
  pub small : from + count < 2 ^ 64
  pub within : AreWords class.mask.items
  pub serves : (new : List ℕ) → IsCleared from count class.mask.items new → IsMask n tests room class.code new

-- a class for each that these tests cannot tell apart
pub record AreMasks (n : ℕ) (tests : List Test) (room : Room) (classes : List Class) : Type 0 where
  pub codes : AreClasses (looking n tests) (map (λ c. c.code) classes)
  pub masks : All (λ c. IsMask n tests room c.code c.mask.items) classes

-- the codes of these classes
abbrev pub codes_of : List Class → List ℕ
codes_of classes = map (λ c. c.code) classes

-- the tests that are kept before a part
abbrev pub tests_before : JobPlan → ℕ → List Test
tests_before plan k = kept_tests plan.tests.items (drop k plan.steps)

-- the classes of the step with the number of a part, where the tests before the part are kept
abbrev pub AreMasksAt : JobPlan → ℕ → List Class → Type 0
AreMasksAt plan k classes = AreMasks k (tests_before plan k) (room_at plan k) classes

-- a class serves this step where they are kept
abbrev pub ServesAt : JobPlan → ℕ → ℕ → ℕ → Class → Type 0
ServesAt plan k = Serves k (tests_before plan k) (room_at plan k)

-- a test looks at step n and at the next, or at neither of both
abbrev pub LooksAlike : ℕ → Test → Type 0
LooksAlike n test = looks_at test.step n ≡ looks_at test.step (n + 1)
