-- The bytes of the tests that are left.
use Rattle.std.proofs.Common.{◌≡◌, ℕ, ◌+◌, ◌*◌, ◌<◌, ◌≤◌, ◌-◌, arith}
use Rattle.cb_read.specs.Tests.{width_of}
use Rattle.cb_read.specs.declared.tests_read.TestsOf.{TestsOf}
use Rattle.cb_read.specs.declared.tests_read.TestsOf.TheVariants as tests_of

-- there is room for one of them
pub one_within : (kind : TestsOf) (left size : ℕ) → 0 < left → width_of kind * left ≤ size → width_of kind ≤ size
one_within tests_of.Job left size some room = omega (arith, some, room)
one_within tests_of.Step left size some room = omega (arith, some, room)

-- and behind it for the others
pub others_within : (kind : TestsOf) (left size behind : ℕ) → 0 < left → width_of kind * left ≤ size → behind + width_of kind ≡ size →
    width_of kind * (left - 1) ≤ behind
others_within tests_of.Job left size behind some room is = omega (arith, some, room, is)
others_within tests_of.Step left size behind some room is = omega (arith, some, room, is)

-- no more of them are left than there were
pub fewer_within : (kind : TestsOf) (left most size : ℕ) → left ≤ most → width_of kind * most ≤ size → width_of kind * left ≤ size
fewer_within tests_of.Job left most size few room = omega (arith, few, room)
fewer_within tests_of.Step left most size few room = omega (arith, few, room)
