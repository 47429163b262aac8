use Rattle.std.proofs.Common.{◌≡◌, ◌+◌, drop, slice_get}
use Rattle.turn_core.specs.Places.{lefts_left}
use Rattle.turn_core.proofs.next.next_left.Given as goal

-- the DDs so far leave nothing
abbrev pub invariant-loop-i : goal.invariant-loop-i
invariant-loop-i g l =
    let steps = (g.T.JobText.plan l.text).steps in
    lefts_left (slice_get steps l.fn.k) (drop (l.fn.k + 1) steps) l.fn.k l.fn.d ≡ lefts_left (slice_get steps l.i) (drop (l.i + 1) steps) l.i l.from
