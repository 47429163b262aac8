use Rattle.std.proofs.Common.{◌≡◌}
use Rattle.volume_rows.proofs.extents.change_often.Given as goal

abbrev pub invariant-rounds : goal.invariant-rounds
invariant-rounds l = l.fast ≡ l.slow
