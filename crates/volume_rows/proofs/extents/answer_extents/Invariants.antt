use Rattle.std.proofs.Common.{◌≡◌}
use Rattle.volume_rows.proofs.extents.answer_extents.Given as goal

abbrev pub invariant-commands : goal.invariant-commands
invariant-commands l = l.fast ≡ l.slow.items
