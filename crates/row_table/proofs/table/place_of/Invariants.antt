use Rattle.std.proofs.Common.{length, ◌-◌}
use Rattle.row_table.proofs.table.place_of.Given as goal

abbrev pub decreases-loop-at : goal.decreases-loop-at
decreases-loop-at l = length l.text - l.at
