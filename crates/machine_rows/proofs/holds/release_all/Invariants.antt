use Rattle.std.proofs.Common.{vec_len}
use Rattle.machine_rows.proofs.holds.release_all.Given as goal

abbrev pub decreases-loop-own : goal.decreases-loop-own
decreases-loop-own l = vec_len l.held
