use Rattle.std.proofs.Common.{◌≡◌}
use Rattle.path_search.specs.Makings.{no_rows}
use Rattle.path_search.proofs.behind.no_rows.Given as goal

abbrev pub invariant-loop-dd : goal.invariant-loop-dd
invariant-loop-dd l = l.rows.items ≡ no_rows l.dd
