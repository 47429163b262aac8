use Rattle.cb_walk.proofs.parts.+are_zero_behind.Given as goal

abbrev pub decreases-are_zero_behind : goal.decreases-are_zero_behind
decreases-are_zero_behind l = l.parts
