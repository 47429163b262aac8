use Rattle.cb_walk.proofs.parts.+any_is_bad.Given as goal

abbrev pub decreases-any_is_bad : goal.decreases-any_is_bad
decreases-any_is_bad l = l.parts
