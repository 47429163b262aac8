use Rattle.cb_walk.proofs.parts.+any_looks_forward.Given as goal

abbrev pub decreases-any_looks_forward : goal.decreases-any_looks_forward
decreases-any_looks_forward l = l.parts
