use Rattle.extent_core.proofs.MaximaLemmas.{IsOnWay}
use Rattle.extent_core.proofs.maxima.first_leaf.Given as goal

abbrev pub invariant-loop-level : goal.invariant-loop-level
invariant-loop-level l = IsOnWay l._level l.nodes l.least l.node
