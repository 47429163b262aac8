use Rattle.std.proofs.Common.{ℕ, ◌≡◌, ◌*◌, ◌%◌, ◌<◌, ◌≤◌, length, set, slice_index}
use Rattle.extent_core.proofs.MaximaLemmas.{AreLargestBut}
use Rattle.extent_core.proofs.maxima.write.Given as goal

abbrev pub invariant-loop-node : goal.invariant-loop-node
invariant-loop-node l = record {
  above : 0 < l.node;
  within : l.node < length l.nodes;
  pairs : length l.nodes % 2 ≡ 0;
  tree : AreLargestBut l.nodes l.node;
  leaves : (k : ℕ) → length l.nodes ≤ 2 * k → slice_index l.nodes k ≡ slice_index (set l.fn.nodes l.leaf l.number) k;
}

abbrev pub decreases-loop-node : goal.decreases-loop-node
decreases-loop-node l = l.node
