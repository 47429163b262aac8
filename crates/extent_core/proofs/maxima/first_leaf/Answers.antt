use Rattle.std.proofs.Common.{◌+◌, ◌*◌, ◌<◌, length, arith}
use Rattle.extent_core.proofs.MaximaLemmas.{below_within, way_left, way_right}
use Rattle.extent_core.proofs.maxima.first_leaf.Goals as goal
use Rattle.extent_core.proofs.maxima.first_leaf.Goals.{then-nodes-node, else-nodes-node}

pub bounds-nodes-node : goal.bounds-nodes-node
bounds-nodes-node c = omega (arith, below_within c.loop-level._level c.args.height c.loop-level.node (length c.args.nodes.now) c.loop-level-test.true c.loop-level.invariant.upper c.requires.tree.size)

pub loop-level-preserved : goal.loop-level-preserved
loop-level-preserved c =
    let nodes = c.args.nodes.now in
    let level = c.loop-level._level in
    let n = c.loop-level.node in
    let within : n * 2 + 1 < length nodes = below_within level c.args.height n (length nodes) c.loop-level-test.true c.loop-level.invariant.upper c.requires.tree.size in
    elim c.if-nodes-node.branch [
      | then-nodes-node w ↦ rw w.node-is (way_right level nodes c.args.least n within c.requires.tree.largest c.loop-level.invariant (omega arith))
      | else-nodes-node w ↦ rw w.node-is (way_left level nodes c.args.least n within c.requires.tree.largest c.loop-level.invariant (omega arith))
    ]
