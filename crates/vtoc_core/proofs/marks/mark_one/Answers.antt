use Rattle.std.proofs.Common.{◌-◌, set, sym, ap, ◌∙◌, arith}
use Rattle.vtoc_core.proofs.MarkLemmas.{one_none, one_more, one_all}
use Rattle.vtoc_core.proofs.marks.mark_one.Goals as goal

pub loop-at-init : goal.loop-at-init
loop-at-init c = (omega arith, sym (one_none c.args.kind c.from-start.result (c.from-start.result - c.from-start.result) c.args.tracks.now (omega arith)))

pub loop-at-preserved : goal.loop-at-preserved
loop-at-preserved c = (
  omega arith,
  ap (λ ts. set ts c.loop-at.at c.args.kind) c.loop-at.invariant.1
      ∙ one_more c.args.kind c.from-start.result c.loop-at.at c.args.tracks.now (omega arith) (omega arith),
)

pub returns : goal.returns
returns c =
    c.loop-at.invariant.1
    ∙ one_all c.args.kind c.args.extent c.from-start.result c.loop-at.at c.args.tracks.now (omega arith) (omega arith) (omega arith) (omega arith)
