use Rattle.std.proofs.Common.{◌+◌, ◌-◌, set, sym, ap, ◌∙◌, arith}
use Rattle.extent_core.specs.Extents.{extent}
use Rattle.extent_core.proofs.CompareLemmas.{marked_more}
use Rattle.extent_core.proofs.Tracks.{marked_none}
use Rattle.volume_rows.proofs.compared.mark.Goals as goal

pub loop-at-init : goal.loop-at-init
loop-at-init c = (omega arith, sym (marked_none c.args.free (extent c.from-start.result (c.from-start.result - c.from-start.result)) c.args.tracks.now (omega arith)))

pub loop-at-preserved : goal.loop-at-preserved
loop-at-preserved c =
    let s = c.from-start.result in
    let at = c.loop-at.at in (
      omega arith,
      ap (λ ts. set ts at c.args.free) c.loop-at.invariant.1
          ∙ marked_more c.args.free s (at - s) at (at + 1 - s) c.args.tracks.now (omega arith) (omega arith) (omega arith),
    )
