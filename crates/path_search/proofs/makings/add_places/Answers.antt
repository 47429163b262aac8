use Rattle.std.proofs.Common.{◌∙◌, [], arith}
use Rattle.std.proofs.lemmas.List.{get_or_default}
use Rattle.path_search.proofs.Rising.{rows_more, rows_end}
use Rattle.path_search.proofs.makings.add_places.Goals as goal

pub loop-at-preserved : goal.loop-at-preserved
loop-at-preserved c = rows_more c.args.volumes.now c.args.step c.args.rows.now c.args.places.now.items c.loop-at.at c.loop-at.places.items
    c.add_row.new.places.items
    c.as_slice.result.now
    (c.as_slice.ensures ∙ c.index-rows-at.is ∙ get_or_default c.args.rows.now c.loop-at.at c.index-rows-at.result [] c.loop-at-test.true)
    c.loop-at.invariant c.in_ok-add_row.ensures.added

pub returns : goal.returns
returns c = record {
  added = rows_end c.args.volumes.now c.args.step c.args.rows.now c.args.places.now.items c.loop-at.at c.loop-at.places.items
      (omega arith) c.loop-at.invariant;
}
