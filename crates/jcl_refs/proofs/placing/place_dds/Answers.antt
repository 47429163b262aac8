use Rattle.std.proofs.Common.{◌≡◌, length, sym, ap, ◌∙◌, arith}
use Rattle.std.proofs.lemmas.Result.{err_from_is_err_and}
use Rattle.jcl_refs.specs.Plans.{all_of}
use Rattle.jcl_refs.proofs.Placed.{at_end, change_dd, each_dd, from_start, one_more, puts_err, refused_here}
use Rattle.jcl_refs.proofs.placing.place_dds.Goals as goal

pub loop-n-init : goal.loop-n-init
loop-n-init c =
    from_start (change_dd c.args.units.now) c.args.cards.now c.args.dds.now ∙ ap all_of (sym (each_dd c.args.units.now c.args.cards.now c.args.dds.now))

pub loop-n-preserved : goal.loop-n-preserved
loop-n-preserved c =
    let same : length c.args.cards.now ≡ length c.loop-n.dds = omega arith in
    one_more (change_dd c.args.units.now) c.loop-n.n c.args.cards.now c.loop-n.dds c.index-cards-n.result c.index-dds-n.result c.place_dd.new.dd
    same (omega arith) c.index-cards-n.is (c.in_ok-place_dd.ensures)
    ∙ c.loop-n.invariant

pub returns-in_err-place_dd : goal.returns-in_err-place_dd
returns-in_err-place_dd c =
    let same : length c.args.cards.now ≡ length c.loop-n.dds = omega arith in
    puts_err _ c.in_err-place_dd.field-0.0 _ c.from_residual.result (err_from_is_err_and c.from_residual.result c.from_residual.ensures.1)
    (sym c.loop-n.invariant
    ∙ refused_here (change_dd c.args.units.now) c.loop-n.n c.args.cards.now c.loop-n.dds c.index-cards-n.result c.index-dds-n.result
    c.in_err-place_dd.field-0.0 same (omega arith) c.index-cards-n.is (c.in_err-place_dd.ensures))

pub returns : goal.returns
returns c =
    let same : length c.args.cards.now ≡ length c.loop-n.dds = omega arith in
    sym c.loop-n.invariant ∙ at_end (change_dd c.args.units.now) c.loop-n.n c.args.cards.now c.loop-n.dds (omega arith) same
