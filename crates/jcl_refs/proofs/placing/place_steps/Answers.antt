use Rattle.std.proofs.Common.{◌≡◌, length, sym, ap, ◌∙◌, arith}
use Rattle.std.proofs.lemmas.Result.{err_from_is_err_and}
use Rattle.jcl_refs.specs.Plans.{all_of, units_of_step}
use Rattle.jcl_refs.proofs.Counts.{as_many, count_here, counts_behind}
use Rattle.jcl_refs.proofs.Placed.{at_end, each_step, from_start, one_more, puts_err, refused_here}
use Rattle.jcl_refs.proofs.placing.place_steps.Goals as goal

pub place_step-requires : goal.place_step-requires
place_step-requires c =
    count_here c.loop-n.n c.args.steps.now c.loop-n.plans c.index-steps-n.result c.index-plans-n.result c.loop-n-test.true c.loop-n.invariant.counts
    c.index-steps-n.is

pub loop-n-init : goal.loop-n-init
loop-n-init c = record {
  placed = from_start (units_of_step c.args.units.now) c.args.steps.now c.args.plans.now
      ∙ ap all_of (sym (each_step c.args.units.now c.args.steps.now c.args.plans.now));
  counts = c.requires;
}

pub loop-n-preserved : goal.loop-n-preserved
loop-n-preserved c =
    let same : length c.args.steps.now ≡ length c.loop-n.plans = omega (arith, as_many c.args.steps.now c.args.plans.now c.requires) in
    record {
      placed = one_more (units_of_step c.args.units.now) c.loop-n.n c.args.steps.now c.loop-n.plans c.index-steps-n.result c.index-plans-n.result
          c.place_step.new.plan same c.loop-n-test.true c.index-steps-n.is (c.in_ok-place_step.ensures)
          ∙ c.loop-n.invariant.placed;
      counts = counts_behind c.loop-n.n c.args.steps.now c.loop-n.plans c.place_step.new.plan c.loop-n-test.true c.loop-n.invariant.counts;
    }

pub returns-in_err-place_step : goal.returns-in_err-place_step
returns-in_err-place_step c =
    let same : length c.args.steps.now ≡ length c.loop-n.plans = omega (arith, as_many c.args.steps.now c.args.plans.now c.requires) in
    puts_err _ c.in_err-place_step.field-0.0 _ c.from_residual.result (err_from_is_err_and c.from_residual.result c.from_residual.ensures.1)
    (sym c.loop-n.invariant.placed
    ∙ refused_here (units_of_step c.args.units.now) c.loop-n.n c.args.steps.now c.loop-n.plans c.index-steps-n.result c.index-plans-n.result
    c.in_err-place_step.field-0.0 same c.loop-n-test.true c.index-steps-n.is (c.in_err-place_step.ensures))

pub returns : goal.returns
returns c =
    let same : length c.args.steps.now ≡ length c.loop-n.plans = omega (arith, as_many c.args.steps.now c.args.plans.now c.requires) in
    sym c.loop-n.invariant.placed
    ∙ at_end (units_of_step c.args.units.now) c.loop-n.n c.args.steps.now c.loop-n.plans (omega (arith, c.loop-n-test.false, c.loop-n.auto)) same
