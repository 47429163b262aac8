use Rattle.std.proofs.Common.{◌≡◌, ◌+◌, ◌<◌, ◌++◌, ◌∷◌, [], false, drop, length, refl, sym, ap, ◌∙◌, arith, length-append}
use Rattle.std.proofs.lemmas.Result.{err_from_is_err_and}
use Rattle.jcl_procs.proofs.Reached.{error_on}
use Rattle.jcl_refs.specs.Planning.{counts_in, planned_counts, steps_by}
use Rattle.jcl_refs.proofs.StepLists.{all_counted, all_planned, counts_more, few_more, refused_first, step_next}
use Rattle.jcl_refs.proofs.plan.planned_steps.Goals as goal

pub loop-n-preserved : goal.loop-n-preserved
loop-n-preserved c =
    let more : c.push.new.self ≡ c.loop-n.done ++ c.in_ok-plan.plan ∷ [] = c.in_ok-push.ensures.ok in
    let lt_many : c.loop-n.n < length c.args.many_dd_names.now = omega (arith, c.requires.as_many, c.loop-n-test.true) in
    record {
      planned = c.loop-n.invariant.planned
          ∙ step_next c.args.left.now c.args.many_dd_names.now c.loop-n.n c.as_slice.result.now c.loop-n.done false c.index-left-n.result _
          c.loop-n-test.true lt_many c.index-left-n.is c.as_slice.ensures c.in_ok-plan.ensures.gives
          ∙ ap (λ ps. steps_by c.args.left.now (c.loop-n.n + 1 + 1) ps (drop (c.loop-n.n + 1) c.args.many_dd_names.now) (drop (c.loop-n.n + 1) c.args.left.now))
          (sym more);
      place = ap length more ∙ length-append c.loop-n.done (c.in_ok-plan.plan ∷ []) ∙ ap (λ n. n + 1) c.loop-n.invariant.place;
      few = few_more c.loop-n.done c.in_ok-plan.plan c.push.new.self more c.loop-n.invariant.few c.in_ok-plan.ensures.few;
      counts = ap (λ ps. planned_counts ps ++ counts_in (drop (c.loop-n.n + 1) c.args.left.now)) more
          ∙ counts_more c.args.left.now c.loop-n.n c.loop-n.done c.index-left-n.result c.in_ok-plan.plan c.loop-n-test.true c.index-left-n.is
          c.in_ok-plan.ensures.count
          ∙ c.loop-n.invariant.counts;
    }

pub returns-in_err-plan-clause-gives : goal.returns-in_err-plan-clause-gives
returns-in_err-plan-clause-gives c =
    let lt_many : c.loop-n.n < length c.args.many_dd_names.now = omega (arith, c.requires.as_many, c.loop-n-test.true) in
    error_on _ c.from_residual.result c.in_err-plan.field-0.0
    (refused_first c.in_err-plan.field-0.0 _ _ _
    (c.loop-n.invariant.planned
    ∙ step_next c.args.left.now c.args.many_dd_names.now c.loop-n.n c.as_slice.result.now c.loop-n.done false c.index-left-n.result _
    c.loop-n-test.true lt_many c.index-left-n.is c.as_slice.ensures refl)
    c.in_err-plan.ensures.gives)
    (err_from_is_err_and c.from_residual.result c.from_residual.ensures.1)

pub returns-clause-gives : goal.returns-clause-gives
returns-clause-gives c =
    c.loop-n.invariant.planned
    ∙ all_planned c.args.left.now c.args.many_dd_names.now c.loop-n.n c.loop-n.done
    (omega (arith, c.requires.as_many, c.loop-n-test.false, c.loop-n.auto.n-end))

pub returns-clause-counts : goal.returns-clause-counts
returns-clause-counts c =
    sym c.loop-n.invariant.counts ∙ all_counted c.args.left.now c.loop-n.n c.loop-n.done (omega (arith, c.loop-n-test.false, c.loop-n.auto.n-end))
