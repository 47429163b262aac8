use Rattle.std.proofs.Common.{◌+◌, drop, sym, ap, ◌∙◌}
use Rattle.std.proofs.lemmas.List.{drop_all}
use Rattle.std.proofs.lemmas.Result.{err_from_is_err_and}
use Rattle.jcl_procs.specs.Calls.{steps_from}
use Rattle.jcl_procs.specs.Calling.{call_of, denoted}
use Rattle.jcl_procs.proofs.Called.{end_refused, from_one, steps_refused, steps_step}
use Rattle.jcl_procs.proofs.calls.steps_from.Goals as goal

pub loop-statement-init : goal.loop-statement-init
loop-statement-init c = ap (λ place. steps_from (call_of c.args.caller.now) place c.args.statements.now) (sym c.start-place.ensures)

pub returns-in_err-take : goal.returns-in_err-take
returns-in_err-take c =
    let at = c.loop-statement.statement-index in
    let statements = c.args.statements.now in
    steps_refused (call_of c.args.caller.now) (denoted c.loop-statement.place) c.statement-item.result (drop (at + 1) statements) c.take.new.self
    c.loop-statement.invariant (from_one statements at c.statement-item.result c.loop-statement-test.true c.statement-item.is)
    c.take.ensures c.in_err-take.was (err_from_is_err_and c.from_residual.result c.from_residual.ensures.1)

pub loop-statement-preserved : goal.loop-statement-preserved
loop-statement-preserved c =
    let at = c.loop-statement.statement-index in
    let statements = c.args.statements.now in
    steps_step (call_of c.args.caller.now) (denoted c.loop-statement.place) c.statement-item.result (drop (at + 1) statements)
    c.loop-statement.invariant (from_one statements at c.statement-item.result c.loop-statement-test.true c.statement-item.is)
    c.in_ok-take.ensures

pub returns-in_err-end : goal.returns-in_err-end
returns-in_err-end c =
    end_refused c.in_err-end.field-0.0
    (c.loop-statement.invariant
    ∙ ap (steps_from (call_of c.args.caller.now) (denoted c.loop-statement.place))
    (drop_all c.loop-statement.statement-index c.args.statements.now c.loop-statement-test.false)
    ∙ sym c.end.ensures ∙ c.in_err-end.was)
    (err_from_is_err_and c.from_residual-in_err-end.result c.from_residual-in_err-end.ensures.1)

pub returns : goal.returns
returns c =
    c.loop-statement.invariant
    ∙ ap (steps_from (call_of c.args.caller.now) (denoted c.loop-statement.place))
    (drop_all c.loop-statement.statement-index c.args.statements.now c.loop-statement-test.false)
    ∙ sym c.end.ensures ∙ c.in_ok-end.was
