use Rattle.std.proofs.Common.{◌+◌, ◌∙◌, ap, drop, length, subst, sym}
use Rattle.std.proofs.lemmas.List.{drop_all}
use Rattle.std.proofs.lemmas.Result.{err_from_is_err_and}
use Rattle.jcl_procs.specs.Calls.{steps_from}
use Rattle.jcl_procs.specs.Calling.{call_of, denoted}
use Rattle.jcl_procs.specs.Remembering.{AreDdsOf}
use Rattle.jcl_procs.proofs.Called.{end_refused, from_one, steps_refused}
use Rattle.jcl_procs.proofs.Remembering.{remembers_on}
use Rattle.jcl_procs.proofs.calls.steps_remembered.Goals as goal

pub loop-statement-init : goal.loop-statement-init
loop-statement-init c = record {
  so = ap (λ place. steps_from (call_of c.args.caller.now) place c.args.statements.now) (sym c.start-place.ensures);
  same = subst (λ dds. AreDdsOf dds c.args.statements.now) (sym c.requires) tt;
  long = ap length c.requires;
}

pub returns-in_err-take-clause-gives : goal.returns-in_err-take-clause-gives
returns-in_err-take-clause-gives c =
    let at = c.loop-statement.statement-index in
    let statements = c.args.statements.now in
    steps_refused (call_of c.args.caller.now) (denoted c.loop-statement.place) c.statement-item.result (drop (at + 1) statements) c.take.new.self
    c.loop-statement.invariant.so (from_one statements at c.statement-item.result c.loop-statement-test.true c.statement-item.is)
    c.take.ensures c.in_err-take.was (err_from_is_err_and c.from_residual.result c.from_residual.ensures.1)

pub loop-statement-preserved : goal.loop-statement-preserved
loop-statement-preserved c =
    remembers_on (call_of c.args.caller.now) c.args.statements.now (denoted c.loop-statement.place) (denoted c.take.new.self) c.loop-statement.statement-index
    c.loop-statement.dds.items c.remember.new.dds.items c.statement-item.result c.settles-settles.result c.loop-statement.invariant
    c.loop-statement-test.true c.statement-item.is c.settles-settles.ensures c.in_ok-take.ensures c.in_ok-remember.ensures

pub returns-in_err-end-clause-gives : goal.returns-in_err-end-clause-gives
returns-in_err-end-clause-gives c =
    end_refused c.in_err-end.field-0.0
    (c.loop-statement.invariant.so
    ∙ ap (steps_from (call_of c.args.caller.now) (denoted c.loop-statement.place))
    (drop_all c.loop-statement.statement-index c.args.statements.now c.loop-statement-test.false)
    ∙ sym c.end.ensures ∙ c.in_err-end.was)
    (err_from_is_err_and c.from_residual-in_err-end.result c.from_residual-in_err-end.ensures.1)

pub returns-clause-gives : goal.returns-clause-gives
returns-clause-gives c =
    c.loop-statement.invariant.so
    ∙ ap (steps_from (call_of c.args.caller.now) (denoted c.loop-statement.place))
    (drop_all c.loop-statement.statement-index c.args.statements.now c.loop-statement-test.false)
    ∙ sym c.end.ensures ∙ c.in_ok-end.was
