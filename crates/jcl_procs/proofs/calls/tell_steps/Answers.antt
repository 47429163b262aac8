use Rattle.std.proofs.Common.{◌+◌, ◌∙◌, List, drop, subst, sym}
use Rattle.std.proofs.lemmas.List.{drop_all}
use Rattle.std.proofs.lemmas.Result.{err_from_is_err_and}
use Rattle.card_core.specs.declared.statement.Statement.{Statement}
use Rattle.jcl_procs.specs.Calling.{behind, call_of, denoted}
use Rattle.jcl_procs.specs.Calls.{steps_of}
use Rattle.jcl_procs.proofs.Called.{from_one}
use Rattle.jcl_procs.proofs.Rereading.{Goes, begins, ends, goes_on, goes_past, refuses, tells_moved, tells_on}
use Rattle.jcl_procs.proofs.calls.tell_steps.Goals as goal

pub loop-statement-init : goal.loop-statement-init
loop-statement-init c = (
  c.requires.0,
  subst (λ place. Goes c.requires.0 (call_of c.args.caller.now) c.args.statements.now place c.args.statements.now) (sym c.start-place.ensures)
      (begins c.requires.0 (call_of c.args.caller.now) c.args.statements.now c.requires.1 c.requires.2),
)

pub loop-statement-preserved-then-settles : goal.loop-statement-preserved-then-settles
loop-statement-preserved-then-settles c =
    let at = c.loop-statement.statement-index in
    let statements = c.args.statements.now in
    let call = call_of c.args.caller.now in
    let place = denoted c.loop-statement.place in
    let first = c.loop-statement.invariant.0 in
    let s = c.statement-item.result in
    let it = subst (Goes first call statements place) (from_one statements at s c.loop-statement-test.true c.statement-item.is)
    c.loop-statement.invariant.1 in (first, goes_past first call statements (drop (at + 1) statements) s place it c.if-settles.ensures)

pub loop-statement-preserved : goal.loop-statement-preserved
loop-statement-preserved c =
    let at = c.loop-statement.statement-index in
    let statements = c.args.statements.now in
    let call = call_of c.args.caller.now in
    let place = denoted c.loop-statement.place in
    let first = c.loop-statement.invariant.0 in
    let s = c.statement-item.result in
    let it = subst (Goes first call statements place) (from_one statements at s c.loop-statement-test.true c.statement-item.is)
    c.loop-statement.invariant.1 in
    (first, goes_on first call statements (drop (at + 1) statements) s place it (denoted c.take.new.self) c.in_ok-take.ensures)

pub returns-in_err-take : goal.returns-in_err-take
returns-in_err-take c =
    let at = c.loop-statement.statement-index in
    let statements = c.args.statements.now in
    let call = call_of c.args.caller.now in
    let place = denoted c.loop-statement.place in
    let first = c.loop-statement.invariant.0 in
    let s = c.statement-item.result in
    let it = subst (Goes first call statements place) (from_one statements at s c.loop-statement-test.true c.statement-item.is)
    c.loop-statement.invariant.1 in
    tells_on c.from_residual.result (steps_of call statements) c.in_err-take.field-0.0
    (tells_moved (steps_of call statements) (behind call place s) c.in_err-take.field-0.0 c.take.new.self
    (refuses first call statements (drop (at + 1) statements) s place it) c.in_err-take.ensures)
    (err_from_is_err_and c.from_residual.result c.from_residual.ensures.1)

pub returns : goal.returns
returns c =
    let statements = c.args.statements.now in
    let call = call_of c.args.caller.now in
    let place = denoted c.loop-statement.place in
    let first = c.loop-statement.invariant.0 in
    let it = ends first call statements place
    (subst (Goes first call statements place) (drop_all c.loop-statement.statement-index statements c.loop-statement-test.false) c.loop-statement.invariant.1) in
    (it.0, it.1, it.2 ∙ sym c.count.ensures)
