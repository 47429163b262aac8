use Rattle.std.proofs.Common.{◌≡◌, ◌∙◌, ◌≤◌, List, Ok, Err, Result, All, ap, length, subst, sym}
use Rattle.std.proofs.lemmas.Result.{err_from_is_err_and}
use Rattle.jcl_symbols.specs.declared.symbol.Symbol.{Symbol}
use Rattle.jcl_procs.specs.declared.step.FlatStep.{FlatStep}
use Rattle.jcl_procs.specs.Counting.{Brings, IsKnown, brought_by, called_by}
use Rattle.jcl_procs.specs.Overrides.{dds_overridden}
use Rattle.jcl_procs.specs.StepDds.{fault_of}
use Rattle.jcl_procs.proofs.Recalled.{AsLong, by_known, long_known, some_steps, tells_as}
use Rattle.jcl_procs.proofs.Rereading.{tells_on}
use Rattle.jcl_procs.proofs.known.tell_first.Goals as goal

pub tell_overrides-requires-clause-steps : goal.tell_overrides-requires-clause-steps
tell_overrides-requires-clause-steps c =
    let library = c.args.sources.now.library.now in
    let procedures = c.args.sources.now.procedures.now in
    let call = c.args.call.now in
    let it : Brings library procedures call.name call.symbols.now c.in_ok-steps.steps =
    record { called = call.exec.now.name; place = call.place; so = c.in_ok-steps.ensures } in
    subst (λ (l : List FlatStep). 1 ≤ length l) (sym c.as_slice.ensures)
    (some_steps library procedures call.name call.symbols.now c.in_ok-steps.steps it)

pub returns-in_err-count-clause-tells : goal.returns-in_err-count-clause-tells
returns-in_err-count-clause-tells c =
    let library = c.args.sources.now.library.now in
    let procedures = c.args.sources.now.procedures.now in
    let call = c.args.call.now in
    let it : Brings library procedures call.name call.symbols.now c.in_ok-steps.steps =
    record { called = call.exec.now.name; place = call.place; so = c.in_ok-steps.ensures } in
    let same = ap (λ (l : List FlatStep). fault_of (dds_overridden l call.dds.now)) c.as_slice.ensures
    ∙ by_known library procedures call.exec.now call.place call.name call.symbols.now call.dds.now c.in_ok-steps.steps c.requires.names c.requires.dds it in
    let long : AsLong (dds_overridden c.as_slice.result.now call.dds.now) (called_by library procedures call) =
    subst (λ (l : List FlatStep). AsLong (dds_overridden l call.dds.now) (called_by library procedures call)) (sym c.as_slice.ensures)
    (long_known library procedures call.exec.now call.place call.name call.symbols.now call.dds.now c.in_ok-steps.steps it) in
    tells_on c.from_residual-in_err-count.result (called_by library procedures call) c.in_err-count.field-0.0
    (tells_as (Err c.in_err-count.field-0.0) (dds_overridden c.as_slice.result.now call.dds.now) (called_by library procedures call) same long
    c.in_err-count.ensures)
    (err_from_is_err_and c.from_residual-in_err-count.result c.from_residual-in_err-count.ensures.1)

pub returns-clause-tells : goal.returns-clause-tells
returns-clause-tells c =
    let library = c.args.sources.now.library.now in
    let procedures = c.args.sources.now.procedures.now in
    let call = c.args.call.now in
    let it : Brings library procedures call.name call.symbols.now c.in_ok-steps.steps =
    record { called = call.exec.now.name; place = call.place; so = c.in_ok-steps.ensures } in
    let same = ap (λ (l : List FlatStep). fault_of (dds_overridden l call.dds.now)) c.as_slice.ensures
    ∙ by_known library procedures call.exec.now call.place call.name call.symbols.now call.dds.now c.in_ok-steps.steps c.requires.names c.requires.dds it in
    let long : AsLong (dds_overridden c.as_slice.result.now call.dds.now) (called_by library procedures call) =
    subst (λ (l : List FlatStep). AsLong (dds_overridden l call.dds.now) (called_by library procedures call)) (sym c.as_slice.ensures)
    (long_known library procedures call.exec.now call.place call.name call.symbols.now call.dds.now c.in_ok-steps.steps it) in
    tells_as (Ok c.in_ok-count.count) (dds_overridden c.as_slice.result.now call.dds.now) (called_by library procedures call) same long c.in_ok-count.ensures
