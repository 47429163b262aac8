use Rattle.std.proofs.Common.{◌≡◌, ◌∙◌, ◌≤◌, List, Ok, Err, Result, All, ap, length, subst, sym}
use Rattle.std.proofs.lemmas.Result.{err_from_is_err_and}
use Rattle.jcl_symbols.specs.declared.symbol.Symbol.{Symbol}
use Rattle.jcl_procs.specs.declared.step.FlatStep.{FlatStep}
use Rattle.jcl_procs.specs.Counting.{Brings, IsKnown, brought_by, called_by}
use Rattle.jcl_procs.specs.Overrides.{dds_overridden}
use Rattle.jcl_procs.specs.StepDds.{fault_of}
use Rattle.jcl_procs.proofs.Recalled.{AsLong, by_known, long_known, some_steps, tells_as}
use Rattle.jcl_procs.proofs.Rereading.{tells_on}
use Rattle.jcl_procs.proofs.known.tell_call.Goals as goal

pub tell_overrides-requires-clause-steps : goal.tell_overrides-requires-clause-steps
tell_overrides-requires-clause-steps c =
    let library = c.args.sources.now.library.now in
    let procedures = c.args.sources.now.procedures.now in
    let call = c.args.call.now in
    let there = c.in-Some.there.now in
    let is = c.in-Some.ensures library procedures (subst (All (IsKnown library procedures)) (sym c.as_slice.ensures.value) c.requires.known) in
    let it : Brings library procedures call.name call.symbols.now there.steps =
    subst (λ name. Brings library procedures name call.symbols.now there.steps) is.1
    (subst (λ (symbols : List Symbol). Brings library procedures there.name symbols there.steps) (sym c.as_slice-own.ensures ∙ c.if-same_symbols.ensures) is.0) in
    subst (λ (l : List FlatStep). 1 ≤ length l) (sym c.as_slice-then-same_symbols.ensures)
    (some_steps library procedures call.name call.symbols.now there.steps it)

pub returns-then-same_symbols-clause-tells : goal.returns-then-same_symbols-clause-tells
returns-then-same_symbols-clause-tells c =
    let library = c.args.sources.now.library.now in
    let procedures = c.args.sources.now.procedures.now in
    let call = c.args.call.now in
    let there = c.in-Some.there.now in
    let is = c.in-Some.ensures library procedures (subst (All (IsKnown library procedures)) (sym c.as_slice.ensures.value) c.requires.known) in
    let it : Brings library procedures call.name call.symbols.now there.steps =
    subst (λ name. Brings library procedures name call.symbols.now there.steps) is.1
    (subst (λ (symbols : List Symbol). Brings library procedures there.name symbols there.steps) (sym c.as_slice-own.ensures ∙ c.if-same_symbols.ensures) is.0) in
    let same = ap (λ (l : List FlatStep). fault_of (dds_overridden l call.dds.now)) c.as_slice-then-same_symbols.ensures
    ∙ by_known library procedures call.exec.now call.place call.name call.symbols.now call.dds.now there.steps c.requires.names c.requires.dds it in
    let long : AsLong (dds_overridden c.as_slice-then-same_symbols.result.now call.dds.now) (called_by library procedures call) =
    subst (λ (l : List FlatStep). AsLong (dds_overridden l call.dds.now) (called_by library procedures call)) (sym c.as_slice-then-same_symbols.ensures)
    (long_known library procedures call.exec.now call.place call.name call.symbols.now call.dds.now there.steps it) in
    tells_as c.tell_overrides.result (dds_overridden c.as_slice-then-same_symbols.result.now call.dds.now) (called_by library procedures call) same long
    c.tell_overrides.ensures

pub tell_otherwise-requires-clause-read : goal.tell_otherwise-requires-clause-read
tell_otherwise-requires-clause-read c =
    let library = c.args.sources.now.library.now in
    let procedures = c.args.sources.now.procedures.now in
    let call = c.args.call.now in
    let there = c.in-Some.there.now in
    let is = c.in-Some.ensures library procedures (subst (All (IsKnown library procedures)) (sym c.as_slice.ensures.value) c.requires.known) in
    (there.symbols, there.steps, subst (λ name. Brings library procedures name there.symbols there.steps) is.1 is.0)
