use Rattle.std.proofs.Common.{◌≡◌, ◌∷◌, ◌∙◌, Ok, Result, ap, arith, length, refl, subst, sym}
use Rattle.std.specs.Prelude.{IfOk, None}
use Rattle.jcl_plan.specs.declared.fault.Cause.{Cause}
use Rattle.jcl_procs.specs.Expansions.{Body, body_of}
use Rattle.deck_places.specs.Called.{IsCalledFor, behind_proc}
use Rattle.deck_places.specs.Cards.{walk_of}
use Rattle.deck_places.proofs.Begun.{as_many}
use Rattle.deck_places.proofs.Finding.{at_statement, body_read, body_refused, on_read, on_refused}
use Rattle.deck_places.proofs.called.called_behind.Goals as goal

pub returns-in-Err-Refused : goal.returns-in-Err-Refused
returns-in-Err-Refused c =
    let s = c.args.proc.now in
    let fault = c.in-Err-Refused.field-0-0 in
    let card = at_statement s c.as_slice.result.now c.as_slice-2.result.now _ c.as_slice.ensures c.as_slice-2.ensures
    (rw c.in-Err-Refused.field-0-is at c.in-Err-Refused.ensures) in
    subst (λ called. IsCalledFor called c.args.cause None)
    (sym (on_refused c.args.calling.now c.args.lines.now (s ∷ c.args.behind.now) fault (body_refused s c.args.behind.now c.requires.head fault card))) refl

pub called_in-requires : goal.called_in-requires
called_in-requires c =
    let many : length (walk_of c.args.lines.now).begun ≡ length (c.args.proc.now ∷ c.args.behind.now) = as_many c.args.lines.now _ c.requires.read in omega arith

pub returns : goal.returns
returns c =
    let s = c.args.proc.now in
    let behind = c.args.behind.now in
    let symbols = c.as_slice-3.result.now in
    let card = at_statement s c.as_slice.result.now c.as_slice-2.result.now _ c.as_slice.ensures c.as_slice-2.ensures c.in-Ok.ensures in
    let read : body_of (s ∷ behind) ≡ Ok (record { symbols = symbols; statements = behind }) = body_read s behind c.requires.head c.in-Ok.card card
    ∙ ap (λ l. let r : Result Body Cause = Ok (record { symbols = l; statements = behind }) in r) (sym c.as_slice-3.ensures) in
    let first : behind_proc (s ∷ behind) ≡ 1 = rw c.requires.head refl in
    subst (λ called. IfOk c.called_in.result (IsCalledFor called c.args.cause))
    (sym (on_read c.args.calling.now c.args.lines.now (s ∷ behind) (record { symbols = symbols; statements = behind }) 1 read first)) c.called_in.ensures
