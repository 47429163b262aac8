use Rattle.std.proofs.Common.{◌<◌, List, ap, ◌∙◌, length, arith, slice_get}
use Rattle.jcl_meaning.specs.declared.program.Request.{Request}
use Rattle.jcl_meaning.specs.Programs.{moves_in}
use Rattle.prog_core.proofs.MoveLemmas.{asked, move_there}
use Rattle.prog_core.proofs.counted.CountedProgram.move_at.Goals as goal

pub returns-in-None-clause-value : goal.returns-in-None-clause-value
returns-in-None-clause-value c =
    let requests = c.self.inside.requests in
    let few : c.args.place < length (moves_in requests) = omega (arith, c.if-place-self.false, c.self.invariant) in
    ap asked (c.in-None.ensures ∙ ap (λ (rs : List Request). slice_get rs c.args.place) c.get.ensures)
    ∙ move_there requests c.args.place few
    ∙ ap (λ p. slice_get (moves_in p.requests) c.args.place) c.self.view_is

pub returns-in-Some-clause-value : goal.returns-in-Some-clause-value
returns-in-Some-clause-value c =
    let requests = c.self.inside.requests in
    let few : c.args.place < length (moves_in requests) = omega (arith, c.if-place-self.false, c.self.invariant) in
    c.move_by.ensures
    ∙ ap asked (c.in-Some.ensures ∙ ap (λ (rs : List Request). slice_get rs c.args.place) c.get.ensures)
    ∙ move_there requests c.args.place few
    ∙ ap (λ p. slice_get (moves_in p.requests) c.args.place) c.self.view_is
