use Rattle.std.proofs.Common.{◌∙◌, ap, subst}
use Rattle.std.proofs.lemmas.Result.{IfOk-weaker}
use Rattle.session_text.specs.Statements.{statements_of}
use Rattle.mvt_check.specs.Checking.{IsFound, IsFoundIn}
use Rattle.mvt_check.proofs.program.found_in.Goals as goal

pub returns : goal.returns
returns c =
    let o = c.args.options in
    let input = c.args.input in
    let framed = c.in_ok-framed.framed in
    IfOk-weaker c.check_session.result (IsFound o framed.above c.as_slice-3.result.now) (IsFoundIn o c.args.wishes.deck input.ending input.text.items)
    (λ found so. record {
      framed = framed;
      frames = c.in_ok-framed.ensures;
      is = subst (λ s. IsFound o framed.above s found)
          (c.as_slice-3.ensures ∙ c.in_ok-statements.ensures ∙ ap (statements_of input.ending) c.as_slice.ensures.value) so;
    })
    c.check_session.ensures
