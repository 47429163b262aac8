use Rattle.std.proofs.Common.{◌≡◌, ◌+◌, ◌∷◌, [], ◌++◌, length, sym, ap, ◌∙◌, append_assoc, take, length-take-le, arith, rules}
use Rattle.std.proofs.lemmas.List.{take_more}
use Rattle.session_text.specs.declared.statement.Says.TheVariants.{Events}
use Rattle.play_core.specs.Given.{statement_at, statements_at}
use Rattle.play_core.proofs.Behind.{statements_at-more}
use Rattle.play_core.proofs.play.add_statements.Goals as goal

pub loop-next-preserved : goal.loop-next-preserved
loop-next-preserved c =
    let given = c.args.given.now in
    let line = c.args.line in
    let at = c.loop-next.next-index in
    let g = c.next-item.result in
    let old = c.args.statements.now in
    let long : length (take at given) ≡ at = length-take-le at given (omega (arith, c.loop-next-test.true)) in
    let more : statements_at line (take (at + 1) given) ≡ statements_at line (take at given) ++ statement_at (line + at) g ∷ [] =
    ap (statements_at line) (take_more given at g c.loop-next-test.true ∙ ap (λ x. take at given ++ x ∷ []) (sym c.next-item.is))
    ∙ statements_at-more line (take at given) g ∙ ap (λ n. statements_at line (take at given) ++ statement_at (line + n) g ∷ []) long in
    record {
      statements = c.in_ok-push.ensures.ok
          ∙ (λ i. c.loop-next.invariant.statements i ++ record { line = c.loop-next.invariant.at i; says = Events (c.event.ensures i) 1 } ∷ [])
          ∙ append_assoc old (statements_at line (take at given)) (statement_at (line + at) g ∷ []) ∙ ap (λ x. old ++ x) (sym more);
      at = search rules;
    }
