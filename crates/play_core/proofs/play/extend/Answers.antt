use Rattle.std.proofs.Common.{[], ◌++◌, None, sym, ap, subst, ◌∙◌}
use Rattle.std.proofs.lemmas.List.{append-nil}
use Rattle.session_core.specs.Sessions.{session_behind}
use Rattle.play_core.specs.Given.{statements_at}
use Rattle.play_core.specs.Playing.{AreFound}
use Rattle.play_core.proofs.Finding.{none_found}
use Rattle.play_core.proofs.play.extend.Goals as goal

pub returns-in-None-clause-found : goal.returns-in-None-clause-found
returns-in-None-clause-found c =
    let o = c.args.options in
    let here = c.args.statements.now in
    none_found o (session_behind [] here) c.nothing.result.given.items
    (subst (λ xs. AreFound o (session_behind [] xs) None) c.as_slice.ensures
    (subst (AreFound o (session_behind [] c.as_slice.result.now)) c.in-None.is c.in_ok-found.ensures)) c.nothing.ensures

pub returns-in-None-clause-behind : goal.returns-in-None-clause-behind
returns-in-None-clause-behind c = sym (ap (λ g. c.args.statements.now ++ statements_at c.args.line g) c.nothing.ensures ∙ append-nil c.args.statements.now)
