use Rattle.std.proofs.Common.{[], Some, subst}
use Rattle.session_core.specs.Sessions.{session_behind}
use Rattle.play_core.specs.Playing.{AreFound}
use Rattle.play_core.proofs.Finding.{none_found, some_found}
use Rattle.play_core.proofs.play.added_events.Goals as goal

pub returns-in-None : goal.returns-in-None
returns-in-None c =
    let o = c.args.options in
    let s = session_behind [] c.args.statements.now in
    none_found o s c.new.result.items (subst (AreFound o s) c.in-None.is c.in_ok-found.ensures) c.new.ensures.items

pub returns-in-Some : goal.returns-in-Some
returns-in-Some c =
    let o = c.args.options in
    let s = session_behind [] c.args.statements.now in
    let found : AreFound o s (Some c.in-Some.added) = subst (AreFound o s) c.in-Some.is c.in_ok-found.ensures in
    some_found o s c.in-Some.added.given.items found.0 found.1
