use Rattle.std.proofs.Common.{is_some, ap}
use Rattle.play_core.proofs.Finding.{found_for}
use Rattle.play_core.proofs.search.find.Goals as goal

pub returns-in-Err-Stopped : goal.returns-in-Err-Stopped
returns-in-Err-Stopped c = ap is_some (rw c.in-Err-Stopped.field-0-is at (c.in-Err-Stopped.ensures.err c.args.options)).0

pub returns : goal.returns
returns c =
    let opened = c.in-Ok.ensures.ok in
    found_for c.args.options c.args.statements.now _ opened.config opened.by _ (c.in_ok-system.ensures opened.config opened.sound opened.apart) _ c.split_at.ensures.back
    c.in_ok-found.found c.in_ok-found.ensures
