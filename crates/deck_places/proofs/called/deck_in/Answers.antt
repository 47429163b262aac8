use Rattle.std.proofs.Common.{◌≡◌, ◌∙◌, ap, false, sym}
use Rattle.std.specs.Result.{result_ok}
use Rattle.jcl_deck.specs.Decks.{deck_of}
use Rattle.deck_places.proofs.Cuts.{uncut}
use Rattle.deck_places.proofs.called.deck_in.Goals as goal

pub returns-in-Ok : goal.returns-in-Ok
returns-in-Ok c =
    let statements = c.args.statements.now in
    let whole : c.in_ok-copies.copies.items ≡ statements = c.in_ok-copies.ensures ∙ uncut false statements in
    sym (ap result_ok (ap deck_of (sym whole) ∙ c.in-Ok.ensures))

pub returns-in-Err-Refused : goal.returns-in-Err-Refused
returns-in-Err-Refused c =
    let statements = c.args.statements.now in
    let whole : c.in_ok-copies.copies.items ≡ statements = c.in_ok-copies.ensures ∙ uncut false statements in
    sym (ap result_ok (ap deck_of (sym whole) ∙ (rw c.in-Err-Refused.field-0-is at c.in-Err-Refused.ensures)))
