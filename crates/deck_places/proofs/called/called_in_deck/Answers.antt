use Rattle.std.proofs.Common.{◌≡◌, ◌∙◌, Some, ap, arith, length, sym}
use Rattle.deck_places.specs.Cards.{walk_of}
use Rattle.deck_places.proofs.Begun.{as_many}
use Rattle.deck_places.proofs.called.called_in_deck.Goals as goal

pub called_in-requires : goal.called_in-requires
called_in-requires c =
    let both : Some c.in-Some.n ≡ Some c.requires.stands.proc = sym c.in-Some.is ∙ c.proc_of.ensures ∙ c.requires.stands.there in
    let same : c.in-Some.n ≡ c.requires.stands.proc = cc in
    let many : length (walk_of c.args.lines.now).begun ≡ length c.args.statements.now = as_many c.args.lines.now _ c.requires.read in
    let size : length c.as_slice-2.result.now ≡ length c.args.procedure.now.statements = ap length c.as_slice-2.ensures in
    let within = c.requires.stands.within in omega arith
