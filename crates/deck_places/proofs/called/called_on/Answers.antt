use Rattle.std.proofs.Common.{◌≡◌, arith, length}
use Rattle.deck_places.specs.Cards.{walk_of}
use Rattle.deck_places.proofs.Begun.{as_many}
use Rattle.deck_places.proofs.called.called_on.Goals as goal

pub called_in-requires : goal.called_in-requires
called_in-requires c =
    let many : length (walk_of c.args.lines.now).begun ≡ length c.args.statements.now = as_many c.args.lines.now _ c.requires in omega arith
