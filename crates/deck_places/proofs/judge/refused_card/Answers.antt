use Rattle.std.proofs.Common.{◌≡◌, ◌∙◌, ap, sym, true, false}
use Rattle.std.specs.Prelude.{is_some}
use Rattle.deck_places.specs.Cards.{Walk, walk_of}
use Rattle.deck_places.proofs.Cards.{refused_so}
use Rattle.deck_places.proofs.judge.refused_card.Goals as goal

pub unreachable-requires : goal.unreachable-requires
unreachable-requires c =
    let none : is_some (walk_of c.args.lines.now).refused ≡ false =
    ap (λ (w : Walk). is_some w.refused) (sym c.in_ok-n.ensures) ∙ ap is_some c.in-None.is in
    let both : true ≡ false = sym c.requires ∙ refused_so c.args.lines.now ∙ none in
    absurd cc
