use Rattle.std.proofs.Common.{All, subst}
use Rattle.mvt_check.specs.Cards.{HasAside}
use Rattle.mvt_check.proofs.Among.{answer_among}
use Rattle.mvt_check.proofs.session.taken_asides.Goals as goal

pub returns : goal.returns
returns c =
    let text = c.push_in_order.new.text.items in
    answer_among c.args.taken c.args.known.answers.now c.args.deck c.in_ok-asides.asides.items text c.in_ok-asides.ensures
    (subst (All (HasAside text)) c.as_slice.ensures.value c.in_ok-push_in_order.ensures)
