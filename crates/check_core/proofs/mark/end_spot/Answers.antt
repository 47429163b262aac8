use Rattle.std.proofs.Common.{◌∙◌, ap, subst}
use Rattle.deck_places.specs.Cards.{walk_of}
use Rattle.check_core.specs.Spots.{IsAtFirst}
use Rattle.check_core.proofs.mark.end_spot.Goals as goal

pub returns : goal.returns
returns c = subst (λ begun. IsAtFirst begun c.end_card-card.result)
    (c.as_slice-2.ensures.value ∙ (λ i. (c.in_ok-walk.ensures i).begun)
    ∙ ap (λ lines. (walk_of lines).begun) (c.as_slice.ensures.value ∙ c.in_ok-lent.ensures))
    c.end_card-card.ensures
