use Rattle.std.proofs.Common.{◌≡◌, ◌∙◌, Err, ap, sym}
use Rattle.jcl_deck.specs.Decks.{behind}
use Rattle.jcl_deck.specs.Places.{denoted}
use Rattle.deck_places.specs.Parts.{IsRefusedWithout}
use Rattle.deck_places.proofs.Below.{up_to}
use Rattle.deck_places.proofs.parts.refused_part.Goals as goal

pub loop-n-preserved : goal.loop-n-preserved
loop-n-preserved c =
    let place = denoted c.args.place in
    let same : denoted c.loop-n.place ≡ place = c.loop-n.invariant.place in
    let its : c.in-Err-Refused.other ≡ c.args.cause = c.is_same.ensures.same c.if-not-is_same.false in
    record {
      place = c.in-Err-Refused.ensures.same ∙ same;
      refused = up_to (IsRefusedWithout place c.args.statement.now c.args.cause) c.loop-n.n c.loop-n.invariant.refused
          (ap (λ s. behind place s) (sym c.in_ok-changed.ensures) ∙ ap (λ p. behind p c.in_ok-changed.changed) (sym same)
          ∙ (rw c.in-Err-Refused.field-0-is at c.in-Err-Refused.ensures.moves) ∙ ap Err its);
    }
