use Rattle.std.proofs.Common.{◌<◌, ◌∙◌, ap, length, subst, sym}
use Rattle.job_text.specs.Places.{card_at}
use Rattle.job_records.specs.Fields.{fields_of_cards}
use Rattle.job_records.specs.Said.{cards_said}
use Rattle.job_records.proofs.cards.card_there.Goals as goal

pub card_in-requires : goal.card_in-requires
card_in-requires g c =
    let same = (λ i. fields_of_cards (c.cards_of.ensures.layout i) c.cards_of.result.bytes.now) ∙ c.cards_of.ensures.fields in
    subst (λ f. c.args.at.place < length (cards_said f)) (sym same) c.requires.there

pub returns : goal.returns
returns g c =
    let same = (λ i. fields_of_cards (c.cards_of.ensures.layout i) c.cards_of.result.bytes.now) ∙ c.cards_of.ensures.fields in
    c.card_in.ensures ∙ ap (λ f. card_at (cards_said f) c.args.at.place) same
