use Rattle.std.proofs.Common.{◌∙◌, ap}
use Rattle.card_core.specs.Cards.{are_blank, columns}
use Rattle.card_core.proofs.Lending.{blank_columns}
use Rattle.card_core.proofs.image.CardImage.is_blank_from.Goals as goal

pub returns : goal.returns
returns c =
    c.are_blank_there.ensures
    ∙ blank_columns c.args.first c.args.last c.self.inside.line.now c.requires.from c.requires.order
    ∙ ap (λ card. are_blank (columns c.args.first c.args.last card)) c.self.view_is
