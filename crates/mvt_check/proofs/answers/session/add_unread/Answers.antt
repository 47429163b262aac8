use Rattle.std.proofs.Common.{◌≡◌, ◌++◌, ◌∙◌, [], ap, subst, sym}
use Rattle.std.specs.Prelude.{OnOk}
use Rattle.mvt_check.specs.Telling.{deck_of}
use Rattle.mvt_check.proofs.Owning.{unread_deck}
use Rattle.mvt_check.proofs.answers.session.add_unread.Goals as goal

pub returns-in-Events : goal.returns-in-Events
returns-in-Events c =
    subst (λ d. OnOk c.add_deck.result (c.add_deck.new.decks.items ≡ c.args.decks.now.items ++ d))
    (sym (ap (λ s. deck_of c.args.at s []) c.in-Events.is ∙ unread_deck c.args.at c.in-Events.event c.in-Events.field-1)) c.add_deck.ensures
