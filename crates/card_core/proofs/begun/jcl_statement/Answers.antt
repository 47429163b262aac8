use Rattle.std.proofs.Common.{ℕ, List, ap, ◌∙◌, subst, ◌+◌}
use Rattle.card_core.specs.Deck.{comment_cards, with_data, with_operand}
use Rattle.card_core.specs.Fields.{name_of, operand_behind}
use Rattle.card_core.specs.Reading.{Begins}
use Rattle.card_core.proofs.Statements.{Begins-with_operand}
use Rattle.card_core.proofs.begun.jcl_statement.Goals as goal

pub returns-clause-begins : goal.returns-clause-begins
returns-clause-begins c =
    let operand = c.in_ok-operand.operand in
    let card = c.filled-card.result in
    let cards = c.args.cards.now in
    let count = c.comment_cards.ensures.count ∙ ap (comment_cards operand.last) c.behind.ensures.rest in
    let fields = c.fields_of-fields.result in
    let used = operand.cards + c.comment_cards.result in
    let behind = c.behind-behind.result in
    let P : List ℕ → Type 0 = λ name. Begins c.with_data.result (with_data c.args.called name fields.operation.now operand.text used behind) in
    let Q : List ℕ → Type 0 = λ operation. Begins c.with_data.result
    (with_data c.args.called (name_of card) operation operand.text used behind) in
    let R : List ℕ → Type 0 = λ card. Begins c.with_data.result (with_operand c.args.called card cards (operand_behind card cards)) in
    subst R c.filled-card.ensures
    (Begins-with_operand c.with_data.result c.args.called card cards operand _ c.comment_cards.result behind
    c.in_ok-operand.ensures.value count c.behind-behind.ensures.rest
    (subst Q c.fields_of-fields.ensures.operation (subst P c.fields_of-fields.ensures.name c.with_data.ensures.begins)))
