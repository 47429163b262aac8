use Rattle.std.proofs.Common.{◌++◌, ◌∙◌, ap}
use Rattle.std.specs.Prelude.{option_map}
use Rattle.mvt_check.specs.Cards.{stood_of}
use Rattle.mvt_check.specs.Words.{beginning}
use Rattle.mvt_check.proofs.Among.{begins_so}
use Rattle.mvt_check.proofs.asides.answer_at.Goals as goal

pub returns : goal.returns
returns c =
    let d = c.args.deck in
    let told = option_map (λ a. a.now) c.answer_of-answer.result in
    let line = c.in_ok-line.line in
    let verdict = c.in_ok-push_answer.ensures in
    begins_so d.first (stood_of d) d.plan.now c.args.known.answers.now c.args.read.now told c.in_ok-card.card line verdict.0
    c.as_slice.result.now c.push_answer.new.out.items c.extend_from_slice.new.self.items
    c.answer_of-answer.ensures c.in_ok-card.ensures c.in_ok-line.ensures.ok
    (verdict.1 ∙ ap (λ t. t ++ beginning line c.args.read.now.job d.plan.now.name told ++ verdict.0) c.new-text.ensures.items)
    c.in_ok-extend_from_slice.ensures.items
