use Rattle.std.proofs.Common.{◌+◌, false, sym, ap, ◌∙◌, ◌∷◌, arith, drop}
use Rattle.operand_core.specs.Operands.{places_of}
use Rattle.operand_core.proofs.CharacterByCharacter.{behind_front-start, behind_front-ends}
use Rattle.operand_core.proofs.parts.part_by_characters.Goals as goal

pub loop-at-init : goal.loop-at-init
loop-at-init c = (omega arith, sym (behind_front-start false 0 c.args.text.now))

pub returns-then-ends_part-clause-some : goal.returns-then-ends_part-clause-some
returns-then-ends_part-clause-some c =
    let text = c.args.text.now in
    let at = c.loop-at.at in
    c.loop-at.invariant.1
    ∙ behind_front-ends c.loop-at.quoted c.loop-at.depth at text c.loop-at-test.true (sym c.ends_part.ensures ∙ c.if-ends_part.true)
    ∙ ap (λ part. part ∷ places_of (drop (at + 1) text)) (sym c.split_at.ensures.front)
    ∙ ap (λ behind. c.split_at.result.0.now ∷ places_of behind) (sym c.split_at-then-ends_part.ensures.back)
