use Rattle.std.proofs.Common.{◌∷◌, sym, ap, ◌∙◌}
use Rattle.operand_core.specs.Operands.{places_of}
use Rattle.operand_core.proofs.Calm.{first_plain, first_whole}
use Rattle.operand_core.proofs.parts.first_part.Goals as goal

pub returns-in-None-clause-none : goal.returns-in-None-clause-none
returns-in-None-clause-none c =
    first_whole c.args.text.now c.split_at.result.1.now c.plain_len.result c.plain_len.ensures.count c.split_at.ensures.back c.in-None.ensures.cases

pub returns-in-Some-eq44-default-clause-some : goal.returns-in-Some-eq44-default-clause-some
returns-in-Some-eq44-default-clause-some c =
    let behind = c.in-Some-eq44-default.behind.now in
    first_plain c.args.text.now c.split_at.result.1.now _ behind c.plain_len.result c.plain_len.ensures.count c.split_at.ensures.back
    c.in-Some-eq44-default.ensures.cases.0 c.in-Some-eq44-default.field-0-0-test
    ∙ ap (λ front. front ∷ places_of behind) (sym c.split_at.ensures.front)
