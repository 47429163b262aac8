use Rattle.std.proofs.Common.{◌∷◌, [], sym, ap, ◌∙◌}
use Rattle.operand_core.specs.Operands.{places_of}
use Rattle.operand_core.proofs.Calm.{Front, front_faultless, front_key, front_part, front_whole}
use Rattle.operand_core.proofs.parts.begun_part.Goals as goal

pub of-part-requires-clause-key : goal.of-part-requires-clause-key
of-part-requires-clause-key c = front_key {value = c.split_at.result.1.now} {rest = c.split_at-2.result.1.now} {m = c.plain_len.result}
    (record { key_is = c.key_len-key_len.ensures.count; plain_is = c.plain_len.ensures.count; value_is = c.split_at.ensures.back; front_is = c.split_at-2.ensures.front; rest_is = c.split_at-2.ensures.back })

pub of-part-requires-clause-fault : goal.of-part-requires-clause-fault
of-part-requires-clause-fault c = front_faultless {value = c.split_at.result.1.now} {rest = c.split_at-2.result.1.now} {k = c.key_len-key_len.result} {m = c.plain_len.result}
    (record { key_is = c.key_len-key_len.ensures.count; plain_is = c.plain_len.ensures.count; value_is = c.split_at.ensures.back; front_is = c.split_at-2.ensures.front; rest_is = c.split_at-2.ensures.back })

pub returns-in-None-clause-none : goal.returns-in-None-clause-none
returns-in-None-clause-none c =
    let cut : Front c.args.text.now c.split_at.result.1.now c.split_at-2.result.0.now c.split_at-2.result.1.now c.key_len-key_len.result c.plain_len.result =
    record { key_is = c.key_len-key_len.ensures.count; plain_is = c.plain_len.ensures.count; value_is = c.split_at.ensures.back; front_is = c.split_at-2.ensures.front; rest_is = c.split_at-2.ensures.back } in
    front_whole cut c.in-None.ensures.cases ∙ ap (λ part. part ∷ []) (sym c.of-part.ensures)

pub returns-in-Some-eq44-default-clause-some : goal.returns-in-Some-eq44-default-clause-some
returns-in-Some-eq44-default-clause-some c =
    let cut : Front c.args.text.now c.split_at.result.1.now c.split_at-2.result.0.now c.split_at-2.result.1.now c.key_len-key_len.result c.plain_len.result =
    record { key_is = c.key_len-key_len.ensures.count; plain_is = c.plain_len.ensures.count; value_is = c.split_at.ensures.back; front_is = c.split_at-2.ensures.front; rest_is = c.split_at-2.ensures.back } in
    let behind = c.in-Some-eq44-default.behind.now in
    front_part cut _ behind c.in-Some-eq44-default.ensures.cases.0 c.in-Some-eq44-default.field-0-0-test ∙ ap (λ part. part ∷ places_of behind) (sym c.of-part.ensures)
