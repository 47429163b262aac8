use Rattle.std.proofs.Common.{ap, ◌∙◌}
use Rattle.cb_meaning.specs.Fields.{field, part}
use Rattle.cb_records.proofs.Kept.{part_stays}
use Rattle.cb_chain.proofs.Entered.{turned, zero_part}
use Rattle.cb_chain.proofs.head.headed.Goals as goal

pub returns-clause-rest : goal.returns-clause-rest
returns-clause-rest c = λ f within kind owner.
    part_stays (field 2 2) f c.write_byte.new.self c.write_number.new.self c.write_number.ensures.others (turned f (field 2 2) owner)
    ∙ part_stays (field 0 1) f c.zeroed-rec.result c.write_byte.new.self c.write_byte.ensures.others (turned f (field 0 1) kind)
    ∙ ap (λ r. part r f.at f.width) c.zeroed-rec.ensures ∙ zero_part f within
