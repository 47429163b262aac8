use Rattle.std.proofs.Common.{refl, ap, ◌∙◌}
use Rattle.operand_core.specs.Operands.{Operand}
use Rattle.operand_core.proofs.SameOperand.{operand_is}
use Rattle.value_core.specs.Reads.{answer}
use Rattle.jcl_cards.specs.JobCards.{job_with}
use Rattle.jcl_cards.proofs.JobWords.{with_tests, words_are}
use Rattle.jcl_cards.proofs.job.words_of.Goals as goal

pub returns : goal.returns
returns c = λ denoted is.
    let name = c.args.name.now in
    let operand : Operand = record { positional = denoted.positional; keywords = c.as_slice-keywords.result.now; faults = denoted.faults } in
    let same = operand_is denoted.positional c.as_slice-keywords.result.now denoted refl (c.as_slice-keywords.ensures.value ∙ is.keywords) in
    let words =
    words_are name operand c.job_name.ensures is.fault c.with_fault-named.ensures c.value_in.ensures c.both-classed.ensures c.value_in-2.ensures
    c.both-ranked.ensures
    c.value_in-3.ensures c.both-listed.ensures c.put_tests.ensures.told c.with_fault-tested.ensures c.each_fault.ensures c.with_fault-known.ensures
    c.twice_fault.ensures
    c.with_fault.ensures in
    with_tests name operand c.put_tests.ensures.told c.put_tests.ensures.value words ∙ ap (λ (o : Operand). answer (job_with name o)) same
