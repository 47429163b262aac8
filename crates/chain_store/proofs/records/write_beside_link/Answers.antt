use Rattle.std.proofs.Common.{◌∙◌, ap, length, sym}
use Rattle.chain_store.proofs.Bytes.{unlinked_same}
use Rattle.chain_store.proofs.records.write_beside_link.Goals as goal

pub returns-clause-value : goal.returns-clause-value
returns-clause-value c =
    unlinked_same c.args.layout.now c.requires c.args.rec.now (sym (ap length c.bytes-whole.ensures.value) ∙ c.bytes-whole.ensures.size) c.write_number.new.self
    c.write_number.ensures.others

pub returns-clause-whole : goal.returns-clause-whole
returns-clause-whole c = c.write_number.ensures.others.size ∙ sym (ap length c.bytes-whole.ensures.value) ∙ c.bytes-whole.ensures.size
