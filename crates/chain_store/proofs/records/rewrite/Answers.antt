use Rattle.std.proofs.Common.{◌-◌, ◌∙◌, ap, length, sym}
use Rattle.cb_queue.specs.RecordQueues.{unlinked}
use Rattle.chain_store.proofs.Bytes.{changes}
use Rattle.chain_store.proofs.records.rewrite.Goals as goal

pub returns-clause-change : goal.returns-clause-change
returns-clause-change c =
    changes c.args.layout.now c.args.records.now.items (c.args.n - 1) c.write_beside_link.new.own (unlinked c.args.layout.now c.args.rec.now)
    c.write_beside_link.ensures.whole c.write_beside_link.ensures.value

pub returns-clause-whole : goal.returns-clause-whole
returns-clause-whole c = sym (ap length c.bytes-whole.ensures.value) ∙ c.bytes-whole.ensures.size
