use Rattle.std.proofs.Common.{◌<◌, ◌-◌, sym}
use Rattle.std.proofs.lemmas.List.Elements.{All-same}
use Rattle.cb_queue.specs.RecordQueues.{zero_record}
use Rattle.chain_store.proofs.Bytes.{renewed}
use Rattle.chain_store.proofs.records.renew.Goals as goal

pub returns-clause-change : goal.returns-clause-change
returns-clause-change c =
    renewed c.args.layout.now c.requires.layout c.args.records.now.items (c.args.n - 1) c.args.owner c.owned_record.result c.requires.owner c.owned_record.ensures.value
    c.owned_record.ensures.bytes

pub returns-clause-bytes : goal.returns-clause-bytes
returns-clause-bytes c = All-same (λ b. b < 256) (zero_record c.args.owner) c.owned_record.result (sym c.owned_record.ensures.value) c.owned_record.ensures.bytes
