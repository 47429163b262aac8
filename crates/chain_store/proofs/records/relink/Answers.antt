use Rattle.std.proofs.Common.{◌-◌, arith}
use Rattle.chain_store.proofs.Bytes.{relinked}
use Rattle.chain_store.proofs.records.relink.Goals as goal

pub returns-clause-change : goal.returns-clause-change
returns-clause-change c =
    let from = c.requires.from_one in
    let there = c.requires.there in
    relinked c.args.layout.now c.requires.layout c.args.records.now.items (c.args.n - 1) (omega (arith, from, there)) c.requires.whole c.index_mut.result.now
    c.write_number.new.self c.index_mut.ensures.value c.write_number.ensures.others
