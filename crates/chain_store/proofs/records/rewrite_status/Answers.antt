use Rattle.std.proofs.Common.{◌≡◌, ◌-◌, ◌∙◌, arith}
use Rattle.cb_meaning.specs.Fields.{part}
use Rattle.chain_store.proofs.Bytes.{status_bytes_are, status_changes, status_keeps_link}
use Rattle.chain_store.proofs.records.rewrite_status.Goals as goal

pub returns-clause-change : goal.returns-clause-change
returns-clause-change c =
    let from = c.requires.from_one in
    let there = c.requires.there in
    let value : part c.write_part.new.self 168 8 ≡ c.args.status.now = c.write_part.ensures.value ∙ c.as_slice.ensures in
    status_changes c.args.layout.now c.requires.layout c.args.records.now.items (c.args.n - 1) (omega (arith, from, there)) c.requires.whole c.index_mut-own.result.now
    c.write_part.new.self c.args.status.now c.index_mut-own.ensures.value c.told-status value c.write_part.ensures.others

pub returns-clause-link : goal.returns-clause-link
returns-clause-link c =
    let from = c.requires.from_one in
    let there = c.requires.there in
    let value : part c.write_part.new.self 168 8 ≡ c.args.status.now = c.write_part.ensures.value ∙ c.as_slice.ensures in
    status_keeps_link c.args.layout.now c.requires.layout c.args.records.now.items (c.args.n - 1) (omega (arith, from, there)) c.requires.whole c.index_mut-own.result.now
    c.write_part.new.self c.args.status.now c.index_mut-own.ensures.value c.told-status value c.write_part.ensures.others c.args.n (omega (arith, from))

pub returns-clause-bytes : goal.returns-clause-bytes
returns-clause-bytes c =
    let from = c.requires.from_one in
    let there = c.requires.there in
    let value : part c.write_part.new.self 168 8 ≡ c.args.status.now = c.write_part.ensures.value ∙ c.as_slice.ensures in
    status_bytes_are c.args.layout.now c.requires.layout c.args.records.now.items (c.args.n - 1) (omega (arith, from, there)) c.requires.whole c.index_mut-own.result.now
    c.write_part.new.self c.args.status.now c.index_mut-own.ensures.value c.told-status value c.write_part.ensures.others c.are_bytes.ensures
