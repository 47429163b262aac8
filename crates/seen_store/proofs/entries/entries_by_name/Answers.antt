use Rattle.std.proofs.Common.{◌≡◌, arith, rules}
use Rattle.jcl_meaning.specs.declared.store.SoloEntry.{SoloEntry}
use Rattle.seen_store.proofs.Names.{one_named}
use Rattle.seen_store.proofs.entries.entries_by_name.Goals as goal

pub loop-left-preserved : goal.loop-left-preserved
loop-left-preserved c =
    let x : SoloEntry = c.index-list-left.result in
    let copied : c.in_ok-clone.field-0 ≡ x.entry = search rules in (
      omega arith,
      one_named c.loop-left.entries.entries c.put_entry.new.entries.entries c.args.list.now c.loop-left.left x c.in_ok-clone.field-0 c.loop-left-test.true
          c.loop-left.invariant.0 c.index-list-left.is copied c.loop-left.invariant.1 c.in_ok-put_entry.ensures.ok,
    )
