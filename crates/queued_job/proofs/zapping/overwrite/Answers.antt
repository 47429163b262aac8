use Rattle.std.proofs.Common.{subst, sym}
use Rattle.queued_job.specs.Zapping.{Overwrites}
use Rattle.queued_job.proofs.Overwritten.{lent_of, overwritten, owner_written}
use Rattle.queued_job.proofs.zapping.overwrite.Goals as goal

pub put-requires-clause-owner : goal.put-requires-clause-owner
put-requires-clause-owner g c =
    let q = g.Q.RecordStore.queue c.args.queue.now in
    owner_written q c.args.n c.args.offset c.args.bytes.now c.in-Some.rec.now c.layout-layout.ensures.sound
    (lent_of q c.args.n c.in-Some.rec.now c.in-Some.ensures) c.requires.behind c.requires.within c.write_part.new.self c.write_part.ensures.value
    c.write_part.ensures.others

pub returns : goal.returns
returns g c =
    let q = g.Q.RecordStore.queue c.args.queue.now in
    subst (Overwrites c.args.n c.args.offset c.args.bytes.now q) (sym c.put.ensures.value)
    (overwritten q c.args.n c.args.offset c.args.bytes.now c.in-Some.rec.now c.layout-layout.ensures.sound
    (lent_of q c.args.n c.in-Some.rec.now c.in-Some.ensures) c.requires.behind c.requires.within c.write_part.new.self c.write_part.ensures.value
    c.write_part.ensures.others)
