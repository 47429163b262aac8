use Rattle.cb_read.proofs.Sound.{all_records}
use Rattle.cb_read.proofs.records.are_records.Goals as goal

pub returns : goal.returns
returns g c = all_records (g.S.RecordStore.queue c.args.store.now) c.layout-layout.ensures.sound
