use Rattle.std.proofs.Common.{sym}
use Rattle.record_rows.proofs.job.tell_recorded.Goals as goal

pub tell_job-requires-clause-reads : goal.tell_job-requires-clause-reads
tell_job-requires-clause-reads g c =
    let q = g.S.RecordStore.queue c.args.store.now in
    let own = c.requires.own in
    let is = c.denoted_is_recorded.ensures q c.args.units c.args.job c.args.first c.requires.denoted.0 c.args.plan.now own c.are_records.ensures c.requires.denoted.1 in
    record { recorded = is.0; at_hand = c.none_at_hand.ensures.at_hand q c.args.first }

pub tell_job-requires-clause-same : goal.tell_job-requires-clause-same
tell_job-requires-clause-same g c =
    let q = g.S.RecordStore.queue c.args.store.now in
    let own = c.requires.own in
    sym (c.denoted_is_recorded.ensures q c.args.units c.args.job c.args.first c.requires.denoted.0 c.args.plan.now own c.are_records.ensures c.requires.denoted.1).1
