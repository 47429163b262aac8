use Rattle.std.proofs.Common.{sym}
use Rattle.queued_job.proofs.Listings.{not_told}
use Rattle.queued_job.proofs.backlog.tell.Goals as goal

pub returns-in-Some-clause-err : goal.returns-in-Some-clause-err
returns-in-Some-clause-err c =
    not_told c.args.listings.now _ c.args.job c.in-Some.listing.now c.push.new.self c.push.result (sym c.in-Some.ensures.value) (c.get_mut.follows.holds _).0 c.push.ensures.err
