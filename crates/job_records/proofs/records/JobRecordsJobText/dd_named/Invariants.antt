use Rattle.std.proofs.Common.{◌≡◌, ◌<◌, ◌≤◌, ◌-◌, ℕ, false, length}
use Rattle.cb_read.specs.Chains.{plan_of}
use Rattle.jcl_meaning.specs.Programs.{is_named}
use Rattle.job_text.specs.Places.{dd_at, step_at}
use Rattle.job_records.specs.Recorded.{siot_at}
use Rattle.job_records.proofs.records.JobRecordsJobText.dd_named.Given as goal

-- none of the DDs so far has the name
abbrev pub invariant-loop-dd : goal.invariant-loop-dd
invariant-loop-dd g l =
    let q = g.S.RecordStore.queue l.self.store.now in
    let dds = (step_at (plan_of q l.self.jct).steps l.step).dds in
    record {
      few : l.dd ≤ l.count;
      all : l.count ≡ length dds;
      n : l.n ≡ siot_at q l.self.jct l.step l.dd;
      none : (k : ℕ) → k < l.dd → is_named l.name (dd_at dds k) ≡ false;
    }

abbrev pub decreases-loop-dd : goal.decreases-loop-dd
decreases-loop-dd g l = l.count - l.dd
