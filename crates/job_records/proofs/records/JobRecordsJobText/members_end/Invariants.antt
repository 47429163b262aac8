use Rattle.std.proofs.Common.{◌≡◌, ◌++◌, ◌+◌, ◌≤◌, ◌-◌, drop, length, take}
use Rattle.cb_read.specs.Chains.{plan_of}
use Rattle.jcl_meaning.specs.Programs.{continuing, members_at}
use Rattle.job_text.specs.Places.{step_at}
use Rattle.job_records.specs.Recorded.{siot_at}
use Rattle.job_records.proofs.records.JobRecordsJobText.members_end.Given as goal

-- those so far continue, and what is left decides on the others
abbrev pub invariant-loop-end : goal.invariant-loop-end
invariant-loop-end g l =
    let q = g.S.RecordStore.queue l.self.store.now in
    let dds = (step_at (plan_of q l.self.jct).steps l.step).dds in
    record {
      after : l.dd + 1 ≤ l.end;
      few : l.end ≤ length dds;
      all : l.count ≡ length dds;
      n : l.n ≡ siot_at q l.self.jct l.step l.end;
      members : members_at (drop l.dd dds) ≡ take (l.end - l.dd) (drop l.dd dds) ++ continuing (drop l.end dds);
    }

abbrev pub decreases-loop-end : goal.decreases-loop-end
decreases-loop-end g l = l.count - l.end
