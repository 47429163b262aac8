use Rattle.cb_queue.specs.RecordQueues.{shown}
use Rattle.cb_read.specs.Chains.{plan_of}
use Rattle.job_records.proofs.laws.denoted_is_recorded.Goals as goal

pub returns : goal.returns
returns c = λ q units job n behind plan own records denotes.
    let none = c.denoted_has_no_fault.ensures q.layout units (shown q) job n behind plan denotes in
    let read = c.faultless_denotes.ensures q.layout units (shown q) job n own records none in (
      record { own = own; units = units; job = job; behind = read.0; denotes = read.1 },
      (c.one_job_is_denoted.ensures q.layout units (shown q) job n behind read.0 plan (plan_of q n) denotes read.1).0,
    )
