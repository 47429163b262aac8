-- A fault is told exactly where no job is denoted.
use Rattle.cb_meaning.specs.Readings.{plan_read}
use Rattle.walk_laws.specs.WalkLaws.{FaultWhereNoneIsDenoted}
use Rattle.walk_laws.proofs.Denoted.Jobs.{denoted_has_no_fault}
use Rattle.walk_laws.proofs.faultless.Whole.{faultless_denotes}

pub fault_where_none_is_denoted : FaultWhereNoneIsDenoted
fault_where_none_is_denoted l units q job n own are = (
  (λ e. let read = faultless_denotes l units q job n own are e in (read.0, plan_read l q n, read.1)),
  (λ some. denoted_has_no_fault l units q job n some.0 some.1 some.2),
)
