use Rattle.walk_laws.proofs.Exact.{fault_where_none_is_denoted}
use Rattle.walk_laws.proofs.fault_where_none_is_denoted.Goals as goal

pub returns : goal.returns
returns c = fault_where_none_is_denoted
