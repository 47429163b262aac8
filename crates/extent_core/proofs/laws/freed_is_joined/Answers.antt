use Rattle.extent_core.proofs.ListChanges.{freed_is_joined}
use Rattle.extent_core.proofs.laws.freed_is_joined.Goals as goal

pub returns : goal.returns
returns c = freed_is_joined
