use Rattle.vtoc_core.proofs.PlaceLemmas.{order_tells}
use Rattle.vtoc_core.proofs.laws.order_tells_keys_apart.Goals as goal

pub returns : goal.returns
returns c = order_tells
