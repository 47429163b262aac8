use Rattle.shared_core.specs.Shown.{mounted_in}
use Rattle.shared_core.proofs.Showing.{nothing_shown}
use Rattle.shared_core.proofs.laws.nothing_is_shown.Goals as goal

pub returns : goal.returns
returns c = λ s none serial. nothing_shown (mounted_in s.volumes serial) (none serial)
