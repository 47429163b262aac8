use Rattle.std.proofs.Common.{refl}
use Rattle.cb_meaning.specs.Walks.{walk_cards, walk_dds, walk_steps}
use Rattle.world_rows.proofs.rules.zaps_come_before.Goals as goal

pub returns : goal.returns
unfolding walk_cards walk_dds walk_steps
returns c = record { good = refl; bad = refl }
