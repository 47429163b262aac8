use Rattle.std.proofs.Common.{refl}
use Rattle.cb_meaning.specs.Walks.{walk_cards, walk_dds, walk_steps}
use Rattle.cb_meaning.proofs.rows.tells_damages.Goals as goal

pub returns : goal.returns
unfolding walk_cards walk_dds walk_steps
returns c = record { dummies = refl; a_set = refl; outside = refl; of_another_kind = refl; of_another_job = refl; met_twice = refl; of_another_count = refl; no_name = refl; no_kind = refl; no_operator = refl; of_no_earlier_step = refl; of_another_layout = refl; not_zero = refl; status_is_open = refl; links_are_open = refl }
