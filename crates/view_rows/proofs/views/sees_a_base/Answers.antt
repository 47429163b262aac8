use Rattle.std.proofs.Common.{refl}
use Rattle.view_rows.proofs.views.sees_a_base.Goals as goal

pub returns : goal.returns
returns c = record { own_group = refl; no_volume = refl; that_it_is_one = refl; own_volume = refl }
