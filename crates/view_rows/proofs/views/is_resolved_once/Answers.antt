use Rattle.std.proofs.Common.{refl}
use Rattle.view_rows.proofs.views.is_resolved_once.Goals as goal

pub returns : goal.returns
returns c = record { next = refl; newest = refl; no_such_dd = refl }
