use Rattle.std.proofs.Common.{refl}
use Rattle.world_rows.proofs.rules.waiting_jobs_hold_nothing.Goals as goal

pub returns : goal.returns
returns c = record { first_waits = refl; second_waits = refl; first_would_run = refl }
