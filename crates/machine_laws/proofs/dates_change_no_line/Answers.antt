use Rattle.machine_laws.proofs.Dating.{date_changes_none}
use Rattle.machine_laws.proofs.dates_change_no_line.Goals as goal

pub returns : goal.returns
returns c = date_changes_none
