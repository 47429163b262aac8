use Rattle.machine_laws.proofs.Sessions.{sessions_printable}
use Rattle.machine_laws.proofs.sessions_start_printable.Goals as goal

pub returns : goal.returns
returns c = sessions_printable
