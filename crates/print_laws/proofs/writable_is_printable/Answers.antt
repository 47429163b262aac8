use Rattle.print_laws.proofs.PlansPrintable.{writable_printable}
use Rattle.print_laws.proofs.writable_is_printable.Goals as goal

pub returns : goal.returns
returns c = writable_printable
