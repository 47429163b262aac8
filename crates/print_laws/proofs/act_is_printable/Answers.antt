use Rattle.print_laws.proofs.ActsPrintable.{act_printable}
use Rattle.print_laws.proofs.act_is_printable.Goals as goal

pub returns : goal.returns
returns c = act_printable
