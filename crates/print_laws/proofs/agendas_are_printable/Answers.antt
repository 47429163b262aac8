use Rattle.print_laws.proofs.AgendasPrintable.{agendas_printable}
use Rattle.print_laws.proofs.agendas_are_printable.Goals as goal

pub returns : goal.returns
returns c = agendas_printable
