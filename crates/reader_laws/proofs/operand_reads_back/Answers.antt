use Rattle.reader_laws.proofs.Operands.{operand_is}
use Rattle.reader_laws.proofs.operand_reads_back.Goals as goal

pub returns : goal.returns
returns c = operand_is
