use Rattle.reader_laws.proofs.SetStatements.{status_is_read, words_are_read}
use Rattle.reader_laws.proofs.sets_read_back.Goals as goal

pub returns : goal.returns
returns c = record { words = words_are_read; status = status_is_read }
