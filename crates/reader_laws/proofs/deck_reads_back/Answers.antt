use Rattle.reader_laws.proofs.Laws.{deck_is}
use Rattle.reader_laws.proofs.deck_reads_back.Goals as goal

pub returns : goal.returns
returns c = deck_is
