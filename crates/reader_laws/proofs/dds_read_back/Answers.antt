use Rattle.reader_laws.proofs.DdStatements.{all_cards_are, cards_are, dummy_is, sysout_is, unnamed_is}
use Rattle.reader_laws.proofs.dds_read_back.Goals as goal

pub returns : goal.returns
returns c = record { dummy = dummy_is; cards = cards_are; all_cards = all_cards_are; sysout = sysout_is; unnamed = unnamed_is }
