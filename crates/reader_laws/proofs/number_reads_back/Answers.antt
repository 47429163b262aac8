use Rattle.reader_laws.proofs.Decimals.{outside_is, within_is}
use Rattle.reader_laws.proofs.number_reads_back.Goals as goal

pub returns : goal.returns
returns c = record { within = within_is; outside = outside_is }
