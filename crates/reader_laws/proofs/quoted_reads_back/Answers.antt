use Rattle.reader_laws.proofs.Quotes.{is_read_whole, place_is, unquoted_is, whole}
use Rattle.reader_laws.proofs.quoted_reads_back.Goals as goal

pub returns : goal.returns
returns c = record { itself = unquoted_is; one_place = place_is; read = is_read_whole; whole = whole }
