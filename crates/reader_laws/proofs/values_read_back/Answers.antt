use Rattle.reader_laws.proofs.Groups.{followed_is, group_is}
use Rattle.reader_laws.proofs.Places.{all_places, one_place}
use Rattle.reader_laws.proofs.Values.{all_whole, value_read}
use Rattle.reader_laws.proofs.values_read_back.Goals as goal

pub returns : goal.returns
returns c = record { one_place = one_place; places = all_places; read = value_read; whole = all_whole; parentheses = group_is; followed = followed_is }
