use Rattle.std.proofs.Common.{refl}
use Rattle.cb_meaning.specs.Readings.{cards_read, dds_read, steps_read}
use Rattle.cb_meaning.proofs.rows.reads_back.Goals as goal

pub returns : goal.returns
unfolding cards_read dds_read steps_read
returns c = record { a_set = refl; dummies = refl }
