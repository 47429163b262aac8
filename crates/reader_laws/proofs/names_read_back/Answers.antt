use Rattle.reader_laws.proofs.Names.{components_are, ds_name_is, name_is}
use Rattle.reader_laws.proofs.names_read_back.Goals as goal

pub returns : goal.returns
returns c = record { name = name_is; components = components_are; ds_name = ds_name_is }
