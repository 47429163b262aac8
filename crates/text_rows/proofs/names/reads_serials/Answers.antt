use Rattle.std.proofs.Common.{codes, [], refl}
use Rattle.jname_core.proofs.Names.{serial_from_kept}
use Rattle.text_rows.proofs.Serials.{no_serial}
use Rattle.text_rows.proofs.names.reads_serials.Goals as goal

pub returns : goal.returns
returns c = record {
  one = serial_from_kept (codes "1") refl;
  six = serial_from_kept (codes "000001") refl;
  hyphen_and_dollar = serial_from_kept (codes "VOL-1$") refl;
  hyphen_alone = serial_from_kept (codes "-") refl;
  empty = no_serial [] refl;
  seven = no_serial (codes "0000001") refl;
  period = no_serial (codes "VOL.1") refl;
  small_letters = no_serial (codes "vol1") refl;
}
