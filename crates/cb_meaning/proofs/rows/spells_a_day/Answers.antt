use Rattle.std.proofs.Common.{refl}
use Rattle.cb_meaning.proofs.rows.spells_a_day.Goals as goal

pub returns : goal.returns
returns c = record {
  spelled = record { kind = refl; relative = refl; name = refl; serial = refl; reference = refl; expiry_kind = refl; expiry_days = refl; unused = refl };
  read = refl;
}
