use Rattle.std.proofs.Common.{◌≡◌, cond, true, false, ℕ, List, codes, refl}
use Rattle.std.specs.Str.{bytes_eq}
use Rattle.jcl_plan.specs.declared.fault.Cause.TheVariants.{P}
use Rattle.jcl_plan.specs.declared.fault.StatementFault.TheVariants.{BadValue}
use Rattle.value_core.specs.declared.set.VolumeName.{VolumeName}
use Rattle.value_core.specs.declared.set.VolumeName.TheVariants as volume
use Rattle.value_core.specs.Reads.{Read, bad}
use Rattle.value_core.specs.VolumeNames.{reference, serial}
use Rattle.value_core.proofs.Both.{at_false, at_true}
use Rattle.value_core.proofs.volume_name.by_key.Goals as goal

abbrev other : List ℕ → List ℕ → Read VolumeName
other key text = cond (bytes_eq key (codes "REF")) (reference text) (bad volume.Any (P BadValue))

pub returns-then-eq : goal.returns-then-eq
returns-then-eq c =
    let yes : bytes_eq c.args.key.now (codes "SER") ≡ true = cc in
    at_true (bytes_eq c.args.key.now (codes "SER")) (serial c.args.text.now) (other c.args.key.now c.args.text.now) yes c.serial.ensures

pub returns-then-eq-2 : goal.returns-then-eq-2
returns-then-eq-2 c =
    let key = c.args.key.now in
    let no : bytes_eq key (codes "SER") ≡ false = cc in
    let yes : bytes_eq key (codes "REF") ≡ true = cc in
    at_false (bytes_eq key (codes "SER")) (serial c.args.text.now) (other key c.args.text.now) no
    (at_true (bytes_eq key (codes "REF")) (reference c.args.text.now) (bad volume.Any (P BadValue)) yes c.reference.ensures)

pub returns : goal.returns
returns c =
    let key = c.args.key.now in
    let no : bytes_eq key (codes "SER") ≡ false = cc in
    let neither : bytes_eq key (codes "REF") ≡ false = cc in
    at_false (bytes_eq key (codes "SER")) (serial c.args.text.now) (other key c.args.text.now) no
    (at_false (bytes_eq key (codes "REF")) (reference c.args.text.now) (bad volume.Any (P BadValue)) neither refl)
