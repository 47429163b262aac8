use Rattle.std.proofs.Common.{◌≡◌, refl, Some, None}
use Rattle.jcl_meaning.specs.Acts.{act}
use Rattle.jcl_meaning.specs.Parts.{SamePart}
use Rattle.world_meaning.specs.Lenses.{seen}
use Rattle.world_rows.specs.Devices.{name}
use Rattle.world_rows.specs.Machines.{serial, set_of}
use Rattle.world_rows.specs.Rules.{after_deleting, shares, with_the_set}
use Rattle.std.specs.Prelude.{[]}
use Rattle.world_rows.proofs.rules.deleters_hold_alone.Goals as goal

still_there : Some (set_of 0 []) ≡ None → ⊥
still_there e = absurd cc

differs : SamePart shares (seen 1 with_the_set) after_deleting → Some (set_of 0 []) ≡ None
unfolding act
differs p = p.named name serial refl

pub returns : goal.returns
returns c = record { gone = λ p. still_there (differs p) }
