use Rattle.std.proofs.Common.{◌≡◌, refl, Some, None}
use Rattle.jcl_meaning.specs.Acts.{act}
use Rattle.jcl_meaning.specs.Parts.{SamePart}
use Rattle.world_meaning.specs.Lenses.{seen}
use Rattle.world_rows.specs.Growths.{no_sets}
use Rattle.world_rows.specs.Machines.{serial, set_of}
use Rattle.world_rows.specs.Rules.{after_making}
use Rattle.std.specs.Prelude.{codes, []}
use Rattle.world_rows.proofs.rules.temporaries_carry_their_job.Goals as goal

none_made : None ≡ Some (set_of 1 []) → ⊥
none_made e = absurd cc

differs : SamePart [] (seen 2 no_sets) (after_making (seen 2 no_sets)) → None ≡ Some (set_of 1 [])
unfolding act
differs p = p.temporary (codes "T") serial

pub returns : goal.returns
unfolding act
returns c = record { of_no_job = λ p. none_made (differs p); of_a_job = refl }
