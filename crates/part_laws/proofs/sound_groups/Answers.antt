use Rattle.part_laws.proofs.PlansFit.{sound_groups}
use Rattle.part_laws.proofs.sound_groups.Goals as goal

pub returns : goal.returns
returns c = sound_groups
