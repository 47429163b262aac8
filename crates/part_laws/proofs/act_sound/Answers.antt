use Rattle.part_laws.proofs.ActsWithin.{act_stays}
use Rattle.part_laws.proofs.act_sound.Goals as goal

pub returns : goal.returns
returns c = λ names fixed a rest s h. (act_stays names fixed a rest s h).sound
