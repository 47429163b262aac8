use Rattle.jcl_meaning.specs.Acts.{act}
use Rattle.part_laws.proofs.ActsWithin.{act_stays}
use Rattle.part_laws.proofs.Others.{unseen_by_other}
use Rattle.part_laws.proofs.act_keeps.Goals as goal

pub returns : goal.returns
returns c = λ names others fixed a rest s compatible h.
    unseen_by_other names others s.store (act fixed a s).state.store compatible (act_stays names fixed a rest s h).within
