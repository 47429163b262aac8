use Rattle.jcl_meaning.specs.Solo.{run}
use Rattle.part_laws.proofs.ActsWithin.{run_stays}
use Rattle.part_laws.proofs.Others.{unseen_by_other}
use Rattle.part_laws.proofs.run_keeps.Goals as goal

pub returns : goal.returns
returns c = λ names others fixed done rest s compatible h.
    unseen_by_other names others s.store (run fixed done s).state.store compatible (run_stays names fixed done rest s h).within
