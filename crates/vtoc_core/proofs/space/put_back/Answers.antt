use Rattle.std.proofs.Common.{List, Bool, subst, sym}
use Rattle.vtoc_core.specs.Searches.{WereTaken}
use Rattle.vtoc_core.proofs.TakeLemmas.{taken_last}
use Rattle.vtoc_core.proofs.space.put_back.Goals as goal

pub free-requires : goal.free-requires
free-requires c =
    let p = c.loop-extent.invariant.some in
    (taken_last p.0 c.loop-extent.free c.loop-extent.taken.items c.pop.new.self.items c.in-Some.extent c.in-Some.ensures.items p.1).0

pub loop-extent-preserved : goal.loop-extent-preserved
loop-extent-preserved c =
    let p = c.loop-extent.invariant.some in
    let freed : (before : List Bool) → WereTaken before c.loop-extent.taken.items c.loop-extent.free → WereTaken before c.pop.new.self.items c.free.new.self =
    λ before w.
    subst (WereTaken before c.pop.new.self.items) (sym c.free.ensures)
    (taken_last before c.loop-extent.free c.loop-extent.taken.items c.pop.new.self.items c.in-Some.extent c.in-Some.ensures.items w).1 in
    record {
      some = (p.0, freed p.0 p.1);
      all = λ before w. freed before (c.loop-extent.invariant.all before w);
    }
