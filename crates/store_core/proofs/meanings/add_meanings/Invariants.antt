use Rattle.std.proofs.Common.{◌≡◌, ◌+◌, ◌++◌, drop}
use Rattle.jcl_meaning.specs.Resolutions.{meanings_in}
use Rattle.store_core.proofs.meanings.add_meanings.Given as goal

-- what is gathered and what is left
abbrev pub invariant-loop-i : goal.invariant-loop-i
invariant-loop-i g l =
    let shown = g.S.HasGroups.shown l.store in
    l.meanings ++ meanings_in shown l.step (l.i + 1) (drop l.i l.dds) ≡ l.initial.meanings ++ meanings_in shown l.step 1 l.dds
