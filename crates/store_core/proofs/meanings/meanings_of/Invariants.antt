use Rattle.std.proofs.Common.{◌≡◌, ◌+◌, ◌++◌, drop}
use Rattle.jcl_meaning.specs.Resolutions.{meanings_from}
use Rattle.store_core.proofs.meanings.meanings_of.Given as goal

-- what is gathered and what is left
abbrev pub invariant-loop-i : goal.invariant-loop-i
invariant-loop-i g l =
    let shown = g.S.HasGroups.shown l.store in
    l.meanings ++ meanings_from shown (l.i + 1) (drop l.i l.plan.steps) ≡ meanings_from shown 1 l.plan.steps
