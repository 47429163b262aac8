use Rattle.std.proofs.Common.{sym, ◌∙◌}
use Rattle.path_core.proofs.Explained.{to_end, to_place}
use Rattle.path_core.proofs.explain.count_to_fault.Goals as goal

pub returns-in-Some : goal.returns-in-Some
returns-in-Some c = to_place c.args.lines.now c.in-Some.place (sym c.first_fault.ensures ∙ c.in-Some.is)

pub returns-in-None : goal.returns-in-None
returns-in-None c = to_end c.args.lines.now (sym c.first_fault.ensures ∙ c.in-None.is)
