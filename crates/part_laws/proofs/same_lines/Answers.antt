use Rattle.std.proofs.Common.{drop}
use Rattle.jcl_meaning.specs.Agendas.{agenda}
use Rattle.jcl_meaning.specs.Names.{names_of}
use Rattle.part_laws.proofs.RunsAlike.{run_alike}
use Rattle.part_laws.proofs.same_lines.Goals as goal

pub returns : goal.returns
returns c = λ plan programs fixed n s t e h. run_alike (names_of plan) fixed (drop n (agenda plan programs)) s t e h
