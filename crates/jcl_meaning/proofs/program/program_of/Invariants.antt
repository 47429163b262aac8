use Rattle.std.proofs.Common.{◌≡◌, drop}
use Rattle.jcl_meaning.specs.Programs.{program_of}
use Rattle.jcl_meaning.proofs.program.program_of.Given as goal

-- what is left decides
abbrev pub invariant-loop-p : goal.invariant-loop-p
invariant-loop-p l = program_of (drop l.p-index l.programs) l.name ≡ program_of l.programs l.name
