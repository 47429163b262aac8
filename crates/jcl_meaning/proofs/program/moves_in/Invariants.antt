use Rattle.std.proofs.Common.{◌≡◌, ◌++◌, drop}
use Rattle.jcl_meaning.specs.Programs.{moves_in}
use Rattle.jcl_meaning.proofs.program.moves_in.Given as goal

-- what was found and what is left are the whole
abbrev pub invariant-loop-request : goal.invariant-loop-request
invariant-loop-request l = l.moves.items ++ moves_in (drop l.request-index l.requests) ≡ moves_in l.requests
