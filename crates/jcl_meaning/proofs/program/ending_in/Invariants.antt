use Rattle.std.proofs.Common.{◌≡◌, drop}
use Rattle.jcl_meaning.specs.Programs.{ending_in}
use Rattle.jcl_meaning.proofs.program.ending_in.Given as goal

-- what is left decides
abbrev pub invariant-loop-request : goal.invariant-loop-request
invariant-loop-request l = ending_in (drop l.request-index l.requests) ≡ ending_in l.requests
