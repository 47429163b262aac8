use Rattle.std.proofs.Common.{◌≡◌, ◌+◌, ℕ, drop}
use Rattle.jcl_meaning.specs.Agendas.{lefts_in}
use Rattle.job_text.specs.Places.{step_at}
use Rattle.turn_core.proofs.next.passing_from.Given as goal

-- the DDs so far leave nothing
abbrev pub invariant-loop-i : goal.invariant-loop-i
invariant-loop-i g l =
    let dds = (step_at (g.T.JobText.plan l.text).steps l.step).dds in
    (n : ℕ) → lefts_in n (l.from + 1) (drop l.from dds) ≡ lefts_in n (l.i + 1) (drop l.i dds)
