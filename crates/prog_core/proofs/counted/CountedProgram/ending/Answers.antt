use Rattle.std.proofs.Common.{List, slice_get, ap, ◌∙◌}
use Rattle.jcl_meaning.specs.declared.program.Request.{Request}
use Rattle.jcl_meaning.specs.Programs.{ending_in}
use Rattle.prog_core.specs.Moves.{ending_by}
use Rattle.prog_core.proofs.MoveLemmas.{ending_there}
use Rattle.prog_core.proofs.counted.CountedProgram.ending.Goals as goal

pub returns : goal.returns
returns c =
    let requests = c.self.inside.requests in
    c.ending_by.ensures
    ∙ ap ending_by c.at.ensures
    ∙ ap (λ (rs : List Request). ending_by (slice_get rs c.self.inside.moves)) c.get.ensures
    ∙ ap (λ n. ending_by (slice_get requests n)) c.self.invariant
    ∙ ending_there requests
    ∙ ap (λ p. ending_in p.requests) c.self.view_is
