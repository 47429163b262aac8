use Rattle.std.proofs.Common.{List, subst, sym}
use Rattle.jcl_meaning.specs.declared.state.Place.{Place}
use Rattle.path_meaning.specs.Verdicts.{IsFree}
use Rattle.verdict_core.proofs.verdict.free.Goals as goal

pub returns : goal.returns
returns c = λ fixed plan store most_views explains free.
    c.free_at.ensures fixed plan store most_views explains
    (subst (λ (places : List Place). IsFree fixed plan store most_views places) (sym c.new.ensures.items) free)
