-- An action writes one line, or that of a fault and one for each DD that its step had taken.
use Rattle.std.proofs.Common.{◌≤◌, suc, List, length, sym, subst}
use Rattle.jcl_meaning.specs.declared.state.DdState.{DdState}
use Rattle.jcl_meaning.specs.Acts.{act}
use Rattle.jcl_meaning.specs.States.{Done}
use Rattle.turn_core.specs.TurnLaws.{FewLines}
use Rattle.turn_core.proofs.Saying.{few_lines}

pub few : FewLines
few w plan old new before after told h =
    let q = h.acts in
    subst (λ (done : Done). length done.lines ≤ suc (length before.course.own.dds)) (sym q.did)
    (subst (λ (dds : List DdState). length (act w.fixed q.its_turn.action q.its_turn.before).lines ≤ suc (length dds)) q.dds_before
    (few_lines w.fixed q.its_turn.action q.its_turn.before q.writes q.goes_on))
