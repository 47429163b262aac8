use Rattle.std.proofs.Common.{◌++◌, List, ◌∙◌, sym, ap}
use Rattle.std.proofs.lemmas.List.{append-nil}
use Rattle.jcl_plan.specs.declared.outcome.Fate.{Fate}
use Rattle.path_core.proofs.PathFates.{fates_more, told_none, told_some}
use Rattle.path_core.proofs.fates.fates_in.Goals as goal
use Rattle.path_core.proofs.fates.fates_in.Goals.{in-Some+in_ok-push-in-Some, in-None}

pub loop-line-preserved : goal.loop-line-preserved
loop-line-preserved c =
    let line = c.line-item.result in
    let more = fates_more c.args.lines.now c.loop-line.line-index line c.loop-line.fates c.loop-line-test.true c.line-item.is c.loop-line.invariant in
    elim c.match-fate_told.branch [
      | in-Some+in_ok-push-in-Some w ↦
          w.fates-is ∙ w.in_ok-push-in-Some.ensures.ok
          ∙ ap (λ (fs : List Fate). c.loop-line.fates ++ fs) (sym (told_some line w.in-Some.fate (sym w.in-Some.ensures))) ∙ more
      | in-None w ↦
          w.fates-is ∙ sym (append-nil c.loop-line.fates)
          ∙ ap (λ (fs : List Fate). c.loop-line.fates ++ fs) (sym (told_none line (sym w.in-None.ensures))) ∙ more
    ]
