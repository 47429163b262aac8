use Rattle.std.proofs.Common.{◌+◌, ◌++◌, ℕ, List, take, sym, ap, ◌∙◌, append_assoc}
use Rattle.jcl_meaning.specs.Agendas.{Action, left_by, lefts_in}
use Rattle.view_core.specs.Lefts.{left_actions}
use Rattle.view_core.proofs.Leaving.{lefts_more}
use Rattle.view_core.proofs.Runs.{front_more, front_number}
use Rattle.view_core.proofs.leave.push_dds.Goals as goal

pub loop-i-preserved : goal.loop-i-preserved
loop-i-preserved c =
    let n = c.args.step in
    let i = c.loop-i.i in
    let dds = c.args.dds.now in
    let d = c.index-dds-i.result in
    let old : List Action = left_actions c.args.lefts.now.items in
    c.in_ok-push_if.ensures ∙ ap (λ (l : List Action). l ++ left_by n (i + 1) d) c.loop-i.invariant
    ∙ append_assoc old (lefts_in n 1 (take i dds)) (left_by n (i + 1) d)
    ∙ ap (λ (l : List Action). old ++ l)
    (sym (ap (lefts_in n 1) (front_more dds i d c.loop-i-test.true c.index-dds-i.is) ∙ lefts_more n 1 (take i dds) d
    ∙ ap (λ (m : ℕ). lefts_in n 1 (take i dds) ++ left_by n m d) (front_number dds i c.loop-i-test.true)))
