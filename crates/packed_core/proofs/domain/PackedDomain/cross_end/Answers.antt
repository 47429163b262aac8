use Rattle.std.proofs.Common.{◌≡◌, ◌∙◌, ℕ, Bool, List, None, Option, Some, ap, get_or, subst}
use Rattle.std.specs.Prelude.{slice_get}
use Rattle.jcl_plan.specs.declared.plan.JobPlan.{JobPlan}
use Rattle.jcl_meaning.specs.States.{Fixed}
use Rattle.view_domain.specs.declared.crossed.Stop.{Stop}
use Rattle.view_core.specs.Legs.{EndsJob}
use Rattle.packed_core.specs.Crossing.{row_shows}
use Rattle.packed_core.specs.Rows.{row_at}
use Rattle.packed_core.specs.Views.{Views}
use Rattle.packed_core.specs.Words.{bit}
use Rattle.packed_core.proofs.Led.{led_end}
use Rattle.packed_core.proofs.domain.PackedDomain.cross_end.Goals as goal

pub returns-in-None-clause-crossed : goal.returns-in-None-clause-crossed
returns-in-None-clause-crossed g c scene names =
    let plan : JobPlan = g.J.Job.plan in
    let fixed : Fixed = g.J.Job.fixed in
    let before : Views = c.args.before.now in
    let row : List ℕ = row_at before.rows c.args.number in
    let named : c.number_in-n.result ≡ get_or row 0 0 = c.number_in-n.ensures ∙ ap (λ (l : List ℕ). get_or l 0 0) c.row-row.ensures.is in
    let abended : c.bit_of-abended.result ≡ bit row 0 = c.bit_of-abended.ensures ∙ ap (λ (l : List ℕ). bit l 0) c.row-row.ensures.is in
    let said : EndsJob fixed plan scene c.bit_of-abended.result c.in_ok-end.field-0 =
    c.in_ok-end.ensures.end scene (ap (slice_get before.scenes) named ∙ names) in
    led_end _ plan fixed before.part c.requires.end (row_shows plan before.part scene row) c.args.behind.now None
    (subst (λ (o : Option Stop). EndsJob fixed plan scene (bit row 0) o) c.in-None.is
    (subst (λ (b : Bool). EndsJob fixed plan scene b c.in_ok-end.field-0) abended said))

pub returns-in-Some-clause-crossed : goal.returns-in-Some-clause-crossed
returns-in-Some-clause-crossed g c scene names =
    let plan : JobPlan = g.J.Job.plan in
    let fixed : Fixed = g.J.Job.fixed in
    let before : Views = c.args.before.now in
    let row : List ℕ = row_at before.rows c.args.number in
    let named : c.number_in-n.result ≡ get_or row 0 0 = c.number_in-n.ensures ∙ ap (λ (l : List ℕ). get_or l 0 0) c.row-row.ensures.is in
    let abended : c.bit_of-abended.result ≡ bit row 0 = c.bit_of-abended.ensures ∙ ap (λ (l : List ℕ). bit l 0) c.row-row.ensures.is in
    let said : EndsJob fixed plan scene c.bit_of-abended.result c.in_ok-end.field-0 =
    c.in_ok-end.ensures.end scene (ap (slice_get before.scenes) named ∙ names) in
    led_end _ plan fixed before.part c.requires.end (row_shows plan before.part scene row) c.args.behind.now (Some c.in-Some.stop)
    (subst (λ (o : Option Stop). EndsJob fixed plan scene (bit row 0) o) c.in-Some.is
    (subst (λ (b : Bool). EndsJob fixed plan scene b c.in_ok-end.field-0) abended said))
