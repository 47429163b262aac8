use Rattle.std.proofs.Common.{◌≡◌, ◌∙◌, ◌+◌, ℕ, List, ap, false, length, drop, sym, take}
use Rattle.jcl_meaning.specs.History.{fate_of}
use Rattle.jcl_plan.specs.declared.plan.JobPlan.{JobPlan}
use Rattle.jcl_plan.specs.declared.plan.StepPlan.{StepPlan}
use Rattle.view_core.specs.Bits.{some_met}
use Rattle.packed_core.specs.declared.room.Room.{Room}
use Rattle.packed_core.specs.Rooms.{room_at}
use Rattle.packed_core.specs.Views.{Views}
use Rattle.packed_core.specs.Words.{bits_from, met_of}
use Rattle.packed_core.proofs.Passing.{job_met, own_met}
use Rattle.packed_core.proofs.domain.PackedDomain.fate_of.Goals as goal

pub returns : goal.returns
returns g c scene =
    let plan : JobPlan = g.J.Job.plan in
    let k : ℕ = c.args.views.now.part in
    let step : StepPlan = c.args.step.now in
    let row : List ℕ = c.args.row.now in
    let here : Room = room_at plan k in
    let room : c.views.inside.room ≡ here = c.views.invariant.roomed ∙ ap (room_at plan) (ap (λ (v : Views). v.part) c.views.view_is) in
    let next : c.next_bit.result ≡ here.job + here.passed + 1 = c.next_bit.ensures ∙ ap (λ (r : Room). r.job + r.passed + 1) room in
    let job : c.some_bit.result ≡ some_met (take (length plan.tests.items) (met_of here row)) =
    c.some_bit.ensures ∙ ap (λ (r : Room). some_met (bits_from r.job 1 row)) room
    ∙ ap some_met (sym (job_met plan k step c.requires.step.0 c.requires.step.1 row)) in
    let own : c.some_bit-2.result ≡ some_met (take (length step.tests.items) (drop (length plan.tests.items) (met_of here row))) =
    c.some_bit-2.ensures ∙ (λ i. some_met (bits_from (length (c.as_slice.ensures.value i)) (next i) row))
    ∙ ap some_met (sym (own_met plan k step c.requires.step.0 c.requires.step.1 row)) in
    c.fate.ensures ∙ (λ i. fate_of false (job i) step.after_abend (c.bit_of.ensures i) (own i))
