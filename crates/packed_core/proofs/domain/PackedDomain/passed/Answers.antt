use Rattle.std.proofs.Common.{◌≡◌, ◌∙◌, ◌+◌, ◌<◌, ℕ, List, ap, arith, drop, length, subst, sym}
use Rattle.jcl_plan.specs.declared.plan.JobPlan.{JobPlan}
use Rattle.jcl_plan.specs.declared.plan.StepPlan.{StepPlan}
use Rattle.packed_core.specs.declared.room.Room.{Room}
use Rattle.packed_core.specs.Crossing.{IsPassed, row_shows}
use Rattle.packed_core.specs.Rooms.{room_at}
use Rattle.packed_core.specs.Views.{Views}
use Rattle.packed_core.specs.Words.{IsRow, bit}
use Rattle.packed_core.proofs.Bits.{written}
use Rattle.packed_core.proofs.Passing.{cleared_met, cleared_row}
use Rattle.packed_core.proofs.domain.PackedDomain.passed.Goals as goal

pub returns-clause-row : goal.returns-clause-row
returns-clause-row g c =
    let plan : JobPlan = g.J.Job.plan in
    let k : ℕ = c.args.views.now.part in
    let step : StepPlan = c.args.step.now in
    let old : List ℕ = c.args.row.items in
    let new : List ℕ = c.clear.new.row in
    let here : Room = room_at plan k in
    let same : c.as_mut_slice.result.now ≡ old = c.as_mut_slice.ensures.value in
    let many : length new ≡ c.args.row.len = omega (arith, c.clear.auto.row, c.as_mut_slice.ensures.len) in
    let room : c.views.inside.room ≡ here = c.views.invariant.roomed ∙ ap (room_at plan) (ap (λ (v : Views). v.part) c.views.view_is) in
    let next : c.next_bit.result ≡ here.job + here.passed + 1 = c.next_bit.ensures ∙ ap (λ (r : Room). r.job + r.passed + 1) room in
    let own : length c.as_slice.result.now ≡ length step.tests.items = ap length c.as_slice.ensures.value in
    let size : length new ≡ length old = omega (arith, many, c.as_mut_slice.ensures.len, ap length same) in
    subst (IsRow (room_at plan (k + 1))) (sym (written new (drop (length new) old) c.args.row.len many))
    (cleared_row plan k step c.requires.step.0 c.requires.step.1 old new
    (λ i low high. c.clear.ensures.cleared i (omega (arith, next, low)) (omega (arith, next, own, high)))
    (λ i below. c.clear.ensures.before i (omega (arith, next, below)) ∙ ap (λ (l : List ℕ). bit l i) same)
    (λ i above. c.clear.ensures.after i (omega (arith, next, own, above)) ∙ ap (λ (l : List ℕ). bit l i) same)
    c.requires.row size c.clear.ensures.within)

pub returns-clause-passed : goal.returns-clause-passed
returns-clause-passed g c scene =
    let plan : JobPlan = g.J.Job.plan in
    let k : ℕ = c.args.views.now.part in
    let step : StepPlan = c.args.step.now in
    let old : List ℕ = c.args.row.items in
    let new : List ℕ = c.clear.new.row in
    let here : Room = room_at plan k in
    let same : c.as_mut_slice.result.now ≡ old = c.as_mut_slice.ensures.value in
    let many : length new ≡ c.args.row.len = omega (arith, c.clear.auto.row, c.as_mut_slice.ensures.len) in
    let room : c.views.inside.room ≡ here = c.views.invariant.roomed ∙ ap (room_at plan) (ap (λ (v : Views). v.part) c.views.view_is) in
    let next : c.next_bit.result ≡ here.job + here.passed + 1 = c.next_bit.ensures ∙ ap (λ (r : Room). r.job + r.passed + 1) room in
    let own : length c.as_slice.result.now ≡ length step.tests.items = ap length c.as_slice.ensures.value in
    let before : (i : ℕ) → i < here.job + here.passed + 1 → bit new i ≡ bit old i =
    λ i below. c.clear.ensures.before i (omega (arith, next, below)) ∙ ap (λ (l : List ℕ). bit l i) same in
    subst (IsPassed plan step k (row_shows plan k scene old)) (sym (written new (drop (length new) old) c.args.row.len many))
    (record {
      abended = before 0 (omega arith);
      met = cleared_met plan k step c.requires.step.0 c.requires.step.1 old new
          (λ i low high. c.clear.ensures.cleared i (omega (arith, next, low)) (omega (arith, next, own, high)))
          before
          (λ i above. c.clear.ensures.after i (omega (arith, next, own, above)) ∙ ap (λ (l : List ℕ). bit l i) same);
    })
