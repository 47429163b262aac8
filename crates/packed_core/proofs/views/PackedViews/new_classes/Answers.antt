use Rattle.std.proofs.Common.{◌≡◌, ◌∙◌, ◌+◌, ℕ, List, ap, drop, length, sym}
use Rattle.jcl_plan.specs.declared.plan.JobPlan.{JobPlan}
use Rattle.jcl_plan.specs.declared.plan.Test.{Test}
use Rattle.packed_core.specs.declared.room.Room.{Room}
use Rattle.packed_core.specs.Rooms.{room_at}
use Rattle.packed_core.specs.Views.{Views}
use Rattle.packed_core.proofs.Passing.{kept_length}
use Rattle.packed_core.proofs.views.PackedViews.new_classes.Goals as goal

pub classes_of-requires-clause-kept : goal.classes_of-requires-clause-kept
classes_of-requires-clause-kept g c =
    let plan : JobPlan = g.J.Job.plan in
    let k : ℕ = c.args.self.now.part in
    let room : c.self.inside.room ≡ room_at plan k = c.self.invariant.roomed ∙ ap (room_at plan) (ap (λ (v : Views). v.part) c.self.view_is) in
    ap (λ (ts : List Test). length ts) c.requires.kept ∙ kept_length plan.tests.items (drop k plan.steps) ∙ sym (ap (λ (r : Room). r.job + r.left) room)
