use Rattle.std.proofs.Common.{◌≡◌, ◌<◌, ℕ, Some}
use Rattle.std.specs.Prelude.{slice_get}
use Rattle.view_core.specs.declared.scene.Scene.{Scene}
use Rattle.packed_core.specs.Shown.{alone}
use Rattle.packed_core.proofs.domain.PackedDomain.number_of.Given as goal

abbrev pub invariant-loop-n : goal.invariant-loop-n
invariant-loop-n g l = (i : ℕ) (w : Scene) → i < l.n → slice_get l.views.scenes i ≡ Some w →
    alone g.J.Job.plan g.J.Job.fixed.date l.views.part w ≡ alone g.J.Job.plan g.J.Job.fixed.date l.views.part l.scene → ⊥
