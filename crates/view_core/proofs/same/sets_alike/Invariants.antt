use Rattle.std.proofs.Common.{◌≡◌, Some}
use Rattle.jcl_meaning.specs.Stores.{set_in}
use Rattle.seen_store.specs.Listing.{sets_of}
use Rattle.view_core.specs.Same.{set_alike}
use Rattle.view_core.proofs.Beside.{LeftBeside}
use Rattle.view_core.proofs.same.sets_alike.Given as goal

abbrev pub invariant-loop-x : goal.invariant-loop-x
invariant-loop-x l =
    (goal.iterator-loop-x).can_next l.xs × (goal.iterator-loop-x).is_finite l.xs
    × LeftBeside (λ x. set_alike l.names l.date l.a l.b x.key x.serial) (λ x. set_in l.a.sets x.key x.serial ≡ Some x.set)
    (λ y. set_in l.b.sets y.key y.serial ≡ Some y.set) l.a.sets l.b.sets (sets_of l.xs) (sets_of l.ys)
