use Rattle.std.proofs.Common.{◌≡◌, Some}
use Rattle.jcl_meaning.specs.Stores.{entry_in}
use Rattle.seen_store.specs.Listing.{entries_of}
use Rattle.view_core.specs.Same.{entry_alike}
use Rattle.view_core.proofs.Beside.{LeftBeside}
use Rattle.view_core.proofs.same.entries_alike.Given as goal

abbrev pub invariant-loop-x : goal.invariant-loop-x
invariant-loop-x l =
    (goal.iterator-loop-x).can_next l.xs × (goal.iterator-loop-x).is_finite l.xs
    × LeftBeside (λ x. entry_alike l.names l.a l.b x.name) (λ x. entry_in l.a.catalog x.name ≡ Some x.entry)
    (λ y. entry_in l.b.catalog y.name ≡ Some y.entry) l.a.catalog l.b.catalog (entries_of l.xs) (entries_of l.ys)
