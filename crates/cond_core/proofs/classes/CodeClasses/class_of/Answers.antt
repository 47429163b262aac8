use Rattle.std.proofs.Common.{◌≡◌, ◌-◌, ℕ, List, Some, slice_get, get_or, leb, rules, subst}
use Rattle.std.specs.List.Sorted.{IsStrictlyIncreasing}
use Rattle.std.proofs.lemmas.List.Sorted.{IsPartitionPoint-from_clause}
use Rattle.cond_core.specs.Classes.{IsInClass}
use Rattle.cond_core.proofs.Intervals.{found_class, parted, some_below}
use Rattle.cond_core.proofs.classes.CodeClasses.class_of.Goals as goal

pub overflow_sub-above : goal.overflow_sub-above
overflow_sub-above c =
    let begins : slice_get c.deref.result.now 0 ≡ Some 0 = rw c.deref.ensures.value c.self.invariant.0 in
    let rise : IsStrictlyIncreasing c.deref.result.now = rw c.deref.ensures.value c.self.invariant.1 in
    let point = IsPartitionPoint-from_clause (λ r. leb r c.number-number.result) _ _ c.partition_point-above.ensures.partitioned (parted _
    c.number-number.result rise) (λ a r q k. search rules) in
    some_below _ c.number-number.result _ begins point

pub returns : goal.returns
returns c =
    let begins : slice_get c.deref.result.now 0 ≡ Some 0 = rw c.deref.ensures.value c.self.invariant.0 in
    let rise : IsStrictlyIncreasing c.deref.result.now = rw c.deref.ensures.value c.self.invariant.1 in
    let point = IsPartitionPoint-from_clause (λ r. leb r c.number-number.result) _ _ c.partition_point-above.ensures.partitioned (parted _
    c.number-number.result rise) (λ a r q k. search rules) in
    let some = some_below _ c.number-number.result _ begins point in
    let at : c.index.result.now ≡ get_or c.deref.result.now (c.partition_point-above.result - 1) c.index.result.now =
    rw c.deref.ensures.value c.index.ensures in
    let found : IsInClass c.deref.result.now c.index.result.now c.number-number.result =
    found_class _ c.number-number.result c.partition_point-above.result c.index.result.now c.number-number.ensures.range rise some
    c.partition_point-above.ensures.bound at point in
    let P : ℕ → Type 0 = λ code. IsInClass c.deref.result.now c.index.result.now code in
    let Q : List ℕ → Type 0 = λ reps. IsInClass reps c.index.result.now c.args.code in
    subst Q c.self.view_is (subst Q c.deref.ensures.value (subst P c.number-number.ensures.value found))
