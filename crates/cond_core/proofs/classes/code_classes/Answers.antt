use Rattle.std.proofs.Common.{◌≤◌, All}
use Rattle.std.specs.List.Sorted.{IsStrictlyIncreasing}
use Rattle.std.proofs.lemmas.List.Filters.{All-dedup, dedup_is}
use Rattle.std.proofs.lemmas.List.Kept.{Contains-dedup_nat, Contains-from_dedup}
use Rattle.std.proofs.lemmas.List.Sorted.{All-permutation, Contains-permutation, IsPermutation-sym}
use Rattle.std.proofs.lemmas.Map.Keys.{IsStrictlyIncreasing-dedup}
use Rattle.cond_core.specs.Classes.{AreClasses}
use Rattle.cond_core.proofs.Intervals.{classes_of_starts}
use Rattle.cond_core.proofs.classes.code_classes.Goals as goal

made : (c : goal.After-dedup) → AreClasses c.args.tests.now c.dedup.new.self.items
made c =
    let is = dedup_is _ _ _ c.dedup.ensures.filtered in
    let moved = c.sort_unstable.ensures.permutation in
    let items = c.in_ok-representatives.ensures.items in
    let rise : IsStrictlyIncreasing c.dedup.new.self.items = rw is (IsStrictlyIncreasing-dedup _ c.sort_unstable.ensures.sorted) in
    let codes : All (λ r. r ≤ 4095) c.dedup.new.self.items = rw is (All-dedup _ (λ r. r ≤ 4095) _ (All-permutation (λ r. r ≤ 4095) _ _ moved
    c.in_ok-representatives.ensures.codes)) in
    classes_of_starts c.args.tests.now c.dedup.new.self.items rise
    (λ x h. rw is (Contains-dedup_nat _ x (Contains-permutation _ _ x moved (rw items h))))
    (λ x h. rw items at (Contains-permutation _ _ x (IsPermutation-sym _ _ moved) (Contains-from_dedup _ _ x (rw is at h))))
    codes

pub invariant_of-result : goal.invariant_of-result
invariant_of-result c = let m = made c in (m.begin_at_zero, m.rise)

pub returns : goal.returns
returns c = made c
