-- Ranks in their order.
use Rattle.std.proofs.Common.{◌≡◌, ◌≤◌, ℕ, true, false, refl, sym, ap, ◌∙◌, arith}
use Rattle.std.specs.declared.cmp.Ordering.{Ordering}
use Rattle.std.specs.declared.cmp.Ordering.TheVariants.{Less, Equal, Greater}
use Rattle.std.specs.BTreeMap.{is_at}
use Rattle.std.specs.Cmp.{IsTotalOrder}
use Rattle.std.specs.Ordering.{is_eq, is_gt, nat_cmp, ordering_then}
use Rattle.std.proofs.lemmas.Bool.Decides.{nat_tests}
use Rattle.std.proofs.lemmas.Cmp.{back_total, nat_cmp_total, on_total, then_total, tied_itself}
use Rattle.std.proofs.lemmas.Map.Lookups.{exact_unsigned}
use Rattle.queue_core.specs.declared.queue.Rank.{Rank}
use Rattle.queue_core.specs.Ranks.{rank_cmp}
use Rattle.queue_core.proofs.Numbered.{from_is_eq}

pub rank_total : IsTotalOrder rank_cmp
rank_total =
    then_total (on_total (λ (r : Rank). r.class) nat_cmp_total)
    (then_total (back_total (on_total (λ (r : Rank). r.priority.0) nat_cmp_total))
    (then_total (on_total (λ (r : Rank). r.job) nat_cmp_total) (on_total (λ (r : Rank). r.jct) nat_cmp_total)))

then_equal_left : (a b : Ordering) → ordering_then a b ≡ Equal → a ≡ Equal
then_equal_left Less b e = cc
then_equal_left Equal b e = refl
then_equal_left Greater b e = cc

then_equal_right : (a b : Ordering) → ordering_then a b ≡ Equal → b ≡ Equal
then_equal_right Less b e = cc
then_equal_right Equal b e = e
then_equal_right Greater b e = cc

-- how two ranks of a class stand, and two of a class and a priority
abbrev by_job : Rank → Rank → Ordering
by_job a b = ordering_then (nat_cmp a.job b.job) (nat_cmp a.jct b.jct)

abbrev by_priority : Rank → Rank → Ordering
by_priority a b = ordering_then (nat_cmp b.priority.0 a.priority.0) (by_job a b)

-- ranks that stand at one place are one
pub rank_exact : (a b : Rank) → rank_cmp a b ≡ Equal → a ≡ b
rank_exact a b e =
    let rest = then_equal_right (nat_cmp a.class b.class) (by_priority a b) e in
    let last = then_equal_right (nat_cmp b.priority.0 a.priority.0) (by_job a b) rest in
    let class = exact_unsigned a.class b.class (then_equal_left (nat_cmp a.class b.class) (by_priority a b) e) in
    let priority = exact_unsigned b.priority.0 a.priority.0 (then_equal_left (nat_cmp b.priority.0 a.priority.0) (by_job a b) rest) in
    let job = exact_unsigned a.job b.job (then_equal_left (nat_cmp a.job b.job) (nat_cmp a.jct b.jct) last) in
    let jct = exact_unsigned a.jct b.jct (then_equal_right (nat_cmp a.job b.job) (nat_cmp a.jct b.jct) last) in
    λ i. record { class = class i; priority = record { 0 = sym priority i }; job = job i; jct = jct i }

pub rank_at : (a b : Rank) → is_at (rank_cmp a) b ≡ true → a ≡ b
rank_at a b e = rank_exact a b (from_is_eq (rank_cmp a b) e)

pub at_itself : (a : Rank) → is_at (rank_cmp a) a ≡ true
at_itself a = ap is_eq (tied_itself rank_total a)

cmp_same : (a b : ℕ) → a ≡ b → nat_cmp a b ≡ Equal
cmp_same a b e = grind (arith, nat_tests)

not_gt : (a b : ℕ) → is_gt (nat_cmp a b) ≡ false → a ≤ b
not_gt a b e = grind (arith, nat_tests)

gt_then : (a b : Ordering) → is_gt (ordering_then a b) ≡ false → is_gt a ≡ false
gt_then Less b e = refl
gt_then Equal b e = refl
gt_then Greater b e = e

pub class_upto : (a b : Rank) → is_gt (rank_cmp a b) ≡ false → a.class ≤ b.class
class_upto a b h = not_gt a.class b.class (gt_then (nat_cmp a.class b.class) (by_priority a b) h)

-- the rank that stands first has the highest priority, and of these the lowest number
pub first_priority : (a b : Rank) → a.class ≡ b.class → is_gt (rank_cmp a b) ≡ false → b.priority.0 ≤ a.priority.0
first_priority a b c h =
    let rest : is_gt (by_priority a b) ≡ false = ap (λ o. is_gt (ordering_then o (by_priority a b))) (sym (cmp_same a.class b.class c)) ∙ h in
    not_gt b.priority.0 a.priority.0 (gt_then (nat_cmp b.priority.0 a.priority.0) (by_job a b) rest)

pub first_job : (a b : Rank) → a.class ≡ b.class → b.priority.0 ≡ a.priority.0 → is_gt (rank_cmp a b) ≡ false → a.job ≤ b.job
first_job a b c p h =
    let rest : is_gt (by_priority a b) ≡ false = ap (λ o. is_gt (ordering_then o (by_priority a b))) (sym (cmp_same a.class b.class c)) ∙ h in
    let last : is_gt (by_job a b) ≡ false = ap (λ o. is_gt (ordering_then o (by_job a b))) (sym (cmp_same b.priority.0 a.priority.0 p)) ∙ rest in
    not_gt a.job b.job (gt_then (nat_cmp a.job b.job) (nat_cmp a.jct b.jct) last)

-- the lowest rank that a class may have stands before all others of it
pub lowest_first : (class : ℕ) (r : Rank) → r.priority.0 ≤ 255 → r.class ≡ class →
    is_gt (rank_cmp (record { class = class; priority = record { 0 = 255 }; job = 0; jct = 0 }) r) ≡ false
lowest_first class r most same = rw (cmp_same class r.class (sym same)) (by_rest r.priority.0 r.job r.jct most)
  where
    by_rest : (p j n : ℕ) → p ≤ 255 → is_gt (ordering_then (nat_cmp p 255) (ordering_then (nat_cmp 0 j) (nat_cmp 0 n))) ≡ false
    by_rest p j n h = grind (arith, nat_tests)
