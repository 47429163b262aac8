-- The first place of a job among the kept lists.
use Rattle.std.proofs.Common.{◌≡◌, ◌≤◌, ℕ, false, List, [], ◌∷◌, Option, Some, None, refl, sym, ap, subst, ◌∙◌, arith}
use Rattle.std.specs.Prelude.{IfSome, IsSome, is_some, slice_get}
use Rattle.std.specs.BTreeMap.{BTreeMap, get}
use Rattle.std.specs.BTreeMap.Range.{IsEntryInRange, IsLeBy, IsRangeOf}
use Rattle.std.specs.FinMap as map
use Rattle.std.specs.Ordering.{is_gt, nat_cmp, ordering_then}
use Rattle.std.specs.declared.cmp.Ordering.{Ordering}
use Rattle.std.specs.declared.cmp.Ordering.TheVariants.{Less, Equal, Greater}
use Rattle.std.specs.declared.ops.Bound.TheVariants.{Included, Unbounded}
use Rattle.std.proofs.lemmas.Bool.Decides.{nat_tests}
use Rattle.mount_core.specs.contracts.place.KeptPlaceOrd.TheImpl as ord
use Rattle.mount_core.specs.declared.place.KeptPlace.{KeptPlace}
use Rattle.mount_core.specs.Kept.{IsKeptFor, KeepsNoneFor, kept_of}
use Rattle.mount_core.proofs.KeptMaps.{Entry, get_place}
use Rattle.mount_core.proofs.Places.{order_is}

abbrev pub lowest_of : ℕ → KeptPlace
lowest_of job = record { job = job; step = 0; dd = 0 }

then_up : (a b : Ordering) → is_gt a ≡ false → is_gt b ≡ false → is_gt (ordering_then a b) ≡ false
then_up Less b h k = refl
then_up Equal b h k = k
then_up Greater b h k = h

up_then : (a b : Ordering) → is_gt (ordering_then a b) ≡ false → is_gt a ≡ false
up_then Less b h = refl
up_then Equal b h = refl
up_then Greater b h = h

from_none : (n : ℕ) → is_gt (nat_cmp 0 n) ≡ false
from_none n = grind (arith, nat_tests)

no_less : (a b : ℕ) → b ≡ a → is_gt (nat_cmp a b) ≡ false
no_less a b h = grind (arith, nat_tests)

not_gt : (a b : ℕ) → is_gt (nat_cmp a b) ≡ false → a ≤ b
not_gt a b h = grind (arith, nat_tests)

-- the places of a job stand from its lowest on, in the order of jobs
lowest_first : (job : ℕ) (at : KeptPlace) → at.job ≡ job → is_gt (ord.ghosts.cmp (lowest_of job) at) ≡ false
lowest_first job at h =
    ap is_gt (order_is (lowest_of job) at)
    ∙ then_up (nat_cmp job at.job) (ordering_then (nat_cmp 0 at.step) (nat_cmp 0 at.dd)) (no_less job at.job h)
    (then_up (nat_cmp 0 at.step) (nat_cmp 0 at.dd) (from_none at.step) (from_none at.dd))

job_upto : (a b : KeptPlace) → is_gt (ord.ghosts.cmp a b) ≡ false → a.job ≤ b.job
job_upto a b h =
    not_gt a.job b.job (up_then (nat_cmp a.job b.job) (ordering_then (nat_cmp a.step b.step) (nat_cmp a.dd b.dd)) (sym (ap is_gt (order_is a b)) ∙ h))

if_some : {X : Type 0} (P : X → Type 0) (o : Option X) (x : X) → IfSome o P → o ≡ Some x → P x
if_some P o x h e = subst (λ r. IfSome r P) e h

is_some_of : (o : Option Entry) (v : Entry) → o ≡ Some v → IsSome o
is_some_of o v e = ap is_some e

module _ (m : BTreeMap KeptPlace Entry) (job : ℕ) (part : List (KeptPlace × Entry)) (h : IsRangeOf ord.ghosts.cmp (Included (lowest_of job)) Unbounded m part) where
  none_unless : ((at : KeptPlace) → at.job ≡ job → IsSome (get ord.ghosts.cmp m at) → ⊥) → KeepsNoneFor (kept_of m.entries) job
  none_unless none = λ at same. get_place m.entries at ∙ by at same (get ord.ghosts.cmp m at) refl
    where
      by : (at : KeptPlace) → at.job ≡ job → (o : Option Entry) → get ord.ghosts.cmp m at ≡ o → o ≡ None
      by at same None e = refl
      by at same (Some v) e = absurd (none at same (is_some_of (get ord.ghosts.cmp m at) v e))

  pub none_in_range : part ≡ [] → KeepsNoneFor (kept_of m.entries) job
  none_in_range empty = λ at same. get_place m.entries at ∙ h.5 empty at (lowest_first job at same, tt)

  module _ (e : KeptPlace × Entry) (rest : List (KeptPlace × Entry)) (is : part ≡ e ∷ rest) where
    first_entry : IsEntryInRange ord.ghosts.cmp (Included (lowest_of job)) Unbounded m e
    first_entry =
        if_some (IsEntryInRange ord.ghosts.cmp (Included (lowest_of job)) Unbounded m) (slice_get part 0) e h.1 (ap (λ l. slice_get l 0) is)

    pub none_of_job : (e.0.job ≡ job → ⊥) → KeepsNoneFor (kept_of m.entries) job
    none_of_job other = none_unless (λ at same some. other (between at same
        (job_upto (lowest_of job) e.0 first_entry.0.0)
        (job_upto e.0 at (if_some (λ k. IsLeBy ord.ghosts.cmp k.0 at) (slice_get part 0) e (h.2 at (lowest_first job at same, tt) some) (ap (λ l. slice_get l 0) is)))))
      where
        between : (at : KeptPlace) → at.job ≡ job → job ≤ e.0.job → e.0.job ≤ at.job → e.0.job ≡ job
        between at same a b = omega arith

    pub its_first : e.0.job ≡ job → IsKeptFor (kept_of m.entries) job e.0
    its_first same = (same, is_some_of (map.get (kept_of m.entries) e.0) e.1 (get_place m.entries e.0 ∙ first_entry.1))
