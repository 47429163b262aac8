-- The listings of the jobs that wait, by their numbers.
use Rattle.std.proofs.Common.{◌≡◌, ◌≢◌, ◌<◌, ◌==◌, ◌||◌, Bool, true, false, ℕ, zero, suc, List, [], ◌∷◌, ◌++◌, Option, Some, None, Result, Ok, Err, arith, ap, ◌∙◌, sym, refl}
use Rattle.std.specs.Prelude.{All, IfNone, IfSome, OnErr, filter, is_some}
use Rattle.std.specs.declared.alloc.AllocError.{AllocError}
use Rattle.std.specs.BTreeMap.{BTreeMap, IsOrdered, get, insert_entry, is_at, values}
use Rattle.std.specs.List.{Contains, list_any}
use Rattle.std.specs.Map.{lookup, remove_entry, set_value, values_of}
use Rattle.std.specs.Ordering.{nat_cmp}
use Rattle.std.proofs.lemmas.Bool.{eq-eqb, ne_eqb}
use Rattle.std.proofs.lemmas.Cmp.{eq_by_cmp_equiv, nat_cmp_total}
use Rattle.std.proofs.lemmas.List.Elements.{All-push, All-same, All-weaker}
use Rattle.std.proofs.lemmas.List.Folds.{list_any_none}
use Rattle.std.proofs.lemmas.Map.Keys.{IsDistinct-from_sorted}
use Rattle.std.proofs.lemmas.Map.Views.{All-values_from_lookup}
use Rattle.jcl_plan.specs.declared.entry.JobLine.{JobLine}
use Rattle.queue_core.proofs.Numbered.{All-removed, below_all, entered_last, found_set, numbered_at, other_than, removed_set, set_same, value_found, values_last, without_job}
use Rattle.queued_job.specs.declared.backlog.Listing.{Listing}
use Rattle.queued_job.specs.Backlogs.{AreListings, IsListingOf, IsNumbered, IsTakenWith, IsTold, told}

abbrev pub number_of : Listing → ℕ
number_of l = l.job

if_some : {X : Type 0} (P : X → Type 0) (o : Option X) → ((x : X) → o ≡ Some x → P x) → IfSome o P
if_some P None h = tt
if_some P (Some x) h = h x refl

not_some : (o : Option Listing) (x : Listing) → o ≡ None → o ≡ Some x → ⊥
not_some o x n s = cc

or_true : (b : Bool) → (b || true) ≡ true
or_true true = refl
or_true false = refl

-- a listing that stands there is found by its job's number
any_listed : (ls : List Listing) (l : Listing) (job : ℕ) → Contains ls l → l.job ≡ job → list_any (λ x. x.job == job) ls ≡ true
any_listed [] l job c same = absurd (omega (arith, c.1))
any_listed (x ∷ ls) l job (zero, within, is) same = ap (λ b. b || list_any (λ (y : Listing). y.job == job) ls) (eq-eqb x.job job (ap number_of is ∙ same))
any_listed (x ∷ ls) l job (suc k, within, is) same =
    ap (λ b. (x.job == job) || b) (any_listed ls l job (k, omega (arith, within), is) same) ∙ or_true (x.job == job)

none_listed : (ls : List Listing) (job : ℕ) → All (λ x. x.job ≢ job) ls → list_any (λ x. x.job == job) ls ≡ false
none_listed ls job none =
    list_any_none (λ (x : Listing). x.job == job) ls (All-weaker (λ x. x.job ≢ job) (λ x. (x.job == job) ≡ false) (λ x apart. ne_eqb x.job job apart) ls none)

module _ (m : BTreeMap ℕ Listing) (h : AreListings m) where
  entries_more : (n : BTreeMap ℕ Listing) (l : Listing) → All (λ x. x.job < l.job) (values m) → n.entries ≡ insert_entry nat_cmp m.entries l.job l → n.entries ≡ m.entries ++ (l.job, l) ∷ []
  entries_more n l later is = is ∙ entered_last m.entries l.job l (below_all number_of l.job m.entries later h.numbered)

  pub entered : (n : BTreeMap ℕ Listing) (l : Listing) → All (λ x. x.job < l.job) (values m) → n.entries ≡ insert_entry nat_cmp m.entries l.job l → IsOrdered nat_cmp n → AreListings n
  entered n l later is ordered = record {
    ordered = ordered;
    numbered = All-same IsNumbered n.entries (m.entries ++ (l.job, l) ∷ []) (entries_more n l later is) (All-push IsNumbered m.entries (l.job, l) h.numbered refl);
  }

  pub entered_values : (n : BTreeMap ℕ Listing) (l : Listing) → All (λ x. x.job < l.job) (values m) → n.entries ≡ insert_entry nat_cmp m.entries l.job l → values n ≡ values m ++ l ∷ []
  entered_values n l later is = ap values_of (entries_more n l later is) ∙ values_last m.entries l.job l

  pub taken : (n : BTreeMap ℕ Listing) (job : ℕ) → n.entries ≡ remove_entry (is_at (nat_cmp job)) m.entries → IsOrdered nat_cmp n → AreListings n
  taken n job is ordered = record {
    ordered = ordered;
    numbered = All-same IsNumbered n.entries (remove_entry (is_at (nat_cmp job)) m.entries) is (All-removed IsNumbered (is_at (nat_cmp job)) m.entries h.numbered);
  }

  pub taken_values : (n : BTreeMap ℕ Listing) (job : ℕ) → n.entries ≡ remove_entry (is_at (nat_cmp job)) m.entries → values n ≡ filter (other_than number_of job) (values m)
  taken_values n job is = ap values_of is ∙ without_job number_of job m.entries h.ordered h.numbered

  pub of_job : (job : ℕ) → IfSome (get nat_cmp m job) (IsListingOf (values m) job)
  of_job job = if_some (IsListingOf (values m) job) (get nat_cmp m job) (λ l e. (value_found m job l e, numbered_at number_of m job l h.numbered e))

  none_left : (job : ℕ) → get nat_cmp m job ≡ None → All (λ x. x.job ≢ job) (values m)
  none_left job none = All-values_from_lookup (eq_by_cmp_equiv nat_cmp_total) (λ x. x.job ≢ job) m.entries (IsDistinct-from_sorted nat_cmp _ h.ordered)
      (λ k. if_some (λ x. x.job ≢ job) (get nat_cmp m k)
      (λ l e same. not_some (get nat_cmp m k) l (ap (get nat_cmp m) (sym (numbered_at number_of m k l h.numbered e) ∙ same) ∙ none) e))

  pub of_none : (job : ℕ) → IfNone (get nat_cmp m job) (All (λ x. x.job ≢ job) (values m))
  of_none job = by (get nat_cmp m job) refl
    where
      by : (o : Option Listing) → get nat_cmp m job ≡ o → IfNone o (All (λ x. x.job ≢ job) (values m))
      by None e = none_left job e
      by (Some l) e = tt

  pub has_listing : (job : ℕ) → is_some (get nat_cmp m job) ≡ list_any (λ x. x.job == job) (values m)
  has_listing job = by (get nat_cmp m job) refl
    where
      by : (o : Option Listing) → get nat_cmp m job ≡ o → is_some (get nat_cmp m job) ≡ list_any (λ x. x.job == job) (values m)
      by None e = ap is_some e ∙ sym (none_listed (values m) job (none_left job e))
      by (Some l) e = ap is_some e ∙ sym (any_listed (values m) l job (value_found m job l e) (numbered_at number_of m job l h.numbered e))

  -- the listing of a number is taken out with a line more
  module _ (job : ℕ) (line : JobLine) (mid : BTreeMap ℕ Listing) (told_is : IsTold m job line mid) where
    abbrev by_number : ℕ → Bool
    by_number = is_at (nat_cmp job)

    pub entries_left : remove_entry by_number mid.entries ≡ remove_entry by_number m.entries
    entries_left = by (get nat_cmp m job) refl
      where
        by : (o : Option Listing) → get nat_cmp m job ≡ o → remove_entry by_number mid.entries ≡ remove_entry by_number m.entries
        by None e = ap (remove_entry by_number) (told_is.absent e)
        by (Some l) e = ap (remove_entry by_number) (told_is.there l e) ∙ removed_set by_number m.entries (told l line)

    pub is_taken : (o : Option Listing) → o ≡ get nat_cmp mid job → IsTakenWith (values m) job line o
    is_taken o e = by (get nat_cmp m job) refl
      where
        same_some : (x y : Listing) → Some x ≡ Some y → x ≡ y
        same_some x y i = cc

        absent : (o : Option Listing) → o ≡ None → All (λ l. l.job ≢ job) (values m) → IsTakenWith (values m) job line o
        absent None e none = none
        absent (Some l) e none = cc

        there : (o : Option Listing) (l : Listing) → o ≡ Some (told l line) → IsListingOf (values m) job l → IsTakenWith (values m) job line o
        there None l e its = cc
        there (Some taken) l e its = (l, its, same_some taken (told l line) e)

        by : (was : Option Listing) → get nat_cmp m job ≡ was → IsTakenWith (values m) job line o
        by None w = absent o (e ∙ (ap (lookup by_number) (told_is.absent w) ∙ w)) (none_left job w)
        by (Some l) w = there o l (e ∙ (ap (lookup by_number) (told_is.there l w) ∙ found_set by_number m.entries l (told l line) w))
            (value_found m job l w, numbered_at number_of m job l h.numbered w)

-- a line that was not written changes nothing
pub not_told : (m : BTreeMap ℕ Listing) (es : List (ℕ × Listing)) (job : ℕ) (l : Listing) (lines : List JobLine) (r : Result (Unit {0}) AllocError) →
    get nat_cmp m job ≡ Some l → es ≡ set_value (is_at (nat_cmp job)) m.entries (record l { lines = lines }) → OnErr r (lines ≡ l.lines) → OnErr r (es ≡ m.entries)
not_told m es job l lines (Ok done) found is h = tt
not_told m es job l lines (Err error) found is h =
    is ∙ ap (λ (ls : List JobLine). set_value (is_at (nat_cmp job)) m.entries (record l { lines = ls })) h ∙ set_same (is_at (nat_cmp job)) m.entries l found
