-- One want is the first in conflict, and one job its lowest holder.
use Rattle.std.proofs.Common.{◌≡◌, ◌≤◌, ◌⊎◌, inl, inr, ℕ, Bool, true, false, List, [], ◌∷◌, All, arith, sym, ap, ◌∙◌, subst}
use Rattle.std.specs.Prelude.{◌&&◌, ◌==◌}
use Rattle.std.specs.List.{list_any}
use Rattle.std.proofs.lemmas.Bool.{and_parts, both_ways, cases_Bool, eqb-true, or_cases}
use Rattle.std.proofs.lemmas.List.Elements.{All-head, All-tail, All-weaker}
use Rattle.enq_core.specs.declared.table.Blocked.{Blocked}
use Rattle.enq_core.specs.declared.table.Hold.{Hold}
use Rattle.enq_core.specs.declared.table.Want.{Want}
use Rattle.enq_core.specs.Holds.{IsFirstBlock, conflicts, is_blocked}
use Rattle.law_core.proofs.Elements.{none_passes}
use Rattle.event_laws.proofs.Splits.{none_split, one_split}

-- what follows from each hold that passes follows where one does
by_some : {R : Type 0} (p : Hold → Bool) (holds : List Hold) → list_any p holds ≡ true → All (λ h. p h ≡ true → R) holds → R
by_some p [] some each = absurd cc
by_some {R = R} p (h ∷ hs) some each = by_place (or_cases (p h) (list_any p hs) some) (λ e. by_some p hs e (All-tail (λ x. p x ≡ true → R) h hs each))
  where
    by_place : (p h ≡ true) ⊎ (list_any p hs ≡ true) → (list_any p hs ≡ true → R) → R
    by_place (inl here) later = All-head (λ x. p x ≡ true → R) h hs each here
    by_place (inr there) later = later there

module _ (holds : List Hold) (wants : List Want) where
  abbrev IsFree : Want → Type 0
  IsFree want = is_blocked holds want ≡ false

  abbrev IsHeld : Want → Type 0
  IsHeld want = is_blocked holds want ≡ true

  clash : (want : Want) → IsFree want → IsHeld want → ⊥
  clash want free held = both_ways (is_blocked holds want) free held

  abbrev holds_it : Want → ℕ → Hold → Bool
  holds_it want job h = conflicts want h && h.job == job

  is_held : (by : Blocked) (b : IsFirstBlock holds wants by) → IsHeld b.want
  is_held by b = by_test (cases_Bool (is_blocked holds b.want))
    where
      by_test : (is_blocked holds b.want ≡ true) ⊎ (is_blocked holds b.want ≡ false) → IsHeld b.want
      by_test (inl e) = e
      by_test (inr e) =
          absurd (by_some (holds_it b.want by.job) holds b.holder
          (All-weaker (λ h. conflicts b.want h ≡ false) (λ h. holds_it b.want by.job h ≡ true → ⊥)
          (λ h not_it it. both_ways (conflicts b.want h) not_it (and_parts (conflicts b.want h) (h.job == by.job) it).0) holds
          (none_passes (conflicts b.want) holds e)))

  lowest_of : (want : Want) (i j : ℕ) → All (λ h. conflicts want h ≡ true → i ≤ h.job) holds → list_any (holds_it want j) holds ≡ true → i ≤ j
  lowest_of want i j lowest some =
      by_some (holds_it want j) holds some
      (All-weaker (λ h. conflicts want h ≡ true → i ≤ h.job) (λ h. holds_it want j h ≡ true → i ≤ j)
      (λ h low it. subst (λ (n : ℕ). i ≤ n) (eqb-true h.job j (and_parts (conflicts want h) (h.job == j) it).1)
      (low (and_parts (conflicts want h) (h.job == j) it).0)) holds lowest)

  pub none_blocked : (by : Blocked) → All (λ want. is_blocked holds want ≡ false) wants → IsFirstBlock holds wants by → ⊥
  none_blocked by free b = none_split IsFree IsHeld clash wants b.before b.behind b.want b.stands free (is_held by b)

  pub one_block : (by other : Blocked) → IsFirstBlock holds wants by → IsFirstBlock holds wants other → by ≡ other
  one_block by other b d =
      let one : b.want ≡ d.want = (one_split IsFree IsHeld clash b.before d.before b.behind d.behind b.want d.want (sym b.stands ∙ d.stands) b.free d.free
      (is_held by b) (is_held other d)).1 in
      let up : by.job ≤ other.job =
      lowest_of b.want by.job other.job b.lowest (subst (λ (w : Want). list_any (holds_it w other.job) holds ≡ true) (sym one) d.holder) in
      let down : other.job ≤ by.job =
      lowest_of d.want other.job by.job d.lowest (subst (λ (w : Want). list_any (holds_it w by.job) holds ≡ true) one b.holder) in
      let jobs : by.job ≡ other.job = omega (arith, up, down) in
      let names : by.name ≡ other.name = sym b.name ∙ ap (λ (w : Want). w.name) one ∙ d.name in
      λ i. record { job = jobs i; name = names i }
