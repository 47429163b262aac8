-- At a turn of a job that is not assured then nothing is kept that was not.
use Rattle.std.proofs.Common.{◌≡◌, ◌==◌, ℕ, false, not, List, Option, refl, ap, ◌∙◌, subst}
use Rattle.std.specs.List.{Contains, list_any}
use Rattle.std.proofs.lemmas.Bool.{both_ways}
use Rattle.jcl_plan.specs.declared.entry.JobLine.{JobLine}
use Rattle.jcl_plan.specs.declared.plan.JobPlan.{JobPlan}
use Rattle.jcl_meaning.specs.declared.state.Own.{Own}
use Rattle.jcl_meaning.specs.declared.state.Place.{Place}
use Rattle.jcl_meaning.specs.States.{Fixed}
use Rattle.world_meaning.specs.Admissions.{Answered, MayFail}
use Rattle.world_meaning.specs.Admissions as admission
use Rattle.world_meaning.specs.Choices.{choice_of_going}
use Rattle.world_meaning.specs.Holdings.{Holds, ReadsRecords}
use Rattle.world_meaning.specs.Holdings as holding
use Rattle.world_meaning.specs.Tracks.{is_kept_for, kept_unless_made, kept_without}
use Rattle.world_meaning.specs.Transitions.{GoesOn}
use Rattle.world_meaning.specs.Turns.{Advances}
use Rattle.world_meaning.specs.Worlds.{Admission, Admitted, Config, Kept, Named, Running, Selected, Shared, Stage, Wanting}
use Rattle.keep_laws.specs.Keeping.{AssuresNone, KeepsNoMore, begins_assured}
use Rattle.keep_laws.proofs.Elements.{was_there}

abbrev pub kept_by : Shared → List ℕ → List Kept
kept_by s = s.kept

module _ (old : List ℕ → List Kept) where
  pub as_was : (new : List ℕ → List Kept) → new ≡ old → KeepsNoMore old new
  as_was new same serial k h = subst (λ (kept : List ℕ → List Kept). Contains (kept serial) k) same h

  -- what is kept for a job, or what it made sets of, is left out
  pub without : (job : ℕ) (new : List ℕ → List Kept) → new ≡ kept_without old job → KeepsNoMore old new
  without job new same serial k h =
      was_there (λ (x : Kept). not (x.job == job)) (old serial) k (subst (λ (kept : List ℕ → List Kept). Contains (kept serial) k) same h)

  unless_made : (job : ℕ) (made : List Place) (new : List ℕ → List Kept) → new ≡ kept_unless_made old job made → KeepsNoMore old new
  unless_made job made new same serial k h =
      was_there (λ (x : Kept). not (list_any (λ p. is_kept_for job p serial x) made)) (old serial) k
      (subst (λ (kept : List ℕ → List Kept). Contains (kept serial) k) same h)

-- a turn of a job
module _ (c : Config) (old new : Shared) (r : Running) (lines : List JobLine) (runs : Option Running) where
  abbrev NoMore : Type 0
  NoMore = KeepsNoMore old.kept new.kept

  same_shared : (at : Shared) → new ≡ at → at.kept ≡ old.kept → NoMore
  same_shared at is same = as_was old.kept new.kept (ap kept_by is ∙ same)

  holds_no_more : (plan : JobPlan) → Holds old r plan lines new runs → NoMore
  holds_no_more plan (holding.held free told same goes) = same_shared _ same refl
  holds_no_more plan (holding.blocked by first told same goes) = same_shared _ same refl

  reads_no_more : (first : ℕ) → ReadsRecords c old r first lines new runs → NoMore
  reads_no_more first (holding.broken n free fault told same conserves none) = without old.kept r.job new.kept (ap kept_by same)
  reads_no_more first (holding.read plan behind denoted holds) = holds_no_more plan holds

  may_fail_no_more : (plan : JobPlan) (fixed : Fixed) (told : JobLine) → MayFail c old r plan fixed told lines new runs → NoMore
  may_fail_no_more plan fixed told (admission.risky refuses is same goes) = same_shared _ same refl
  may_fail_no_more plan fixed told (admission.refused free refuses is same conserves none) = without old.kept r.job new.kept (ap kept_by same)

  answered_no_more : (plan : JobPlan) (fixed : Fixed) → begins_assured lines ≡ false → Answered c old r plan fixed lines new runs → NoMore
  answered_no_more plan fixed none (admission.assured made kept free safe are_made are others told same conserves goes) =
      absurd (both_ways (begins_assured lines) none (ap begins_assured told))
  answered_no_more plan fixed none (admission.no_space serial there told same goes) = same_shared _ same refl
  answered_no_more plan fixed none (admission.risk fault step dd path meets fails) = may_fail_no_more plan fixed _ fails
  answered_no_more plan fixed none (admission.too_many step from to views fails) = may_fail_no_more plan fixed _ fails

  advances_no_more : (plan : JobPlan) (a : Admission) (count : ℕ) (own : Own) → Advances c old r plan a count own lines new runs → NoMore
  advances_no_more plan a count own (Advances.waits x growth primary is waits told same stays) = same_shared _ same refl
  advances_no_more plan a count own (Advances.acts x growth primary free is granted goes goes_on told left conserves stays) =
      unless_made old.kept r.job x.done.made new.kept (ap kept_by left)
  advances_no_more plan a count own (Advances.ends x growth primary free is granted goes over told left conserves none) =
      λ serial k h. unless_made old.kept r.job x.done.made (kept_unless_made old.kept r.job x.done.made) refl serial k
      (without (kept_unless_made old.kept r.job x.done.made) r.job new.kept (ap kept_by left) serial k h)

  pub goes_no_more : (stage : Stage) (g : GoesOn c old r stage lines new runs) → AssuresNone (choice_of_going c old r stage lines new runs g) → NoMore
  goes_no_more (Selected first) g none = reads_no_more first g
  goes_no_more (Wanting plan) g none = holds_no_more plan g
  goes_no_more (Named plan) g none = answered_no_more plan _ none g.answers
  goes_no_more (Admitted plan a count own) g none = advances_no_more plan a count own g
