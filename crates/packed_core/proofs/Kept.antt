-- What the packed domain says of the job that its type tells, it says of the job that it has.
use Rattle.std.proofs.Common.{◌≡◌, ◌∷◌, ◌∙◌, ◌<◌, ℕ, Bool, List, [], Some, get_or, length, map, subst, sym}
use Rattle.std.specs.Prelude.{Err, IfOk, Ok, OnOk, Result, slice_get}
use Rattle.std.proofs.lemmas.List.{get_or_default}
use Rattle.jcl_plan.specs.declared.plan.JobPlan.{JobPlan}
use Rattle.jcl_meaning.specs.Solo.{at_start, given}
use Rattle.jcl_meaning.specs.States.{Fixed}
use Rattle.jcl_meaning.specs.Stores.{Store}
use Rattle.jcl_meaning.specs.Views.{View, view_at}
use Rattle.view_domain.specs.declared.crossed.Crossed.{Crossed}
use Rattle.view_domain.specs.Crossings.{IsCrossed, IsPut}
use Rattle.view_core.proofs.Numbered.{at_map, ok_weaker}
use Rattle.packed_core.specs.Moving.{all_shown, shown_among}
use Rattle.packed_core.specs.Rows.{row_at}
use Rattle.packed_core.specs.Shown.{row_shown}
use Rattle.packed_core.specs.Views.{HasMoreScenes, Views}
use Rattle.packed_core.proofs.ShownRows.{rows_stay}

-- what follows where a call succeeds
pub ok_then : {T E : Type 0} (r : Result T E) (P Q : Type 0) → (P → Q) → OnOk r P → OnOk r Q
ok_then (Ok x) P Q f h = f h
ok_then (Err e) P Q f h = h

pub ok_both : {T E : Type 0} (r : Result T E) (P Q R : Type 0) → (P → Q → R) → OnOk r P → OnOk r Q → OnOk r R
ok_both (Ok x) P Q R f h g = f h g
ok_both (Err e) P Q R f h g = h

-- views mean the same among the same scenes
pub means_the_same : {V : Type 0} (row_of : V → List ℕ) (plan : JobPlan) (date : ℕ) (old new : Views) → new.part ≡ old.part → new.scenes ≡ old.scenes →
    let meaning : Views → V → View = λ views v. shown_among plan date views (row_of v) in meaning new ≡ meaning old
means_the_same row_of plan date old new part scenes = λ i v. row_shown plan date (part i) (scenes i) (row_of v)

-- rows show the same where scenes came behind the others
pub behind_stays : (plan : JobPlan) (date : ℕ) (old new : Views) → HasMoreScenes old new →
    ((n : ℕ) → n < length old.rows → get_or (row_at old.rows n) 0 0 < length old.scenes) → all_shown plan date new ≡ all_shown plan date old
behind_stays plan date old new more numbered =
    (λ i. map (row_shown plan date (more.part i) (more.scenes i)) (more.rows i)) ∙ rows_stay plan date old.part old.scenes more.more old.rows numbered

module _ {V E : Type 0} (row_of : V → List ℕ) (before behind : Views) (number part : ℕ) (r : Result (Crossed V) E) where
  abbrev LeadsOn : JobPlan → Fixed → Type 0
  LeadsOn plan fixed = IfOk r (λ crossed. (view : View) → slice_get (all_shown plan fixed.date before) number ≡ Some view →
      IsCrossed (λ w. shown_among plan fixed.date behind (row_of w)) plan fixed part (all_shown plan fixed.date behind) view crossed)

  -- from the view of this number
  pub leads_on : (plan told : JobPlan) (fixed so : Fixed) → plan ≡ told → fixed ≡ so → before.part ≡ part → number < length before.rows →
      IfOk r (IsCrossed (λ w. shown_among told so.date behind (row_of w)) told so before.part (all_shown told so.date behind)
      (shown_among told so.date before (row_at before.rows number))) → LeadsOn plan fixed
  leads_on plan told fixed so same_plan same_fixed at within led =
      subst (λ (p : JobPlan). LeadsOn p fixed) (sym same_plan) (subst (LeadsOn told) (sym same_fixed)
      (ok_weaker r (IsCrossed (λ w. shown_among told so.date behind (row_of w)) told so before.part (all_shown told so.date behind)
      (shown_among told so.date before (row_at before.rows number)))
      (λ crossed. (view : View) → slice_get (all_shown told so.date before) number ≡ Some view →
      IsCrossed (λ w. shown_among told so.date behind (row_of w)) told so part (all_shown told so.date behind) view crossed)
      (λ crossed h view there.
      subst (λ (v : View). IsCrossed (λ w. shown_among told so.date behind (row_of w)) told so part (all_shown told so.date behind) v crossed)
      (at_map (shown_among told so.date before) before.rows number (row_at before.rows number) view within
      (get_or_default before.rows number [] (row_at before.rows number) within) there)
      (subst (λ (n : ℕ). IsCrossed (λ w. shown_among told so.date behind (row_of w)) told so n (all_shown told so.date behind)
      (shown_among told so.date before (row_at before.rows number)) crossed) at h))
      led))

-- a view is put
pub puts_so : {E : Type 0} (old new : Views) (row : List ℕ) (r : Result Bool E) (plan told : JobPlan) (date so : ℕ) → plan ≡ told → date ≡ so →
    IfOk r (λ stood. IsPut (all_shown told so old) (shown_among told so old row) stood (all_shown told so new)) →
    IfOk r (λ stood. IsPut (all_shown plan date old) (shown_among plan date old row) stood (all_shown plan date new))
puts_so old new row r plan told date so same_plan same_date put =
    subst (λ (p : JobPlan). IfOk r (λ stood. IsPut (all_shown p date old) (shown_among p date old row) stood (all_shown p date new))) (sym same_plan)
    (subst (λ (d : ℕ). IfOk r (λ stood. IsPut (all_shown told d old) (shown_among told d old row) stood (all_shown told d new))) (sym same_date) put)

-- the first view
pub begins_so : {E : Type 0} (r : Result Views E) (store : Store) (plan told : JobPlan) (date so : ℕ) → plan ≡ told → date ≡ so →
    IfOk r (λ views. all_shown told so views ≡ view_at told 0 so (at_start store (given [])) ∷ []) →
    IfOk r (λ views. all_shown plan date views ≡ view_at plan 0 date (at_start store (given [])) ∷ [])
begins_so r store plan told date so same_plan same_date first =
    subst (λ (p : JobPlan). IfOk r (λ views. all_shown p date views ≡ view_at p 0 date (at_start store (given [])) ∷ [])) (sym same_plan)
    (subst (λ (d : ℕ). IfOk r (λ views. all_shown told d views ≡ view_at told 0 d (at_start store (given [])) ∷ [])) (sym same_date) first)
