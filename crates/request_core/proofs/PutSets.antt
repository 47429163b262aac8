-- A PUT to a set reads no more of its plan than its text has.
use Rattle.std.proofs.Common.{◌≡◌, ℕ, Bool, List, Option, Some, is_some, sym, ap, subst, ◌∙◌}
use Rattle.jname_core.specs.declared.key.Key.{Key}
use Rattle.jcl_plan.specs.declared.plan.DdKind.{DdKind}
use Rattle.jcl_plan.specs.declared.plan.DdKind.TheVariants.{Set}
use Rattle.jcl_meaning.specs.declared.state.TakenSet.{TakenSet}
use Rattle.jcl_meaning.specs.RequestActs.{puts_in}
use Rattle.jcl_meaning.specs.Stores.{Store}
use Rattle.job_text.proofs.KindsRead.{put_set_is}
use Rattle.job_text.specs.Texts.{put_as, put_text}
use Rattle.job_text.specs.declared.texts.PutSet.{PutSet}
use Rattle.job_text.specs.declared.texts.PutText.TheVariants as put
use Rattle.disp_core.specs.declared.course.Course.{Course}
use Rattle.request_core.specs.Requests.{CarriedGrown, Puts, PutsIn, growth_in, growth_of_kind}
use Rattle.request_core.specs.declared.here.Here.{Here}

module _ (here : Here) (t : TakenSet) (taken : here.taken ≡ Some t) (q : PutSet) (dd : DdKind) (read : put_text dd ≡ put.Set q) where
  -- whether it asks for tracks
  pub grows_to_set : (told : Bool) (seen : Store) → told ≡ is_some (growth_in (put_as q) here.written (Some t) seen) → told ≡ is_some (growth_of_kind here dd seen)
  grows_to_set told seen h =
      let set = put_set_is dd q read in
      h ∙ ap (λ r. is_some (growth_in (put_as r) here.written (Some t) seen)) (sym set.2)
      ∙ ap (λ o. is_some (growth_in set.0 here.written o seen)) (sym taken)
      ∙ ap (λ k. is_some (growth_of_kind here k seen)) (sym set.1)

  -- and what it does
  pub puts_to_set : (grants : Key → List ℕ → ℕ → Bool) (name text : List ℕ) (old : Store) (before : Course) (new : Store) (after : Course) →
      PutsIn grants name text here (put_as q) t old before new after → Puts grants name text here dd old before new after
  puts_to_set grants name text old before new after h =
      let set = put_set_is dd q read in
      let p = set.0 in
      let read_so : PutsIn grants name text here p t old before new after = subst (λ r. PutsIn grants name text here (put_as r) t old before new after) (sym set.2) h in
      subst (λ k. Puts grants name text here k old before new after) (sym set.1)
      (λ x is. subst (λ o. CarriedGrown grants (growth_in p here.written o old) (λ s. puts_in name text here.d x p x.taken s) old before new after) (sym taken)
      (subst (λ o. CarriedGrown grants (growth_in p here.written (Some t) old) (λ s. puts_in name text here.d x p o s) old before new after) (sym (is.its_set ∙ taken))
      (read_so x is)))
