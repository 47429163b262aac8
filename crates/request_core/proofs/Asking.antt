-- A request to a DD that was taken, from what it needs of its state.
use Rattle.std.proofs.Common.{◌≡◌, ℕ, Bool, List, [], Option, Some, None, Result, Ok, Err, OnOk, IfOk, ◌<◌, length, slice_get, refl, sym, ap, subst, ◌∙◌}
use Rattle.std.proofs.lemmas.Option.{slice_get-get_or}
use Rattle.std.specs.Option.{option_map}
use Rattle.jname_core.specs.declared.key.Key.{Key}
use Rattle.jcl_plan.specs.declared.plan.DdPlan.{DdPlan}
use Rattle.jcl_plan.specs.declared.plan.StepPlan.{StepPlan}
use Rattle.jcl_meaning.specs.declared.program.Move.{Move}
use Rattle.jcl_meaning.specs.declared.state.DdState.{DdState}
use Rattle.jcl_meaning.specs.RequestActs.{asks_dd, asks_of}
use Rattle.jcl_meaning.specs.States.{Answers}
use Rattle.jcl_meaning.specs.Stores.{Store}
use Rattle.job_text.specs.Places.{dd_at, no_dd}
use Rattle.store_core.specs.Actions.{state_at}
use Rattle.disp_core.specs.Courses.{Does}
use Rattle.request_core.specs.Requests.{CarriedGrown, Grants, IsHere, answers_left, growth_at_dd, growth_of, here_at}
use Rattle.disp_core.specs.declared.course.Course.{Course}
use Rattle.request_core.specs.declared.here.Here.{Here}

pub if_ok_then : {X E : Type 0} (P Q : X → Type 0) (r : Result X E) → ((x : X) → P x → Q x) → IfOk r P → IfOk r Q
if_ok_then P Q (Ok x) f h = f x h
if_ok_then P Q (Err e) f h = h

pub on_ok_then : {X E P Q : Type 0} (r : Result X E) → (P → Q) → OnOk r P → OnOk r Q
on_ok_then (Ok x) f h = f h
on_ok_then (Err e) f h = h

abbrev some_of : Here → Option Here → Here
some_of other None = other
some_of other (Some here) = here

module _ (grants : Key → List ℕ → ℕ → Bool) (step : StepPlan) (wants : Move) (d : ℕ) (here : Here) (dd : DdPlan) (old new : Store) (before after : Course) where
  abbrev Asked : Option DdState → Option DdPlan → Type 0
  Asked o q = (answers : Answers) → Grants grants (growth_at_dd o q step wants d old) answers →
      Does (asks_dd o q step wants d (state_at old before.own answers)) new after before (answers_left (growth_at_dd o q step wants d old) answers) None []

  abbrev AskedAt : DdState → Here → Type 0
  AskedAt x w = CarriedGrown grants (growth_of step wants w dd old) (λ s. asks_of step wants w.d x dd s) old before new after

  asked_here : (o : Option DdState) → slice_get before.own.dds d ≡ o → Some here ≡ option_map (here_at d) o →
      ((x : DdState) → IsHere before.own.dds here x → AskedAt x here) → Asked o (Some dd)
  asked_here None e k h = absurd cc
  asked_here (Some x) e k h =
      let p : here ≡ here_at d x = ap (some_of here) k in
      subst (AskedAt x) p (h x (record {
        there = ap (λ w. slice_get before.own.dds w.d) p ∙ e;
        its_member = sym (ap (λ w. w.member) p);
        its_position = sym (ap (λ w. w.position) p);
        its_mark = sym (ap (λ w. w.written) p);
        its_set = sym (ap (λ w. w.taken) p);
      }))

  pub asked_at : Some here ≡ option_map (here_at d) (slice_get before.own.dds d) → Some dd ≡ slice_get step.dds d →
      ((x : DdState) → IsHere before.own.dds here x → AskedAt x here) → Asked (slice_get before.own.dds d) (slice_get step.dds d)
  asked_at k q h = subst (Asked (slice_get before.own.dds d)) q (asked_here (slice_get before.own.dds d) refl k h)

  pub growth_is : (o : Option DdState) (q : Option DdPlan) → Some here ≡ option_map (here_at d) o → Some dd ≡ q →
      growth_of step wants here dd old ≡ growth_at_dd o q step wants d old
  growth_is None q k e = absurd cc
  growth_is (Some x) None k e = absurd cc
  growth_is (Some x) (Some y) k e = cc

-- the DD that was found is the one that was asked for
pub same_dd : (d : ℕ) (here : Here) (o : Option DdState) → Some here ≡ option_map (here_at d) o → here.d ≡ d
same_dd d here None k = absurd cc
same_dd d here (Some x) k = ap (λ (w : Here). w.d) (ap (some_of here) k)

pub dd_is : (dds : List DdPlan) (d : ℕ) (here : Here) → d < length dds → here.d ≡ d → Some (dd_at dds here.d) ≡ slice_get dds d
dd_is dds d here h e = ap (λ n. Some (dd_at dds n)) e ∙ sym (slice_get-get_or dds d no_dd h)
