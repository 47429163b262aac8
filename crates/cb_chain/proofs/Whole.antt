-- What is known of a job once its first record is put.
use Rattle.std.proofs.Common.{◌≡◌, ℕ, ◌+◌, ◌≤◌, false, true, List, [], ◌∷◌, ◌++◌, length, take, drop, Some, arith, ap, ◌∙◌, sym, refl, subst}
use Rattle.std.specs.Prelude.{All, slice_get}
use Rattle.std.proofs.lemmas.List.{append-nil, drop_at, take_at}
use Rattle.std.proofs.lemmas.List.Elements.{All-cons, All-nil}
use Rattle.jcl_plan.specs.declared.plan.JobPlan.{JobPlan}
use Rattle.jcl_plan.specs.declared.plan.StepPlan.{StepPlan}
use Rattle.cb_meaning.specs.declared.layout.Layout.{Layout}
use Rattle.cb_meaning.specs.Fields.{number_at}
use Rattle.cb_meaning.specs.Needs.{records_needed}
use Rattle.cb_meaning.specs.Spelled.{Spell, SpellsJct, StepChain, jct}
use Rattle.cb_meaning.specs.Writable.{AreSteps, most_dds}
use Rattle.cb_queue.specs.RecordQueues.{IsSoundQueue, RecordQueue, shown, unlinked, with_record_at}
use Rattle.cb_chain.specs.Composed.{IsJct}
use Rattle.cb_chain.specs.Taking.{AreFresh, Filled, IsReady, IsTaken, Keeps, TakesIf, Took, Writes, is_among, OfSteps, steps_needed}
use Rattle.cb_chain.specs.Written.{HoldsJobs, IsFresh, Written}
use Rattle.cb_chain.proofs.Among.{different_left, disjoint}
use Rattle.cb_chain.proofs.Chains.{behind_it, owned}
use Rattle.cb_chain.proofs.Linked.{Stepped, filled_took, none_after, stepped}
use Rattle.cb_chain.proofs.Stored.{ready_after}
use Rattle.plain.specs.Lists.{are_different}

pub ready_from : (q : RecordQueue) → HoldsJobs q.layout → IsSoundQueue q → IsReady q
ready_from q holds sound = record { holds = holds; size = sound.size; once = sound.once; within = sound.within }

pub few_dds : (units : ℕ) (all : List StepPlan) (k : ℕ) (steps : List StepPlan) → AreSteps units all k steps → All (λ (step : StepPlan). length step.dds ≤
    most_dds) steps
few_dds units all k [] h = All-nil (λ (step : StepPlan). length step.dds ≤ most_dds)
few_dds units all k (step ∷ steps) h =
    All-cons (λ (s : StepPlan). length s.dds ≤ most_dds) step steps h.0.few_dds (few_dds units all (k + 1) steps h.1)

module _ (l : Layout) (job : ℕ) (plan : JobPlan) (old q1 q2 new : RecordQueue) (first first_step : ℕ) (r : List ℕ) (ready : IsReady old) (same : l ≡ old.layout)
    (takes : TakesIf job true old q1 first) (steps : Writes (steps_needed plan.steps) (OfSteps l job plan.steps) q1 q2 first_step)
    (head : IsJct l job plan first_step r)
    (put : new ≡ with_record_at q2 first (Some (unlinked q2.layout r))) where
  held : IsTaken job q1 first
  held = takes.is_held

  layout_one : l ≡ q1.layout
  layout_one = same ∙ sym takes.took.layout

  step : Stepped job first q1 q2 new steps.numbers false 0 r
  step =
      stepped l job jct first q1 q2 q2 new steps.numbers false 0 r (ready_after (first ∷ []) old q1 ready takes.took) held steps.took (none_after job q2)
      layout_one
      head.head put

  took : Took (first ∷ steps.numbers) old new
  took =
      filled_took first steps.numbers old q1 new takes.took (subst (λ numbers. Filled first numbers q1 new) (append-nil steps.numbers) step.filled)

  count : length (first ∷ steps.numbers) ≡ records_needed plan
  count = let few = steps.count_is in omega (arith, few)

  taken_are : take (records_needed plan) old.free ≡ first ∷ steps.numbers
  taken_are = ap (λ f. take (records_needed plan) f) took.free ∙ take_at (first ∷ steps.numbers) new.free (records_needed plan) count

  different : are_different ((first ∷ steps.numbers) ++ new.free) ≡ true
  different = sym (ap are_different took.free) ∙ ready.once

  kept : Keeps new (first ∷ steps.numbers) (shown new)
  kept = λ n in_it. record { same = refl; in_use = disjoint n (first ∷ steps.numbers) new.free different in_it }

  here : (shown new).at first ≡ r
  here = step.here_is (shown new) kept

  spelled : Spell l (shown new) job (first ∷ steps.numbers) plan
  spelled = record {
    first = first;
    behind = steps.numbers;
    begins = refl;
    once = different_left (first ∷ steps.numbers) new.free different;
    owned = owned l (shown new) job first r here held.from_one
        (subst (λ m. first ≤ m) (sym (ap (λ k. k.most_records) layout_one)) held.within) (step.here_used (shown new) kept) jct head.head;
    head = subst (SpellsJct l plan) (sym here) head.spells;
    steps = subst (λ n. StepChain l (shown new) job n steps.numbers plan.steps) (sym (ap (λ b. number_at b l.first_step) here ∙ head.to_step))
        (steps.spells (shown new) (step.below_kept (shown new) kept)).0;
  }

  fresh : AreFresh l (shown new) (first ∷ steps.numbers)
  fresh =
      behind_it l (shown new) job first r here held.from_one (subst (λ m. first ≤ m) (sym (ap (λ k. k.most_records) layout_one)) held.within)
      (step.here_used (shown new) kept) jct steps.numbers (λ e. absurd (omega arith)) head.head head.status
      (steps.spells (shown new) (step.below_kept (shown new) kept)).1

  pub written : Written job plan old new first
  written = record {
    layout = took.layout;
    free = sym (ap (λ f. drop (records_needed plan) f) took.free ∙ drop_at (first ∷ steps.numbers) new.free (records_needed plan) count);
    waiting = took.waiting;
    others = λ n out. took.others n (sym (ap (is_among n) taken_are) ∙ out);
    begins = ap (λ xs. slice_get xs 0) taken_are;
    denotes = λ units in_range. record {
      in_range = in_range;
      spelled = subst (λ numbers. Spell old.layout (shown new) job numbers plan) (sym taken_are)
          (subst (λ k. Spell k (shown new) job (first ∷ steps.numbers) plan) same spelled);
    };
    fresh = subst (AreFresh old.layout (shown new)) (sym taken_are) (subst (λ k. AreFresh k (shown new) (first ∷ steps.numbers)) same fresh);
  }
