-- An action of a job writes S222 only where a cancel is due, and then nothing else.
use Rattle.std.proofs.Common.{◌≡◌, ℕ, ◌-◌, false, List, Option, Some, None, refl, ap}
use Rattle.std.specs.Prelude.{◌||◌, slice_get}
use Rattle.std.proofs.lemmas.Bool.{cond_both}
use Rattle.jcl_plan.specs.declared.outcome.Outcome.{Outcome}
use Rattle.jcl_plan.specs.declared.outcome.Outcome.TheVariants as outcome
use Rattle.jcl_plan.specs.declared.plan.DdKind.{DdKind}
use Rattle.jcl_plan.specs.declared.plan.DdKind.TheVariants.{Sysout, Dummy, Cards, Set}
use Rattle.jcl_plan.specs.declared.plan.SetPlan.{SetPlan}
use Rattle.jcl_meaning.specs.declared.state.DdState.{DdState}
use Rattle.jcl_meaning.specs.declared.state.Passed.{Passed}
use Rattle.jcl_meaning.specs.declared.state.TakenSet.{TakenSet}
use Rattle.jcl_meaning.specs.Acts.{act}
use Rattle.jcl_meaning.specs.Agendas.{Action, Start, Take, Ask, Receive, Finish, Dispose, Left, Over}
use Rattle.jcl_meaning.specs.EndActs.{as_ending, disposes, disposes_at, end_line, finishes, leaves, left_at, passed_by, set_disposes}
use Rattle.jcl_meaning.specs.Programs.{dd_of}
use Rattle.jcl_meaning.specs.RequestActs.{dd_name, head_or}
use Rattle.jcl_meaning.specs.States.{Fixed, State, asks_open, cancel_due}
use Rattle.cancel_laws.specs.Cancels.{is_s222}
use Rattle.cancel_laws.proofs.Spending.{Spends, ask_at, at_line, chosen, plain, receive, running, take, used}

-- how the program at hand ends by itself is no S222
abbrev pub EndsPlain : State → Type 0
EndsPlain s = is_s222 (end_line (as_ending (head_or (outcome.Code 0) s.answers.outcomes))) ≡ false

module _ (s : State) where
  -- ends and dispositions
  finish : (n : ℕ) (o : Option Outcome) → EndsPlain s → Spends s (finishes n o s)
  finish n (Some o) ends = plain refl
  finish n None ends =
      cond_both (cancel_due s.answers.cancels s.own.lines) _ _ (Spends s) (λ is. used refl is) (λ none. plain (ap (λ b. b || false) ends))

  dispose_set : (fixed : Fixed) (n dd : ℕ) (name : Option (List ℕ)) (p : SetPlan) (t : Option TakenSet) → Spends s (set_disposes fixed n dd name p t s)
  dispose_set fixed n dd name p None = plain refl
  dispose_set fixed n dd name p (Some t) = plain refl

  dispose_at : (fixed : Fixed) (n dd : ℕ) (name : Option (List ℕ)) (kind : DdKind) (x : DdState) → Spends s (disposes_at fixed n dd name kind x s)
  dispose_at fixed n dd name (Sysout class) x = plain refl
  dispose_at fixed n dd name Dummy x = plain refl
  dispose_at fixed n dd name (Cards cards) x = plain refl
  dispose_at fixed n dd name (Set p) x = dispose_set fixed n dd name p x.taken

  dispose : (x : Option DdState) (fixed : Fixed) (n dd : ℕ) (name : Option (List ℕ)) (kind : DdKind) → Spends s (disposes x fixed n dd name kind s)
  dispose None fixed n dd name kind = plain refl
  dispose (Some x) fixed n dd name kind = dispose_at fixed n dd name kind x

  leave : (fixed : Fixed) (n dd : ℕ) (name : Option (List ℕ)) (p : SetPlan) (q : Option Passed) → Spends s (leaves fixed n dd name p q s)
  leave fixed n dd name p None = plain refl
  leave fixed n dd name p (Some q) = plain refl

  left : (fixed : Fixed) (n dd : ℕ) (name : Option (List ℕ)) (kind : DdKind) → Spends s (left_at fixed n dd name kind s)
  left fixed n dd name (Sysout class) = plain refl
  left fixed n dd name Dummy = plain refl
  left fixed n dd name (Cards cards) = plain refl
  left fixed n dd name (Set p) = leave fixed n dd name p (passed_by s.own.passed n dd)

  pub act_spends : (fixed : Fixed) (a : Action) → EndsPlain s → Spends s (act fixed a s)
  unfolding act
  act_spends fixed (Start n step) ends = plain refl
  act_spends fixed (Take n dd d) ends = running s s.own.runs _ (take s fixed n dd d.name d.kind)
  act_spends fixed (Ask step m) ends = running s (asks_open s.own) _ (at_line s _ (ask_at s (dd_of step.dds (dd_name m)) step m))
  act_spends fixed Receive ends = running s (asks_open s.own) _ (receive s s.own.due)
  act_spends fixed (Finish n) ends = chosen s s.own.runs _ _ (finish n s.own.over ends) (plain refl)
  act_spends fixed (Dispose n dd d) ends = running s s.own.runs _ (dispose (slice_get s.own.dds (dd - 1)) fixed n dd d.name d.kind)
  act_spends fixed (Left n dd d) ends = left fixed n dd d.name d.kind
  act_spends fixed Over ends = plain refl
