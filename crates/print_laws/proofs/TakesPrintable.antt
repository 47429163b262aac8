-- The start of a step and the takes of its DDs write printable lines, and leave what is printable.
use Rattle.std.proofs.Common.{ℕ, List, [], ◌∷◌, Option, Some, None, All}
use Rattle.std.specs.Prelude.{IfSome, length}
use Rattle.std.proofs.lemmas.List.Elements.{All-cons, All-head, All-nil, All-push, All-tail}
use Rattle.jname_core.specs.declared.key.Key.{Key}
use Rattle.jcl_plan.specs.declared.entry.JobLine.TheVariants as line
use Rattle.jcl_plan.specs.declared.plan.DdKind.{DdKind}
use Rattle.jcl_plan.specs.declared.plan.DdKind.TheVariants.{Cards, Dummy, Set, Sysout}
use Rattle.jcl_plan.specs.declared.plan.SetPlan.{SetPlan}
use Rattle.jcl_plan.specs.declared.plan.StepPlan.{StepPlan}
use Rattle.jcl_plan.specs.declared.words.TakeWord.{TakeWord}
use Rattle.jcl_plan.specs.declared.words.TakeWord.TheVariants as word
use Rattle.jcl_meaning.specs.declared.state.Own.{Own}
use Rattle.jcl_meaning.specs.declared.state.Passed.{Passed}
use Rattle.jcl_meaning.specs.declared.state.Resolution.{Resolution}
use Rattle.jcl_meaning.specs.declared.state.Resolution.TheVariants.{Fails, Means}
use Rattle.jcl_meaning.specs.declared.state.TakenSet.{TakenSet}
use Rattle.jcl_meaning.specs.declared.take.Decision.{Decision}
use Rattle.jcl_meaning.specs.declared.take.Decision.TheVariants.{Refuses, Takes}
use Rattle.jcl_meaning.specs.declared.take.How.{How}
use Rattle.jcl_meaning.specs.declared.take.How.TheVariants as how
use Rattle.jcl_meaning.specs.Names.{same_key}
use Rattle.jcl_meaning.specs.Resolutions.{meaning_at}
use Rattle.jcl_meaning.specs.States.{Fixed, State}
use Rattle.jcl_meaning.specs.Stores.{Store}
use Rattle.jcl_meaning.specs.TakeActs.{decided, decision_at, fate_at, new_dd, new_set, own_with_set, passed_left, started, store_made, take_word, takes, takes_no_set, takes_set, target_at}
use Rattle.jcl_meaning.specs.Takes.{taken, without_passed}
use Rattle.line_laws.specs.Printable.{IsPrintable, IsPrintableName, IsPrintableTake}
use Rattle.print_laws.specs.Printable.{IsPrintableDone, IsPrintableFixed, IsPrintableKind, IsPrintableOwn, IsPrintableState, IsPrintableStep, IsPrintableStore}
use Rattle.print_laws.proofs.GroupsPrintable.{either}
use Rattle.print_laws.proofs.OwnPrintable.{IsPrintableAt, IsPrintableOnVolume, IsPrintablePassed, IsPrintableTaken, one_line}
use Rattle.print_laws.proofs.StoresPrintable.{set_printable}
use Rattle.print_laws.proofs.BacksPrintable.{refused_printable}
use Rattle.print_laws.proofs.TargetsPrintable.{IsPrintableDecision, decision_printable}

-- the start of a step
pub start_printable : (fixed : Fixed) (n : ℕ) (step : StepPlan) (s : State) → IsPrintableStep step → IsPrintableAt s →
    IsPrintableDone (started fixed n step s)
start_printable fixed n step s p h = record {
  lines = one_line (line.Step n step.name step.procedure_step (fate_at fixed step s.own)) (p.name, p.procedure_step);
  store = h.store;
  own = record { passed = h.own.passed; volumes = h.own.volumes; outputs = h.own.outputs; dds = All-nil IsPrintableState; due_now = tt };
}

-- a DD that has no set
new_printable : (dd : ℕ) (name : Option (List ℕ)) (t : Option TakenSet) → IsPrintableName name → IfSome t IsPrintableTaken →
    IsPrintableState (new_dd dd name t)
new_printable dd name t p q = record { name = p; taken = q; spooled = All-nil IsPrintable }

none_printable : (dd : ℕ) (name : Option (List ℕ)) (w : TakeWord) (s : State) → IsPrintableName name → IsPrintableTake w → IsPrintableAt s →
    IsPrintableDone (takes_no_set dd name w s)
none_printable dd name w s p q h = record {
  lines = one_line (line.Take dd name w) (p, q);
  store = h.store;
  own = record {
    passed = h.own.passed;
    volumes = h.own.volumes;
    outputs = h.own.outputs;
    dds = All-push IsPrintableState s.own.dds (new_dd dd name None) h.own.dds (new_printable dd name None p tt);
    due_now = h.own.due_now;
  };
}

-- a set that is taken
word_printable : (h : How) (serial : List ℕ) → IsPrintable serial → IsPrintableTake (take_word h serial)
word_printable how.Made serial p = p
word_printable how.Found serial p = p
word_printable how.FoundByCatalog serial p = p
word_printable (how.Received made by_catalog) serial p = p

made_printable : (h : How) (fixed : Fixed) (p : SetPlan) (key : Key) (serial : List ℕ) (s : Store) → IsPrintableStore s →
    IsPrintableStore (store_made h fixed p key serial s)
made_printable how.Made fixed p key serial s h = set_printable s key serial (Some (new_set fixed p key)) h (All-nil IsPrintable)
made_printable how.Found fixed p key serial s h = h
made_printable how.FoundByCatalog fixed p key serial s h = h
made_printable (how.Received made by_catalog) fixed p key serial s h = h

taken_printable : (key : Key) (serial : List ℕ) (h : How) → IsPrintable serial → IsPrintableTaken (taken key serial h)
taken_printable key serial how.Made p = p
taken_printable key serial how.Found p = p
taken_printable key serial how.FoundByCatalog p = p
taken_printable key serial (how.Received made by_catalog) p = p

without_printable : (ps : List Passed) (key : Key) → All IsPrintablePassed ps → All IsPrintablePassed (without_passed ps key)
without_printable [] key h = All-nil IsPrintablePassed
without_printable (p ∷ ps) key h =
    either (All IsPrintablePassed) (same_key p.key key) ps (p ∷ without_passed ps key) (All-tail IsPrintablePassed p ps h)
    (All-cons IsPrintablePassed p (without_passed ps key) (All-head IsPrintablePassed p ps h)
    (without_printable ps key (All-tail IsPrintablePassed p ps h)))

left_printable : (h : How) (ps : List Passed) (key : Key) → All IsPrintablePassed ps → All IsPrintablePassed (passed_left h ps key)
left_printable how.Made ps key p = p
left_printable how.Found ps key p = p
left_printable how.FoundByCatalog ps key p = p
left_printable (how.Received made by_catalog) ps key p = without_printable ps key p

with_set_printable : (n dd : ℕ) (name : Option (List ℕ)) (key : Key) (serial : List ℕ) (h : How) (own : Own) → IsPrintableName name →
    IsPrintable serial → IsPrintableOwn own → IsPrintableOwn (own_with_set n dd name key serial h own)
with_set_printable n dd name key serial h own p q k = record {
  passed = left_printable h own.passed key k.passed;
  volumes = All-push IsPrintableOnVolume own.volumes (record { step = n; dd = dd; serial = serial }) k.volumes q;
  outputs = k.outputs;
  dds = All-push IsPrintableState own.dds (new_dd dd name (Some (taken key serial h))) k.dds
      (new_printable dd name (Some (taken key serial h)) p (taken_printable key serial h q));
  due_now = k.due_now;
}

decided_printable : (fixed : Fixed) (n dd : ℕ) (name : Option (List ℕ)) (p : SetPlan) (key : Key) (s : State) (d : Decision) → IsPrintableName name →
    IsPrintableDecision d → IsPrintableAt s → IsPrintableDone (decided fixed n dd name p key s d)
decided_printable fixed n dd name p key s (Refuses fault) named q h = refused_printable n dd fault s h
decided_printable fixed n dd name p key s (Takes serial k) named q h = record {
  lines = one_line (line.Take dd name (take_word k serial)) (named, word_printable k serial q);
  store = made_printable k fixed p key serial s.store h.store;
  own = with_set_printable n dd name key serial k s.own named q h.own;
}

pub take_printable : (fixed : Fixed) (n dd : ℕ) (name : Option (List ℕ)) (kind : DdKind) (s : State) → IsPrintableFixed fixed → IsPrintableName name →
    IsPrintableKind kind → IsPrintableAt s → IsPrintableDone (takes fixed n dd name kind s)
take_printable fixed n dd name (Sysout class) s f p k h = none_printable dd name (word.Sysout class) s p k h
take_printable fixed n dd name Dummy s f p k h = none_printable dd name word.Dummy s p tt h
take_printable fixed n dd name (Cards cards) s f p k h = none_printable dd name (word.Cards (length cards)) s p tt h
take_printable fixed n dd name (Set plan) s f p k h = by_meaning (meaning_at fixed.meanings n dd)
  where
    by_meaning : (r : Resolution) → IsPrintableDone (takes_set fixed n dd name plan s r)
    by_meaning (Fails fault) = refused_printable n dd fault s h
    by_meaning (Means key) =
        decided_printable fixed n dd name plan key s (decision_at fixed plan key s (target_at fixed n dd plan key s)) p
        (decision_printable fixed n dd plan key s f k.1 h) h
