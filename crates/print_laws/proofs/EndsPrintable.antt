-- The end of a step, and the job's end, write printable lines, and leave what is printable.
use Rattle.std.proofs.Common.{◌&&◌, ◌==◌, ℕ, List, [], ◌∷◌, Option, Some, None, All}
use Rattle.std.specs.Prelude.{IfSome}
use Rattle.std.proofs.lemmas.List.Elements.{All-cons, All-head, All-map, All-nil, All-tail}
use Rattle.jcl_plan.specs.declared.entry.JobLine.TheVariants as line
use Rattle.jcl_plan.specs.declared.outcome.Abend.TheVariants as abend
use Rattle.jcl_plan.specs.declared.outcome.Outcome.{Outcome}
use Rattle.jcl_plan.specs.declared.outcome.Outcome.TheVariants as outcome
use Rattle.jcl_plan.specs.declared.plan.DdKind.{DdKind}
use Rattle.jcl_plan.specs.declared.plan.DdKind.TheVariants.{Cards, Dummy, Set, Sysout}
use Rattle.jcl_plan.specs.declared.plan.SetPlan.{SetPlan}
use Rattle.jcl_meaning.specs.declared.state.Disposed.{Disposed}
use Rattle.jcl_meaning.specs.declared.state.Passed.{Passed}
use Rattle.jcl_meaning.specs.Dispositions.{as_taken, disposed_by, left_word}
use Rattle.jcl_meaning.specs.EndActs.{as_ending, end_line, ended_with, finished, finishes, later_than, leaves, left_at, left_disposed, marked_later, passed_by, without_pass}
use Rattle.jcl_meaning.specs.History.{is_abend}
use Rattle.jcl_meaning.specs.Names.{is_temporary}
use Rattle.jcl_meaning.specs.Plans.{conditional_meaning}
use Rattle.jcl_meaning.specs.RequestActs.{head_or}
use Rattle.jcl_meaning.specs.States.{Fixed, State, cancel_due}
use Rattle.line_laws.specs.Printable.{IsPrintableLine, IsPrintableName}
use Rattle.print_laws.specs.Printable.{IsPrintableDone}
use Rattle.print_laws.proofs.GroupsPrintable.{either}
use Rattle.print_laws.proofs.OwnPrintable.{IsPrintableAt, IsPrintablePassed, done_either, goes_printable, one_line, silent_printable}
use Rattle.print_laws.proofs.StoresPrintable.{changed_printable}

-- the end of a step
marked_printable : (n : ℕ) (ps : List Passed) → All IsPrintablePassed ps → All IsPrintablePassed (marked_later n ps)
marked_printable n ps h = All-map IsPrintablePassed (later_than n) ps h

ended_printable : (n : ℕ) (o : Outcome) (s : State) → IsPrintableAt s → IsPrintableAt (ended_with n o s)
ended_printable n o s h = record {
  store = h.store;
  own = record {
    passed = either (All IsPrintablePassed) (is_abend o) (marked_later n s.own.passed) s.own.passed (marked_printable n s.own.passed h.own.passed) h.own.passed;
    volumes = h.own.volumes;
    outputs = h.own.outputs;
    dds = h.own.dds;
    due_now = tt;
  };
}

end_printable : (o : Outcome) → IsPrintableLine (end_line o)
end_printable (outcome.Code code) = tt
end_printable (outcome.Abend a) = tt
end_printable outcome.Bypassed = tt
end_printable outcome.Flushed = tt

finishes_printable : (n : ℕ) (over : Option Outcome) (s : State) → IsPrintableAt s → IsPrintableDone (finishes n over s)
finishes_printable n (Some o) s h = goes_printable [] (ended_with n o s) (All-nil IsPrintableLine) (ended_printable n o s h)
finishes_printable n None s h =
    let o : Outcome = as_ending (head_or (outcome.Code 0) s.answers.outcomes) in
    let cancelled : Outcome = outcome.Abend abend.S222 in
    done_either (cancel_due s.answers.cancels s.own.lines) _ _
    (goes_printable (line.Abend abend.S222 ∷ []) (ended_with n cancelled s) (one_line (line.Abend abend.S222) tt) (ended_printable n cancelled s h))
    (goes_printable (end_line o ∷ []) (ended_with n o s) (one_line (end_line o) (end_printable o)) (ended_printable n o s h))

pub finished_printable : (n : ℕ) (s : State) → IsPrintableAt s → IsPrintableDone (finished n s)
finished_printable n s h =
    done_either s.own.runs _ _ (finishes_printable n s.own.over s h) (goes_printable [] _ (All-nil IsPrintableLine) (record { store = h.store; own = h.own }))

-- the job's end
pass_printable : (ps : List Passed) (n dd : ℕ) → All IsPrintablePassed ps → IfSome (passed_by ps n dd) IsPrintablePassed
pass_printable [] n dd h = tt
pass_printable (p ∷ ps) n dd h =
    either (λ (q : Option Passed). IfSome q IsPrintablePassed) (p.step == n && p.dd == dd) (Some p) (passed_by ps n dd) (All-head IsPrintablePassed p ps h)
    (pass_printable ps n dd (All-tail IsPrintablePassed p ps h))

without_printable : (ps : List Passed) (n dd : ℕ) → All IsPrintablePassed ps → All IsPrintablePassed (without_pass ps n dd)
without_printable [] n dd h = All-nil IsPrintablePassed
without_printable (p ∷ ps) n dd h =
    either (All IsPrintablePassed) (p.step == n && p.dd == dd) ps (p ∷ without_pass ps n dd) (All-tail IsPrintablePassed p ps h)
    (All-cons IsPrintablePassed p (without_pass ps n dd) (All-head IsPrintablePassed p ps h)
    (without_printable ps n dd (All-tail IsPrintablePassed p ps h)))

left_set_printable : (fixed : Fixed) (n dd : ℕ) (name : Option (List ℕ)) (q : Passed) (s : State) (disposed : Disposed) → IsPrintableName name →
    IsPrintablePassed q → IsPrintableAt s → IsPrintableDone (left_disposed fixed n dd name q s disposed)
left_set_printable fixed n dd name q s disposed named p h = record {
  lines = one_line (line.Left n dd name disposed.word) named;
  store = changed_printable disposed.change s.store q.key q.serial fixed.date h.store p;
  own = record {
    passed = without_printable s.own.passed n dd h.own.passed;
    volumes = h.own.volumes;
    outputs = h.own.outputs;
    dds = h.own.dds;
    due_now = h.own.due_now;
  };
}

leaves_printable : (fixed : Fixed) (n dd : ℕ) (name : Option (List ℕ)) (p : SetPlan) (q : Option Passed) (s : State) → IsPrintableName name →
    IfSome q IsPrintablePassed → IsPrintableAt s → IsPrintableDone (leaves fixed n dd name p q s)
leaves_printable fixed n dd name p None s named k h = silent_printable s h
leaves_printable fixed n dd name p (Some q) s named k h =
    left_set_printable fixed n dd name q s
    (disposed_by (left_word (is_temporary q.key) q.abend_later (conditional_meaning (is_temporary q.key) p.conditional) q.made) s.store (as_taken q) fixed.date)
    named k h

pub left_printable : (fixed : Fixed) (n dd : ℕ) (name : Option (List ℕ)) (kind : DdKind) (s : State) → IsPrintableName name → IsPrintableAt s →
    IsPrintableDone (left_at fixed n dd name kind s)
left_printable fixed n dd name (Sysout class) s named h = silent_printable s h
left_printable fixed n dd name Dummy s named h = silent_printable s h
left_printable fixed n dd name (Cards cards) s named h = silent_printable s h
left_printable fixed n dd name (Set plan) s named h =
    leaves_printable fixed n dd name plan (passed_by s.own.passed n dd) s named (pass_printable s.own.passed n dd h.own.passed) h
