-- What the end of a step, its dispositions and the job's end do. (GC28-6704, DISP parameter)
use Rattle.std.specs.Prelude.{ℕ, Bool, true, false, ◌&&◌, ◌||◌, ◌==◌, nat_lt, List, [], ◌∷◌, ◌++◌, map, length, Option, Some, None, if◌then◌else◌}
use Rattle.jname_core.specs.declared.key.Key.{Key}
use Rattle.jcl_plan.specs.declared.entry.JobLine.{JobLine}
use Rattle.jcl_plan.specs.declared.entry.JobLine.TheVariants as line
use Rattle.jcl_plan.specs.declared.outcome.Abend.TheVariants as abend
use Rattle.jcl_plan.specs.declared.outcome.Outcome.{Outcome}
use Rattle.jcl_plan.specs.declared.outcome.Outcome.TheVariants as outcome
use Rattle.jcl_plan.specs.declared.plan.DdKind.{DdKind}
use Rattle.jcl_plan.specs.declared.plan.DdKind.TheVariants.{Sysout, Dummy, Cards, Set}
use Rattle.jcl_plan.specs.declared.plan.SetPlan.{SetPlan}
use Rattle.jcl_plan.specs.declared.words.DispWord.TheVariants as disp
use Rattle.jcl_meaning.specs.declared.state.DdState.{DdState}
use Rattle.jcl_meaning.specs.declared.state.Disposed.{Disposed}
use Rattle.jcl_meaning.specs.declared.state.Own.{Own}
use Rattle.jcl_meaning.specs.declared.state.Passed.{Passed}
use Rattle.jcl_meaning.specs.declared.state.TakenSet.{TakenSet}
use Rattle.jcl_meaning.specs.RequestActs.{head_or}
use Rattle.jcl_meaning.specs.States.{Done, Fixed, State, cancel_due, goes, silent, with_answers_used, with_own}
use Rattle.jcl_meaning.specs.Dispositions.{as_taken, changed, disposed_by, fault_in, left_word}
use Rattle.jcl_meaning.specs.History.{is_abend}
use Rattle.jcl_meaning.specs.Names.{is_temporary}
use Rattle.jcl_meaning.specs.Plans.{conditional_meaning, normal_meaning, word_done}
use Rattle.jcl_meaning.specs.Stores.{Store, cut_at}
use Rattle.jcl_meaning.specs.Takes.{releases}

-- the end of a step; what is no end counts as code 0
abbrev pub as_ending : Outcome → Outcome
as_ending (outcome.Code code) = outcome.Code code
as_ending (outcome.Abend a) = outcome.Abend a
as_ending outcome.Bypassed = outcome.Code 0
as_ending outcome.Flushed = outcome.Code 0

abbrev pub end_line : Outcome → JobLine
end_line (outcome.Code code) = line.Code code
end_line (outcome.Abend a) = line.Abend a
end_line outcome.Bypassed = line.Code 0
end_line outcome.Flushed = line.Code 0

-- an ABEND comes later for what earlier steps passed
abbrev pub later_than : ℕ → Passed → Passed
later_than n p = record p { abend_later = p.abend_later || nat_lt p.step n }

abbrev pub marked_later : ℕ → List Passed → List Passed
marked_later n passed = map (later_than n) passed

abbrev pub passed_after : Outcome → ℕ → List Passed → List Passed
passed_after o n passed = if is_abend o then marked_later n passed else passed

abbrev pub ended_with : ℕ → Outcome → State → State
ended_with n o s = record {
  store = s.store;
  own = record s.own { passed = passed_after o n s.own.passed; ended = record { step = n; outcome = o } ∷ s.own.ended; over = Some o; due = None; lines = 0 };
  answers = with_answers_used s.answers;
}

abbrev pub finishes : ℕ → Option Outcome → State → Done
finishes n (Some o) s = goes [] (ended_with n o s)
finishes n None s =
    if cancel_due s.answers.cancels s.own.lines
    then goes (line.Abend abend.S222 ∷ []) (ended_with n (outcome.Abend abend.S222) s)
    else goes (end_line (as_ending (head_or (outcome.Code 0) s.answers.outcomes)) ∷ []) (ended_with n (as_ending (head_or (outcome.Code 0) s.answers.outcomes)) s)

abbrev pub finished : ℕ → State → Done
finished n s = if s.own.runs then finishes n s.own.over s
    else goes [] (record { store = s.store; own = s.own; answers = with_answers_used s.answers })

-- dispositions
abbrev pub after_abend : Option Outcome → Bool
after_abend None = false
after_abend (Some o) = is_abend o

abbrev pub passed_with : Bool → ℕ → ℕ → TakenSet → List Passed → List Passed
passed_with false n dd t passed = passed
passed_with true n dd t passed = passed ++ record { key = t.key; serial = t.serial; made = t.made; by_catalog = t.by_catalog; step = n; dd = dd; abend_later = false } ∷ []

abbrev pub tracks_released : Bool → Key → List ℕ → Store → Store
tracks_released false key serial s = s
tracks_released true key serial s = cut_at (s.set key serial) s key serial

abbrev pub set_disposed : Fixed → ℕ → ℕ → Option (List ℕ) → SetPlan → TakenSet → State → Disposed → Done
set_disposed fixed n dd name p t s disposed = record {
  lines = line.Disp dd name disposed.word ∷ [];
  state = record {
    store = tracks_released (releases p.space) t.key t.serial (changed disposed.change s.store t.key t.serial fixed.date);
    own = record s.own { passed = passed_with disposed.passes n dd t s.own.passed };
    answers = s.answers;
  };
  meets = fault_in disposed.word;
  made = [];
}

abbrev pub set_disposes : Fixed → ℕ → ℕ → Option (List ℕ) → SetPlan → Option TakenSet → State → Done
set_disposes fixed n dd name p None s = goes (line.Disp dd name disp.Nothing ∷ []) s
set_disposes fixed n dd name p (Some t) s = set_disposed fixed n dd name p t s
    (disposed_by (word_done (normal_meaning (is_temporary t.key) p.normal) (conditional_meaning (is_temporary t.key) p.conditional) (after_abend s.own.over) t.made) s.store t fixed.date)

abbrev pub put_out : ℕ → ℕ → ℕ → DdState → Own → Own
put_out n dd class x own = record own { outputs = own.outputs ++ record { step = n; dd = dd; class = class; records = x.spooled } ∷ [] }

abbrev pub disposes_at : Fixed → ℕ → ℕ → Option (List ℕ) → DdKind → DdState → State → Done
disposes_at fixed n dd name (Sysout class) x s = goes (line.Disp dd name (disp.Spooled (length x.spooled)) ∷ []) (with_own s (put_out n dd class x s.own))
disposes_at fixed n dd name Dummy x s = goes (line.Disp dd name disp.Nothing ∷ []) s
disposes_at fixed n dd name (Cards cards) x s = goes (line.Disp dd name disp.Nothing ∷ []) s
disposes_at fixed n dd name (Set p) x s = set_disposes fixed n dd name p x.taken s

abbrev pub disposes : Option DdState → Fixed → ℕ → ℕ → Option (List ℕ) → DdKind → State → Done
disposes None fixed n dd name kind s = silent s
disposes (Some x) fixed n dd name kind s = disposes_at fixed n dd name kind x s

-- the job's end: what a DD passed and no DD received
abbrev pub passed_by : List Passed → ℕ → ℕ → Option Passed
passed_by [] n dd = None
passed_by (p ∷ ps) n dd = if p.step == n && p.dd == dd then Some p else passed_by ps n dd

abbrev pub without_pass : List Passed → ℕ → ℕ → List Passed
without_pass [] n dd = []
without_pass (p ∷ ps) n dd = if p.step == n && p.dd == dd then ps else p ∷ without_pass ps n dd

abbrev pub left_disposed : Fixed → ℕ → ℕ → Option (List ℕ) → Passed → State → Disposed → Done
left_disposed fixed n dd name p s disposed = record {
  lines = line.Left n dd name disposed.word ∷ [];
  state = record {
    store = changed disposed.change s.store p.key p.serial fixed.date;
    own = record s.own { passed = without_pass s.own.passed n dd };
    answers = s.answers;
  };
  meets = fault_in disposed.word;
  made = [];
}

abbrev pub leaves : Fixed → ℕ → ℕ → Option (List ℕ) → SetPlan → Option Passed → State → Done
leaves fixed n dd name p None s = silent s
leaves fixed n dd name p (Some q) s = left_disposed fixed n dd name q s
    (disposed_by (left_word (is_temporary q.key) q.abend_later (conditional_meaning (is_temporary q.key) p.conditional) q.made) s.store (as_taken q) fixed.date)

abbrev pub left_at : Fixed → ℕ → ℕ → Option (List ℕ) → DdKind → State → Done
left_at fixed n dd name (Sysout class) s = silent s
left_at fixed n dd name Dummy s = silent s
left_at fixed n dd name (Cards cards) s = silent s
left_at fixed n dd name (Set p) s = leaves fixed n dd name p (passed_by s.own.passed n dd) s
