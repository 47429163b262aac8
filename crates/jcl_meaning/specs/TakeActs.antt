-- What the start of a step and the taking of its DDs do. (GC28-6704, COND and DISP parameters)
use Rattle.std.specs.Prelude.{ℕ, true, false, List, [], ◌∷◌, ◌++◌, length, Option, Some, None, is_some, if◌then◌else◌}
use Rattle.jname_core.specs.declared.key.Key.{Key}
use Rattle.jcl_plan.specs.declared.entry.JobLine.{JobLine}
use Rattle.jcl_plan.specs.declared.entry.JobLine.TheVariants as line
use Rattle.jcl_plan.specs.declared.fault.Fault.{Fault}
use Rattle.jcl_plan.specs.declared.outcome.Fate.{Fate}
use Rattle.jcl_plan.specs.declared.plan.DdKind.{DdKind}
use Rattle.jcl_plan.specs.declared.plan.DdKind.TheVariants.{Sysout, Dummy, Cards, Set}
use Rattle.jcl_plan.specs.declared.plan.SetPlan.{SetPlan}
use Rattle.jcl_plan.specs.declared.plan.StepPlan.{StepPlan}
use Rattle.jcl_plan.specs.declared.words.TakeWord.{TakeWord}
use Rattle.jcl_plan.specs.declared.words.TakeWord.TheVariants as word
use Rattle.jcl_meaning.specs.declared.state.DdState.{DdState}
use Rattle.jcl_meaning.specs.declared.state.Own.{Own}
use Rattle.jcl_meaning.specs.declared.state.Passed.{Passed}
use Rattle.jcl_meaning.specs.declared.state.Place.{Place}
use Rattle.jcl_meaning.specs.declared.state.Resolution.{Resolution}
use Rattle.jcl_meaning.specs.declared.state.Resolution.TheVariants.{Means, Fails}
use Rattle.jcl_meaning.specs.declared.state.TakenSet.{TakenSet}
use Rattle.jcl_meaning.specs.declared.store.DataSet.{DataSet}
use Rattle.jcl_meaning.specs.declared.take.Decision.{Decision}
use Rattle.jcl_meaning.specs.declared.take.Decision.TheVariants.{Refuses, Takes}
use Rattle.jcl_meaning.specs.declared.take.Target.{Target}
use Rattle.jcl_meaning.specs.declared.take.How.{How}
use Rattle.jcl_meaning.specs.declared.take.How.TheVariants as how
use Rattle.jcl_meaning.specs.States.{Done, Fixed, State, at_step, goes, with_own}
use Rattle.jcl_meaning.specs.Dispositions.{back_word, is_deleted_back}
use Rattle.jcl_meaning.specs.History.{abended, fate_of, is_run, some_satisfied}
use Rattle.jcl_meaning.specs.Names.{is_temporary}
use Rattle.jcl_meaning.specs.Resolutions.{meaning_at, place_of}
use Rattle.jcl_meaning.specs.Stores.{Store, catalogued, with_set}
use Rattle.jcl_meaning.specs.Takes.{day_of, decide, first_passed, is_known, is_there, looked_at, primary_of, taken, target_of, where_of, without_passed}

abbrev pub fate_at : Fixed → StepPlan → Own → Fate
fate_at fixed step own = fate_of own.faulted (some_satisfied own.ended fixed.job_tests) step.after_abend (abended own.ended) (some_satisfied own.ended step.tests.items)

abbrev pub started : Fixed → ℕ → StepPlan → State → Done
started fixed n step s =
    goes (line.Step n step.name step.procedure_step (fate_at fixed step s.own) ∷ [])
    (with_own s (at_step s.own (is_run (fate_at fixed step s.own))))

-- A DD taken. Of SYSOUT, DUMMY and cards there is nothing to find.
abbrev pub new_dd : ℕ → Option (List ℕ) → Option TakenSet → DdState
new_dd dd name t = record { number = dd; name = name; taken = t; member = 0; position = 0; written = false; spooled = [] }

abbrev pub takes_no_set : ℕ → Option (List ℕ) → TakeWord → State → Done
takes_no_set dd name w s = goes (line.Take dd name w ∷ []) (with_own s (record s.own { dds = s.own.dds ++ new_dd dd name None ∷ [] }))

abbrev pub take_word : How → List ℕ → TakeWord
take_word how.Made serial = word.Made serial
take_word how.Found serial = word.Found serial
take_word how.FoundByCatalog serial = word.Found serial
take_word (how.Received made by_catalog) serial = word.Received serial

abbrev pub new_set : Fixed → SetPlan → Key → DataSet
new_set fixed p key = record { tracks = primary_of p.space; expires = day_of p.expiry (is_temporary key) fixed.date; records = [] }

abbrev pub store_made : How → Fixed → SetPlan → Key → List ℕ → Store → Store
store_made how.Made fixed p key serial s = with_set s key serial (Some (new_set fixed p key))
store_made how.Found fixed p key serial s = s
store_made how.FoundByCatalog fixed p key serial s = s
store_made (how.Received made by_catalog) fixed p key serial s = s

abbrev pub place_made : How → ℕ → ℕ → List ℕ → List Place
place_made how.Made n dd serial = record { step = n; dd = dd; serial = serial } ∷ []
place_made how.Found n dd serial = []
place_made how.FoundByCatalog n dd serial = []
place_made (how.Received made by_catalog) n dd serial = []

abbrev pub passed_left : How → List Passed → Key → List Passed
passed_left how.Made passed key = passed
passed_left how.Found passed key = passed
passed_left how.FoundByCatalog passed key = passed
passed_left (how.Received made by_catalog) passed key = without_passed passed key

abbrev pub own_with_set : ℕ → ℕ → Option (List ℕ) → Key → List ℕ → How → Own → Own
own_with_set n dd name key serial h own = record own {
  passed = passed_left h own.passed key;
  volumes = own.volumes ++ record { step = n; dd = dd; serial = serial } ∷ [];
  dds = own.dds ++ new_dd dd name (Some (taken key serial h)) ∷ [];
}

-- a fault ends the job's running: the sets that the step had taken are given back
abbrev pub back_line : DdState → List JobLine
back_line x = by_taken x.number x.name x.taken
  where
    by_taken : ℕ → Option (List ℕ) → Option TakenSet → List JobLine
    by_taken dd name None = []
    by_taken dd name (Some t) = line.Back dd name (back_word (is_deleted_back t)) ∷ []

abbrev pub back_lines : List DdState → List JobLine
back_lines [] = []
back_lines (x ∷ xs) = back_line x ++ back_lines xs

abbrev pub set_given_back : Option TakenSet → Store → Store
set_given_back None s = s
set_given_back (Some t) s = if is_deleted_back t then with_set s t.key t.serial None else s

abbrev pub all_given_back : List DdState → Store → Store
all_given_back [] s = s
all_given_back (x ∷ xs) s = all_given_back xs (set_given_back x.taken s)

abbrev pub refused : ℕ → ℕ → Fault → State → Done
refused n dd fault s = record {
  lines = line.Fault fault n dd ∷ back_lines s.own.dds;
  state = record {
    store = all_given_back s.own.dds s.store;
    own = record s.own { faulted = true; runs = false; dds = [] };
    answers = s.answers;
  };
  meets = Some fault;
  made = [];
}

abbrev pub decided : Fixed → ℕ → ℕ → Option (List ℕ) → SetPlan → Key → State → Decision → Done
decided fixed n dd name p key s (Refuses fault) = refused n dd fault s
decided fixed n dd name p key s (Takes serial h) = record {
  lines = line.Take dd name (take_word h serial) ∷ [];
  state = record {
    store = store_made h fixed p key serial s.store;
    own = own_with_set n dd name key serial h s.own;
    answers = s.answers;
  };
  meets = None;
  made = place_made h n dd serial;
}

-- what a DD goes for, and what stands there
abbrev pub target_at : Fixed → ℕ → ℕ → SetPlan → Key → State → Target
target_at fixed n dd p key s = target_of p.status (where_of p.volume s.store s.own.passed s.own.volumes)
    (first_passed s.own.passed key) (catalogued s.store key) (place_of fixed.places n dd)

abbrev pub decision_at : Fixed → SetPlan → Key → State → Target → Decision
decision_at fixed p key s t = decide t (is_known fixed.volumes (looked_at t)) (is_there s.store key (looked_at t)) (is_some p.space) s.answers.primary

abbrev pub takes_set : Fixed → ℕ → ℕ → Option (List ℕ) → SetPlan → State → Resolution → Done
takes_set fixed n dd name p s (Fails fault) = refused n dd fault s
takes_set fixed n dd name p s (Means key) = decided fixed n dd name p key s (decision_at fixed p key s (target_at fixed n dd p key s))

abbrev pub takes : Fixed → ℕ → ℕ → Option (List ℕ) → DdKind → State → Done
takes fixed n dd name (Sysout class) s = takes_no_set dd name (word.Sysout class) s
takes fixed n dd name Dummy s = takes_no_set dd name word.Dummy s
takes fixed n dd name (Cards cards) s = takes_no_set dd name (word.Cards (length cards)) s
takes fixed n dd name (Set p) s = takes_set fixed n dd name p s (meaning_at fixed.meanings n dd)
