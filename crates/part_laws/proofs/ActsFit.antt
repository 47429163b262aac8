-- Each action keeps the own state of a job fitting what is left of its agenda.
use Rattle.std.proofs.Common.{◌≡◌, ◌||◌, ◌==◌, ◌+◌, ◌-◌, ◌<◌, ◌++◌, ℕ, Bool, true, false, cond, List, [], ◌∷◌, length, Option, Some, None, refl, sym, ap, ◌∙◌, subst, arith}
use Rattle.std.specs.Prelude.{drop, is_none, is_some, slice_get, slice_set}
use Rattle.std.specs.List.{AllByRecursion}
use Rattle.std.proofs.lemmas.Bool.{and_parts, or_parts}
use Rattle.jname_core.specs.declared.key.Key.{Key}
use Rattle.jcl_plan.specs.declared.entry.JobLine.TheVariants as line
use Rattle.jcl_plan.specs.declared.fault.Fault.{Fault}
use Rattle.jcl_plan.specs.declared.outcome.Abend.{Abend}
use Rattle.jcl_plan.specs.declared.outcome.Abend.TheVariants as abend
use Rattle.jcl_plan.specs.declared.outcome.Outcome.{Outcome}
use Rattle.jcl_plan.specs.declared.outcome.Outcome.TheVariants as outcome
use Rattle.jcl_plan.specs.declared.plan.DdKind.{DdKind}
use Rattle.jcl_plan.specs.declared.plan.DdKind.TheVariants.{Sysout, Dummy, Cards, Set}
use Rattle.jcl_plan.specs.declared.plan.DdPlan.{DdPlan}
use Rattle.jcl_plan.specs.declared.plan.SetPlan.{SetPlan}
use Rattle.jcl_plan.specs.declared.plan.StepPlan.{StepPlan}
use Rattle.jcl_plan.specs.declared.words.TakeWord.{TakeWord}
use Rattle.jcl_plan.specs.declared.words.TakeWord.TheVariants as word
use Rattle.jcl_meaning.specs.declared.names.HeldName.{HeldName}
use Rattle.jcl_meaning.specs.declared.program.Move.{Move}
use Rattle.jcl_meaning.specs.declared.program.Move.TheVariants.{From, To}
use Rattle.jcl_meaning.specs.declared.state.DdState.{DdState}
use Rattle.jcl_meaning.specs.declared.state.Due.{Due}
use Rattle.jcl_meaning.specs.declared.state.Due.TheVariants as due
use Rattle.jcl_meaning.specs.declared.state.KeyMeaning.{KeyMeaning}
use Rattle.jcl_meaning.specs.declared.state.Own.{Own}
use Rattle.jcl_meaning.specs.declared.state.Passed.{Passed}
use Rattle.jcl_meaning.specs.declared.state.Resolution.{Resolution}
use Rattle.jcl_meaning.specs.declared.state.Resolution.TheVariants.{Fails, Means}
use Rattle.jcl_meaning.specs.declared.state.TakenSet.{TakenSet}
use Rattle.jcl_meaning.specs.declared.store.DataSet.{DataSet}
use Rattle.jcl_meaning.specs.declared.take.Decision.{Decision}
use Rattle.jcl_meaning.specs.declared.take.Decision.TheVariants.{Refuses, Takes}
use Rattle.jcl_meaning.specs.declared.take.How.{How}
use Rattle.jcl_meaning.specs.declared.take.How.TheVariants as how
use Rattle.jcl_meaning.specs.declared.take.Target.{Target}
use Rattle.jcl_meaning.specs.Acts.{act}
use Rattle.jcl_meaning.specs.Agendas.{Action}
use Rattle.jcl_meaning.specs.EndActs.{as_ending, disposes, end_line, ended_with, finished, finishes, later_than, leaves, left_at, marked_later, passed_by, passed_with, set_disposes}
use Rattle.jcl_meaning.specs.History.{is_abend}
use Rattle.jcl_meaning.specs.Programs.{dd_of, emptied, empties, grown_by, is_concatenated, is_full, is_read_only, or_nothing}
use Rattle.jcl_meaning.specs.RequestActs.{asked, asks_at, asks_dd, asks_of, dd_name, gets_by, grant_used, head_or, put_grows, put_starts, put_to_set, puts, puts_in, puts_unless, reads, received, received_due, received_now, with_set_at}
use Rattle.jcl_meaning.specs.Resolutions.{meaning_at, place_of}
use Rattle.jcl_meaning.specs.States.{Done, Fixed, State, abended_by, asks_open, cancel_due, goes, if_runs, unless_cancelled}
use Rattle.jcl_meaning.specs.Stores.{catalogued}
use Rattle.jcl_meaning.specs.TakeActs.{decided, decision_at, new_dd, own_with_set, refused, takes, takes_no_set, takes_set, target_at}
use Rattle.jcl_meaning.specs.Takes.{first_passed, is_known, is_there, looked_at, secondary_of, taken as set_taken, where_of}
use Rattle.part_laws.specs.Fits.{AreTaken, Fits, HasTaken, IsDdHeld, IsDue, IsHeldFor, IsPassed, IsRest, IsTaken, IsTakenBy, sees_alone}
use Rattle.part_laws.proofs.RequestsAlike.{alone_if_taken, alone_if_written}
use Rattle.part_laws.proofs.Taken.{all_but_pass, all_changed, all_more, taken_at_changed, taken_at_more, taken_changed, taken_more, taken_there}
use Rattle.part_laws.proofs.TakesFit.{IsSound, IsSoundHow, all_left, decide_sound, received_alone, target_sound}

-- what is due stays due where DDs are taken
due_more : (names : List HeldName) (xs ys : List DdState) (d : Option Due) → IsDue names xs d → IsDue names (xs ++ ys) d
due_more names xs ys None h = tt
due_more names xs ys (Some (due.Data name text)) h = tt
due_more names xs ys (Some (due.Put name d text)) h = (h.0, taken_at_more xs ys d h.0 h.1, h.2)

-- a step's DDs as its requests leave them
module _ (names : List HeldName) (meanings : List KeyMeaning) (n : ℕ) (dds : List DdPlan) where
  pub record Keeps (own after : Own) : Type 0 where
    pub runs : after.runs ≡ own.runs
    pub passed : after.passed ≡ own.passed
    pub taken : HasTaken names meanings n dds own → HasTaken names meanings n dds after

  unchanged : (own : Own) → Keeps own own
  unchanged own = record { runs = refl; passed = refl; taken = λ h. h }

  if_runs_keeps : (b : Bool) (s : State) (d : Done) → (b ≡ true → Keeps s.own d.state.own) → Keeps s.own (if_runs b s d).state.own
  if_runs_keeps true s d h = h refl
  if_runs_keeps false s d h = unchanged s.own

  either_keeps : (own : Own) (b : Bool) (d e : Done) → Keeps own d.state.own → Keeps own e.state.own → Keeps own (cond b d e).state.own
  either_keeps own true d e h k = h
  either_keeps own false d e h k = k

  -- nothing due any more
  abended_keeps : (a : Abend) (s : State) → Keeps s.own (abended_by a s).state.own
  abended_keeps a s = record { runs = refl; passed = refl; taken = λ h. record { each = h.each; due = tt } }

  uncancelled_keeps : (s : State) (d : Done) → Keeps s.own d.state.own → Keeps s.own (unless_cancelled s d).state.own
  uncancelled_keeps s d h = either_keeps s.own (cancel_due s.answers.cancels s.own.lines) (abended_by abend.S222 s) d (abended_keeps abend.S222 s) h

  -- one DD written anew, with its set
  changed_keeps : (own : Own) (d : ℕ) (x y : DdState) (due : Option Due) (lines : ℕ) → slice_get own.dds d ≡ Some x → x.taken ≡ y.taken →
      IsDue names (slice_set own.dds d y) due → Keeps own (record own { dds = slice_set own.dds d y; due = due; lines = lines })
  changed_keeps own d x y due lines e same h =
      record { runs = refl; passed = refl; taken = λ k. record { each = taken_changed names meanings n 1 dds own.dds d x y k.each e same; due = h } }

  get_keeps : (name : List ℕ) (d : ℕ) (x : DdState) (s : State) (member position : ℕ) (text serial : Option (List ℕ)) → slice_get s.own.dds d ≡ Some x →
      Keeps s.own (gets_by name d x s member position text serial).state.own
  get_keeps name d x s member position None serial e =
      changed_keeps s.own d x (record x { member = member; position = position }) None (s.own.lines + 1) e refl tt
  get_keeps name d x s member position (Some text) None e =
      changed_keeps s.own d x (record x { member = member; position = position + 1 }) None (s.own.lines + 1) e refl tt
  get_keeps name d x s member position (Some text) (Some serial) e =
      changed_keeps s.own d x (record x { member = member; position = position + 1 }) (Some (due.Data name text)) (s.own.lines + 1) e refl tt

  start_keeps : (name text : List ℕ) (d : ℕ) (x : DdState) (u : TakenSet) (grown : Option ℕ) (s : State) → slice_get s.own.dds d ≡ Some x → x.taken ≡ Some u →
      sees_alone names u.key ≡ true → Keeps s.own (put_starts name text d x u grown s).state.own
  start_keeps name text d x u grown s e is alone =
      let y : DdState = record x { written = true } in
      changed_keeps s.own d x y (Some (due.Put name d text)) (s.own.lines + 1) e refl (u, taken_at_changed s.own.dds d x y u e is, alone)

  growth_keeps : (granted : Bool) (name text : List ℕ) (d : ℕ) (x : DdState) (u : TakenSet) (secondary : ℕ) (set : DataSet) (s : State) →
      slice_get s.own.dds d ≡ Some x →
      x.taken ≡ Some u → sees_alone names u.key ≡ true → Keeps s.own (put_grows granted name text d x u secondary set s).state.own
  growth_keeps true name text d x u secondary set s e is alone =
      start_keeps name text d x u (Some secondary) (with_set_at (grant_used s) u (grown_by secondary set)) e is alone
  growth_keeps false name text d x u secondary set s e is alone = abended_keeps abend.SB37 (with_set_at (grant_used s) u set)

  put_set_keeps : (name text : List ℕ) (d : ℕ) (x : DdState) (u : TakenSet) (secondary : ℕ) (set : DataSet) (s : State) → slice_get s.own.dds d ≡ Some x →
      x.taken ≡ Some u → sees_alone names u.key ≡ true → Keeps s.own (put_to_set name text d x u secondary set s).state.own
  put_set_keeps name text d x u secondary set s e is alone =
      either_keeps s.own (is_full set) _ _
      (either_keeps s.own (secondary == 0) _ _ (abended_keeps abend.SD37 (with_set_at s u set))
      (growth_keeps (head_or true s.answers.grants) name text d x u secondary set s e is alone))
      (start_keeps name text d x u None (with_set_at s u set) e is alone)

  put_in_keeps : (name text : List ℕ) (d : ℕ) (x : DdState) (plan : SetPlan) (u : Option TakenSet) (s : State) → slice_get s.own.dds d ≡ Some x → x.taken ≡ u →
      ((v : TakenSet) → u ≡ Some v → sees_alone names v.key ≡ true) → Keeps s.own (puts_in name text d x plan u s).state.own
  put_in_keeps name text d x plan None s e is alone = abended_keeps abend.SFF1 s
  put_in_keeps name text d x plan (Some u) s e is alone =
      put_set_keeps name text d x u (secondary_of plan.space) (emptied (empties plan.status x.written) (or_nothing (s.store.set u.key u.serial))) s e is
      (alone u refl)

  put_keeps : (name text : List ℕ) (d dd : ℕ) (x : DdState) (kind : DdKind) (s : State) → slice_get s.own.dds d ≡ Some x → is_read_only kind ≡ false →
      IsTakenBy names meanings n dd kind x.taken → Keeps s.own (puts name text d x kind s).state.own
  put_keeps name text d dd x (Sysout class) s e w h = changed_keeps s.own d x (record x { spooled = x.spooled ++ text ∷ [] }) None (s.own.lines + 1) e refl tt
  put_keeps name text d dd x Dummy s e w h = record { runs = refl; passed = refl; taken = λ k. record { each = k.each; due = tt } }
  put_keeps name text d dd x (Cards cards) s e w h = abended_keeps abend.SFF1 s
  put_keeps name text d dd x (Set plan) s e w h = put_in_keeps name text d x plan x.taken s e refl (alone_if_taken names meanings n dd plan x.taken w h)

  put_unless_keeps : (b : Bool) (name text : List ℕ) (d dd : ℕ) (x : DdState) (kind : DdKind) (s : State) → slice_get s.own.dds d ≡ Some x →
      (b ≡ false → is_read_only kind ≡ false) → IsTakenBy names meanings n dd kind x.taken → Keeps s.own (puts_unless b name text d x kind s).state.own
  put_unless_keeps true name text d dd x kind s e w h = abended_keeps abend.SFF1 s
  put_unless_keeps false name text d dd x kind s e w h = put_keeps name text d dd x kind s e (w refl) h

  ask_of_keeps : (step : StepPlan) (m : Move) (d dd : ℕ) (x : DdState) (plan : DdPlan) (s : State) → slice_get s.own.dds d ≡ Some x →
      IsTakenBy names meanings n dd plan.kind x.taken → Keeps s.own (asks_of step m d x plan s).state.own
  ask_of_keeps step (From name) d dd x plan s e h =
      let found = reads step d x s in get_keeps name d x s found.member found.position found.text found.serial e
  ask_of_keeps step (To name text) d dd x plan s e h =
      put_unless_keeps (is_read_only plan.kind || is_concatenated (drop d step.dds)) name text d dd x plan.kind s e
      (λ w. (or_parts (is_read_only plan.kind) (is_concatenated (drop d step.dds)) w).0) h

  ask_dd_keeps : (x : Option DdState) (plan : Option DdPlan) (step : StepPlan) (m : Move) (d : ℕ) (s : State) → AreTaken names meanings n 1 dds s.own.dds →
      slice_get s.own.dds d ≡ x → slice_get dds d ≡ plan → Keeps s.own (asks_dd x plan step m d s).state.own
  ask_dd_keeps None plan step m d s h ex ed = abended_keeps abend.SFF0 s
  ask_dd_keeps (Some x) None step m d s h ex ed = abended_keeps abend.SFF0 s
  ask_dd_keeps (Some x) (Some plan) step m d s h ex ed =
      ask_of_keeps step m d (1 + d) x plan s ex (taken_there names meanings n 1 dds s.own.dds h d plan x ed ex)

  ask_at_keeps : (d : Option ℕ) (step : StepPlan) (m : Move) (s : State) → AreTaken names meanings n 1 dds s.own.dds → step.dds ≡ dds →
      Keeps s.own (asks_at d step m s).state.own
  ask_at_keeps None step m s h e = abended_keeps abend.SFF0 s
  ask_at_keeps (Some d) step m s h e =
      ask_dd_keeps (slice_get s.own.dds d) (slice_get step.dds d) step m d s h refl (ap (λ (z : List DdPlan). slice_get z d) (sym e))

  asked_keeps : (step : StepPlan) (m : Move) (s : State) → (s.own.runs ≡ true → HasTaken names meanings n dds s.own) → step.dds ≡ dds →
      Keeps s.own (asked step m s).state.own
  asked_keeps step m s h e =
      if_runs_keeps (asks_open s.own) s _ (λ opened.
      uncancelled_keeps s _ (ask_at_keeps (dd_of step.dds (dd_name m)) step m s (h (and_parts s.own.runs (is_none s.own.over) opened).0).each e))

  receipt_keeps : (d : Due) (s : State) → Keeps s.own (received_now d s).state.own
  receipt_keeps (due.Data name text) s = record { runs = refl; passed = refl; taken = λ k. record { each = k.each; due = tt } }
  receipt_keeps (due.Put name d text) s = record { runs = refl; passed = refl; taken = λ k. record { each = k.each; due = tt } }

  due_keeps : (d : Option Due) (s : State) → Keeps s.own (received_due d s).state.own
  due_keeps None s = unchanged s.own
  due_keeps (Some d) s = uncancelled_keeps s (received_now d s) (receipt_keeps d s)

  received_keeps : (s : State) → Keeps s.own (received s).state.own
  received_keeps s = if_runs_keeps (asks_open s.own) s _ (λ opened. due_keeps s.own.due s)

  -- so the rest of the agenda fits what they leave
  kept_fits : (rest : List Action) (own after : Own) → IsRest names meanings n dds rest → (own.runs ≡ true → HasTaken names meanings n dds own) →
      AllByRecursion (IsPassed names meanings) own.passed → Keeps own after → Fits names meanings rest after
  kept_fits rest own after ahead taken passed k = record {
    step = n;
    dds = dds;
    ahead = ahead;
    taken = λ e. k.taken (taken (sym k.runs ∙ e));
    passed = subst (AllByRecursion (IsPassed names meanings)) (sym k.passed) passed;
  }

-- a set that is taken
is_taken : (names : List HeldName) (meanings : List KeyMeaning) (step dd : ℕ) (plan : SetPlan) (key : Key) (h : How) (serial : List ℕ) →
    meaning_at meanings step dd ≡ Means key → IsHeldFor names plan key → IsSoundHow names key h → IsTaken names meanings step dd plan (set_taken key serial h)
is_taken names meanings step dd plan key how.Made serial meant held sound = record { meant = meant; held = held; made = λ e. sound }
is_taken names meanings step dd plan key how.Found serial meant held sound = record { meant = meant; held = held; made = λ e. absurd cc }
is_taken names meanings step dd plan key how.FoundByCatalog serial meant held sound = record { meant = meant; held = held; made = λ e. absurd cc }
is_taken names meanings step dd plan key (how.Received made by_catalog) serial meant held sound = record { meant = meant; held = held; made = sound }

nothing_taken : (names : List HeldName) (meanings : List KeyMeaning) (step dd : ℕ) (kind : DdKind) → IsTakenBy names meanings step dd kind None
nothing_taken names meanings step dd kind = tt

-- a DD more was taken, or passed over
module _ (names : List HeldName) (fixed : Fixed) (step : ℕ) (dds : List DdPlan) (rest : List Action) (n dd : ℕ) (name : Option (List ℕ)) (en : n ≡ step)
    (ed : dd ≡ length dds + 1) where
  abbrev plan_of : DdKind → DdPlan
  plan_of kind = record { name = name; kind = kind }

  abbrev Ahead : DdKind → Type 0
  Ahead kind = IsRest names fixed.meanings step (dds ++ plan_of kind ∷ []) rest

  abbrev AllPassed : Own → Type 0
  AllPassed own = AllByRecursion (IsPassed names fixed.meanings) own.passed

  took_fits : (kind : DdKind) (own after : Own) (x : DdState) → Ahead kind → (own.runs ≡ true → HasTaken names fixed.meanings step dds own) →
      after.runs ≡ own.runs →
      after.dds ≡ own.dds ++ x ∷ [] → after.due ≡ own.due → IsTakenBy names fixed.meanings step (1 + length dds) kind x.taken → AllPassed after →
      Fits names fixed.meanings rest after
  took_fits kind own after x ahead taken runs more due here passed = record {
    step = step;
    dds = dds ++ plan_of kind ∷ [];
    ahead = ahead;
    taken = λ e. let h = taken (sym runs ∙ e) in record {
      each =
          subst (AreTaken names fixed.meanings step 1 (dds ++ plan_of kind ∷ [])) (sym more)
          (taken_more names fixed.meanings step 1 dds own.dds (plan_of kind) x h.each here);
      due = subst (λ (xs : List DdState). IsDue names xs after.due) (sym more)
          (subst (IsDue names (own.dds ++ x ∷ [])) (sym due) (due_more names own.dds (x ∷ []) own.due h.due));
    };
    passed = passed;
  }

  refused_fits : (kind : DdKind) (fault : Fault) (s : State) → Ahead kind → AllPassed s.own → Fits names fixed.meanings rest (refused n dd fault s).state.own
  refused_fits kind fault s ahead passed = record { step = step; dds = dds ++ plan_of kind ∷ []; ahead = ahead; taken = λ e. absurd cc; passed = passed }

  no_set_fits : (kind : DdKind) (w : TakeWord) (s : State) → Ahead kind → (s.own.runs ≡ true → HasTaken names fixed.meanings step dds s.own) → AllPassed s.own →
      Fits names fixed.meanings rest (takes_no_set dd name w s).state.own
  no_set_fits kind w s ahead taken passed =
      took_fits kind s.own (takes_no_set dd name w s).state.own (new_dd dd name None) ahead taken refl refl refl
      (nothing_taken names fixed.meanings step (1 + length dds) kind) passed

  decided_fits : (plan : SetPlan) (key : Key) (s : State) (d : Decision) → Ahead (Set plan) →
      (s.own.runs ≡ true → HasTaken names fixed.meanings step dds s.own) → AllPassed s.own →
      meaning_at fixed.meanings step (1 + length dds) ≡ Means key → IsHeldFor names plan key → IsSound names key d →
      Fits names fixed.meanings rest (decided fixed n dd name plan key s d).state.own
  decided_fits plan key s (Refuses fault) ahead taken passed meant held sound = refused_fits (Set plan) fault s ahead passed
  decided_fits plan key s (Takes serial h) ahead taken passed meant held sound =
      took_fits (Set plan) s.own (own_with_set n dd name key serial h s.own) (new_dd dd name (Some (set_taken key serial h))) ahead taken refl refl refl
      (is_taken names fixed.meanings step (1 + length dds) plan key h serial meant held sound)
      (all_left (IsPassed names fixed.meanings) h s.own.passed key passed)

  set_fits : (plan : SetPlan) (s : State) (r : Resolution) → Ahead (Set plan) → (s.own.runs ≡ true → HasTaken names fixed.meanings step dds s.own) →
      AllPassed s.own → meaning_at fixed.meanings step (1 + length dds) ≡ r → ((key : Key) → r ≡ Means key → IsHeldFor names plan key) →
      Fits names fixed.meanings rest (takes_set fixed n dd name plan s r).state.own
  set_fits plan s (Fails fault) ahead taken passed meant held = refused_fits (Set plan) fault s ahead passed
  set_fits plan s (Means key) ahead taken passed meant held =
      let t : Target = target_at fixed n dd plan key s in
      decided_fits plan key s (decision_at fixed plan key s t) ahead taken passed meant (held key refl)
      (decide_sound names key t (is_known fixed.volumes (looked_at t)) (is_there s.store key (looked_at t)) (is_some plan.space) s.answers.primary
      (target_sound names key plan.status (where_of plan.volume s.store s.own.passed s.own.volumes) (first_passed s.own.passed key) (catalogued s.store key)
      (place_of fixed.places n dd)
      (λ e. (held key refl).alone (alone_if_written plan e))
      (received_alone names key fixed.meanings s.own.passed passed)))

  takes_fits : (kind : DdKind) (s : State) → Ahead kind → (s.own.runs ≡ true → HasTaken names fixed.meanings step dds s.own) → AllPassed s.own →
      IsDdHeld names fixed.meanings n dd kind → Fits names fixed.meanings rest (takes fixed n dd name kind s).state.own
  takes_fits (Sysout class) s ahead taken passed held = no_set_fits (Sysout class) (word.Sysout class) s ahead taken passed
  takes_fits Dummy s ahead taken passed held = no_set_fits Dummy word.Dummy s ahead taken passed
  takes_fits (Cards cards) s ahead taken passed held = no_set_fits (Cards cards) (word.Cards (length cards)) s ahead taken passed
  takes_fits (Set plan) s ahead taken passed held =
      let at : 1 + length dds ≡ dd = omega arith in
      set_fits plan s (meaning_at fixed.meanings n dd) ahead taken passed (λ i. meaning_at fixed.meanings (sym en i) (at i)) held.key

  pub take_fits : (kind : DdKind) (s : State) → Ahead kind → (s.own.runs ≡ true → HasTaken names fixed.meanings step dds s.own) → AllPassed s.own →
      IsDdHeld names fixed.meanings n dd kind → Fits names fixed.meanings rest (if_runs s.own.runs s (takes fixed n dd name kind s)).state.own
  take_fits kind s ahead taken passed held = by_running s.own.runs refl
    where
      by_running : (b : Bool) → s.own.runs ≡ b → Fits names fixed.meanings rest (if_runs b s (takes fixed n dd name kind s)).state.own
      by_running true e = takes_fits kind s ahead taken passed held
      by_running false e = record { step = step; dds = dds ++ plan_of kind ∷ []; ahead = ahead; taken = λ f. absurd (cc (e, f)); passed = passed }

-- where only what is passed changes, and what was due is no more
module _ (names : List HeldName) (meanings : List KeyMeaning) (n : ℕ) (dds : List DdPlan) (rest : List Action) (ahead : IsRest names meanings n dds rest) where
  abbrev Passes : Own → Type 0
  Passes own = AllByRecursion (IsPassed names meanings) own.passed

  abbrev Took : Own → Type 0
  Took own = own.runs ≡ true → HasTaken names meanings n dds own

  still_fits : (own : Own) → Took own → Passes own → Fits names meanings rest own
  still_fits own taken passed = record { step = n; dds = dds; ahead = ahead; taken = taken; passed = passed }

  either_fits : (b : Bool) (d e : Done) → Fits names meanings rest d.state.own → Fits names meanings rest e.state.own →
      Fits names meanings rest (cond b d e).state.own
  either_fits true d e h k = h
  either_fits false d e h k = k

  later_passed : (m : ℕ) (q : Passed) → IsPassed names meanings q → IsPassed names meanings (later_than m q)
  later_passed m q h = record { meant = h.meant; made = h.made }

  marked_passed : (abended : Bool) (m : ℕ) (qs : List Passed) → AllByRecursion (IsPassed names meanings) qs →
      AllByRecursion (IsPassed names meanings) (cond abended (marked_later m qs) qs)
  marked_passed true m qs h = all_changed (IsPassed names meanings) (later_than m) (later_passed m) qs h
  marked_passed false m qs h = h

  ended_fits : (m : ℕ) (o : Outcome) (s : State) → Took s.own → Passes s.own → Fits names meanings rest (ended_with m o s).own
  ended_fits m o s taken passed = record {
    step = n;
    dds = dds;
    ahead = ahead;
    taken = λ e. record { each = (taken e).each; due = tt };
    passed = marked_passed (is_abend o) m s.own.passed passed;
  }

  abbrev next_end : State → Outcome
  next_end s = as_ending (head_or (outcome.Code 0) s.answers.outcomes)

  finishes_fits : (m : ℕ) (over : Option Outcome) (s : State) → Took s.own → Passes s.own → Fits names meanings rest (finishes m over s).state.own
  finishes_fits m (Some o) s taken passed = ended_fits m o s taken passed
  finishes_fits m None s taken passed =
      either_fits (cancel_due s.answers.cancels s.own.lines)
      (goes (line.Abend abend.S222 ∷ []) (ended_with m (outcome.Abend abend.S222) s)) (goes (end_line (next_end s) ∷ []) (ended_with m (next_end s) s))
      (ended_fits m (outcome.Abend abend.S222) s taken passed) (ended_fits m (next_end s) s taken passed)

  finished_fits : (m : ℕ) (s : State) → Took s.own → Passes s.own → Fits names meanings rest (finished m s).state.own
  finished_fits m s taken passed = either_fits s.own.runs _ _ (finishes_fits m s.own.over s taken passed) (still_fits s.own taken passed)

  -- dispositions
  passed_more : (b : Bool) (m dd : ℕ) (t : TakenSet) (qs : List Passed) → meaning_at meanings m dd ≡ Means t.key →
      (t.made ≡ true → sees_alone names t.key ≡ true) →
      AllByRecursion (IsPassed names meanings) qs → AllByRecursion (IsPassed names meanings) (passed_with b m dd t qs)
  passed_more false m dd t qs meant made all = all
  passed_more true m dd t qs meant made all = all_more (IsPassed names meanings) qs _ all (record { meant = meant; made = made })

  module _ (fixed : Fixed) (m dd : ℕ) (name : Option (List ℕ)) (s : State) (took : Took s.own) (passes : Passes s.own) where
    set_disposes_fits : (plan : SetPlan) (t : Option TakenSet) →
        ((u : TakenSet) → t ≡ Some u → (meaning_at meanings m dd ≡ Means u.key) × (u.made ≡ true → sees_alone names u.key ≡ true)) →
        Fits names meanings rest (set_disposes fixed m dd name plan t s).state.own
    set_disposes_fits plan None is = still_fits s.own took passes
    set_disposes_fits plan (Some t) is = record {
      step = n;
      dds = dds;
      ahead = ahead;
      taken = λ e. record { each = (took e).each; due = (took e).due };
      passed = passed_more _ m dd t s.own.passed (is t refl).0 (is t refl).1 passes;
    }

    taken_of_set : (plan : SetPlan) (t : Option TakenSet) → IsTakenBy names meanings m dd (Set plan) t → (u : TakenSet) → t ≡ Some u →
        (meaning_at meanings m dd ≡ Means u.key) × (u.made ≡ true → sees_alone names u.key ≡ true)
    taken_of_set plan None h u e = absurd cc
    taken_of_set plan (Some t) h u e =
        let is : t ≡ u = cc in
        subst (λ (w : TakenSet). (meaning_at meanings m dd ≡ Means w.key) × (w.made ≡ true → sees_alone names w.key ≡ true)) is (h.meant, h.made)

    disposes_fits : (kind : DdKind) (x : Option DdState) → ((y : DdState) → x ≡ Some y → IsTakenBy names meanings m dd kind y.taken) →
        Fits names meanings rest (disposes x fixed m dd name kind s).state.own
    disposes_fits kind None is = still_fits s.own took passes
    disposes_fits (Sysout class) (Some x) is =
        record { step = n; dds = dds; ahead = ahead; taken = λ e. record { each = (took e).each; due = (took e).due }; passed = passes }
    disposes_fits Dummy (Some x) is = still_fits s.own took passes
    disposes_fits (Cards cards) (Some x) is = still_fits s.own took passes
    disposes_fits (Set plan) (Some x) is = set_disposes_fits plan x.taken (taken_of_set plan x.taken (is x refl))

    dispose_fits : (d : DdPlan) → m ≡ n → 0 < dd → slice_get dds (dd - 1) ≡ Some d →
        Fits names meanings rest (if_runs s.own.runs s (disposes (slice_get s.own.dds (dd - 1)) fixed m dd name d.kind s)).state.own
    dispose_fits d em pos ed = by_running s.own.runs refl
      where
        at : 1 + (dd - 1) ≡ dd
        at = omega arith

        by_running : (b : Bool) → s.own.runs ≡ b →
            Fits names meanings rest (if_runs b s (disposes (slice_get s.own.dds (dd - 1)) fixed m dd name d.kind s)).state.own
        by_running true e =
            disposes_fits d.kind (slice_get s.own.dds (dd - 1)) (λ y is.
            subst (λ (k : ℕ). IsTakenBy names meanings m k d.kind y.taken) at
            (subst (λ (k : ℕ). IsTakenBy names meanings k (1 + (dd - 1)) d.kind y.taken) (sym em)
            (taken_there names meanings n 1 dds s.own.dds (took e).each (dd - 1) d y ed is)))
        by_running false e = still_fits s.own took passes

    -- the job's end
    leaves_fits : (plan : SetPlan) (q : Option Passed) → Fits names meanings rest (leaves fixed m dd name plan q s).state.own
    leaves_fits plan None = still_fits s.own took passes
    leaves_fits plan (Some q) = record {
      step = n;
      dds = dds;
      ahead = ahead;
      taken = λ e. record { each = (took e).each; due = (took e).due };
      passed = all_but_pass (IsPassed names meanings) s.own.passed m dd passes;
    }

    left_fits : (kind : DdKind) → Fits names meanings rest (left_at fixed m dd name kind s).state.own
    left_fits (Sysout class) = still_fits s.own took passes
    left_fits Dummy = still_fits s.own took passes
    left_fits (Cards cards) = still_fits s.own took passes
    left_fits (Set plan) = leaves_fits plan (passed_by s.own.passed m dd)

-- any action
pub act_fits : (names : List HeldName) (fixed : Fixed) (a : Action) (rest : List Action) (s : State) → Fits names fixed.meanings (a ∷ rest) s.own →
    Fits names fixed.meanings rest (act fixed a s).state.own
unfolding act
act_fits names fixed (Action.Start n step) rest s h =
    record { step = n; dds = []; ahead = h.ahead; taken = λ e. record { each = tt; due = tt }; passed = h.passed }
act_fits names fixed (Action.Take n dd d) rest s h =
    take_fits names fixed h.step h.dds rest n dd d.name h.ahead.0 h.ahead.1 d.kind s h.ahead.3 h.taken h.passed h.ahead.2
act_fits names fixed (Action.Ask step m) rest s h =
    kept_fits names fixed.meanings h.step h.dds rest s.own _ h.ahead.1 h.taken h.passed
    (asked_keeps names fixed.meanings h.step h.dds step m s h.taken h.ahead.0)
act_fits names fixed Action.Receive rest s h =
    kept_fits names fixed.meanings h.step h.dds rest s.own _ h.ahead h.taken h.passed (received_keeps names fixed.meanings h.step h.dds s)
act_fits names fixed (Action.Finish n) rest s h = finished_fits names fixed.meanings h.step h.dds rest h.ahead n s h.taken h.passed
act_fits names fixed (Action.Dispose n dd d) rest s h =
    dispose_fits names fixed.meanings h.step h.dds rest h.ahead.3 fixed n dd d.name s h.taken h.passed d h.ahead.0 h.ahead.1 h.ahead.2
act_fits names fixed (Action.Left n dd d) rest s h = left_fits names fixed.meanings h.step h.dds rest h.ahead.1 fixed n dd d.name s h.taken h.passed d.kind
act_fits names fixed Action.Over rest s h = still_fits names fixed.meanings h.step h.dds rest h.ahead s.own h.taken h.passed
