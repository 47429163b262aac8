-- What an action does stays within the names of its job, and leaves each group.
use Rattle.std.proofs.Common.{◌≡◌, ◌||◌, ◌⊎◌, inl, inr, ◌==◌, ◌+◌, ◌-◌, ◌++◌, ℕ, Bool, true, false, cond, List, [], ◌∷◌, Option, Some, None, refl, sym, ap, ◌∙◌, subst}
use Rattle.std.specs.Prelude.{drop, is_none, is_some, slice_get}
use Rattle.std.specs.List.{AllByRecursion}
use Rattle.std.proofs.lemmas.Bool.{and_parts, or_cases, or_parts}
use Rattle.jname_core.specs.declared.key.Key.{Key}
use Rattle.jname_core.specs.declared.key.Key.TheVariants.{Named, Relative, Temporary, Unnamed}
use Rattle.jcl_plan.specs.declared.outcome.Abend.TheVariants as abend
use Rattle.jcl_plan.specs.declared.outcome.Outcome.{Outcome}
use Rattle.jcl_plan.specs.declared.plan.DdKind.{DdKind}
use Rattle.jcl_plan.specs.declared.plan.DdKind.TheVariants.{Sysout, Dummy, Cards, Set}
use Rattle.jcl_plan.specs.declared.plan.DdPlan.{DdPlan}
use Rattle.jcl_plan.specs.declared.plan.SetPlan.{SetPlan}
use Rattle.jcl_plan.specs.declared.plan.StepPlan.{StepPlan}
use Rattle.jcl_meaning.specs.declared.names.HeldName.{HeldName}
use Rattle.jcl_meaning.specs.declared.program.Move.{Move}
use Rattle.jcl_meaning.specs.declared.program.Move.TheVariants.{From, To}
use Rattle.jcl_meaning.specs.declared.state.DdState.{DdState}
use Rattle.jcl_meaning.specs.declared.state.Due.{Due}
use Rattle.jcl_meaning.specs.declared.state.Due.TheVariants as due
use Rattle.jcl_meaning.specs.declared.state.KeyMeaning.{KeyMeaning}
use Rattle.jcl_meaning.specs.declared.state.Passed.{Passed}
use Rattle.jcl_meaning.specs.declared.state.Resolution.{Resolution}
use Rattle.jcl_meaning.specs.declared.state.Resolution.TheVariants.{Fails, Means}
use Rattle.jcl_meaning.specs.declared.state.TakenSet.{TakenSet}
use Rattle.jcl_meaning.specs.declared.store.DataSet.{DataSet}
use Rattle.jcl_meaning.specs.declared.take.Decision.{Decision}
use Rattle.jcl_meaning.specs.declared.take.Decision.TheVariants.{Refuses, Takes}
use Rattle.jcl_meaning.specs.declared.take.How.{How}
use Rattle.jcl_meaning.specs.declared.take.How.TheVariants as how
use Rattle.jcl_meaning.specs.declared.take.Target.{Target}
use Rattle.jcl_meaning.specs.Acts.{act}
use Rattle.jcl_meaning.specs.Agendas.{Action}
use Rattle.jcl_meaning.specs.Dispositions.{as_taken, changed, disposed_by, is_deleted_back, left_word}
use Rattle.jcl_meaning.specs.EndActs.{after_abend, disposes, finished, finishes, leaves, left_at, passed_by, tracks_released, set_disposes}
use Rattle.jcl_meaning.specs.Names.{is_temporary}
use Rattle.jcl_meaning.specs.Plans.{conditional_meaning, normal_meaning, word_done}
use Rattle.jcl_meaning.specs.Programs.{dd_of, emptied, empties, grown_by, is_concatenated, is_full, is_read_only, or_nothing, taken_by}
use Rattle.jcl_meaning.specs.RequestActs.{appended_at, asked, asks_at, asks_dd, asks_of, dd_name, gets_by, head_or, put_grows, put_to_set, puts, puts_in, puts_unless, reads, received, received_due, received_now, store_appended}
use Rattle.jcl_meaning.specs.Resolutions.{meaning_at, place_of}
use Rattle.jcl_meaning.specs.Solo.{run}
use Rattle.jcl_meaning.specs.States.{Done, Fixed, State, abended_by, asks_open, cancel_due, if_runs, unless_cancelled}
use Rattle.jcl_meaning.specs.Stores.{Store, catalogued, cut_at, with_set, with_set_there}
use Rattle.jcl_meaning.specs.TakeActs.{all_given_back, decided, decision_at, set_given_back, new_set, store_made, takes, takes_set, target_at}
use Rattle.jcl_meaning.specs.Takes.{first_passed, is_known, is_there, looked_at, releases, secondary_of, where_of}
use Rattle.part_laws.specs.Fits.{AreTaken, Fits, HasTaken, IsDdHeld, IsDue, IsHeldFor, IsPassed, IsTakenBy, sees_alone, sees_set}
use Rattle.part_laws.specs.Keeping.{HasSoundGroups}
use Rattle.part_laws.proofs.ActsFit.{act_fits}
use Rattle.part_laws.proofs.ChangesWithin.{Stays, set_stays, stays_along, stays_same}
use Rattle.part_laws.proofs.RequestsAlike.{alone_if_taken, alone_if_written}
use Rattle.part_laws.proofs.Taken.{passed_there, taken_there}
use Rattle.part_laws.proofs.TakesFit.{IsSound, IsSoundHow, decide_sound, received_alone, target_sound}
use Rattle.part_laws.proofs.Within.{cut_within}
use Rattle.part_laws.proofs.WordsWithin.{disposed_stays, done_quiet, left_quiet}

module _ (names : List HeldName) where
  -- a set that is there, written, and one that is cut
  there_stays : (s : Store) (key : Key) (serial : List ℕ) (there : Option DataSet) (set : DataSet) → sees_alone names key ≡ true →
      Stays names s (with_set_there there set s key serial)
  there_stays s key serial None set alone = stays_same names s
  there_stays s key serial (Some a) set alone = set_stays names s key serial (Some set) alone

  cut_sound : (s : Store) (key : Key) (serial : List ℕ) (there : Option DataSet) → HasSoundGroups s → HasSoundGroups (cut_at there s key serial)
  cut_sound s key serial None sound = sound
  cut_sound s key serial (Some a) sound = sound

  released_stays : (b : Bool) (s : Store) (key : Key) (serial : List ℕ) → sees_set names key ≡ true → Stays names s (tracks_released b key serial s)
  released_stays false s key serial seen = stays_same names s
  released_stays true s key serial seen =
      record { within = cut_within names s key serial (s.set key serial) refl seen; sound = cut_sound s key serial (s.set key serial) }

  -- sets given back were made, or are temporary
  temporary_alone : (key : Key) → is_temporary key ≡ true → sees_alone names key ≡ true
  temporary_alone (Named name) e = absurd cc
  temporary_alone (Relative base sign amount) e = absurd cc
  temporary_alone (Temporary name) e = refl
  temporary_alone (Unnamed step dd) e = refl

  deleted_stays : (b : Bool) (s : Store) (t : TakenSet) → (b ≡ true → sees_alone names t.key ≡ true) → Stays names s (cond b (with_set s t.key t.serial None) s)
  deleted_stays true s t alone = set_stays names s t.key t.serial None (alone refl)
  deleted_stays false s t alone = stays_same names s

  deleted_alone : (t : TakenSet) → (t.made ≡ true → sees_alone names t.key ≡ true) → is_deleted_back t ≡ true → sees_alone names t.key ≡ true
  deleted_alone t made e = by_mark (or_cases t.made (is_temporary t.key) e)
    where
      by_mark : (t.made ≡ true) ⊎ (is_temporary t.key ≡ true) → sees_alone names t.key ≡ true
      by_mark (inl f) = made f
      by_mark (inr f) = temporary_alone t.key f

  module _ (meanings : List KeyMeaning) (n : ℕ) where
    one_back_stays : (dd : ℕ) (kind : DdKind) (x : Option TakenSet) (s : Store) → IsTakenBy names meanings n dd kind x → Stays names s (set_given_back x s)
    one_back_stays dd kind None s h = stays_same names s
    one_back_stays dd (Sysout class) (Some t) s h = absurd h
    one_back_stays dd Dummy (Some t) s h = absurd h
    one_back_stays dd (Cards cards) (Some t) s h = absurd h
    one_back_stays dd (Set plan) (Some t) s h = deleted_stays (is_deleted_back t) s t (deleted_alone t h.made)

    all_back_stays : (dd : ℕ) (ds : List DdPlan) (xs : List DdState) (s : Store) → AreTaken names meanings n dd ds xs → Stays names s (all_given_back xs s)
    all_back_stays dd [] [] s h = stays_same names s
    all_back_stays dd [] (x ∷ xs) s h = absurd h
    all_back_stays dd (d ∷ ds) [] s h = absurd h
    all_back_stays dd (d ∷ ds) (x ∷ xs) s h =
        let one : Stays names s (set_given_back x.taken s) = one_back_stays dd d.kind x.taken s h.0 in
        stays_along names s (set_given_back x.taken s) (all_given_back xs (set_given_back x.taken s)) one (all_back_stays (dd + 1) ds xs (set_given_back x.taken s) h.1)

  -- a take
  made_stays : (h : How) (fixed : Fixed) (plan : SetPlan) (key : Key) (serial : List ℕ) (s : Store) → IsSoundHow names key h →
      Stays names s (store_made h fixed plan key serial s)
  made_stays how.Made fixed plan key serial s alone = set_stays names s key serial (Some (new_set fixed plan key)) alone
  made_stays how.Found fixed plan key serial s h = stays_same names s
  made_stays how.FoundByCatalog fixed plan key serial s h = stays_same names s
  made_stays (how.Received made by_catalog) fixed plan key serial s h = stays_same names s

  -- the store after an action
  abbrev DoneStays : State → Done → Type 0
  DoneStays s d = Stays names s.store d.state.store

  if_runs_stays : (b : Bool) (s : State) (d : Done) → (b ≡ true → DoneStays s d) → DoneStays s (if_runs b s d)
  if_runs_stays true s d h = h refl
  if_runs_stays false s d h = stays_same names s.store

  either_stays : (b : Bool) (s : State) (d e : Done) → DoneStays s d → DoneStays s e → DoneStays s (cond b d e)
  either_stays true s d e h k = h
  either_stays false s d e h k = k

  module _ (fixed : Fixed) (step : ℕ) (dds : List DdPlan) (n dd : ℕ) (name : Option (List ℕ)) (s : State)
      (each : AreTaken names fixed.meanings step 1 dds s.own.dds) (passed : AllByRecursion (IsPassed names fixed.meanings) s.own.passed) where
    decided_stays : (plan : SetPlan) (key : Key) (d : Decision) → IsSound names key d → DoneStays s (decided fixed n dd name plan key s d)
    decided_stays plan key (Refuses fault) h = all_back_stays fixed.meanings step 1 dds s.own.dds s.store each
    decided_stays plan key (Takes serial h) k = made_stays h fixed plan key serial s.store k

    set_taken_stays : (plan : SetPlan) (r : Resolution) → ((key : Key) → r ≡ Means key → IsHeldFor names plan key) →
        DoneStays s (takes_set fixed n dd name plan s r)
    set_taken_stays plan (Fails fault) held = all_back_stays fixed.meanings step 1 dds s.own.dds s.store each
    set_taken_stays plan (Means key) held =
        let t : Target = target_at fixed n dd plan key s in
        decided_stays plan key (decision_at fixed plan key s t)
        (decide_sound names key t (is_known fixed.volumes (looked_at t)) (is_there s.store key (looked_at t)) (is_some plan.space) s.answers.primary
        (target_sound names key plan.status (where_of plan.volume s.store s.own.passed s.own.volumes) (first_passed s.own.passed key)
        (catalogued s.store key) (place_of fixed.places n dd)
        (λ e. (held key refl).alone (alone_if_written plan e))
        (received_alone names key fixed.meanings s.own.passed passed)))

    take_stays : (kind : DdKind) → IsDdHeld names fixed.meanings n dd kind → DoneStays s (takes fixed n dd name kind s)
    take_stays (Sysout class) h = stays_same names s.store
    take_stays Dummy h = stays_same names s.store
    take_stays (Cards cards) h = stays_same names s.store
    take_stays (Set plan) h = set_taken_stays plan (meaning_at fixed.meanings n dd) h.key

  -- requests
  module _ (s : State) where
    uncancelled_stays : (d : Done) → DoneStays s d → DoneStays s (unless_cancelled s d)
    uncancelled_stays d h = either_stays (cancel_due s.answers.cancels s.own.lines) s (abended_by abend.S222 s) d (stays_same names s.store) h

    get_stays : (name : List ℕ) (d : ℕ) (x : DdState) (member position : ℕ) (text serial : Option (List ℕ)) →
        DoneStays s (gets_by name d x s member position text serial)
    get_stays name d x member position None serial = stays_same names s.store
    get_stays name d x member position (Some text) None = stays_same names s.store
    get_stays name d x member position (Some text) (Some serial) = stays_same names s.store

    growth_stays : (granted : Bool) (name text : List ℕ) (d : ℕ) (x : DdState) (u : TakenSet) (secondary : ℕ) (set : DataSet) → sees_alone names u.key ≡ true →
        DoneStays s (put_grows granted name text d x u secondary set s)
    growth_stays true name text d x u secondary set alone = there_stays s.store u.key u.serial (s.store.set u.key u.serial) (grown_by secondary set) alone
    growth_stays false name text d x u secondary set alone = there_stays s.store u.key u.serial (s.store.set u.key u.serial) set alone

    put_set_stays : (name text : List ℕ) (d : ℕ) (x : DdState) (u : TakenSet) (secondary : ℕ) (set : DataSet) → sees_alone names u.key ≡ true →
        DoneStays s (put_to_set name text d x u secondary set s)
    put_set_stays name text d x u secondary set alone =
        let there : Stays names s.store (with_set_there (s.store.set u.key u.serial) set s.store u.key u.serial) =
        there_stays s.store u.key u.serial (s.store.set u.key u.serial) set alone in
        either_stays (is_full set) s _ _ (either_stays (secondary == 0) s _ _ there
        (growth_stays (head_or true s.answers.grants) name text d x u secondary set alone)) there

    put_in_stays : (name text : List ℕ) (d : ℕ) (x : DdState) (plan : SetPlan) (u : Option TakenSet) →
        ((v : TakenSet) → u ≡ Some v → sees_alone names v.key ≡ true) → DoneStays s (puts_in name text d x plan u s)
    put_in_stays name text d x plan None alone = stays_same names s.store
    put_in_stays name text d x plan (Some u) alone =
        put_set_stays name text d x u (secondary_of plan.space) (emptied (empties plan.status x.written) (or_nothing (s.store.set u.key u.serial)))
        (alone u refl)

    module _ (meanings : List KeyMeaning) (n : ℕ) (dds : List DdPlan) where
      put_stays : (name text : List ℕ) (d dd : ℕ) (x : DdState) (kind : DdKind) → is_read_only kind ≡ false → IsTakenBy names meanings n dd kind x.taken →
          DoneStays s (puts name text d x kind s)
      put_stays name text d dd x (Sysout class) w h = stays_same names s.store
      put_stays name text d dd x Dummy w h = stays_same names s.store
      put_stays name text d dd x (Cards cards) w h = stays_same names s.store
      put_stays name text d dd x (Set plan) w h = put_in_stays name text d x plan x.taken (alone_if_taken names meanings n dd plan x.taken w h)

      put_unless_stays : (b : Bool) (name text : List ℕ) (d dd : ℕ) (x : DdState) (kind : DdKind) → (b ≡ false → is_read_only kind ≡ false) →
          IsTakenBy names meanings n dd kind x.taken → DoneStays s (puts_unless b name text d x kind s)
      put_unless_stays true name text d dd x kind w h = stays_same names s.store
      put_unless_stays false name text d dd x kind w h = put_stays name text d dd x kind (w refl) h

      ask_of_stays : (step : StepPlan) (m : Move) (d dd : ℕ) (x : DdState) (plan : DdPlan) → IsTakenBy names meanings n dd plan.kind x.taken →
          DoneStays s (asks_of step m d x plan s)
      ask_of_stays step (From name) d dd x plan h = let found = reads step d x s in get_stays name d x found.member found.position found.text found.serial
      ask_of_stays step (To name text) d dd x plan h =
          put_unless_stays (is_read_only plan.kind || is_concatenated (drop d step.dds)) name text d dd x plan.kind
          (λ w. (or_parts (is_read_only plan.kind) (is_concatenated (drop d step.dds)) w).0) h

      ask_dd_stays : (x : Option DdState) (plan : Option DdPlan) (step : StepPlan) (m : Move) (d : ℕ) → AreTaken names meanings n 1 dds s.own.dds →
          slice_get s.own.dds d ≡ x → slice_get dds d ≡ plan → DoneStays s (asks_dd x plan step m d s)
      ask_dd_stays None plan step m d h ex ed = stays_same names s.store
      ask_dd_stays (Some x) None step m d h ex ed = stays_same names s.store
      ask_dd_stays (Some x) (Some plan) step m d h ex ed = ask_of_stays step m d (1 + d) x plan (taken_there names meanings n 1 dds s.own.dds h d plan x ed ex)

      ask_at_stays : (d : Option ℕ) (step : StepPlan) (m : Move) → AreTaken names meanings n 1 dds s.own.dds → step.dds ≡ dds → DoneStays s (asks_at d step m s)
      ask_at_stays None step m h e = stays_same names s.store
      ask_at_stays (Some d) step m h e =
          ask_dd_stays (slice_get s.own.dds d) (slice_get step.dds d) step m d h refl (ap (λ (z : List DdPlan). slice_get z d) (sym e))

      asked_stays : (step : StepPlan) (m : Move) → (s.own.runs ≡ true → HasTaken names meanings n dds s.own) → step.dds ≡ dds → DoneStays s (asked step m s)
      asked_stays step m h e =
          if_runs_stays (asks_open s.own) s _ (λ opened.
          uncancelled_stays _ (ask_at_stays (dd_of step.dds (dd_name m)) step m (h (and_parts s.own.runs (is_none s.own.over) opened).0).each e))

      -- and what is due
      append_stays : (u : Option TakenSet) (text : List ℕ) (t : TakenSet) → u ≡ Some t → sees_alone names t.key ≡ true →
          Stays names s.store (appended_at u text s.store)
      append_stays None text t e alone = absurd cc
      append_stays (Some u) text t e alone =
          let same : t ≡ u = cc in
          there_stays s.store u.key u.serial (s.store.set u.key u.serial) _ (subst (λ (v : TakenSet). sees_alone names v.key ≡ true) same alone)

      store_stays : (x : Option DdState) (text : List ℕ) (t : TakenSet) → taken_by x ≡ Some t → sees_alone names t.key ≡ true →
          Stays names s.store (store_appended x text s.store)
      store_stays None text t e alone = absurd cc
      store_stays (Some x) text t e alone = append_stays x.taken text t e alone

      receipt_stays : (d : Due) → IsDue names s.own.dds (Some d) → DoneStays s (received_now d s)
      receipt_stays (due.Data name text) h = stays_same names s.store
      receipt_stays (due.Put name d text) h = store_stays (slice_get s.own.dds d) text h.0 h.1 h.2

      due_stays : (d : Option Due) → IsDue names s.own.dds d → DoneStays s (received_due d s)
      due_stays None h = stays_same names s.store
      due_stays (Some d) h = uncancelled_stays (received_now d s) (receipt_stays d h)

      received_stays : (s.own.runs ≡ true → HasTaken names meanings n dds s.own) → DoneStays s (received s)
      received_stays h =
          if_runs_stays (asks_open s.own) s _ (λ opened. due_stays s.own.due (h (and_parts s.own.runs (is_none s.own.over) opened).0).due)

    -- the end of a step
    finishes_stays : (n : ℕ) (over : Option Outcome) → DoneStays s (finishes n over s)
    finishes_stays n (Some o) = stays_same names s.store
    finishes_stays n None = either_stays (cancel_due s.answers.cancels s.own.lines) s _ _ (stays_same names s.store) (stays_same names s.store)

    finished_stays : (n : ℕ) → DoneStays s (finished n s)
    finished_stays n = either_stays s.own.runs s _ _ (finishes_stays n s.own.over) (stays_same names s.store)

    -- dispositions
    module _ (fixed : Fixed) (n dd : ℕ) (name : Option (List ℕ)) where
      set_disposes_stays : (step k : ℕ) (plan : SetPlan) (t : Option TakenSet) → IsTakenBy names fixed.meanings step k (Set plan) t →
          DoneStays s (set_disposes fixed n dd name plan t s)
      set_disposes_stays step k plan None h = stays_same names s.store
      set_disposes_stays step k plan (Some t) h =
          let w =
          word_done (normal_meaning (is_temporary t.key) plan.normal) (conditional_meaning (is_temporary t.key) plan.conditional)
          (after_abend s.own.over) t.made in
          let c : Stays names s.store (changed (disposed_by w s.store t fixed.date).change s.store t.key t.serial fixed.date) =
          disposed_stays names s.store w t fixed.date (λ shared. done_quiet names plan t.key t.made h.held h.made shared (after_abend s.own.over)) in
          stays_along names s.store (changed (disposed_by w s.store t fixed.date).change s.store t.key t.serial fixed.date) _ c
          (released_stays (releases plan.space) (changed (disposed_by w s.store t fixed.date).change s.store t.key t.serial fixed.date) t.key t.serial
          h.held.seen)

      disposes_stays : (step k : ℕ) (kind : DdKind) (x : Option DdState) → ((y : DdState) → x ≡ Some y → IsTakenBy names fixed.meanings step k kind y.taken) →
          DoneStays s (disposes x fixed n dd name kind s)
      disposes_stays step k kind None h = stays_same names s.store
      disposes_stays step k (Sysout class) (Some x) h = stays_same names s.store
      disposes_stays step k Dummy (Some x) h = stays_same names s.store
      disposes_stays step k (Cards cards) (Some x) h = stays_same names s.store
      disposes_stays step k (Set plan) (Some x) h = set_disposes_stays step k plan x.taken (h x refl)

      -- the job's end
      leaves_stays : (plan : SetPlan) (q : Option Passed) →
          ((r : Passed) → q ≡ Some r → IsHeldFor names plan r.key × (r.made ≡ true → sees_alone names r.key ≡ true)) →
          DoneStays s (leaves fixed n dd name plan q s)
      leaves_stays plan None h = stays_same names s.store
      leaves_stays plan (Some q) h =
          let w = left_word (is_temporary q.key) q.abend_later (conditional_meaning (is_temporary q.key) plan.conditional) q.made in
          disposed_stays names s.store w (as_taken q) fixed.date (λ shared. left_quiet names plan q.key q.made (h q refl).0 (h q refl).1 shared q.abend_later)

      left_stays : (kind : DdKind) → IsDdHeld names fixed.meanings n dd kind → AllByRecursion (IsPassed names fixed.meanings) s.own.passed →
          DoneStays s (left_at fixed n dd name kind s)
      left_stays (Sysout class) h all = stays_same names s.store
      left_stays Dummy h all = stays_same names s.store
      left_stays (Cards cards) h all = stays_same names s.store
      left_stays (Set plan) h all = leaves_stays plan (passed_by s.own.passed n dd) (λ q e.
          let there = passed_there (IsPassed names fixed.meanings) s.own.passed n dd q all e in
          (h.key q.key (sym (λ i. meaning_at fixed.meanings (there.1 i) (there.2 i)) ∙ there.0.meant), there.0.made))

  pub act_stays : (fixed : Fixed) (a : Action) (rest : List Action) (s : State) → Fits names fixed.meanings (a ∷ rest) s.own → DoneStays s (act fixed a s)
  unfolding act
  act_stays fixed (Action.Start n step) rest s h = stays_same names s.store
  act_stays fixed (Action.Take n dd d) rest s h =
      if_runs_stays s.own.runs s _ (λ runs. take_stays fixed h.step h.dds n dd d.name s (h.taken runs).each h.passed d.kind h.ahead.2)
  act_stays fixed (Action.Ask step m) rest s h = asked_stays s fixed.meanings h.step h.dds step m h.taken h.ahead.0
  act_stays fixed Action.Receive rest s h = received_stays s fixed.meanings h.step h.dds h.taken
  act_stays fixed (Action.Finish n) rest s h = finished_stays s n
  act_stays fixed (Action.Dispose n dd d) rest s h =
      if_runs_stays s.own.runs s _ (λ runs. disposes_stays s fixed n dd d.name h.step (1 + (dd - 1)) d.kind (slice_get s.own.dds (dd - 1)) (λ y e.
      taken_there names fixed.meanings h.step 1 h.dds s.own.dds (h.taken runs).each (dd - 1) d y h.ahead.2 e))
  act_stays fixed (Action.Left n dd d) rest s h = left_stays s fixed n dd d.name d.kind h.ahead.0 h.passed
  act_stays fixed Action.Over rest s h = stays_same names s.store

  pub run_stays : (fixed : Fixed) (done rest : List Action) (s : State) → Fits names fixed.meanings (done ++ rest) s.own →
      Stays names s.store (run fixed done s).state.store
  unfolding run
  run_stays fixed [] rest s h = stays_same names s.store
  run_stays fixed (a ∷ done) rest s h =
      let one : Stays names s.store (act fixed a s).state.store = act_stays fixed a (done ++ rest) s h in
      stays_along names s.store (act fixed a s).state.store (run fixed done (act fixed a s).state).state.store one
      (run_stays fixed done rest (act fixed a s).state (act_fits names fixed a (done ++ rest) s h))
