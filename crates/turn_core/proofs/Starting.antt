-- An operation starts on a volume where a set stands, or on which the store grants tracks to one.
use Rattle.std.proofs.Common.{◌≡◌, ◌+◌, ◌==◌, ◌||◌, ℕ, Bool, true, false, not, inl, inr, List, [], ◌∷◌, length, drop, nat_lt, Option, Some, None, is_some, slice_get, refl, sym, ap, subst, ◌∙◌, if◌then◌else◌}
use Rattle.jcl_plan.specs.declared.entry.JobLine.{JobLine}
use Rattle.jcl_plan.specs.declared.entry.JobLine.TheVariants as line
use Rattle.jcl_plan.specs.declared.plan.DdKind.{DdKind}
use Rattle.jcl_plan.specs.declared.plan.DdKind.TheVariants.{Sysout, Dummy, Cards, Set}
use Rattle.jcl_plan.specs.declared.plan.DdPlan.{DdPlan}
use Rattle.jcl_plan.specs.declared.plan.SetPlan.{SetPlan}
use Rattle.jcl_plan.specs.declared.plan.StepPlan.{StepPlan}
use Rattle.jcl_meaning.specs.declared.program.Move.{Move}
use Rattle.jcl_meaning.specs.declared.program.Move.TheVariants.{From, To}
use Rattle.jcl_meaning.specs.declared.source.FoundRecord.{FoundRecord}
use Rattle.jcl_meaning.specs.declared.source.Source.{Source}
use Rattle.jcl_meaning.specs.declared.state.DdState.{DdState}
use Rattle.jcl_meaning.specs.declared.state.Own.{Own}
use Rattle.jcl_meaning.specs.declared.state.TakenSet.{TakenSet}
use Rattle.jcl_meaning.specs.declared.store.DataSet.{DataSet}
use Rattle.jcl_meaning.specs.Acts.{act}
use Rattle.jcl_meaning.specs.Agendas.{Action, Start, Take, Ask, Receive, Finish, Dispose, Left, Over}
use Rattle.jcl_meaning.specs.Programs.{at_source, dd_of, emptied, empties, is_concatenated, is_full, is_read_only, located, members_at, or_nothing, records_of, source_of, sources_from, taken_at}
use Rattle.jcl_meaning.specs.RequestActs.{asks_at, asks_dd, asks_of, dd_name, gets_by, head_or, put_grows, put_to_set, puts, puts_in, puts_unless, reads}
use Rattle.jcl_meaning.specs.States.{Answers, Done, Fixed, State, asks_open, cancel_due, if_runs, unless_cancelled}
use Rattle.jcl_meaning.specs.Stores.{Store}
use Rattle.jcl_meaning.specs.Takes.{secondary_of}
use Rattle.request_core.specs.Requests.{growth_at, growth_at_dd, growth_for, growth_in, growth_of, growth_of_kind, growth_unless, here_at}
use Rattle.world_meaning.specs.Turns.{volume_needed}
use Rattle.turn_core.specs.Ending.{ended_at}
use Rattle.turn_core.specs.Passing.{is_idle}
use Rattle.turn_core.specs.Performing.{StoreAnswers, growth_by, growth_granted, volume_started}
use Rattle.turn_core.specs.TurnLaws.{IsVolumeOfSet, StartsWhereSetsAre}
use Rattle.turn_core.specs.Turning.{}
use Rattle.turn_core.proofs.Performing.{cancelled_now}
use Rattle.request_core.proofs.Reading.{sources_drop}
use Rattle.turn_core.proofs.Saying.{says}

one_of : {X : Type 0} (a b : X) → Some a ≡ Some b → a ≡ b
one_of a b e = cc

-- a volume on which an operation starts is needed idle
needed : (lines : List JobLine) (a : Action) (own : Own) (v : List ℕ) → volume_started lines ≡ Some v → volume_needed lines a own ≡ Some v
needed [] a own v h = absurd cc
needed (line.GetStart name serial ∷ lines) a own v h = h
needed (line.PutStart name serial grown ∷ lines) a own v h = h
needed (l ∷ lines) a own v h = absurd cc

-- a record that is read stands in a set
some_set : (o : Option DataSet) (position : ℕ) → is_some (slice_get (records_of o) position) ≡ true → is_some o ≡ true
some_set None position h = absurd cc
some_set (Some set) position h = refl

module _ (grants : StoreAnswers) (seen : Store) (v : List ℕ) where
  abbrev IsOn : Type 0
  IsOn = IsVolumeOfSet grants seen v

  on_set : (t : TakenSet) → Some t.serial ≡ Some v → is_some (seen.set t.key t.serial) ≡ true → IsOn
  on_set t e h = record { key = t.key; there = inl (subst (λ (i : List ℕ). is_some (seen.set t.key i) ≡ true) (one_of t.serial v e) h) }

  from_source : (kind : DdKind) (t : Option TakenSet) (position : ℕ) → is_some (slice_get (source_of seen kind t).records position) ≡ true →
      (source_of seen kind t).serial ≡ Some v → IsOn
  from_source (Sysout class) t position h e = absurd cc
  from_source Dummy t position h e = absurd cc
  from_source (Cards cards) t position h e = absurd cc
  from_source (Set p) None position h e = absurd cc
  from_source (Set p) (Some t) position h e = on_set t e (some_set (seen.set t.key t.serial) position h)

  abbrev Found : FoundRecord → Type 0
  Found f = is_some f.text ≡ true → f.serial ≡ Some v → IsOn

  either : (b : Bool) (x y : FoundRecord) → Found x → Found y → Found (if b then x else y)
  either true x y p q = p
  either false x y p q = q

  from_located : (dds : List DdPlan) (states : List DdState) (n member position : ℕ) → Found (located (sources_from seen dds states n) member position)
  from_located [] states n member position h e = absurd cc
  from_located (dd ∷ []) states n member position h e = from_source dd.kind (taken_at states n) position h e
  from_located (dd ∷ other ∷ dds) states n member position h e =
      let x : Source = source_of seen dd.kind (taken_at states n) in
      let at : FoundRecord = at_source x member position in
      let on : FoundRecord = located (sources_from seen (other ∷ dds) states (n + 1)) (member + 1) 0 in
      either (nat_lt position (length x.records)) at (if x.read_past then on else at) (from_source dd.kind (taken_at states n) position)
      (either x.read_past on at (from_located (other ∷ dds) states (n + 1) (member + 1) 0) (from_source dd.kind (taken_at states n) position)) h e

  from_members : (dds : List DdPlan) (states : List DdState) (n d member position : ℕ) → Found (located (drop member (sources_from seen dds states d)) member position)
  from_members dds states n d member position =
      subst (λ (l : List Source). Found (located l member position)) (sym (sources_drop seen dds states member d)) (from_located (drop member dds) states (d + member) member position)

  abbrev Starts : Done → Type 0
  Starts done = volume_started done.lines ≡ Some v → IsOn

  starts_got : (text serial : Option (List ℕ)) (name : List ℕ) (d : ℕ) (x : DdState) (s : State) (member position : ℕ) →
      (is_some text ≡ true → serial ≡ Some v → IsOn) → Starts (gets_by name d x s member position text serial)
  starts_got None serial name d x s member position f h = absurd cc
  starts_got (Some text) None name d x s member position f h = absurd cc
  starts_got (Some text) (Some serial) name d x s member position f h = f refl h

  starts_grown : (granted : Bool) (name text : List ℕ) (d : ℕ) (x : DdState) (t : TakenSet) (secondary : ℕ) (set : DataSet) (s : State) →
      granted ≡ grants.growth t.key t.serial secondary → Starts (put_grows granted name text d x t secondary set s)
  starts_grown true name text d x t secondary set s g h =
      record { key = t.key; there = inr (secondary, subst (λ (i : List ℕ). grants.growth t.key i secondary ≡ true) (one_of t.serial v h) (sym g)) }
  starts_grown false name text d x t secondary set s g h = absurd cc

  starts_put_by : (full none : Bool) (name text : List ℕ) (d : ℕ) (x : DdState) (t : TakenSet) (secondary : ℕ) (set : DataSet) (s : State) →
      is_full set ≡ full → (secondary == 0) ≡ none → head_or true s.answers.grants ≡ growth_granted grants.growth (growth_for t secondary set) →
      (is_full set ≡ false → is_some (seen.set t.key t.serial) ≡ true) → Starts (put_to_set name text d x t secondary set s)
  starts_put_by false none name text d x t secondary set s e f g there h = on_set t (rw e at h) (there e)
  starts_put_by true true name text d x t secondary set s e f g there h = let k = rw (e, f) at h in absurd cc
  starts_put_by true false name text d x t secondary set s e f g there h =
      starts_grown (head_or true s.answers.grants) name text d x t secondary set s (rw (e, f) at g) (rw (e, f) at h)

  -- a set with room is there
  room_there : (wipes : Bool) (o : Option DataSet) → is_full (emptied wipes (or_nothing o)) ≡ false → is_some o ≡ true
  room_there true None h = absurd cc
  room_there false None h = absurd cc
  room_there wipes (Some set) h = refl

  starts_put_in : (t : Option TakenSet) (name text : List ℕ) (d : ℕ) (x : DdState) (p : SetPlan) (s : State) → s.store ≡ seen →
      head_or true s.answers.grants ≡ growth_granted grants.growth (growth_in p x.written t s.store) → Starts (puts_in name text d x p t s)
  starts_put_in None name text d x p s e g h = absurd cc
  starts_put_in (Some t) name text d x p s e g h =
      let set : DataSet = emptied (empties p.status x.written) (or_nothing (s.store.set t.key t.serial)) in
      starts_put_by (is_full set) (secondary_of p.space == 0) name text d x t (secondary_of p.space) set s refl refl g
      (λ k. ap (λ (w : Store). is_some (w.set t.key t.serial)) (sym e) ∙ room_there (empties p.status x.written) (s.store.set t.key t.serial) k) h

  starts_put : (kind : DdKind) (name text : List ℕ) (d : ℕ) (x : DdState) (s : State) → s.store ≡ seen →
      head_or true s.answers.grants ≡ growth_granted grants.growth (growth_of_kind (here_at d x) kind s.store) → Starts (puts name text d x kind s)
  starts_put (Sysout class) name text d x s e g h = absurd cc
  starts_put Dummy name text d x s e g h = absurd cc
  starts_put (Cards cards) name text d x s e g h = absurd cc
  starts_put (Set p) name text d x s e g h = starts_put_in x.taken name text d x p s e g h

  starts_put_unless : (refused : Bool) (name text : List ℕ) (d : ℕ) (x : DdState) (kind : DdKind) (s : State) → s.store ≡ seen →
      head_or true s.answers.grants ≡ growth_granted grants.growth (growth_unless refused (here_at d x) kind s.store) → Starts (puts_unless refused name text d x kind s)
  starts_put_unless true name text d x kind s e g h = absurd cc
  starts_put_unless false name text d x kind s e g h = starts_put kind name text d x s e g h

  starts_asked_of : (wants : Move) (step : StepPlan) (d : ℕ) (x : DdState) (dd : DdPlan) (s : State) → s.store ≡ seen →
      head_or true s.answers.grants ≡ growth_granted grants.growth (growth_of step wants (here_at d x) dd s.store) → Starts (asks_of step wants d x dd s)
  starts_asked_of (From name) step d x dd s e g h =
      starts_got (reads step d x s).text (reads step d x s).serial name d x s (reads step d x s).member (reads step d x s).position
      (subst (λ (w : Store). Found (located (drop x.member (sources_from w (members_at (drop d step.dds)) s.own.dds d)) x.member x.position)) (sym e)
      (from_members (members_at (drop d step.dds)) s.own.dds d d x.member x.position)) h
  starts_asked_of (To name text) step d x dd s e g h =
      starts_put_unless (is_read_only dd.kind || is_concatenated (drop d step.dds)) name text d x dd.kind s e g h

  starts_asked_dd : (o : Option DdState) (p : Option DdPlan) (wants : Move) (step : StepPlan) (d : ℕ) (s : State) → s.store ≡ seen →
      head_or true s.answers.grants ≡ growth_granted grants.growth (growth_at_dd o p step wants d s.store) → Starts (asks_dd o p step wants d s)
  starts_asked_dd None p wants step d s e g h = absurd cc
  starts_asked_dd (Some x) None wants step d s e g h = absurd cc
  starts_asked_dd (Some x) (Some dd) wants step d s e g h = starts_asked_of wants step d x dd s e g h

  starts_asked_at : (o : Option ℕ) (wants : Move) (step : StepPlan) (s : State) → s.store ≡ seen →
      head_or true s.answers.grants ≡ growth_granted grants.growth (growth_at o step wants s.own.dds s.store) → Starts (asks_at o step wants s)
  starts_asked_at None wants step s e g h = absurd cc
  starts_asked_at (Some d) wants step s e g h = starts_asked_dd (slice_get s.own.dds d) (slice_get step.dds d) wants step d s e g h

  starts_asked : (goes_on cancelled : Bool) (wants : Move) (step : StepPlan) (s : State) → s.store ≡ seen → not goes_on ≡ false → cancel_due s.answers.cancels s.own.lines ≡ cancelled →
      head_or true s.answers.grants ≡ growth_granted grants.growth
      (if goes_on then (if cancelled then None else growth_at (dd_of step.dds (dd_name wants)) step wants s.own.dds s.store) else None) →
      Starts (if_runs goes_on s (unless_cancelled s (asks_at (dd_of step.dds (dd_name wants)) step wants s)))
  starts_asked false cancelled wants step s e k c g h = absurd cc
  starts_asked true true wants step s e k c g h = let q = rw c at h in absurd cc
  starts_asked true false wants step s e k c g h = starts_asked_at (dd_of step.dds (dd_name wants)) wants step s e g (rw c at h)

  other_starts : (lines : List JobLine) (a : Action) (own : Own) → volume_needed lines a own ≡ None → volume_started lines ≡ Some v → IsOn
  other_starts lines a own n h = let q : Some v ≡ None = sym (needed lines a own v h) ∙ n in absurd cc

  pub starts : (fixed : Fixed) (cancelled : Bool) (a : Action) (s : State) → s.store ≡ seen → is_idle a s.own ≡ false → ended_at a s.own ≡ None →
      cancel_due s.answers.cancels s.own.lines ≡ cancelled → head_or true s.answers.grants ≡ growth_by grants.growth cancelled a s.store s.own → Starts (act fixed a s)
  unfolding act
  starts fixed cancelled (Start n step) s e k o c g h = other_starts (act fixed (Start n step) s).lines (Start n step) s.own (says fixed (Start n step) s cancelled k o c).needs h
  starts fixed cancelled (Take n dd d) s e k o c g h = other_starts (act fixed (Take n dd d) s).lines (Take n dd d) s.own (says fixed (Take n dd d) s cancelled k o c).needs h
  starts fixed cancelled (Ask step wants) s e k o c g h = starts_asked (asks_open s.own) cancelled wants step s e k c g h
  starts fixed cancelled Receive s e k o c g h = other_starts (act fixed Receive s).lines Receive s.own (says fixed Receive s cancelled k o c).needs h
  starts fixed cancelled (Finish n) s e k o c g h = other_starts (act fixed (Finish n) s).lines (Finish n) s.own (says fixed (Finish n) s cancelled k o c).needs h
  starts fixed cancelled (Dispose n dd d) s e k o c g h = other_starts (act fixed (Dispose n dd d) s).lines (Dispose n dd d) s.own (says fixed (Dispose n dd d) s cancelled k o c).needs h
  starts fixed cancelled (Left n dd d) s e k o c g h = other_starts (act fixed (Left n dd d) s).lines (Left n dd d) s.own (says fixed (Left n dd d) s cancelled k o c).needs h
  starts fixed cancelled Over s e k o c g h = other_starts (act fixed Over s).lines Over s.own (says fixed Over s cancelled k o c).needs h

pub starts_there : StartsWhereSetsAre
starts_there w plan old new before after told serial h e =
    let q = h.acts in
    let a : Action = q.its_turn.action in
    let s : State = q.its_turn.before in
    starts w.grants old serial w.fixed w.cancel a s q.seen_before q.writes q.goes_on
    (ap (λ (x : Answers). cancel_due x.cancels s.own.lines) q.answers ∙ cancelled_now w.cancel s.own.lines)
    (ap (λ (x : Answers). head_or true x.grants) q.answers ∙ q.growth_answered)
    (ap (λ (d : Done). volume_started d.lines) (sym q.did) ∙ sym q.starts ∙ e)
