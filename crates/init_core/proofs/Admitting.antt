-- A job's answer is the machine's case.
use Rattle.std.proofs.Common.{◌≡◌, ◌≢◌, ◌&&◌, ℕ, suc, ◌≤◌, Bool, true, false, List, [], ◌∷◌, ◌++◌, All, Option, Some, None, arith, length, refl, sym, ap, ◌∙◌, subst, inl, inr}
use Rattle.std.specs.List.{Contains}
use Rattle.std.proofs.lemmas.List.Elements.{All-nil}
use Rattle.enq_core.specs.Holds.{HoldsNone}
use Rattle.jcl_meaning.specs.declared.state.DdState.{DdState}
use Rattle.jcl_meaning.specs.declared.state.Place.{Place}
use Rattle.jcl_meaning.specs.Agendas.{budget_of}
use Rattle.jcl_plan.specs.declared.entry.JobLine.{JobLine}
use Rattle.jcl_plan.specs.declared.entry.JobLine.TheVariants as line
use Rattle.jcl_plan.specs.declared.fault.Fault.{Fault}
use Rattle.jcl_plan.specs.declared.outcome.Outcome.{Outcome}
use Rattle.jcl_plan.specs.declared.plan.JobPlan.{JobPlan}
use Rattle.jcl_meaning.specs.Solo.{fixed_in, fixed_with, nothing_own}
use Rattle.jcl_meaning.specs.States.{Fixed}
use Rattle.jcl_meaning.specs.Stores.{Store}
use Rattle.path_meaning.specs.Verdicts.{AreRising, IsEarliest, IsFirstWithMore, IsFree}
use Rattle.cb_queue.specs.RecordQueues.{RecordQueue}
use Rattle.world_meaning.specs.Admissions as answer
use Rattle.world_meaning.specs.Admissions.{Admits, Answered as WorldAnswered, MayFail, admitted, explained, fixed_at, tracks_asked}
use Rattle.world_meaning.specs.Holdings.{released}
use Rattle.world_meaning.specs.Lenses.{seen}
use Rattle.world_meaning.specs.Records.{Reopened}
use Rattle.world_meaning.specs.Tracks.{Conserves}
use Rattle.world_meaning.specs.Worlds as world
use Rattle.world_meaning.specs.Worlds.{Config, Shared}
use Rattle.world_meaning.proofs.Following.{unopened}
use Rattle.shared_core.specs.Shown.{world_store_of}
use Rattle.shared_core.specs.Tracks.{ConservesTracks, free_on, kept_shown}
use Rattle.shared_core.specs.declared.store.SharedStore.{SharedStore}
use Rattle.turn_core.specs.Standing.{Stands, count_at}
use Rattle.turn_core.specs.declared.todo.Todo.TheVariants as todo
use Rattle.turn_core.specs.declared.walk.Walk.{Walk}
use Rattle.queued_job.proofs.Wanted.{releasing_leaves, releasing_leaves_none}
use Rattle.admit_core.specs.Admissions.{behind, fixed_for, line_of, named_of}
use Rattle.admit_core.specs.Admitted.{IsAdmission, IsAnswered, IsProvision}
use Rattle.admit_core.specs.Told.{IsTold, fixed_by_room}
use Rattle.admit_core.specs.declared.admission.Admission.{Admission}
use Rattle.admit_core.specs.declared.admission.Admission.TheVariants.{Assured, Risky, SpaceWait, TooMany}
use Rattle.admit_core.specs.declared.admission.AdmittedJob.{AdmittedJob}
use Rattle.admit_core.specs.declared.admission.AdmittedJob.TheVariants as admitted_as
use Rattle.admit_core.specs.declared.admission.Answer.{Answer}
use Rattle.admit_core.specs.declared.admission.AssuredJob.{AssuredJob}
use Rattle.admit_core.specs.declared.admission.Behind.{Behind}
use Rattle.admit_core.specs.declared.admission.Behind.TheVariants.{Admitted, Waits}
use Rattle.admit_core.specs.declared.admission.NamedJob.{NamedJob}
use Rattle.admit_core.specs.declared.admission.Provision.{Provision}
use Rattle.admit_core.specs.declared.admission.RiskyJob.{RiskyJob}
use Rattle.admit_core.proofs.Telling.{told_of}
use Rattle.machine_core.specs.declared.parts.Parts.{Parts}
use Rattle.machine_core.specs.Released.{GivesBack, IsReleased}
use Rattle.machine_core.specs.Shown.{shown}
use Rattle.place_core.specs.Keepings.{KeepsAll}
use Rattle.shared_core.proofs.Following.{stays_follow}
use Rattle.init_core.specs.Answering.{is_turned_away, terms_of}
use Rattle.init_core.specs.declared.running.Profile.{Profile}
use Rattle.init_core.specs.declared.running.Progress.{Progress}
use Rattle.init_core.specs.declared.running.Progress.TheVariants.{Answered, Over}
use Rattle.init_core.specs.declared.running.Running.{Running}
use Rattle.init_core.specs.declared.running.Stage.{Stage}
use Rattle.init_core.specs.declared.running.Stage.TheVariants as stage
use Rattle.init_core.specs.declared.running.Told.{Told}
use Rattle.init_core.specs.Choosing.{IsAdmittedByVolumes, lines_answered, with_refusal}
use Rattle.init_core.specs.Extents.{ExtentsFollow}
use Rattle.init_core.specs.Going.{Went}
use Rattle.init_core.specs.Naming.{begun}
use Rattle.init_core.specs.Running.{IsAt, IsGood, IsTakenOn, config_of, shown_running}
use Rattle.init_core.proofs.Reading.{good_again}
use Rattle.init_core.proofs.Serials.{same_serials}
use Rattle.init_core.proofs.Wanting.{one_told, with_lines}

abbrev pub refused : JobLine
refused = line.Refused

two_told : (told : JobLine) (n : ℕ) → length (told ∷ line.Refused ∷ []) ≤ suc (suc n)
two_told told n = omega arith

not_away : (b : Bool) → (b && true) ≡ false → b ≡ false
not_away true e = absurd cc
not_away false e = refl

away : (b : Bool) → (b && true) ≡ true → b ≡ true
away true e = refl
away false e = absurd cc

never_away : (b : Bool) → (b && false) ≡ true → ⊥
never_away true e = absurd cc
never_away false e = absurd cc

-- a job that may fail is told of, by what the command line says
by_command_line : (refuses b : Bool) (told kind : JobLine) → ((x : Bool) → lines_answered x kind ≡ with_refusal x kind) → told ≡ kind → refuses ≡ b →
    with_refusal b told ≡ lines_answered refuses told
by_command_line refuses b told kind may is e =
    (λ i. with_refusal (sym e i) (is i)) ∙ sym (may refuses) ∙ ap (lines_answered refuses) (sym is)

-- it is explained alike, refused or not
refused_alike : (fixed : Fixed) (plan : JobPlan) (store : Store) (b : Bool) (fault : Fault) (step dd : ℕ) (path : List Outcome) →
    explained b fixed plan store (line.Risk fault step dd path ∷ []) ≡ explained b fixed plan store (line.Risk fault step dd path ∷ line.Refused ∷ [])
refused_alike fixed plan store true fault step dd path = refl
refused_alike fixed plan store false fault step dd path = refl

many_alike : (fixed : Fixed) (plan : JobPlan) (store : Store) (b : Bool) (step : ℕ) →
    explained b fixed plan store (line.TooMany step ∷ []) ≡ explained b fixed plan store (line.TooMany step ∷ line.Refused ∷ [])
many_alike fixed plan store true step = refl
many_alike fixed plan store false step = refl

abbrev pub IsFirst : JobPlan → Config → Type 0
IsFirst plan c = Stands plan c.programs (todo.Start 0) × (count_at plan c.programs (todo.Start 0) ≡ 0)

-- a job that waits is not admitted
waits_alone : (n : NamedJob) (g : AdmittedJob) → Waits n ≡ Admitted g → ⊥
waits_alone n g e = absurd cc

admitted_alone : (g : AdmittedJob) (n : NamedJob) → Admitted g ≡ Waits n → ⊥
admitted_alone g n e = absurd cc

abbrev named_at : NamedJob → Behind → NamedJob
named_at other (Admitted g) = named_of g
named_at other (Waits n) = n

-- of one that is admitted so, whether it is turned away
abbrev gone_behind : Bool → Behind → Bool
gone_behind refuses (Admitted g) = is_turned_away refuses g
gone_behind refuses (Waits n) = false

module _ {Q : Type 0} (queue_of : Q → RecordQueue) (profile : Profile) (p : Parts Q) (job : ℕ) (walk : Walk) (named : NamedJob)
    (g : IsGood queue_of (config_of profile (queue_of p.queue).layout) p) where
  abbrev pub plan : JobPlan
  plan = named.plan

  abbrev pub c : Config
  c = config_of profile (queue_of p.queue).layout

  abbrev pub its : Running
  its = record { job = job; walk = walk; stage = stage.Named named }

  abbrev shown_its : world.Running
  shown_its = shown_running c (queue_of p.queue) its

  module _ (some : job ≢ 0) (own : named.held ≡ job) (store : SharedStore) (lines : List JobLine) (told : Told) (is : lines ≡ walk.course.lines ++ told.line ∷ [])
      (given : Provision) (a : IsProvision p.store profile.units.now job named.plan p.date given)
      (holds : IsTold p.store profile.programs.now profile.most_views job named.plan (fixed_by_room p.store profile.units.now job named.plan p.date) told.line)
      (path : told.path ≡ explained profile.explains (fixed_by_room p.store profile.units.now job named.plan p.date) named.plan (seen job (world_store_of p.store))
      (told.line ∷ [])) where
    abbrev pub new : Parts Q
    new = record p { store = store }

    abbrev by_room : Fixed
    by_room = fixed_by_room p.store profile.units.now job plan p.date

    abbrev here : Fixed
    here = fixed_at c (shown queue_of p) job plan given.places

    fixed_here : by_room ≡ here
    fixed_here = λ i. fixed_in (g.volumes i) (seen job (world_store_of p.store)) plan (sym a.placed_so i) p.date

    fixed_given : here ≡ fixed_for c.volumes plan given
    fixed_given = λ i. fixed_with c.volumes plan given.places (sym a.meant i) (sym a.dated i)

    abbrev Answers : List JobLine → Shared → Option world.Running → Type 0
    Answers ls s runs = WorldAnswered c (shown queue_of p) shown_its plan here ls s runs

    -- what is open in it is as the volumes decide it
    abbrev chosen_to : List JobLine → Shared → Option world.Running → Type 0
    chosen_to ls s runs = (x : Admits c (shown queue_of p) shown_its plan ls s runs) × IsAdmittedByVolumes c p.store p.date job plan x.places ls
        × (told.path ≡ explained c.explains (fixed_at c (shown queue_of p) job plan x.places) plan (seen job (world_store_of p.store)) ls)

    -- a risk is explained by its path
    abbrev explains_here : List JobLine → List JobLine
    explains_here ls = explained c.explains here plan (seen job (world_store_of p.store)) ls

    path_here : told.path ≡ explains_here (told.line ∷ [])
    path_here = path ∙ (λ i. explained c.explains (fixed_here i) plan (seen job (world_store_of p.store)) (told.line ∷ []))

    chosen : (ls : List JobLine) (s : Shared) (runs : Option world.Running) → Answers ls s runs → ls ≡ lines_answered c.refuses told.line →
        told.path ≡ explains_here ls → chosen_to ls s runs
    chosen ls s runs answers e explains = (
      record { places = given.places; placed = a.configured c (sym g.volumes) refl; answers = answers },
      record { configured = g.volumes; by_room = a.placed_so; answer = told.line; told = holds; answered = e },
      explains,
    )

    abbrev pub behind_walk : Behind → Walk
    behind_walk (Admitted x) = begun (with_lines walk lines)
    behind_walk (Waits n) = with_lines walk lines

    abbrev pub behind_stage : Behind → Stage
    behind_stage (Admitted x) = stage.Admitted x
    behind_stage (Waits n) = stage.Named n

    abbrev pub came : Behind → Progress
    came o = Answered (record { job = job; walk = behind_walk o; stage = behind_stage o }) told

    abbrev pub GoesOn : Behind → Type 0
    GoesOn o = Went queue_of c p its new (came o)

    -- the job is at its first action
    abbrev then : AdmittedJob → Running
    then x = record { job = job; walk = begun (with_lines walk lines); stage = stage.Admitted x }

    module _ (first : IsFirst plan c) (s : Shared) (reopened : Reopened c.layout s (shown queue_of new)) (good : IsGood queue_of c new)
        (extents : ExtentsFollow p.store store) where
      abbrev Begins : Bool → AdmittedJob → Type 0
      Begins b x = admitted shown_its (told.line ∷ []) plan here b ≡ Some (shown_running c (queue_of p.queue) (then x))

      at_work : (b : Bool) (x : AdmittedJob) → Begins b x → IsAt c p.names job (begun (with_lines walk lines)) (stage.Admitted x) →
          Answers (told.line ∷ []) s (admitted shown_its (told.line ∷ []) plan here b) → told.line ∷ [] ≡ lines_answered c.refuses told.line →
          GoesOn (Admitted x)
      at_work b x begins there answers e =
          let goes : chosen_to (told.line ∷ []) s (Some (shown_running c (queue_of p.queue) (then x))) =
          subst (chosen_to (told.line ∷ []) s) begins (chosen (told.line ∷ []) s (admitted shown_its (told.line ∷ []) plan here b) answers e path_here) in
          record {
            middle = s;
            goes = goes.0;
            reopened = reopened;
            chosen = goes.1;
            explained = goes.2;
            few = one_told (told.line ∷ []) told.line (length walk.course.own.dds) refl;
            once = tt;
            good = good;
            left = record { same = refl; ready = record { some = some; at = there } };
            extents = extents;
            rest = record { waiting = refl; others = λ other apart none. none };
          }

      nothing_on : All (λ (x : DdState). IsTakenOn c.volumes x.taken) []
      nothing_on = All-nil (λ (x : DdState). IsTakenOn c.volumes x.taken)

      assured_at_work : (tracks actions : ℕ) → Answers (told.line ∷ []) s (admitted shown_its (told.line ∷ []) plan here true) →
          told.line ∷ [] ≡ lines_answered c.refuses told.line → GoesOn (Admitted (admitted_as.Assured (record { named = named; given = given; tracks = tracks; actions = actions })))
      assured_at_work tracks actions answers e =
          at_work true (admitted_as.Assured (record { named = named; given = given; tracks = tracks; actions = actions }))
          (λ i. Some (record {
            job = job;
            listing = sym is i;
            stage = world.Admitted plan (record { fixed = fixed_given i; assured = true }) (sym first.1 i) nothing_own;
          }))
          (own, record { stands = first.0; on = nothing_on }) answers e

      risky_at_work : Answers (told.line ∷ []) s (admitted shown_its (told.line ∷ []) plan here false) →
          told.line ∷ [] ≡ lines_answered c.refuses told.line → GoesOn (Admitted (admitted_as.Risky (record { named = named; given = given })))
      risky_at_work answers e =
          at_work false (admitted_as.Risky (record { named = named; given = given }))
          (λ i. Some (record {
            job = job;
            listing = sym is i;
            stage = world.Admitted plan (record { fixed = fixed_given i; assured = false }) (sym first.1 i) nothing_own;
          }))
          (own, record { stands = first.0; on = nothing_on }) answers e

    -- its primaries are kept
    abbrev after : Shared
    after = record (shown queue_of p) { kept = kept_shown store.volumes; free = λ serial. free_on store.volumes serial }

    kept_good : (made : List Place) → KeepsAll job plan made p.store store → IsGood queue_of c new
    kept_good made k = record {
      volumes = same_serials p.store.volumes store.volumes k.rooms ∙ g.volumes;
      layout = g.layout;
      fields = g.fields;
      operations = g.operations;
      few = g.few;
    }

    kept_shown_so : (made : List Place) → KeepsAll job plan made p.store store → Reopened c.layout after (shown queue_of new)
    kept_shown_so made k =
        subst (λ s. Reopened c.layout after s) (λ i. record after { store = sym k.store i }) (unopened c.layout after)

    kept_conserved : (made : List Place) → KeepsAll job plan made p.store store → ConservesTracks p.store store → Conserves (shown queue_of p) after
    kept_conserved made k conserves =
        conserves (shown queue_of p) after (record { store = refl; free = λ serial. refl; kept = refl })
        (record { store = sym k.store; free = λ serial. refl; kept = refl })

    is_assured : (made : List Place) (tracks actions : ℕ) → IsFree by_room plan (seen job (world_store_of p.store)) c.most_views made →
        told.line ≡ line.Assured (tracks_asked plan made) (budget_of plan c.programs) → KeepsAll job plan made p.store store → ConservesTracks p.store store →
        IsFirst plan c → GoesOn (Admitted (admitted_as.Assured (record { named = named; given = given; tracks = tracks; actions = actions })))
    is_assured made tracks actions free e k conserves first =
        let f : IsFree here plan (seen job (world_store_of p.store)) c.most_views made =
        subst (λ x. IsFree x plan (seen job (world_store_of p.store)) c.most_views made) fixed_here free in
        assured_at_work first after (kept_shown_so made k) (kept_good made k)
        (inr (record { job = job; plan = plan; made = made; rising = subst (λ vs. AreRising vs made) (sym g.volumes) f.made.rising; keeps = k })) tracks actions
        (answer.assured made (kept_shown store.volumes) (λ serial. free_on store.volumes serial) f.safe f.made k.kept k.others (ap (λ l. l ∷ []) e) refl
        (kept_conserved made k conserves) refl)
        (ap (λ l. l ∷ []) e ∙ ap (lines_answered c.refuses) (sym e))

    -- what changes nothing
    same_good : store ≡ p.store → IsGood queue_of c new
    same_good same = subst (λ (s : SharedStore). IsGood queue_of c (record p { store = s })) (sym same) g

    same_shown : store ≡ p.store → Reopened c.layout (shown queue_of p) (shown queue_of new)
    same_shown same = subst (λ (s : SharedStore). Reopened c.layout (shown queue_of p) (shown queue_of (record p { store = s }))) (sym same) (unopened c.layout (shown queue_of p))

    same_extents : store ≡ p.store → ExtentsFollow p.store store
    same_extents same = subst (ExtentsFollow p.store) (sym same) (inl (stays_follow p.store))

    -- it waits
    waits : (serial : List ℕ) → Contains c.volumes serial → told.line ≡ line.WaitSpace serial → store ≡ p.store → GoesOn (Waits named)
    waits serial there e same =
        let runs : Option world.Running = Some (record { job = job; listing = walk.course.lines ++ told.line ∷ []; stage = world.Named plan }) in
        let x : chosen_to (told.line ∷ []) (shown queue_of p) (Some (record { job = job; listing = lines; stage = world.Named plan })) =
        subst (chosen_to (told.line ∷ []) (shown queue_of p)) (λ i. Some (record { job = job; listing = sym is i; stage = world.Named plan }))
        (chosen (told.line ∷ []) (shown queue_of p) runs (answer.no_space serial there (ap (λ l. l ∷ []) e) refl refl)
        (ap (λ l. l ∷ []) e ∙ ap (lines_answered c.refuses) (sym e)) path_here) in
        record {
          middle = shown queue_of p;
          goes = x.0;
          reopened = same_shown same;
          chosen = x.1;
          explained = x.2;
          few = one_told (told.line ∷ []) told.line (length walk.course.own.dds) refl;
          once = tt;
          good = same_good same;
          left = record { same = refl; ready = record { some = some; at = own } };
          extents = same_extents same;
          rest = record { waiting = refl; others = λ other apart none. none };
        }

    -- it may fail: it runs with checks
    abbrev MayFailSo : List JobLine → Shared → Option world.Running → Type 0
    MayFailSo ls s runs = MayFail c (shown queue_of p) shown_its plan here told.line ls s runs

    -- what holds of it in the store is what the table asks
    abbrev Warns : JobLine → Type 0
    Warns kind = (told.line ≡ kind) × ((x : Bool) → lines_answered x kind ≡ with_refusal x kind)
        × ((ls : List JobLine) (s : Shared) (runs : Option world.Running) → MayFailSo ls s runs → Answers ls s runs)
        × (explains_here (kind ∷ []) ≡ explains_here (kind ∷ line.Refused ∷ []))

    checked : (kind : JobLine) → Warns kind → store ≡ p.store → c.refuses ≡ false → IsFirst plan c → GoesOn (Admitted (admitted_as.Risky (record { named = named; given = given })))
    checked kind w same e first =
        risky_at_work first (shown queue_of p) (same_shown same) (same_good same) (same_extents same)
        (w.2 (told.line ∷ []) (shown queue_of p) (admitted shown_its (told.line ∷ []) plan here false) (answer.risky e refl refl refl))
        (by_command_line c.refuses false told.line kind w.1 w.0 e)

    -- or not at all
    module _ (end : Parts Q) (back : GivesBack queue_of job p end) (r : IsReleased queue_of c job p end) where
      turned_away : (kind : JobLine) → Warns kind → c.refuses ≡ true → Went queue_of c p its end (Over (Some told) line.Refused)
      turned_away kind w e =
          let ls : List JobLine = told.line ∷ line.Refused ∷ [] in
          let s : Shared = released c (shown queue_of p) job (shown queue_of end).free in
          let x : chosen_to ls s None =
          chosen ls s None (w.2 ls s None (answer.refused (shown queue_of end).free e refl refl r.conserves refl))
          (by_command_line c.refuses true told.line kind w.1 w.0 e)
          (path_here ∙ (λ i. explains_here (w.0 i ∷ [])) ∙ w.3 ∙ (λ i. explains_here (sym w.0 i ∷ line.Refused ∷ []))) in
          record {
            middle = s;
            goes = x.0;
            reopened = r.reopened;
            chosen = x.1;
            explained = x.2;
            few = two_told told.line (length walk.course.own.dds);
            once = tt;
            good = good_again queue_of c job p end back g;
            left = subst (λ hs. HoldsNone hs job) (sym back.names) (releasing_leaves_none p.names job);
            extents = inl back.store.follow;
            rest = record {
              waiting = back.records.waiting;
              others = λ other apart none. subst (λ hs. HoldsNone hs other) (sym back.names) (releasing_leaves p.names job other none);
            };
          }

    warns_risk : (fault : Fault) (step dd : ℕ) (path : List Outcome) → IsEarliest by_room plan (seen job (world_store_of p.store)) c.most_views fault step dd path →
        told.line ≡ line.Risk fault step dd path → Warns (line.Risk fault step dd path)
    warns_risk fault step dd path earliest e = (
      e,
      (λ x. refl),
      λ ls s runs may. answer.risk fault step dd path
          (subst (λ x. IsEarliest x plan (seen job (world_store_of p.store)) c.most_views fault step dd path) fixed_here earliest).meets
          (subst (λ l. MayFail c (shown queue_of p) shown_its plan here l ls s runs) e may),
      refused_alike here plan (seen job (world_store_of p.store)) c.explains fault step dd path,
    )

    warns_many : (step : ℕ) → IsFirstWithMore by_room plan (seen job (world_store_of p.store)) c.most_views step → told.line ≡ line.TooMany step → Warns (line.TooMany step)
    warns_many step more e =
        let m : IsFirstWithMore here plan (seen job (world_store_of p.store)) c.most_views step =
        subst (λ x. IsFirstWithMore x plan (seen job (world_store_of p.store)) c.most_views step) fixed_here more in (
          e,
          (λ x. refl),
          λ ls s runs may. answer.too_many step m.from_one m.to_last m.more (subst (λ l. MayFail c (shown queue_of p) shown_its plan here l ls s runs) e may),
          many_alike here plan (seen job (world_store_of p.store)) c.explains step,
        )

    abbrev pub IsAdmitted : Admission → Type 0
    IsAdmitted x = IsAdmission p.store (terms_of profile) job named by_room given store x × (told.line ≡ line_of x)

    pub named_behind : (x : Admission) → IsAdmitted x → (y : AdmittedJob) → behind x ≡ Admitted y → named_of y ≡ named
    named_behind (Assured s) h y b = ap (named_at named) (sym b) ∙ ap (λ (z : AssuredJob). z.named) h.0.is
    named_behind (Risky s report) h y b = ap (named_at named) (sym b) ∙ ap (λ (z : RiskyJob). z.named) h.0.is
    named_behind (TooMany s step) h y b = ap (named_at named) (sym b) ∙ ap (λ (z : RiskyJob). z.named) h.0.is
    named_behind (SpaceWait n serial) h y b = absurd (waits_alone n y b)

    pub goes_on : (x : Admission) → IsAdmitted x → (y : AdmittedJob) → behind x ≡ Admitted y → is_turned_away profile.refuses y ≡ false → IsFirst plan c →
        GoesOn (Admitted y)
    goes_on (Assured s) h y b stays first =
        subst GoesOn b (subst (λ (z : AssuredJob). GoesOn (Admitted (admitted_as.Assured z))) (sym h.0.is)
        (is_assured h.0.made (tracks_asked plan h.0.made) (budget_of plan c.programs) h.0.free
        (h.1 ∙ (λ i. line.Assured (h.0.is i).tracks (h.0.is i).actions)) h.0.keeps h.0.conserves first))
    goes_on (Risky s report) h y b stays first =
        subst GoesOn b (subst (λ (z : RiskyJob). GoesOn (Admitted (admitted_as.Risky z))) (sym h.0.is)
        (checked (line.Risk report.fault report.step report.dd report.path.items)
        (warns_risk report.fault report.step report.dd report.path.items h.0.earliest h.1) h.0.same
        (not_away profile.refuses (ap (gone_behind profile.refuses) b ∙ stays)) first))
    goes_on (TooMany s step) h y b stays first =
        subst GoesOn b (subst (λ (z : RiskyJob). GoesOn (Admitted (admitted_as.Risky z))) (sym h.0.is)
        (checked (line.TooMany step) (warns_many step h.0.more h.1) h.0.same
        (not_away profile.refuses (ap (gone_behind profile.refuses) b ∙ stays)) first))
    goes_on (SpaceWait n serial) h y b stays first = absurd (waits_alone n y b)

    pub waits_on : (x : Admission) → IsAdmitted x → (n : NamedJob) → behind x ≡ Waits n → GoesOn (Waits n)
    waits_on (Assured s) h n b = absurd (admitted_alone (admitted_as.Assured s) n b)
    waits_on (Risky s report) h n b = absurd (admitted_alone (admitted_as.Risky s) n b)
    waits_on (TooMany s step) h n b = absurd (admitted_alone (admitted_as.Risky s) n b)
    waits_on (SpaceWait n serial) h m b =
        subst GoesOn b (subst (λ (z : NamedJob). GoesOn (Waits z)) (sym h.0.is)
        (waits serial (subst (λ vs. Contains vs serial) g.volumes h.0.there) h.1 h.0.same))

    -- nothing changed of a job that is turned away
    unchanged : (x : Admission) → IsAdmitted x → (y : AdmittedJob) → behind x ≡ Admitted y → is_turned_away profile.refuses y ≡ true → store ≡ p.store
    unchanged (Assured s) h y b gone = absurd (never_away profile.refuses (ap (gone_behind profile.refuses) b ∙ gone))
    unchanged (Risky s report) h y b gone = h.0.same
    unchanged (TooMany s step) h y b gone = h.0.same
    unchanged (SpaceWait n serial) h y b gone = h.0.same

    module _ (end : Parts Q) (back : GivesBack queue_of job new end) (r : IsReleased queue_of c job new end) where
      turned_by : (x : Admission) → IsAdmitted x → (y : AdmittedJob) → behind x ≡ Admitted y → is_turned_away profile.refuses y ≡ true →
          GivesBack queue_of job p end → IsReleased queue_of c job p end → Went queue_of c p its end (Over (Some told) line.Refused)
      turned_by (Assured s) h y b gone m n = absurd (never_away profile.refuses (ap (gone_behind profile.refuses) b ∙ gone))
      turned_by (Risky s report) h y b gone m n =
          turned_away end m n (line.Risk report.fault report.step report.dd report.path.items)
          (warns_risk report.fault report.step report.dd report.path.items h.0.earliest h.1)
          (away profile.refuses (ap (gone_behind profile.refuses) b ∙ gone))
      turned_by (TooMany s step) h y b gone m n =
          turned_away end m n (line.TooMany step) (warns_many step h.0.more h.1) (away profile.refuses (ap (gone_behind profile.refuses) b ∙ gone))
      turned_by (SpaceWait w serial) h y b gone m n = absurd (waits_alone w y b)

      pub is_over : (x : Admission) → IsAdmitted x → (y : AdmittedJob) → behind x ≡ Admitted y → is_turned_away profile.refuses y ≡ true →
          Went queue_of c p its end (Over (Some told) line.Refused)
      is_over x h y b gone =
          let same : store ≡ p.store = unchanged x h y b gone in
          turned_by x h y b gone
          (subst (λ (s : SharedStore). GivesBack queue_of job (record p { store = s }) end) same back)
          (subst (λ (s : SharedStore). IsReleased queue_of c job (record p { store = s }) end) same r)

  -- from the answer, whose line is this
  module _ (some : job ≢ 0) (own : named.held ≡ job) (store : SharedStore) (lines : List JobLine) (answer : Answer) (line : JobLine) (e : line ≡ line_of answer.admission)
      (is : lines ≡ walk.course.lines ++ line_of answer.admission ∷ []) (r : IsAnswered p.store (terms_of profile) job named p.date store answer) where
    abbrev told_so : Told
    told_so = record { line = line; path = answer.path }

    listed_so : lines ≡ walk.course.lines ++ line ∷ []
    listed_so = is ∙ ap (λ l. walk.course.lines ++ l ∷ []) (sym e)

    abbrev fixed_so : Fixed
    fixed_so = fixed_by_room p.store profile.units.now job named.plan p.date

    holds_so : IsTold p.store profile.programs.now profile.most_views job named.plan fixed_so line
    holds_so = subst (IsTold p.store profile.programs.now profile.most_views job named.plan fixed_so) (sym e)
        (told_of p.store (terms_of profile) job named fixed_so r.its store answer.admission r.admission)

    path_so : answer.path ≡ explained profile.explains fixed_so named.plan (seen job (world_store_of p.store)) (line ∷ [])
    path_so = r.path ∙ ap (λ l. explained profile.explains fixed_so named.plan (seen job (world_store_of p.store)) (l ∷ [])) (sym e)

    pub begins_so : (y : AdmittedJob) → behind answer.admission ≡ Admitted y → is_turned_away profile.refuses y ≡ false → IsFirst plan c →
        Went queue_of c p its (record p { store = store })
        (Answered (record { job = job; walk = begun (with_lines walk lines); stage = stage.Admitted y }) (record { line = line; path = answer.path }))
    begins_so y b stays first =
        goes_on some own store lines told_so listed_so r.its r.provides holds_so path_so answer.admission (r.admission, e) y b stays first

    pub waits_so : (n : NamedJob) → behind answer.admission ≡ Waits n →
        Went queue_of c p its (record p { store = store })
        (Answered (record { job = job; walk = with_lines walk lines; stage = stage.Named n }) (record { line = line; path = answer.path }))
    waits_so n b = waits_on some own store lines told_so listed_so r.its r.provides holds_so path_so answer.admission (r.admission, e) n b

    pub over_so : (end : Parts Q) → GivesBack queue_of job (record p { store = store }) end → IsReleased queue_of c job (record p { store = store }) end →
        (y : AdmittedJob) → behind answer.admission ≡ Admitted y → is_turned_away profile.refuses y ≡ true →
        Went queue_of c p its end (Over (Some (record { line = line; path = answer.path })) refused)
    over_so end back released y b gone =
        is_over some own store lines told_so listed_so r.its r.provides holds_so path_so end back released answer.admission (r.admission, e) y b gone
