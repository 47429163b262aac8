-- A turn of an admitted job is the machine's case.
use Rattle.std.proofs.Common.{◌≡◌, ◌≢◌, ℕ, suc, ◌≤◌, Bool, true, false, cond, arith, List, [], ◌∷◌, ◌++◌, All, drop, map, Option, Some, None, length, refl, sym, ap, ◌∙◌, subst, inl}
use Rattle.std.specs.Prelude.{IfOk, IfSome, OnOk, Result, Ok, Err}
use Rattle.std.specs.List.{Contains}
use Rattle.std.proofs.lemmas.List.Elements.{All-append, All-cons, All-head, All-nil, All-tail}
use Rattle.enq_core.specs.Holds.{HoldsNone}
use Rattle.jcl_plan.specs.declared.entry.JobLine.{JobLine}
use Rattle.jcl_plan.specs.declared.entry.JobLine.TheVariants as line
use Rattle.jcl_plan.specs.declared.plan.JobPlan.{JobPlan}
use Rattle.cb_queue.specs.RecordQueues.{RecordQueue}
use Rattle.prog_core.specs.declared.units.Operation.{Operation}
use Rattle.prog_core.specs.Operations.{IsRoomFor, OneEach, is_owner, without_owner}
use Rattle.jcl_meaning.specs.Names.{names_of}
use Rattle.jcl_meaning.specs.Programs.{moves_of}
use Rattle.jcl_meaning.specs.States.{Fixed}
use Rattle.machine_meaning.specs.Spools.{sets_of, with_sets}
use Rattle.world_meaning.specs.Choices.{choice_of_advance}
use Rattle.world_meaning.specs.Holdings.{cancels_without, released}
use Rattle.world_meaning.specs.Lenses.{seen}
use Rattle.world_meaning.specs.Records.{Reopened}
use Rattle.world_meaning.specs.Tracks.{Conserves}
use Rattle.world_meaning.specs.Turns.{Advances, has_cancel}
use Rattle.world_meaning.specs.Worlds as world
use Rattle.world_meaning.specs.Worlds.{Config, Shared}
use Rattle.world_meaning.proofs.Following.{unopened}
use Rattle.world_meaning.proofs.JobLens.{put_same}
use Rattle.shared_core.specs.Shown.{mounted_in, world_store_of}
use Rattle.shared_core.specs.Tracks.{free_on}
use Rattle.shared_core.specs.declared.store.SharedStore.{SharedStore}
use Rattle.shared_core.proofs.Following.{stays_follow}
use Rattle.turn_core.specs.MachineTurns.{ActsAdvance, EndsAdvance, WaitsAdvance, shared_ended, shared_told}
use Rattle.turn_core.specs.Places.{agenda_at}
use Rattle.turn_core.specs.Standing.{JobActs, JobEnds, Stands, TellsJob, count_at, undone}
use Rattle.turn_core.specs.Performing.{StoreAnswers, primary_by}
use Rattle.turn_core.specs.TurnLaws.{FewLines}
use Rattle.turn_core.specs.Turning.{Around, Tells, Waits, made_in, operations_by}
use Rattle.turn_core.specs.declared.walk.Acted.{Acted}
use Rattle.turn_core.specs.declared.walk.Turned.{Turned}
use Rattle.turn_core.specs.declared.walk.Walk.{Walk}
use Rattle.turn_core.proofs.Standing.{tells_job}
use Rattle.disp_core.specs.Grants.{made_of}
use Rattle.grant_laws.specs.Granted.{GrantedTurns, GrantsAll, with_primaries}
use Rattle.admit_core.specs.Admissions.{fixed_for, given_to, is_assured, named_of}
use Rattle.admit_core.specs.declared.admission.AdmittedJob.{AdmittedJob}
use Rattle.queued_job.proofs.Wanted.{releasing_leaves, releasing_leaves_none}
use Rattle.machine_core.specs.declared.parts.Parts.{Parts}
use Rattle.machine_core.specs.Shown.{shown}
use Rattle.init_core.specs.declared.running.Profile.{Profile}
use Rattle.init_core.specs.declared.running.Progress.{Progress}
use Rattle.init_core.specs.declared.running.Progress.TheVariants.{GoesOn, Over}
use Rattle.init_core.specs.declared.running.Running.{Running}
use Rattle.init_core.specs.declared.running.Stage.TheVariants as stage
use Rattle.init_core.specs.Choosing.{IsChosenByVolumes, IsGrantedByVolumes}
use Rattle.init_core.specs.Going.{ActsInPlace, Went, WentInPlace}
use Rattle.init_core.specs.Providing.{IsForAction}
use Rattle.init_core.specs.Running.{AreOn, IsAt, IsGood, config_of, shown_admission, shown_running}
use Rattle.init_core.specs.Turning.{IsEnded, IsWritten, answers_of, around_in, with_spool}
use Rattle.init_core.proofs.Covering.{granted}
use Rattle.init_core.proofs.Reading.{good_again}
use Rattle.init_core.proofs.Rooms.{known_on, room_if, stand_on}
use Rattle.init_core.proofs.Volumes.{IsOnOne, StandOn, acted_on}
use Rattle.init_core.proofs.Wanting.{lines_behind, none_told, nothing_behind, one_told}

clash : false ≡ true → ⊥
clash e = absurd cc

one_more : {m n : ℕ} → m ≤ suc n → m ≤ suc (suc n)
one_more h = omega (arith, h)

-- operations stay on configured volumes
not_owned : (job : ℕ) (o : Operation) (b : Bool) → (cond b (record { serial = o.serial; owner = None }) o).serial ≡ o.serial
not_owned job o true = refl
not_owned job o false = refl

abandoned_on : (volumes : List (List ℕ)) (job : ℕ) (os : List Operation) → All (λ o. Contains volumes o.serial) os → All (λ o. Contains volumes o.serial) (map (without_owner job) os)
abandoned_on volumes job [] all = All-nil (λ o. Contains volumes o.serial)
abandoned_on volumes job (o ∷ os) all =
    All-cons (λ o. Contains volumes o.serial) (without_owner job o) (map (without_owner job) os)
    (subst (λ s. Contains volumes s) (sym (not_owned job o (is_owner job o.owner))) (All-head (λ o. Contains volumes o.serial) o os all))
    (abandoned_on volumes job os (All-tail (λ o. Contains volumes o.serial) o os all))

abandoned_if : (b : Bool) (volumes : List (List ℕ)) (job : ℕ) (os : List Operation) → All (λ o. Contains volumes o.serial) os →
    All (λ o. Contains volumes o.serial) (cond b (map (without_owner job) os) os)
abandoned_if true volumes job os all = abandoned_on volumes job os all
abandoned_if false volumes job os all = all

operations_on : (volumes : List (List ℕ)) (job : ℕ) (os : List Operation) (starts : Option (List ℕ)) (cancelled : Bool) → IfSome starts (λ serial. Contains volumes serial) →
    All (λ o. Contains volumes o.serial) os → All (λ o. Contains volumes o.serial) (operations_by os job starts cancelled)
operations_on volumes job os (Some serial) cancelled on all =
    All-append (λ o. Contains volumes o.serial) os (record { serial = serial; owner = Some job } ∷ []) all
    (All-cons (λ o. Contains volumes o.serial) (record { serial = serial; owner = Some job }) [] on (All-nil (λ o. Contains volumes o.serial)))
operations_on volumes job os None cancelled on all = abandoned_if cancelled volumes job os all

module _ {Q : Type 0} (queue_of : Q → RecordQueue) (profile : Profile) (p : Parts Q) (job : ℕ) (walk : Walk) (a : AdmittedJob)
    (g : IsGood queue_of (config_of profile (queue_of p.queue).layout) p) where
  abbrev pub plan : JobPlan
  plan = (named_of a).plan

  abbrev pub c : Config
  c = config_of profile (queue_of p.queue).layout

  abbrev pub at_walk : Walk → Running
  at_walk w = record { job = job; walk = w; stage = stage.Admitted a }

  abbrev pub its : Running
  its = at_walk walk

  abbrev shown_its : world.Running
  shown_its = shown_running c (queue_of p.queue) its

  abbrev pub its_around : Around
  its_around = around_in profile p.units job a (has_cancel p.cancels job) p.store

  abbrev pub answered_by : StoreAnswers → Around
  answered_by grants = record its_around { grants = grants }

  abbrev pub from : ℕ
  from = length walk.course.lines

  abbrev advances_to : List JobLine → Shared → Option world.Running → Type 0
  advances_to lines new runs =
      Advances c (shown queue_of p) shown_its plan (shown_admission c a) (count_at plan c.programs walk.todo) walk.course.own lines new runs

  -- with what is open in it as the volumes decide it
  abbrev pub chosen_to : List JobLine → Shared → Option world.Running → Type 0
  chosen_to lines new runs = (g : advances_to lines new runs) × IsChosenByVolumes c p.store p.date (choice_of_advance g)

  pub told_as : (st : SharedStore) (after : Walk) (n : ℕ) (fixed : Fixed) (its_plan : JobPlan) (cancelled : Bool) (told same : Turned) → n ≡ job →
      fixed ≡ fixed_for profile.volumes.now plan (given_to a) → its_plan ≡ plan → cancelled ≡ has_cancel p.cancels job → told ≡ same →
      Stands plan profile.programs.now walk.todo →
      Tells (record its_around { steps = its_plan.steps; fixed = fixed; job = n; cancel = cancelled; grants = answers_of n p.store })
      (agenda_at (moves_of profile.programs.now) its_plan.steps walk.todo) (seen n (world_store_of p.store)) walk.course (seen n (world_store_of st)) after.course
      (agenda_at (moves_of profile.programs.now) its_plan.steps after.todo) told →
      TellsJob its_around plan (seen job (world_store_of p.store)) walk (seen job (world_store_of st)) after same
  told_as st after n fixed its_plan cancelled told same own for planned due is stands t =
      tells_job same its_around plan (seen job (world_store_of p.store)) (seen job (world_store_of st)) walk after stands
      (subst (λ (x : ℕ × Fixed × JobPlan × Bool × Turned).
      Tells (record its_around { steps = x.2.steps; fixed = x.1; job = x.0; cancel = x.3; grants = answers_of x.0 p.store })
      (agenda_at (moves_of profile.programs.now) x.2.steps walk.todo) (seen x.0 (world_store_of p.store)) walk.course (seen x.0 (world_store_of st)) after.course
      (agenda_at (moves_of profile.programs.now) x.2.steps after.todo) x.4)
      (λ i. (own i, for i, planned i, due i, is i)) t)

  pub written_as : (st : SharedStore) (n : ℕ) (told same : Turned) → n ≡ job → told ≡ same → IsWritten n (made_of (made_in told)) p.store st →
      IsWritten job (made_of (made_in same)) p.store st
  written_as st n told same own is w = subst (λ (x : ℕ × Turned). IsWritten x.0 (made_of (made_in x.1)) p.store st) (λ i. (own i, is i)) w

  module _ (some : job ≢ 0) (at : IsAt c p.names job walk (stage.Admitted a)) where
    -- where the job's sets are, and its operation starts
    pub moved_on : (st : SharedStore) (after : Walk) (told : Acted) → JobActs its_around plan (seen job (world_store_of p.store)) (seen job (world_store_of st)) walk after told →
        AreOn c.volumes after.course.own.dds × IsOnOne c.volumes told.starts
    moved_on st after told t = acted_on c.volumes its_around plan (seen job (world_store_of p.store)) (seen job (world_store_of st)) walk after told (known_on c.volumes) at.1.on
        (subst (λ vs. StandOn vs (seen job (world_store_of p.store))) g.volumes (stand_on job p.store)) t

    pub room : (st : SharedStore) (after : Walk) (told : Acted) → JobActs its_around plan (seen job (world_store_of p.store)) (seen job (world_store_of st)) walk after told →
        OneEach p.units → IfSome told.starts (IsRoomFor p.units)
    room st after told t each = room_if c.volumes p.units told.starts g.few each g.operations (moved_on st after told t).1

    pub waits : WaitsAdvance → (st : SharedStore) (after : Walk) → st ≡ p.store → after ≡ walk →
        Waits its_around (undone plan c.programs walk.todo) (seen job (world_store_of p.store)) walk.course.own (count_at plan c.programs walk.todo) →
        Went queue_of c p its (record p { store = st }) (GoesOn (at_walk after) from)
    waits law st after is same w =
        let here = law c (shown queue_of p) shown_its plan (shown_admission c a) (answers_of job p.store) walk w in
        let goes : chosen_to (drop from walk.course.lines) (shown queue_of p) (Some shown_its) =
        subst (λ ls. chosen_to ls (shown queue_of p) (Some shown_its))
        (sym (lines_behind walk.course.lines walk.course.lines [] (sym (nothing_behind walk.course.lines))))
        (here.0, subst (IsChosenByVolumes c p.store p.date) (sym here.1) tt) in
        subst (λ x. Went queue_of c p its (record p { store = st }) (GoesOn (at_walk x) from)) (sym same)
        (subst (λ x. Went queue_of c p its (record p { store = x }) (GoesOn (at_walk walk) from)) (sym is) (record {
          middle = shown queue_of p;
          goes = goes.0;
          reopened = unopened c.layout (shown queue_of p);
          chosen = goes.1;
          explained = refl;
          few = none_told (drop from walk.course.lines) (length walk.course.own.dds)
              (lines_behind walk.course.lines walk.course.lines [] (sym (nothing_behind walk.course.lines)));
          once = tt;
          good = g;
          left = record { same = refl; ready = record { some = some; at = at } };
          extents = inl (stays_follow p.store);
          rest = record { waiting = refl; others = λ other apart none. none };
        }))

    module _ (st : SharedStore) (after : Walk) (told : Acted) (is : IsWritten job (made_of told.made) p.store st) where
      abbrev pub told_free : List ℕ → ℕ
      told_free = λ serial. free_on st.volumes serial

      abbrev pub told_shared : Shared
      told_shared = shared_told (shown queue_of p) job (seen job (world_store_of st)) told told_free

      -- with the answers of a store, of which what is open in it is known
      pub acted : ActsAdvance → FewLines → (grants : StoreAnswers)
          (t : JobActs (answered_by grants) plan (seen job (world_store_of p.store)) (seen job (world_store_of st)) walk after told) →
          (is_assured a ≡ true → t.acts.primary ≡ true) →
          IsGrantedByVolumes p.store job (has_cancel p.cancels job) (shown_admission c a) t.acts.its_turn t.acts.growth t.acts.primary →
          IfSome told.starts (λ serial. Contains c.volumes serial) → IsAt c p.names job after (stage.Admitted a) →
          (units : List Operation) (cancels : List ℕ) → units ≡ operations_by p.units job told.starts told.cancelled →
          cancels ≡ cond told.cancelled (cancels_without p.cancels job) p.cancels →
          Went queue_of c p its (record p { store = st; units = units; cancels = cancels }) (GoesOn (at_walk after) from)
      acted law short grants t granted by_volumes on there units cancels us cs =
          let here = law c (shown queue_of p) shown_its plan (shown_admission c a) grants walk after (seen job (world_store_of st)) told told_free refl t granted
          (is.conserves (shown queue_of p) told_shared (record { store = refl; free = λ v. refl; kept = refl })
          (record { store = sym is.world; free = λ v. refl; kept = sym is.kept })) in
          let goes : chosen_to (drop from after.course.lines) told_shared (Some (shown_running c (queue_of p.queue) (at_walk after))) =
          subst (λ ls. chosen_to ls told_shared (Some (shown_running c (queue_of p.queue) (at_walk after))))
          (sym (lines_behind walk.course.lines after.course.lines t.acts.its_turn.done.lines t.acts.lines))
          (here.0, subst (IsChosenByVolumes c p.store p.date) (sym here.1) by_volumes) in
          record {
            middle = told_shared;
            goes = goes.0;
            reopened = subst (λ s. Reopened c.layout told_shared s)
                (λ i. record (shown queue_of p) {
                  store = sym is.world i;
                  free = told_free;
                  kept = sym is.kept i;
                  operations = sym us i;
                  cancels = sym cs i;
                })
                (unopened c.layout told_shared);
            chosen = goes.1;
            explained = refl;
            few = one_more
                (subst (λ (ls : List JobLine). length ls ≤ suc (length walk.course.own.dds))
                (sym (lines_behind walk.course.lines after.course.lines t.acts.its_turn.done.lines t.acts.lines))
                (short (answered_by grants) plan (seen job (world_store_of p.store)) (seen job (world_store_of st)) walk after told t));
            once = tt;
            good = record {
              volumes = is.volumes ∙ g.volumes;
              layout = g.layout;
              fields = g.fields;
              operations = subst (λ os. All (λ o. Contains c.volumes o.serial) os) (sym us) (operations_on c.volumes job p.units told.starts told.cancelled on g.operations);
              few = g.few;
            };
            left = record { same = refl; ready = record { some = some; at = there } };
            extents = inl is.extents;
            rest = record { waiting = refl; others = λ other apart none. none };
          }

    -- its last line: what it held is given back
    module _ (new : Parts Q) (e : IsEnded queue_of job walk plan p new) where
      abbrev pub mid : Parts Q
      mid = with_spool job walk plan p

      abbrev pub ended_shared : Shared
      ended_shared = shared_ended c (shown queue_of p) job plan walk.course.lines walk.course.own.outputs (shown queue_of new).free

      released_there : released c (shown queue_of mid) job (shown queue_of new).free ≡ ended_shared
      released_there = λ i. released c (record (shown queue_of p) {
        store = sym (put_same job (world_store_of p.store)) i;
        spool = with_sets p.spool (sets_of job plan.message_class (walk.course.lines ++ line.End ∷ []) walk.course.own.outputs);
      }) job (shown queue_of new).free

      conserved_there : Conserves (shown queue_of p) (released c (shown queue_of mid) job (shown queue_of new).free)
      conserved_there serial =
          let h = (e.released c refl).conserves serial in record { touched = h.touched; once = h.once; others = h.others; sum = h.sum }

      back_good : IsGood queue_of c mid
      back_good = record { volumes = g.volumes; layout = g.layout; fields = g.fields; operations = g.operations; few = g.few }

      pub ended : EndsAdvance → JobEnds its_around plan (seen job (world_store_of p.store)) walk → Went queue_of c p its new (Over None line.End)
      ended law h =
          let here = law c (shown queue_of p) shown_its plan (shown_admission c a) (answers_of job p.store) walk (shown queue_of new).free refl h
          (subst (λ s. Conserves (shown queue_of p) s) released_there conserved_there) in
          record {
            middle = ended_shared;
            goes = here.0;
            reopened = subst (λ s. Reopened c.layout s (shown queue_of new)) released_there (e.released c refl).reopened;
            chosen = subst (IsChosenByVolumes c p.store p.date) (sym here.1) tt;
            explained = refl;
            few = one_told (line.End ∷ []) line.End (length walk.course.own.dds) refl;
            once = tt;
            good = good_again queue_of c job mid new e.back back_good;
            left = subst (λ hs. HoldsNone hs job) (sym e.back.names) (releasing_leaves_none p.names job);
            extents = inl e.back.store.follow;
            rest = record {
              waiting = e.back.records.waiting;
              others = λ other apart none. subst (λ hs. HoldsNone hs other) (sym e.back.names) (releasing_leaves p.names job other none);
            };
          }

    pub ended_by : (r : Result Progress Running) (new : Parts Q) → IfOk r (λ came. came ≡ Over None line.End) → OnOk r (IsEnded queue_of job walk plan p new) →
        EndsAdvance → JobEnds its_around plan (seen job (world_store_of p.store)) walk → IfOk r (Went queue_of c p its new)
    ended_by (Ok came) new over e law h = subst (Went queue_of c p its new) (sym over) (ended new e law h)
    ended_by (Err back) new over e law h = tt

    -- the store grants each primary of an assured job
    all_granted : IsForAction queue_of c p job a walk → GrantsAll its_around plan (seen job (world_store_of p.store)) walk
    all_granted provided place key may sees =
        granted plan job place (names_of plan) key (mounted_in p.store.volumes place.serial) sees (provided.covered place may)

    module _ (st : SharedStore) (after : Walk) (told : Acted) (is : IsWritten job (made_of told.made) p.store st)
        (t : JobActs its_around plan (seen job (world_store_of p.store)) (seen job (world_store_of st)) walk after told) (law : ActsAdvance) (short : FewLines)
        (units : List Operation) (cancels : List ℕ) (us : units ≡ operations_by p.units job told.starts told.cancelled)
        (cs : cancels ≡ cond told.cancelled (cancels_without p.cancels job) p.cancels) where
      abbrev behind_it : Type 0
      behind_it = Went queue_of c p its (record p { store = st; units = units; cancels = cancels }) (GoesOn (at_walk after) from)

      stays_at : IsAt c p.names job after (stage.Admitted a)
      stays_at = (at.0, record { stands = t.stands; on = (moved_on st after told t).0 })

      with_checks : is_assured a ≡ false → behind_it
      with_checks e =
          acted st after told is law short its_around.grants t (λ so. absurd (clash (sym e ∙ so)))
          (record {
            growth_answered = t.acts.growth_answered;
            primary_answered = t.acts.primary_answered ∙ (λ i. cond (sym e i) true
                (primary_by its_around.grants.new its_around.fixed t.acts.its_turn.action t.acts.its_turn.before.store t.acts.its_turn.before.own));
          })
          (moved_on st after told t).1 stays_at units cancels us cs

      assured_so : GrantedTurns → IsForAction queue_of c p job a walk → is_assured a ≡ true → behind_it
      assured_so grants provided e =
          let h = grants its_around plan (seen job (world_store_of p.store)) (seen job (world_store_of st)) walk after told provided.programs provided.fits
          (all_granted provided) t in
          acted st after told is law short (with_primaries its_around).grants h.0 (λ so. h.1)
          (record {
            growth_answered = h.0.acts.growth_answered;
            primary_answered = h.1 ∙ (λ i. cond (sym e i) true
                (primary_by its_around.grants.new its_around.fixed h.0.acts.its_turn.action h.0.acts.its_turn.before.store h.0.acts.its_turn.before.own));
          })
          (moved_on st after told t).1 stays_at units cancels us cs

      by_admission : (b : Bool) → is_assured a ≡ b → GrantedTurns → (is_assured a ≡ true → IsForAction queue_of c p job a walk) → behind_it
      by_admission true e grants provided = assured_so grants (provided e) e
      by_admission false e grants provided = with_checks e

      pub acted_so : GrantedTurns → (is_assured a ≡ true → IsForAction queue_of c p job a walk) → behind_it
      acted_so grants provided = by_admission (is_assured a) refl grants provided

-- what an admitted job's turn in its place is, is a job's turn in its place
in_place : {Q : Type 0} (queue_of : Q → RecordQueue) (profile : Profile) (p : Parts Q) (job : ℕ) (a : AdmittedJob) (before : Walk) (new : Parts Q) (after : Walk)
    (o : Option ℕ) → ActsInPlace queue_of profile p job a before new after o →
    WentInPlace queue_of profile p (record { job = job; walk = before; stage = stage.Admitted a }) new
    (record { job = job; walk = after; stage = stage.Admitted a }) o
in_place queue_of profile p job a before new after (Some n) h = h
in_place queue_of profile p job a before new after None h = (h.0, ap (λ w. record { job = job; walk = w; stage = stage.Admitted a }) h.1, h.2)

pub all_in_place : {Q : Type 0} {E : Type 0} (queue_of : Q → RecordQueue) (profile : Profile) (p : Parts Q) (job : ℕ) (a : AdmittedJob) (before : Walk)
    (new : Parts Q) (after : Walk) (r : Result (Option ℕ) E) → IfOk r (ActsInPlace queue_of profile p job a before new after) →
    IfOk r (WentInPlace queue_of profile p (record { job = job; walk = before; stage = stage.Admitted a }) new
    (record { job = job; walk = after; stage = stage.Admitted a }))
all_in_place queue_of profile p job a before new after (Ok o) h = in_place queue_of profile p job a before new after o h
all_in_place queue_of profile p job a before new after (Err e) h = tt
