-- A program's request carried out, with the answers that it takes.
use Rattle.std.specs.Prelude.{◌≡◌, ℕ, ◌+◌, ◌-◌, Bool, true, false, not, ◌&&◌, ◌||◌, ◌==◌, nat_lt, length, List, [], ◌∷◌, ◌++◌, drop, take, slice_get, slice_set, Option, Some, None, Result, is_some, if◌then◌else◌}
use Rattle.jname_core.specs.declared.key.Key.{Key}
use Rattle.jcl_plan.specs.declared.entry.JobLine.{JobLine}
use Rattle.jcl_plan.specs.declared.entry.JobLine.TheVariants as line
use Rattle.jcl_plan.specs.declared.outcome.Abend.{Abend}
use Rattle.jcl_plan.specs.declared.outcome.Abend.TheVariants as abend
use Rattle.jcl_plan.specs.declared.outcome.Outcome.TheVariants as outcome
use Rattle.jcl_plan.specs.declared.plan.DdKind.{DdKind}
use Rattle.jcl_plan.specs.declared.plan.DdKind.TheVariants.{Sysout, Dummy, Cards, Set}
use Rattle.jcl_plan.specs.declared.plan.DdPlan.{DdPlan}
use Rattle.jcl_plan.specs.declared.plan.SetPlan.{SetPlan}
use Rattle.jcl_plan.specs.declared.plan.StepPlan.{StepPlan}
use Rattle.jcl_meaning.specs.declared.program.Move.{Move}
use Rattle.jcl_meaning.specs.declared.program.Move.TheVariants.{From, To}
use Rattle.jcl_meaning.specs.declared.state.DdState.{DdState}
use Rattle.jcl_meaning.specs.declared.source.FoundRecord.{FoundRecord}
use Rattle.jcl_meaning.specs.declared.source.Source.{Source}
use Rattle.jcl_meaning.specs.declared.state.Due.{Due}
use Rattle.jcl_meaning.specs.declared.state.Due.TheVariants as due
use Rattle.jcl_meaning.specs.declared.state.Own.{Own}
use Rattle.jcl_meaning.specs.declared.state.TakenSet.{TakenSet}
use Rattle.jcl_meaning.specs.declared.store.DataSet.{DataSet}
use Rattle.jcl_meaning.specs.Programs.{dd_of, emptied, empties, grown_by, is_concatenated, is_full, is_read_only, located, members_at, or_nothing, sources_from}
use Rattle.jcl_meaning.specs.RequestActs.{asked, asks_at, asks_of, dd_name, gets, head_or, puts, puts_in, reads, received, received_now}
use Rattle.jcl_meaning.specs.States.{Answers, Done, State, asks_open, cancel_due, others}
use Rattle.jcl_meaning.specs.Takes.{secondary_of}
use Rattle.jcl_meaning.specs.Stores.{Store}
use Rattle.store_core.specs.Actions.{changed_at, state_at}
use Rattle.disp_core.specs.Acting.{Acts}
use Rattle.disp_core.specs.Courses.{Carried, Does}
use Rattle.disp_core.specs.declared.course.Course.{Course}
use Rattle.job_text.specs.Places.{dd_at, step_at}
use Rattle.job_text.specs.Texts.{put_text}
use Rattle.job_text.specs.declared.texts.PutText.{PutText}
use Rattle.store_core.specs.declared.job_store.JobStore.{Ghosts}
use Rattle.request_core.specs.declared.here.Asking.{Asking}
use Rattle.request_core.specs.declared.here.Here.{Here}
use Rattle.request_core.specs.declared.put.Putting.{Putting}

-- the state of a DD changed, where it was taken
abbrev pub with_dd_by : (DdState → DdState) → List DdState → ℕ → Option DdState → List DdState
with_dd_by f dds d None = dds
with_dd_by f dds d (Some x) = slice_set dds d (f x)

abbrev pub with_dd : (DdState → DdState) → List DdState → ℕ → List DdState
with_dd f dds d = with_dd_by f dds d (slice_get dds d)

-- a line of a program, with what is due behind it
abbrev pub course_with : Course → (DdState → DdState) → ℕ → Option Due → JobLine → Course
course_with c f d waits l = record {
  own = record c.own { dds = with_dd f c.own.dds d; due = waits; lines = c.own.lines + 1 };
  lines = c.lines ++ l ∷ [];
}

-- the program ends by an ABEND
abbrev pub course_abended : Course → Abend → Course
course_abended c a = record {
  own = record c.own { over = Some (outcome.Abend a); due = None; lines = c.own.lines + 1 };
  lines = c.lines ++ line.Abend a ∷ [];
}

-- a result was carried out, where a cancel stands in its place or none does
abbrev pub CarriedUnless : Bool → (State → Done) → Store → Course → Store → Course → Type 0
CarriedUnless cancelled action old before new after =
    (answers : Answers) → cancel_due answers.cancels before.own.lines ≡ cancelled → Does (action (state_at old before.own answers)) new after before answers None []

-- what a GET leaves that reads there
abbrev pub moved : ℕ → ℕ → DdState → DdState
moved member position x = record x { member = member; position = position }

abbrev pub got_by : Course → List ℕ → ℕ → ℕ → ℕ → Option (List ℕ) → Option (List ℕ) → Course
got_by c name d member position None serial = course_with c (moved member position) d None (line.GetEnd name)
got_by c name d member position (Some text) None = course_with c (moved member (position + 1)) d None (line.GetData name text)
got_by c name d member position (Some text) (Some serial) = course_with c (moved member (position + 1)) d (Some (due.Data name text)) (line.GetStart name serial)

abbrev pub got : Course → List ℕ → ℕ → FoundRecord → Course
got c name d found = got_by c name d found.member found.position found.text found.serial

-- at the end of a member that is not the last, nor one that is not read past, the next is read
abbrev pub is_read_on : Source → Bool → ℕ → Bool
is_read_on x more position = more && not (nat_lt position (length x.records)) && x.read_past

-- what a PUT leaves of its DD: a record was put to its set, or stands behind those for SYSOUT
abbrev pub with_mark : DdState → DdState
with_mark x = record x { written = true }

abbrev pub with_spooled : List ℕ → DdState → DdState
with_spooled text x = record x { spooled = x.spooled ++ text ∷ [] }

-- the DD that a request goes to, the d-th of its step, from 0, and what it needs of its state
pub record IsHere (dds : List DdState) (here : Here) (x : DdState) : Type 0 where
  pub there : slice_get dds here.d ≡ Some x
  pub its_member : x.member ≡ here.member
  pub its_position : x.position ≡ here.position
  pub its_mark : x.written ≡ here.written
  pub its_set : x.taken ≡ here.taken

-- the tracks that a request asks its store for, behind those of a set
pub record Growth : Type 0 where
  pub key : Key
  pub serial : List ℕ
  pub tracks : ℕ

-- a PUT asks for the secondary where its set is full
abbrev pub growth_for : TakenSet → ℕ → DataSet → Option Growth
growth_for t secondary set = if is_full set then (if secondary == 0 then None else Some (record { key = t.key; serial = t.serial; tracks = secondary })) else None

abbrev pub growth_in : SetPlan → Bool → Option TakenSet → Store → Option Growth
growth_in p mark None seen = None
growth_in p mark (Some t) seen = growth_for t (secondary_of p.space) (emptied (empties p.status mark) (or_nothing (seen.set t.key t.serial)))

abbrev pub growth_of_kind : Here → DdKind → Store → Option Growth
growth_of_kind here (Sysout class) seen = None
growth_of_kind here Dummy seen = None
growth_of_kind here (Cards cards) seen = None
growth_of_kind here (Set p) seen = growth_in p here.written here.taken seen

abbrev pub growth_unless : Bool → Here → DdKind → Store → Option Growth
growth_unless true here kind seen = None
growth_unless false here kind seen = growth_of_kind here kind seen

abbrev pub growth_of : StepPlan → Move → Here → DdPlan → Store → Option Growth
growth_of step (From name) here dd seen = None
growth_of step (To name text) here dd seen = growth_unless (is_read_only dd.kind || is_concatenated (drop here.d step.dds)) here dd.kind seen

abbrev pub here_at : ℕ → DdState → Here
here_at d x = record { d = d; member = x.member; position = x.position; written = x.written; taken = x.taken }

abbrev pub growth_at_dd : Option DdState → Option DdPlan → StepPlan → Move → ℕ → Store → Option Growth
growth_at_dd None dd step move d seen = None
growth_at_dd (Some x) None step move d seen = None
growth_at_dd (Some x) (Some dd) step move d seen = growth_of step move (here_at d x) dd seen

abbrev pub growth_at : Option ℕ → StepPlan → Move → List DdState → Store → Option Growth
growth_at None step move dds seen = None
growth_at (Some d) step move dds seen = growth_at_dd (slice_get dds d) (slice_get step.dds d) step move d seen

-- none where a cancel stands in the place of the request
abbrev pub growth_asked : Bool → StepPlan → Move → Own → Store → Option Growth
growth_asked cancelled step move own seen =
    if asks_open own then (if cancelled then None else growth_at (dd_of step.dds (dd_name move)) step move own.dds seen) else None

-- the next answer is the store's where tracks are asked for, and it is used up
abbrev pub Grants : (Key → List ℕ → ℕ → Bool) → Option Growth → Answers → Type 0
Grants grants None answers = Unit {0}
Grants grants (Some g) answers = head_or true answers.grants ≡ grants g.key g.serial g.tracks

abbrev pub answers_left : Option Growth → Answers → Answers
answers_left None a = a
answers_left (Some g) a = record { outcomes = a.outcomes; cancels = a.cancels; grants = others a.grants; primary = a.primary }

-- a request was carried out that asks for these tracks, or for none
abbrev pub CarriedGrown : (Key → List ℕ → ℕ → Bool) → Option Growth → (State → Done) → Store → Course → Store → Course → Type 0
CarriedGrown grants growth action old before new after =
    (answers : Answers) → Grants grants growth answers → Does (action (state_at old before.own answers)) new after before (answers_left growth answers) None []

-- and a cancel stands in its place, or none does
abbrev pub CarriedRequest : Bool → (Key → List ℕ → ℕ → Bool) → Option Growth → (State → Done) → Store → Course → Store → Course → Type 0
CarriedRequest cancelled grants growth action old before new after =
    (answers : Answers) → cancel_due answers.cancels before.own.lines ≡ cancelled → Grants grants growth answers →
    Does (action (state_at old before.own answers)) new after before (answers_left growth answers) None []

-- a request's first action was carried out: whether it asked for tracks is told, and the answer to that is the store's own
pub record IsAsked (cancelled : Bool) (grants : Key → List ℕ → ℕ → Bool) (step : StepPlan) (wants : Move)
    (old : Store) (before : Course) (new : Store) (after : Course) (told : Bool) : Type 0 where
  pub its_growth : told ≡ is_some (growth_asked cancelled step wants before.own old)
  pub its_act : CarriedRequest cancelled grants (growth_asked cancelled step wants before.own old) (λ s. asked step wants s) old before new after

-- at the d-th DD of its step, from 0
abbrev pub CarriedAt : (Key → List ℕ → ℕ → Bool) → StepPlan → Move → ℕ → Store → Course → Store → Course → Type 0
CarriedAt grants step wants d old before new after =
    CarriedGrown grants (growth_at (Some d) step wants before.own.dds old) (λ s. asks_at (Some d) step wants s) old before new after

-- at a DD whose state is this
abbrev pub CarriedHere : (Key → List ℕ → ℕ → Bool) → Here → Option Growth → (DdState → State → Done) → Store → Course → Store → Course → Type 0
CarriedHere grants here growth action old before new after =
    (x : DdState) → IsHere before.own.dds here x → CarriedGrown grants growth (λ s. action x s) old before new after

abbrev pub AsksOf : (Key → List ℕ → ℕ → Bool) → StepPlan → Move → Here → DdPlan → Store → Course → Store → Course → Type 0
AsksOf grants step wants here dd old before new after =
    CarriedHere grants here (growth_of step wants here dd old) (λ x s. asks_of step wants here.d x dd s) old before new after

-- a PUT, by the kind of its DD
abbrev pub Puts : (Key → List ℕ → ℕ → Bool) → List ℕ → List ℕ → Here → DdKind → Store → Course → Store → Course → Type 0
Puts grants name text here kind old before new after =
    CarriedHere grants here (growth_of_kind here kind old) (λ x s. puts name text here.d x kind s) old before new after

-- to a set
abbrev pub PutsIn : (Key → List ℕ → ℕ → Bool) → List ℕ → List ℕ → Here → SetPlan → TakenSet → Store → Course → Store → Course → Type 0
PutsIn grants name text here p t old before new after =
    CarriedHere grants here (growth_in p here.written (Some t) old) (λ x s. puts_in name text here.d x p (Some t) s) old before new after

-- a GET
abbrev pub Gets : StepPlan → List ℕ → Here → Store → Course → Course → Type 0
Gets step name here seen before after =
    (x : DdState) → IsHere before.own.dds here x → Carried (λ s. gets name here.d x s (reads step here.d x s)) seen before seen after None []

-- what is due was carried out, where a cancel stands in its place or none does
abbrev pub IsReceived : Bool → Store → Course → Store → Course → Unit {0} → Type 0
IsReceived cancelled old before new after told = CarriedUnless cancelled (λ s. received s) old before new after

abbrev pub IsReceivedNow : Due → Store → Course → Store → Course → Unit {0} → Type 0
IsReceivedNow waits old before new after told = Carried (λ s. received_now waits s) old before new after None []

-- a PUT that asks for tracks: the store and the course, by whether they are granted
abbrev pub store_grown : Bool → Bool → ℕ → Store → TakenSet → Store
store_grown true wipes tracks seen t = changed_at (λ set. grown_by tracks (emptied wipes set)) seen t.key t.serial
store_grown false wipes tracks seen t = changed_at (emptied wipes) seen t.key t.serial

abbrev pub course_put : Course → List ℕ → List ℕ → ℕ → TakenSet → Option ℕ → Course
course_put c name text d t grown = course_with c with_mark d (Some (due.Put name d text)) (line.PutStart name t.serial grown)

abbrev pub course_grown : Bool → Course → List ℕ → List ℕ → ℕ → TakenSet → ℕ → Course
course_grown true c name text d t tracks = course_put c name text d t (Some tracks)
course_grown false c name text d t tracks = course_abended c abend.SB37

-- The same for a request of a job's program: its step, and its DD.
abbrev pub step_asked : List StepPlan → Asking → StepPlan
step_asked steps asking = step_at steps asking.step

abbrev pub dd_asked : List StepPlan → Asking → Here → DdPlan
dd_asked steps asking here = dd_at (step_asked steps asking).dds here.d

-- whether it asks for tracks, at a DD that was taken, and at the d-th of its step
abbrev pub asks_growth_of : List StepPlan → Asking → Here → Store → Bool
asks_growth_of steps asking here seen = is_some (growth_of (step_asked steps asking) asking.wants.now here (dd_asked steps asking here) seen)

abbrev pub asks_growth_at : List StepPlan → Asking → ℕ → List DdState → Store → Bool
asks_growth_at steps asking d dds seen = is_some (growth_at (Some d) (step_asked steps asking) asking.wants.now dds seen)

-- it was carried out over a store
abbrev pub AsksOfOver : {S : Type 0} → Ghosts S → List StepPlan → Asking → Here → S → Course → S → Course → Type 0
AsksOfOver store steps asking here old before new after =
    AsksOf (store.grants_growth asking.job old) (step_asked steps asking) asking.wants.now here (dd_asked steps asking here)
    (store.seen asking.job old) before (store.seen asking.job new) after

abbrev pub AsksAtOver : {S : Type 0} → Ghosts S → List StepPlan → Asking → ℕ → S → Course → S → Course → Type 0
AsksAtOver store steps asking d old before new after =
    CarriedAt (store.grants_growth asking.job old) (step_asked steps asking) asking.wants.now d
    (store.seen asking.job old) before (store.seen asking.job new) after

abbrev pub AsksOver : {S E : Type 0} → Ghosts S → List StepPlan → Asking → Result Bool E → S → Course → S → Course → Type 0
AsksOver store steps asking result old before new after =
    Acts store asking.job (IsAsked asking.cancelled (store.grants_growth asking.job old) (step_asked steps asking) asking.wants.now)
    result old before new after

abbrev pub GetsOver : List StepPlan → Asking → List ℕ → Here → Store → Course → Course → Type 0
GetsOver steps asking name here seen before after = Gets (step_asked steps asking) name here seen before after

-- a PUT: whether it asks for tracks, and that it was carried out over a store
abbrev pub AsksGrowthAs : PutText → Here → Store → Bool → Type 0
AsksGrowthAs text here seen told = (dd : DdKind) → put_text dd ≡ text → told ≡ is_some (growth_of_kind here dd seen)

abbrev pub PutsAs : {S : Type 0} → Ghosts S → PutText → Putting → Here → S → Course → S → Course → Type 0
PutsAs store text putting here old before new after =
    (dd : DdKind) → put_text dd ≡ text → Puts (store.grants_growth putting.job old) putting.name.now putting.text.now here dd
    (store.seen putting.job old) before (store.seen putting.job new) after

abbrev pub PutsInOver : {S : Type 0} → Ghosts S → Putting → Here → SetPlan → TakenSet → S → Course → S → Course → Type 0
PutsInOver store putting here p t old before new after =
    PutsIn (store.grants_growth putting.job old) putting.name.now putting.text.now here p t
    (store.seen putting.job old) before (store.seen putting.job new) after

-- whether its set may grow, and what then becomes of the store and of the course
abbrev pub is_granted : {S : Type 0} → Ghosts S → Putting → TakenSet → ℕ → S → Bool
is_granted store putting t tracks old = store.grants_growth putting.job old t.key t.serial tracks

abbrev pub GrowsStore : {S : Type 0} → Ghosts S → Putting → TakenSet → ℕ → Bool → S → S → Type 0
GrowsStore store putting t tracks wipes old new =
    store.seen putting.job new ≡ store_grown (is_granted store putting t tracks old) wipes tracks (store.seen putting.job old) t

abbrev pub GrowsCourse : {S : Type 0} → Ghosts S → Putting → TakenSet → ℕ → S → Course → Course → Type 0
GrowsCourse store putting t tracks old before after =
    after ≡ course_grown (is_granted store putting t tracks old) before putting.name.now putting.text.now putting.d t tracks

-- the operation of a PUT is due
abbrev pub course_due : ℕ → Due → ℕ → Course → Course
course_due d waits lines c = record { own = record c.own { dds = with_dd with_mark c.own.dds d; due = Some waits; lines = lines }; lines = c.lines }

-- where a GET reads: in the members from a DD on up to an end, which begin at the first; and of a DD, by what is needed of its state
abbrev pub located_from : Store → List DdPlan → List DdState → ℕ → ℕ → ℕ → ℕ → FoundRecord
located_from seen dds states first end n position = located (sources_from seen (take (end - n) (drop n dds)) states n) (n - first) position

abbrev pub located_at : Store → List DdPlan → List DdState → Here → FoundRecord
located_at seen dds states here = located (drop here.member (sources_from seen (members_at (drop here.d dds)) states here.d)) here.member here.position
