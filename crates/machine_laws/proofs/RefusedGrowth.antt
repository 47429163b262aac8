-- Where SB37 stands in the place of a request, it asked for tracks, and these were refused.
use Rattle.std.proofs.Common.{◌≡◌, ℕ, ◌==◌, ◌||◌, Bool, true, false, List, [], ◌∷◌, Option, Some, None, drop, slice_get, refl}
use Rattle.jcl_plan.specs.declared.entry.JobLine.TheVariants as line
use Rattle.jcl_plan.specs.declared.outcome.Abend.TheVariants as abend
use Rattle.jcl_plan.specs.declared.plan.DdKind.{DdKind}
use Rattle.jcl_plan.specs.declared.plan.DdKind.TheVariants.{Cards, Dummy, Set, Sysout}
use Rattle.jcl_plan.specs.declared.plan.DdPlan.{DdPlan}
use Rattle.jcl_plan.specs.declared.plan.SetPlan.{SetPlan}
use Rattle.jcl_plan.specs.declared.plan.StepPlan.{StepPlan}
use Rattle.jcl_meaning.specs.declared.program.Move.{Move}
use Rattle.jcl_meaning.specs.declared.program.Move.TheVariants.{From, To}
use Rattle.jcl_meaning.specs.declared.state.DdState.{DdState}
use Rattle.jcl_meaning.specs.declared.state.TakenSet.{TakenSet}
use Rattle.jcl_meaning.specs.declared.store.DataSet.{DataSet}
use Rattle.jcl_meaning.specs.Programs.{dd_of, emptied, empties, is_concatenated, is_full, is_read_only, or_nothing}
use Rattle.jcl_meaning.specs.RequestActs.{asked, asks_at, asks_dd, dd_name, gets_by, head_or, put_to_set, puts, puts_in, puts_unless, reads}
use Rattle.jcl_meaning.specs.States.{Done, State, asks_open, cancel_due}
use Rattle.jcl_meaning.specs.Takes.{secondary_of}
use Rattle.request_core.specs.Requests.{Growth, growth_asked, growth_at, growth_at_dd, growth_for, growth_in, growth_of_kind, growth_unless, here_at}

abbrev IsSb37 : Done → Type 0
IsSb37 done = done.lines ≡ line.Abend abend.SB37 ∷ []

-- these tracks were asked for, and refused
abbrev IsRefused : Option Growth → State → Type 0
IsRefused growth s = (g : Growth) × (growth ≡ Some g) × (head_or true s.answers.grants ≡ false)

put_refused : (name text : List ℕ) (d : ℕ) (x : DdState) (t : TakenSet) (secondary : ℕ) (set : DataSet) (s : State) (full none granted : Bool) → is_full set ≡ full →
    (secondary == 0) ≡ none → head_or true s.answers.grants ≡ granted → IsSb37 (put_to_set name text d x t secondary set s) → IsRefused (growth_for t secondary set) s
put_refused name text d x t secondary set s false none granted f n g h = let no : line.PutStart name t.serial None ∷ [] ≡ line.Abend abend.SB37 ∷ [] = rw f at h in absurd cc
put_refused name text d x t secondary set s true true granted f n g h = let no : line.Abend abend.SD37 ∷ [] ≡ line.Abend abend.SB37 ∷ [] = rw (f, n) at h in absurd cc
put_refused name text d x t secondary set s true false true f n g h =
    let no : line.PutStart name t.serial (Some secondary) ∷ [] ≡ line.Abend abend.SB37 ∷ [] = rw (f, n, g) at h in absurd cc
put_refused name text d x t secondary set s true false false f n g h = (record { key = t.key; serial = t.serial; tracks = secondary }, rw (f, n) refl, g)

in_set : (name text : List ℕ) (d : ℕ) (x : DdState) (p : SetPlan) (taken : Option TakenSet) (s : State) → IsSb37 (puts_in name text d x p taken s) →
    IsRefused (growth_in p x.written taken s.store) s
in_set name text d x p None s h = absurd cc
in_set name text d x p (Some t) s h =
    let set : DataSet = emptied (empties p.status x.written) (or_nothing (s.store.set t.key t.serial)) in
    put_refused name text d x t (secondary_of p.space) set s (is_full set) (secondary_of p.space == 0) (head_or true s.answers.grants) refl refl refl h

of_kind : (name text : List ℕ) (d : ℕ) (x : DdState) (kind : DdKind) (s : State) → IsSb37 (puts name text d x kind s) →
    IsRefused (growth_of_kind (here_at d x) kind s.store) s
of_kind name text d x (Sysout class) s h = absurd cc
of_kind name text d x Dummy s h = absurd cc
of_kind name text d x (Cards cards) s h = absurd cc
of_kind name text d x (Set p) s h = in_set name text d x p x.taken s h

unless : (b : Bool) (name text : List ℕ) (d : ℕ) (x : DdState) (kind : DdKind) (s : State) → IsSb37 (puts_unless b name text d x kind s) →
    IsRefused (growth_unless b (here_at d x) kind s.store) s
unless true name text d x kind s h = absurd cc
unless false name text d x kind s h = of_kind name text d x kind s h

got : (name : List ℕ) (d : ℕ) (x : DdState) (s : State) (member position : ℕ) (text serial : Option (List ℕ)) → IsSb37 (gets_by name d x s member position text serial) → ⊥
got name d x s member position None serial h = cc
got name d x s member position (Some text) None h = cc
got name d x s member position (Some text) (Some serial) h = cc

at_dd : (x : Option DdState) (dd : Option DdPlan) (step : StepPlan) (move : Move) (d : ℕ) (s : State) → IsSb37 (asks_dd x dd step move d s) →
    IsRefused (growth_at_dd x dd step move d s.store) s
at_dd None dd step move d s h = absurd cc
at_dd (Some x) None step move d s h = absurd cc
at_dd (Some x) (Some dd) step (From name) d s h =
    let found = reads step d x s in absurd (got name d x s found.member found.position found.text found.serial h)
at_dd (Some x) (Some dd) step (To name text) d s h = unless (is_read_only dd.kind || is_concatenated (drop d step.dds)) name text d x dd.kind s h

at_place : (d : Option ℕ) (step : StepPlan) (move : Move) (s : State) → IsSb37 (asks_at d step move s) → IsRefused (growth_at d step move s.own.dds s.store) s
at_place None step move s h = absurd cc
at_place (Some d) step move s h = at_dd (slice_get s.own.dds d) (slice_get step.dds d) step move d s h

pub growth_refused : (step : StepPlan) (move : Move) (s : State) → IsSb37 (asked step move s) →
    IsRefused (growth_asked (cancel_due s.answers.cancels s.own.lines) step move s.own s.store) s
growth_refused step move s h = by (asks_open s.own) (cancel_due s.answers.cancels s.own.lines) refl refl
  where
    by : (open_now cancelled : Bool) → asks_open s.own ≡ open_now → cancel_due s.answers.cancels s.own.lines ≡ cancelled →
        IsRefused (growth_asked (cancel_due s.answers.cancels s.own.lines) step move s.own s.store) s
    by false cancelled o c = let no : [] ≡ line.Abend abend.SB37 ∷ [] = rw o at h in absurd cc
    by true true o c = let no : line.Abend abend.S222 ∷ [] ≡ line.Abend abend.SB37 ∷ [] = rw (o, c) at h in absurd cc
    by true false o c = rw (o, c) (at_place (dd_of step.dds (dd_name move)) step move s (rw (o, c) at h))
