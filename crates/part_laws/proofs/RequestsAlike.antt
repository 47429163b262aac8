-- From states alike a program's requests do the same.
use Rattle.std.proofs.Common.{◌≡◌, ◌+◌, ◌||◌, ◌==◌, ℕ, Bool, true, false, not, List, [], Option, Some, None, refl, sym, ap, subst}
use Rattle.std.specs.Prelude.{drop, is_none, is_some, slice_get}
use Rattle.std.proofs.lemmas.Bool.{and_parts, not_from_false, or_left, or_parts}
use Rattle.jcl_plan.specs.declared.outcome.Abend.{Abend}
use Rattle.jcl_plan.specs.declared.outcome.Abend.TheVariants as abend
use Rattle.jcl_plan.specs.declared.plan.DdKind.{DdKind}
use Rattle.jcl_plan.specs.declared.plan.DdKind.TheVariants.{Sysout, Dummy, Cards, Set}
use Rattle.jcl_plan.specs.declared.plan.DdPlan.{DdPlan}
use Rattle.jcl_plan.specs.declared.plan.SetPlan.{SetPlan}
use Rattle.jcl_plan.specs.declared.plan.StepPlan.{StepPlan}
use Rattle.jcl_meaning.specs.declared.names.HeldName.{HeldName}
use Rattle.jcl_meaning.specs.declared.program.Move.{Move}
use Rattle.jcl_meaning.specs.declared.program.Move.TheVariants.{From, To}
use Rattle.jcl_meaning.specs.declared.source.FoundRecord.{FoundRecord}
use Rattle.jcl_meaning.specs.declared.source.Source.{Source}
use Rattle.jcl_meaning.specs.declared.state.DdState.{DdState}
use Rattle.jcl_meaning.specs.declared.state.Due.{Due}
use Rattle.jcl_meaning.specs.declared.state.Due.TheVariants as due
use Rattle.jcl_meaning.specs.declared.state.KeyMeaning.{KeyMeaning}
use Rattle.jcl_meaning.specs.declared.state.Own.{Own}
use Rattle.jcl_meaning.specs.declared.state.TakenSet.{TakenSet}
use Rattle.jcl_meaning.specs.declared.store.DataSet.{DataSet}
use Rattle.jcl_meaning.specs.Names.{changes, changes_after_abend, is_shr, wants_alone}
use Rattle.jcl_meaning.specs.Parts.{SamePart}
use Rattle.jcl_meaning.specs.Programs.{dd_of, emptied, empties, grown_by, is_concatenated, is_full, is_read_only, located, members_at, or_nothing, taken_at, taken_by}
use Rattle.jcl_meaning.specs.RequestActs.{appended_at, asked, asks_at, asks_dd, asks_of, dd_name, gets, gets_by, head_or, put_grows, put_starts, put_to_set, puts, puts_in, puts_unless, reads, received, received_due, received_now, store_appended, with_set_at}
use Rattle.jcl_meaning.specs.States.{Answers, Done, abended_by, asks_open, cancel_due, others, unless_cancelled}
use Rattle.jcl_meaning.specs.Stores.{Store}
use Rattle.jcl_meaning.specs.Takes.{secondary_of}
use Rattle.part_laws.specs.Alike.{AlikeDone}
use Rattle.part_laws.specs.Fits.{AreTaken, HasTaken, IsTakenBy, sees_alone, sees_set}
use Rattle.part_laws.proofs.SameReads.{IsSeen, both_there, same_but_for_tracks, same_if_alone, same_sources, seen_if_alone}
use Rattle.part_laws.proofs.SameWrites.{same_appended, same_there_written}
use Rattle.part_laws.proofs.Taken.{taken_seen, taken_there}
use Rattle.part_laws.proofs.TakesAlike.{at, either_alike, goes_alike, if_runs_alike}

-- a DD that is not SHR wants its set alone
pub alone_if_written : (plan : SetPlan) → is_shr plan.status ≡ false → wants_alone plan ≡ true
alone_if_written plan e =
    or_left (not (is_shr plan.status)) (changes plan.normal || changes_after_abend plan.conditional) (not_from_false (is_shr plan.status) e)

module _ (names : List HeldName) (s t : Store) (p : SamePart names s t) where
  abended_alike : (own : Own) (answers : Answers) (a : Abend) → AlikeDone names (abended_by a (at s own answers)) (abended_by a (at t own answers))
  abended_alike own answers a = goes_alike names s t _ _ answers p

  uncancelled_alike : (own : Own) (answers : Answers) (d e : Done) → AlikeDone names d e →
      AlikeDone names (unless_cancelled (at s own answers) d) (unless_cancelled (at t own answers) e)
  uncancelled_alike own answers d e h = either_alike names (cancel_due answers.cancels own.lines) _ d _ e (abended_alike own answers abend.S222) h

  -- GET
  get_alike : (name : List ℕ) (d : ℕ) (x : DdState) (own : Own) (answers : Answers) (member position : ℕ) (text serial : Option (List ℕ)) →
      AlikeDone names (gets_by name d x (at s own answers) member position text serial) (gets_by name d x (at t own answers) member position text serial)
  get_alike name d x own answers member position None serial = goes_alike names s t _ _ answers p
  get_alike name d x own answers member position (Some text) None = goes_alike names s t _ _ answers p
  get_alike name d x own answers member position (Some text) (Some serial) = goes_alike names s t _ _ answers p

  same_reads : (step : StepPlan) (d : ℕ) (x : DdState) (own : Own) (answers : Answers) → ((k : ℕ) → IsSeen names (taken_at own.dds k)) →
      reads step d x (at s own answers) ≡ reads step d x (at t own answers)
  same_reads step d x own answers seen =
      ap (λ (sources : List Source). located (drop x.member sources) x.member x.position)
      (same_sources names s t p (members_at (drop d step.dds)) own.dds d seen)

  -- PUT: the set is known whole, since it is held alone
  start_alike : (name text : List ℕ) (d : ℕ) (x : DdState) (own : Own) (answers : Answers) (u : TakenSet) (grown : Option ℕ) (set : DataSet) →
      sees_set names u.key ≡ true → AlikeDone names (put_starts name text d x u grown (with_set_at (at s own answers) u set))
      (put_starts name text d x u grown (with_set_at (at t own answers) u set))
  start_alike name text d x own answers u grown set seen =
      let there : is_some (s.set u.key u.serial) ≡ is_some (t.set u.key u.serial)
      = both_there (s.set u.key u.serial) (t.set u.key u.serial) (same_but_for_tracks names s t p u.key u.serial seen) in
      goes_alike names _ _ _ _ answers (same_there_written names s t p u.key u.serial set (s.set u.key u.serial) (t.set u.key u.serial) there)

  refusal_alike : (a : Abend) (own : Own) (answers : Answers) (u : TakenSet) (set : DataSet) → sees_set names u.key ≡ true →
      AlikeDone names (abended_by a (with_set_at (at s own answers) u set)) (abended_by a (with_set_at (at t own answers) u set))
  refusal_alike a own answers u set seen =
      let there : is_some (s.set u.key u.serial) ≡ is_some (t.set u.key u.serial)
      = both_there (s.set u.key u.serial) (t.set u.key u.serial) (same_but_for_tracks names s t p u.key u.serial seen) in
      goes_alike names _ _ _ _ answers (same_there_written names s t p u.key u.serial set (s.set u.key u.serial) (t.set u.key u.serial) there)

  -- a growth asked uses an answer up
  abbrev used : Answers → Answers
  used a = record { outcomes = a.outcomes; cancels = a.cancels; grants = others a.grants; primary = a.primary }

  growth_alike : (granted : Bool) (name text : List ℕ) (d : ℕ) (x : DdState) (own : Own) (answers : Answers) (u : TakenSet) (secondary : ℕ) (set : DataSet) →
      sees_set names u.key ≡ true →
      AlikeDone names (put_grows granted name text d x u secondary set (at s own answers)) (put_grows granted name text d x u secondary set (at t own answers))
  growth_alike true name text d x own answers u secondary set seen =
      start_alike name text d x own (used answers) u (Some secondary) (grown_by secondary set) seen
  growth_alike false name text d x own answers u secondary set seen = refusal_alike abend.SB37 own (used answers) u set seen

  put_set_alike : (name text : List ℕ) (d : ℕ) (x : DdState) (own : Own) (answers : Answers) (u : TakenSet) (secondary : ℕ) (set : DataSet) →
      sees_set names u.key ≡ true →
      AlikeDone names (put_to_set name text d x u secondary set (at s own answers)) (put_to_set name text d x u secondary set (at t own answers))
  put_set_alike name text d x own answers u secondary set seen =
      either_alike names (is_full set) _ _ _ _
      (either_alike names (secondary == 0) _ _ _ _ (refusal_alike abend.SD37 own answers u set seen)
      (growth_alike (head_or true answers.grants) name text d x own answers u secondary set seen))
      (start_alike name text d x own answers u None set seen)

  put_in_alike : (name text : List ℕ) (d : ℕ) (x : DdState) (plan : SetPlan) (u : Option TakenSet) (own : Own) (answers : Answers) →
      ((v : TakenSet) → u ≡ Some v → sees_alone names v.key ≡ true) →
      AlikeDone names (puts_in name text d x plan u (at s own answers)) (puts_in name text d x plan u (at t own answers))
  put_in_alike name text d x plan None own answers alone = abended_alike own answers abend.SFF1
  put_in_alike name text d x plan (Some u) own answers alone =
      let secondary : ℕ = secondary_of plan.space in
      subst (λ (there : Option DataSet). AlikeDone names
      (put_to_set name text d x u secondary (emptied (empties plan.status x.written) (or_nothing (s.set u.key u.serial))) (at s own answers))
      (put_to_set name text d x u secondary (emptied (empties plan.status x.written) (or_nothing there)) (at t own answers)))
      (same_if_alone names s t p u.key u.serial (alone u refl))
      (put_set_alike name text d x own answers u secondary (emptied (empties plan.status x.written) (or_nothing (s.set u.key u.serial)))
      (seen_if_alone names u.key (alone u refl)))

module _ (names : List HeldName) (meanings : List KeyMeaning) (n dd : ℕ) where
  -- a set that a DD took which is not SHR is held alone
  pub alone_if_taken : (plan : SetPlan) (u : Option TakenSet) → is_shr plan.status ≡ false → IsTakenBy names meanings n dd (Set plan) u → (v : TakenSet) →
      u ≡ Some v → sees_alone names v.key ≡ true
  alone_if_taken plan None e h v is = absurd cc
  alone_if_taken plan (Some u) e h v is =
      let same : u ≡ v = cc in
      subst (λ (w : TakenSet). sees_alone names w.key ≡ true) same (h.held.alone (alone_if_written plan e))

  module _ (s t : Store) (p : SamePart names s t) (own : Own) (answers : Answers) where
    put_alike : (name text : List ℕ) (d : ℕ) (x : DdState) (kind : DdKind) → is_read_only kind ≡ false → IsTakenBy names meanings n dd kind x.taken →
        AlikeDone names (puts name text d x kind (at s own answers)) (puts name text d x kind (at t own answers))
    put_alike name text d x (Sysout class) e h = goes_alike names s t _ _ answers p
    put_alike name text d x Dummy e h = goes_alike names s t _ _ answers p
    put_alike name text d x (Cards cards) e h = abended_alike names s t p own answers abend.SFF1
    put_alike name text d x (Set plan) e h = put_in_alike names s t p name text d x plan x.taken own answers (alone_if_taken plan x.taken e h)

    put_unless_alike : (b : Bool) (name text : List ℕ) (d : ℕ) (x : DdState) (kind : DdKind) → (b ≡ false → is_read_only kind ≡ false) →
        IsTakenBy names meanings n dd kind x.taken →
        AlikeDone names (puts_unless b name text d x kind (at s own answers)) (puts_unless b name text d x kind (at t own answers))
    put_unless_alike true name text d x kind e h = abended_alike names s t p own answers abend.SFF1
    put_unless_alike false name text d x kind e h = put_alike name text d x kind (e refl) h

    ask_of_alike : (step : StepPlan) (m : Move) (d : ℕ) (x : DdState) (plan : DdPlan) → IsTakenBy names meanings n dd plan.kind x.taken →
        ((k : ℕ) → IsSeen names (taken_at own.dds k)) →
        AlikeDone names (asks_of step m d x plan (at s own answers)) (asks_of step m d x plan (at t own answers))
    ask_of_alike step (From name) d x plan h seen =
        let found : FoundRecord = reads step d x (at s own answers) in
        subst (λ (r : FoundRecord). AlikeDone names (gets name d x (at s own answers) found) (gets name d x (at t own answers) r))
        (same_reads names s t p step d x own answers seen)
        (get_alike names s t p name d x own answers found.member found.position found.text found.serial)
    ask_of_alike step (To name text) d x plan h seen =
        put_unless_alike (is_read_only plan.kind || is_concatenated (drop d step.dds)) name text d x plan.kind
        (λ e. (or_parts (is_read_only plan.kind) (is_concatenated (drop d step.dds)) e).0) h

-- a request, where as many DDs were taken as the step has
module _ (names : List HeldName) (meanings : List KeyMeaning) (n : ℕ) (s t : Store) (p : SamePart names s t) (own : Own) (answers : Answers)
    (dds : List DdPlan) where
  ask_dd_alike : AreTaken names meanings n 1 dds own.dds → (x : Option DdState) (plan : Option DdPlan) (step : StepPlan) (m : Move) (d : ℕ) →
      slice_get own.dds d ≡ x →
      slice_get dds d ≡ plan → AlikeDone names (asks_dd x plan step m d (at s own answers)) (asks_dd x plan step m d (at t own answers))
  ask_dd_alike h None plan step m d ex ed = abended_alike names s t p own answers abend.SFF0
  ask_dd_alike h (Some x) None step m d ex ed = abended_alike names s t p own answers abend.SFF0
  ask_dd_alike h (Some x) (Some plan) step m d ex ed =
      ask_of_alike names meanings n (1 + d) s t p own answers step m d x plan (taken_there names meanings n 1 dds own.dds h d plan x ed ex)
      (taken_seen names meanings n 1 dds own.dds h)

  ask_at_alike : AreTaken names meanings n 1 dds own.dds → (d : Option ℕ) (step : StepPlan) (m : Move) → step.dds ≡ dds →
      AlikeDone names (asks_at d step m (at s own answers)) (asks_at d step m (at t own answers))
  ask_at_alike h None step m e = abended_alike names s t p own answers abend.SFF0
  ask_at_alike h (Some d) step m e =
      ask_dd_alike h (slice_get own.dds d) (slice_get step.dds d) step m d refl (ap (λ (z : List DdPlan). slice_get z d) (sym e))

  pub asked_alike : (own.runs ≡ true → HasTaken names meanings n dds own) → (step : StepPlan) (m : Move) → step.dds ≡ dds →
      AlikeDone names (asked step m (at s own answers)) (asked step m (at t own answers))
  asked_alike h step m e =
      if_runs_alike names (asks_open own) s t own answers _ _ p (λ opened.
      uncancelled_alike names s t p own answers _ _
      (ask_at_alike (h (and_parts own.runs (is_none own.over) opened).0).each (dd_of step.dds (dd_name m)) step m e))

  -- and what is due of one
  append_alike : (u : Option TakenSet) (text : List ℕ) → IsSeen names u → SamePart names (appended_at u text s) (appended_at u text t)
  append_alike None text h = p
  append_alike (Some u) text h = same_appended names s t p u text h

  store_alike : (x : Option DdState) (text : List ℕ) → IsSeen names (taken_by x) → SamePart names (store_appended x text s) (store_appended x text t)
  store_alike None text h = p
  store_alike (Some x) text h = append_alike x.taken text h

  receipt_alike : AreTaken names meanings n 1 dds own.dds → (d : Due) → AlikeDone names (received_now d (at s own answers)) (received_now d (at t own answers))
  receipt_alike h (due.Data name text) = goes_alike names s t _ _ answers p
  receipt_alike h (due.Put name d text) =
      goes_alike names _ _ _ _ answers (store_alike (slice_get own.dds d) text (taken_seen names meanings n 1 dds own.dds h d))

  due_alike : AreTaken names meanings n 1 dds own.dds → (d : Option Due) →
      AlikeDone names (received_due d (at s own answers)) (received_due d (at t own answers))
  due_alike h None = goes_alike names s t [] own answers p
  due_alike h (Some d) = uncancelled_alike names s t p own answers _ _ (receipt_alike h d)

  pub received_alike : (own.runs ≡ true → HasTaken names meanings n dds own) → AlikeDone names (received (at s own answers)) (received (at t own answers))
  received_alike h =
      if_runs_alike names (asks_open own) s t own answers _ _ p (λ opened. due_alike (h (and_parts own.runs (is_none own.over) opened).0).each own.due)
