-- In states of which a job sees the same, an action does the same.
use Rattle.std.proofs.Common.{◌≡◌, ◌++◌, ◌-◌, ◌&&◌, ◌||◌, ◌==◌, ℕ, zero, suc, Bool, true, false, cond, List, [], ◌∷◌, Option, Some, None}
use Rattle.std.proofs.Common.{refl, sym, ap, ◌∙◌, subst}
use Rattle.std.specs.Prelude.{is_some, slice_get}
use Rattle.std.specs.List.{AllByRecursion}
use Rattle.std.proofs.lemmas.List.Elements.{filter_map-append}
use Rattle.jname_core.specs.declared.key.Key.{Key}
use Rattle.jcl_plan.specs.declared.fault.Fault.{Fault}
use Rattle.jcl_plan.specs.declared.outcome.Outcome.{Outcome}
use Rattle.jcl_plan.specs.declared.outcome.Outcome.TheVariants.{Abend, Bypassed, Code, Flushed}
use Rattle.jcl_plan.specs.declared.plan.DdKind.{DdKind}
use Rattle.jcl_plan.specs.declared.plan.DdKind.TheVariants.{Sysout, Dummy, Cards, Set}
use Rattle.jcl_plan.specs.declared.plan.DdPlan.{DdPlan}
use Rattle.jcl_plan.specs.declared.plan.SetPlan.{SetPlan}
use Rattle.jcl_plan.specs.declared.plan.StepPlan.{StepPlan}
use Rattle.jcl_plan.specs.declared.plan.Test.{Test}
use Rattle.jcl_plan.specs.declared.plan.VolumePlan.{VolumePlan}
use Rattle.jcl_plan.specs.declared.plan.VolumePlan.TheVariants as volume
use Rattle.jcl_plan.specs.declared.plan.Word.{Word}
use Rattle.jcl_plan.specs.declared.words.TakeWord.{TakeWord}
use Rattle.jcl_meaning.specs.declared.names.HeldName.{HeldName}
use Rattle.jcl_meaning.specs.declared.state.DdState.{DdState}
use Rattle.jcl_meaning.specs.declared.state.DdVolume.{DdVolume}
use Rattle.jcl_meaning.specs.declared.state.Disposed.{Disposed}
use Rattle.jcl_meaning.specs.declared.state.Ended.{Ended}
use Rattle.jcl_meaning.specs.declared.state.Passed.{Passed}
use Rattle.jcl_meaning.specs.declared.state.Resolution.{Resolution}
use Rattle.jcl_meaning.specs.declared.state.Resolution.TheVariants.{Fails, Means}
use Rattle.jcl_meaning.specs.declared.state.TakenSet.{TakenSet}
use Rattle.jcl_meaning.specs.declared.take.Decision.{Decision}
use Rattle.jcl_meaning.specs.declared.take.Decision.TheVariants.{Refuses, Takes}
use Rattle.jcl_meaning.specs.declared.take.Target.{Target}
use Rattle.jcl_meaning.specs.Acts.{act}
use Rattle.jcl_meaning.specs.Agendas.{Action, Dispose, Finish, Left, Over, Take}
use Rattle.jcl_meaning.specs.Dispositions.{as_taken, changed, disposed_by, left_word}
use Rattle.jcl_meaning.specs.EndActs.{after_abend, disposes, disposes_at, end_line, ended_with, finishes, leaves, left_at, left_disposed}
use Rattle.jcl_meaning.specs.EndActs.{marked_later, passed_by, passed_with, set_disposed, set_disposes, without_pass}
use Rattle.jcl_meaning.specs.Names.{is_temporary}
use Rattle.jcl_meaning.specs.Plans.{conditional_meaning, normal_meaning, word_done}
use Rattle.jcl_meaning.specs.Programs.{taken_by}
use Rattle.jcl_meaning.specs.Resolutions.{meaning_at, place_of}
use Rattle.jcl_meaning.specs.Solo.{given}
use Rattle.jcl_meaning.specs.States.{Answers, Done, Fixed, State, goes, if_runs, with_answers_used}
use Rattle.jcl_meaning.specs.TakeActs.{back_line, back_lines, decided, decision_at, new_dd, passed_left, refused, takes, takes_no_set, takes_set, target_at}
use Rattle.jcl_meaning.specs.Takes.{at_or_lost, dd_volume, decide, first_passed, is_known, looked_at, releases, target_of, where_of}
use Rattle.part_laws.specs.Fits.{Fits, IsDdHeld, IsHeldFor, IsPassed, IsVolumeHeld, sees_set}
use Rattle.part_laws.proofs.SameReads.{IsSeen}
use Rattle.part_laws.proofs.Taken.{passed_there, taken_seen}
use Rattle.part_laws.proofs.TakesAlike.{at}
use Rattle.path_meaning.specs.Paths.{fate_told, fates_in}
use Rattle.path_laws.specs.PathParts.{IsOneClass, MeetAlike, next_outcome}
use Rattle.path_laws.proofs.ShownReads.{catalogued_alike, disposed_alike, there_alike, where_alike}
use Rattle.path_laws.proofs.ShownWrites.{all_given_back_alike, changed_alike, made_alike, released_alike}
use Rattle.path_laws.proofs.Sights.{DidAlike, IsKindAsked, IsAsked, MetAlike, OpenAlike, Outlook, SeenAlike, ShutAlike, TookAlike, sight_of}

-- no line but that of a step's start tells a fate
no_fate_back : (xs : List DdState) → fates_in (back_lines xs) ≡ []
no_fate_back [] = refl
no_fate_back (x ∷ xs) =
    filter_map-append fate_told (back_line x) (back_lines xs) ∙ (λ i. no_fate_one x.taken i ++ no_fate_back xs i)
  where
    no_fate_one : (t : Option TakenSet) → fates_in (back_line (record x { taken = t })) ≡ []
    no_fate_one None = refl
    no_fate_one (Some t) = refl

no_fate_at_end : (o : Outcome) → fates_in (end_line o ∷ []) ≡ []
no_fate_at_end (Code code) = refl
no_fate_at_end (Abend a) = refl
no_fate_at_end Bypassed = refl
no_fate_at_end Flushed = refl

-- what DDs took, one more, and at a place
took_more : (xs ys : List DdState) (x y : DdState) → TookAlike xs ys → x.taken ≡ y.taken → TookAlike (xs ++ x ∷ []) (ys ++ y ∷ [])
took_more [] [] x y took e = (e, tt)
took_more [] (z ∷ ys) x y took e = absurd took
took_more (z ∷ xs) [] x y took e = absurd took
took_more (z ∷ xs) (w ∷ ys) x y took e = (took.0, took_more xs ys x y took.1 e)

abbrev BothTook : Option DdState → Option DdState → Type 0
BothTook None None = Unit {0}
BothTook None (Some y) = ⊥
BothTook (Some x) None = ⊥
BothTook (Some x) (Some y) = x.taken ≡ y.taken

took_there : (xs ys : List DdState) (k : ℕ) → TookAlike xs ys → BothTook (slice_get xs k) (slice_get ys k)
took_there [] [] k took = tt
took_there [] (y ∷ ys) k took = absurd took
took_there (x ∷ xs) [] k took = absurd took
took_there (x ∷ xs) (y ∷ ys) zero took = took.0
took_there (x ∷ xs) (y ∷ ys) (suc k) took = took_there xs ys k took.1

-- a step's end, met alike by tests that met what came before alike
met_more : (es fs : List Ended) (n : ℕ) (o p : Outcome) (tests : List Test) → MeetAlike n o p tests → MetAlike es fs tests →
    MetAlike (record { step = n; outcome = o } ∷ es) (record { step = n; outcome = p } ∷ fs) tests
met_more es fs n o p [] now before = tt
met_more es fs n o p (test ∷ tests) now before = ((λ i. now.0 i || before.0 i), met_more es fs n o p tests now.1 before.1)

steps_met_more : (es fs : List Ended) (n : ℕ) (o p : Outcome) (steps : List StepPlan) →
    AllByRecursion (λ (step : StepPlan). MeetAlike n o p step.tests.items) steps →
    AllByRecursion (λ (step : StepPlan). MetAlike es fs step.tests.items) steps →
    AllByRecursion (λ (step : StepPlan). MetAlike (record { step = n; outcome = o } ∷ es) (record { step = n; outcome = p } ∷ fs) step.tests.items) steps
steps_met_more es fs n o p [] now before = tt
steps_met_more es fs n o p (step ∷ steps) now before =
    (met_more es fs n o p step.tests.items now.0 before.0, steps_met_more es fs n o p steps now.1 before.1)

-- volumes of DDs, one more
first_found : Option (List ℕ) → Option (List ℕ) → Option (List ℕ)
first_found None other = other
first_found (Some serial) other = Some serial

volume_behind : (xs : List DdVolume) (x : DdVolume) (step dd : ℕ) →
    dd_volume (xs ++ x ∷ []) step dd ≡ first_found (dd_volume xs step dd) (dd_volume (x ∷ []) step dd)
unfolding first_found
volume_behind [] x step dd = refl
volume_behind (y ∷ xs) x step dd = by_place (y.step == step && y.dd == dd) (volume_behind xs x step dd)
  where
    by_place : (b : Bool) → dd_volume (xs ++ x ∷ []) step dd ≡ first_found (dd_volume xs step dd) (dd_volume (x ∷ []) step dd) →
        cond b (Some y.serial) (dd_volume (xs ++ x ∷ []) step dd)
        ≡ first_found (cond b (Some y.serial) (dd_volume xs step dd)) (dd_volume (x ∷ []) step dd)
    by_place true e = refl
    by_place false e = e

-- where a step runs in both states or in neither
either_did : (Related : State → State → Type 0) (a b : Bool) (s t : State) (d e : Done) → a ≡ b → Related s t → (a ≡ true → DidAlike Related d e) →
    DidAlike Related (if_runs a s d) (if_runs b t e)
either_did Related true true s t d e same h did = did refl
either_did Related true false s t d e same h did = absurd cc
either_did Related false true s t d e same h did = absurd cc
either_did Related false false s t d e same h did = record { fates = refl; meets = refl; made = refl; state = h }

module _ (names : List HeldName) (fixed : Fixed) (outlook : Outlook) where
  abbrev Seen : State → State → Type 0
  Seen s t = SeenAlike names fixed.date outlook (sight_of s) (sight_of t)

  abbrev Shut : State → State → Type 0
  Shut s t = ShutAlike names fixed.date outlook s t

  -- before a step's end
  module _ (n : ℕ) (os ps : List Outcome) where
    abbrev Open : State → State → Type 0
    Open s t = OpenAlike names fixed.date outlook n os ps s t

    module _ (dd : ℕ) (name : Option (List ℕ)) (s t : State) (h : Open s t) where
      no_set_taken : (v w : TakeWord) → DidAlike Open (takes_no_set dd name v s) (takes_no_set dd name w t)
      no_set_taken v w = record {
        fates = refl;
        meets = refl;
        made = refl;
        state = record {
          seen = h.seen;
          runs = h.runs;
          dds = took_more s.own.dds t.own.dds (new_dd dd name None) (new_dd dd name None) h.dds refl;
          unended = h.unended;
          unended_too = h.unended_too;
          answers = h.answers;
          answers_too = h.answers_too;
          class = h.class;
        };
      }

      refused_both : (fault : Fault) → DidAlike Open (refused n dd fault s) (refused n dd fault t)
      refused_both fault = record {
        fates = no_fate_back s.own.dds ∙ sym (no_fate_back t.own.dds);
        meets = refl;
        made = refl;
        state = record {
          seen = record {
            stores = all_given_back_alike names fixed.date s.store t.store h.seen.stores s.own.dds t.own.dds h.dds;
            passed = h.seen.passed;
            volumes = h.seen.volumes;
            abended = h.seen.abended;
            job = h.seen.job;
            steps = h.seen.steps;
          };
          runs = refl;
          dds = tt;
          unended = h.unended;
          unended_too = h.unended_too;
          answers = h.answers;
          answers_too = h.answers_too;
          class = λ runs. absurd cc;
        };
      }

      volumes_more : (x : DdVolume) (a b : ℕ) → outlook.refers a b ≡ true → dd_volume (s.own.volumes ++ x ∷ []) a b ≡ dd_volume (t.own.volumes ++ x ∷ []) a b
      volumes_more x a b asked =
          volume_behind s.own.volumes x a b
          ∙ (ap (λ (v : Option (List ℕ)). first_found v (dd_volume (x ∷ []) a b)) (h.seen.volumes a b asked) ∙ sym (volume_behind t.own.volumes x a b))

      decided_both : (p : SetPlan) (key : Key) (d : Decision) → DidAlike Open (decided fixed n dd name p key s d) (decided fixed n dd name p key t d)
      decided_both p key (Refuses fault) = refused_both fault
      decided_both p key (Takes serial how) = record {
        fates = refl;
        meets = refl;
        made = refl;
        state = record {
          seen = record {
            stores = made_alike names fixed.date s.store t.store h.seen.stores how fixed p key serial;
            passed = ap (λ (qs : List Passed). passed_left how qs key) h.seen.passed;
            volumes = volumes_more (record { step = n; dd = dd; serial = serial });
            abended = h.seen.abended;
            job = h.seen.job;
            steps = h.seen.steps;
          };
          runs = h.runs;
          dds = took_more s.own.dds t.own.dds _ _ h.dds refl;
          unended = h.unended;
          unended_too = h.unended_too;
          answers = h.answers;
          answers_too = h.answers_too;
          class = h.class;
        };
      }

      -- where VOL leads, what the DD goes for, and what is decided of it
      led_alike : (v : VolumePlan) → IsVolumeHeld names v → IsAsked outlook.refers v →
          where_of v s.store s.own.passed s.own.volumes ≡ where_of v t.store t.own.passed t.own.volumes
      led_alike volume.NotCoded held asked = refl
      led_alike (volume.Serial serial) held asked = refl
      led_alike (volume.OfName other) held asked =
          where_alike names fixed.date s.store t.store h.seen.stores (volume.OfName other) s.own.passed s.own.volumes held
          ∙ ap (λ (qs : List Passed). where_of (volume.OfName other) t.store qs t.own.volumes) h.seen.passed
      led_alike (volume.OfDd a b) held asked = ap at_or_lost (h.seen.volumes a b asked)

      target_alike : (p : SetPlan) (key : Key) → sees_set names key ≡ true → IsVolumeHeld names p.volume → IsAsked outlook.refers p.volume →
          target_at fixed n dd p key s ≡ target_at fixed n dd p key t
      target_alike p key seen held asked =
          λ i. target_of p.status (led_alike p.volume held asked i) (first_passed (h.seen.passed i) key)
          (catalogued_alike names fixed.date s.store t.store h.seen.stores key seen i) (place_of fixed.places n dd)

      granted_alike : s.answers.primary ≡ t.answers.primary
      granted_alike = ap (λ (a : Answers). a.primary) h.answers ∙ sym (ap (λ (a : Answers). a.primary) h.answers_too)

      decision_alike : (p : SetPlan) (key : Key) (x y : Target) → sees_set names key ≡ true → x ≡ y →
          decision_at fixed p key s x ≡ decision_at fixed p key t y
      decision_alike p key x y seen same =
          ap (decision_at fixed p key s) same
          ∙ (λ i. decide y (is_known fixed.volumes (looked_at y))
          (there_alike names fixed.date s.store t.store h.seen.stores key (looked_at y) seen i) (is_some p.space) (granted_alike i))

      set_taken : (p : SetPlan) (r : Resolution) → ((key : Key) → r ≡ Means key → IsHeldFor names p key) → IsVolumeHeld names p.volume →
          IsAsked outlook.refers p.volume → DidAlike Open (takes_set fixed n dd name p s r) (takes_set fixed n dd name p t r)
      set_taken p (Fails fault) held led asked = refused_both fault
      set_taken p (Means key) held led asked =
          let for_key : IsHeldFor names p key = held key refl in
          let here : Decision = decision_at fixed p key s (target_at fixed n dd p key s) in
          subst (λ (there : Decision). DidAlike Open (decided fixed n dd name p key s here) (decided fixed n dd name p key t there))
          (decision_alike p key (target_at fixed n dd p key s) (target_at fixed n dd p key t) for_key.seen (target_alike p key for_key.seen led asked))
          (decided_both p key here)

      taken_both : (kind : DdKind) → IsDdHeld names fixed.meanings n dd kind → IsKindAsked outlook.refers kind →
          DidAlike Open (takes fixed n dd name kind s) (takes fixed n dd name kind t)
      taken_both (Sysout class) held asked = no_set_taken _ _
      taken_both Dummy held asked = no_set_taken _ _
      taken_both (Cards cards) held asked = no_set_taken _ _
      taken_both (Set p) held asked = set_taken p (meaning_at fixed.meanings n dd) held.key held.volume asked

    pub take_sees : (dd : ℕ) (d : DdPlan) → IsKindAsked outlook.refers d.kind → (rest : List Action) (s t : State) → Open s t →
        Fits names fixed.meanings (Take n dd d ∷ rest) s.own → DidAlike Open (act fixed (Take n dd d) s) (act fixed (Take n dd d) t)
    unfolding act
    take_sees dd d asked rest s t h fits =
        either_did Open s.own.runs t.own.runs s t _ _ h.runs h (λ runs. taken_both dd d.name s t h d.kind fits.ahead.2 asked)

    -- the step's end
    ended_both : (s t : State) (a b : Answers) → Open s t → (o p : Outcome) → IsOneClass n outlook.tests outlook.later o p →
        DidAlike Shut (goes (end_line o ∷ []) (ended_with n o (at s.store s.own a))) (goes (end_line p ∷ []) (ended_with n p (at t.store t.own b)))
    ended_both s t a b h o p class = record {
      fates = no_fate_at_end o ∙ sym (no_fate_at_end p);
      meets = refl;
      made = refl;
      state = record {
        seen = record {
          stores = h.seen.stores;
          passed = λ i. cond (class.abend i) (marked_later n (h.seen.passed i)) (h.seen.passed i);
          volumes = h.seen.volumes;
          abended = λ i. class.abend i || h.seen.abended i;
          job = met_more s.own.ended t.own.ended n o p outlook.tests class.job h.seen.job;
          steps = steps_met_more s.own.ended t.own.ended n o p outlook.later class.steps h.seen.steps;
        };
        runs = h.runs;
        dds = h.dds;
        abend = class.abend;
      };
    }

    finishes_both : (s t : State) → Open s t → s.own.runs ≡ true → DidAlike Shut (finishes n s.own.over s) (finishes n t.own.over t)
    finishes_both s t h runs =
        subst (λ (x : Option Outcome). DidAlike Shut (finishes n x s) (finishes n t.own.over t)) (sym h.unended)
        (subst (λ (x : Option Outcome). DidAlike Shut (finishes n None s) (finishes n x t)) (sym h.unended_too)
        (subst (λ (a : Answers). DidAlike Shut (finishes n None (at s.store s.own a)) (finishes n None t)) (sym h.answers)
        (subst (λ (b : Answers). DidAlike Shut (finishes n None (at s.store s.own (given os))) (finishes n None (at t.store t.own b))) (sym h.answers_too)
        (ended_both s t (given os) (given ps) h (next_outcome os) (next_outcome ps) (h.class runs)))))

    abbrev passed_over : State → Done
    passed_over s = goes [] (record { store = s.store; own = s.own; answers = with_answers_used s.answers })

    passed_over_both : (s t : State) → Open s t → DidAlike Shut (passed_over s) (passed_over t)
    passed_over_both s t h = record {
      fates = refl;
      meets = refl;
      made = refl;
      state = record {
        seen = h.seen;
        runs = h.runs;
        dds = h.dds;
        abend = ap after_abend h.unended ∙ sym (ap after_abend h.unended_too);
      };
    }

    either_finished : (s t : State) → Open s t → (a b : Bool) → s.own.runs ≡ a → a ≡ b →
        DidAlike Shut (cond a (finishes n s.own.over s) (passed_over s)) (cond b (finishes n t.own.over t) (passed_over t))
    either_finished s t h true true runs same = finishes_both s t h runs
    either_finished s t h true false runs same = absurd cc
    either_finished s t h false true runs same = absurd cc
    either_finished s t h false false runs same = passed_over_both s t h

    pub finish_sees : (s t : State) → Open s t → DidAlike Shut (act fixed (Finish n) s) (act fixed (Finish n) t)
    unfolding act
    finish_sees s t h = either_finished s t h s.own.runs t.own.runs refl h.runs

  -- dispositions
  module _ (n dd : ℕ) (name : Option (List ℕ)) (s t : State) (h : Shut s t) where
    set_disposed_both : (p : SetPlan) (x : TakenSet) (d : Disposed) → sees_set names x.key ≡ true →
        DidAlike Shut (set_disposed fixed n dd name p x s d) (set_disposed fixed n dd name p x t d)
    set_disposed_both p x d seen = record {
      fates = refl;
      meets = refl;
      made = refl;
      state = record {
        seen = record {
          stores = released_alike names fixed.date
              (changed d.change s.store x.key x.serial fixed.date) (changed d.change t.store x.key x.serial fixed.date)
              (changed_alike names fixed.date s.store t.store h.seen.stores d.change x.key x.serial seen) (releases p.space) x.key x.serial;
          passed = ap (passed_with d.passes n dd x) h.seen.passed;
          volumes = h.seen.volumes;
          abended = h.seen.abended;
          job = h.seen.job;
          steps = h.seen.steps;
        };
        runs = h.runs;
        dds = h.dds;
        abend = h.abend;
      };
    }

    nothing_changed : DidAlike Shut (goes [] s) (goes [] t)
    nothing_changed = record { fates = refl; meets = refl; made = refl; state = h }

    set_disposes_both : (p : SetPlan) (x : Option TakenSet) → IsSeen names x →
        DidAlike Shut (set_disposes fixed n dd name p x s) (set_disposes fixed n dd name p x t)
    set_disposes_both p None seen = record { fates = refl; meets = refl; made = refl; state = h }
    set_disposes_both p (Some x) seen =
        let word : Bool → Word =
        λ b. word_done (normal_meaning (is_temporary x.key) p.normal) (conditional_meaning (is_temporary x.key) p.conditional) b x.made in
        let here : Disposed = disposed_by (word (after_abend s.own.over)) s.store x fixed.date in
        let same : here ≡ disposed_by (word (after_abend t.own.over)) t.store x fixed.date =
        disposed_alike names fixed.date s.store t.store h.seen.stores (word (after_abend s.own.over)) x seen
        ∙ ap (λ (b : Bool). disposed_by (word b) t.store x fixed.date) h.abend in
        subst (λ (there : Disposed). DidAlike Shut (set_disposed fixed n dd name p x s here) (set_disposed fixed n dd name p x t there)) same
        (set_disposed_both p x here seen)

    kind_disposed : (kind : DdKind) (x y : DdState) → x.taken ≡ y.taken → IsSeen names x.taken →
        DidAlike Shut (disposes_at fixed n dd name kind x s) (disposes_at fixed n dd name kind y t)
    kind_disposed (Sysout class) x y took seen = record {
      fates = refl;
      meets = refl;
      made = refl;
      state = record {
        seen = h.seen;
        runs = h.runs;
        dds = h.dds;
        abend = h.abend;
      };
    }
    kind_disposed Dummy x y took seen = record { fates = refl; meets = refl; made = refl; state = h }
    kind_disposed (Cards cards) x y took seen = record { fates = refl; meets = refl; made = refl; state = h }
    kind_disposed (Set p) x y took seen =
        subst (λ (z : Option TakenSet). DidAlike Shut (set_disposes fixed n dd name p x.taken s) (set_disposes fixed n dd name p z t)) took
        (set_disposes_both p x.taken seen)

    disposed_both : (kind : DdKind) (x y : Option DdState) → BothTook x y → IsSeen names (taken_by x) →
        DidAlike Shut (disposes x fixed n dd name kind s) (disposes y fixed n dd name kind t)
    disposed_both kind None None took seen = nothing_changed
    disposed_both kind None (Some y) took seen = absurd took
    disposed_both kind (Some x) None took seen = absurd took
    disposed_both kind (Some x) (Some y) took seen = kind_disposed kind x y took seen

  pub dispose_sees : (n dd : ℕ) (d : DdPlan) (rest : List Action) (s t : State) → Shut s t → Fits names fixed.meanings (Dispose n dd d ∷ rest) s.own →
      DidAlike Shut (act fixed (Dispose n dd d) s) (act fixed (Dispose n dd d) t)
  unfolding act
  dispose_sees n dd d rest s t h fits =
      either_did Shut s.own.runs t.own.runs s t _ _ h.runs h (λ runs.
      disposed_both n dd d.name s t h d.kind (slice_get s.own.dds (dd - 1)) (slice_get t.own.dds (dd - 1)) (took_there s.own.dds t.own.dds (dd - 1) h.dds)
      (taken_seen names fixed.meanings fits.step 1 fits.dds s.own.dds (fits.taken runs).each (dd - 1)))

  -- the job's end
  module _ (n dd : ℕ) (name : Option (List ℕ)) (s t : State) (h : Seen s t) where
    left_disposed_both : (q : Passed) (d : Disposed) → sees_set names q.key ≡ true →
        DidAlike Seen (left_disposed fixed n dd name q s d) (left_disposed fixed n dd name q t d)
    left_disposed_both q d seen = record {
      fates = refl;
      meets = refl;
      made = refl;
      state = record {
        stores = changed_alike names fixed.date s.store t.store h.stores d.change q.key q.serial seen;
        passed = ap (λ (qs : List Passed). without_pass qs n dd) h.passed;
        volumes = h.volumes;
        abended = h.abended;
        job = h.job;
        steps = h.steps;
      };
    }

    leaves_both : (p : SetPlan) (q : Option Passed) → ((r : Passed) → q ≡ Some r → sees_set names r.key ≡ true) →
        DidAlike Seen (leaves fixed n dd name p q s) (leaves fixed n dd name p q t)
    leaves_both p None seen = record { fates = refl; meets = refl; made = refl; state = h }
    leaves_both p (Some q) seen =
        let word : Word = left_word (is_temporary q.key) q.abend_later (conditional_meaning (is_temporary q.key) p.conditional) q.made in
        let here : Disposed = disposed_by word s.store (as_taken q) fixed.date in
        subst (λ (there : Disposed). DidAlike Seen (left_disposed fixed n dd name q s here) (left_disposed fixed n dd name q t there))
        (disposed_alike names fixed.date s.store t.store h.stores word (as_taken q) (seen q refl)) (left_disposed_both q here (seen q refl))

    passed_seen : (p : SetPlan) → ((key : Key) → meaning_at fixed.meanings n dd ≡ Means key → IsHeldFor names p key) →
        AllByRecursion (IsPassed names fixed.meanings) s.own.passed → (q : Passed) → passed_by s.own.passed n dd ≡ Some q → sees_set names q.key ≡ true
    passed_seen p held all q is =
        let by = passed_there (IsPassed names fixed.meanings) s.own.passed n dd q all is in
        let same_dd : meaning_at fixed.meanings q.step q.dd ≡ meaning_at fixed.meanings n dd = λ i. meaning_at fixed.meanings (by.1 i) (by.2 i) in
        (held q.key (sym same_dd ∙ by.0.meant)).seen

    left_both : (kind : DdKind) → IsDdHeld names fixed.meanings n dd kind → AllByRecursion (IsPassed names fixed.meanings) s.own.passed →
        DidAlike Seen (left_at fixed n dd name kind s) (left_at fixed n dd name kind t)
    left_both (Sysout class) held all = record { fates = refl; meets = refl; made = refl; state = h }
    left_both Dummy held all = record { fates = refl; meets = refl; made = refl; state = h }
    left_both (Cards cards) held all = record { fates = refl; meets = refl; made = refl; state = h }
    left_both (Set p) held all =
        subst (λ (qs : List Passed). DidAlike Seen (leaves fixed n dd name p (passed_by s.own.passed n dd) s) (leaves fixed n dd name p (passed_by qs n dd) t))
        h.passed (leaves_both p (passed_by s.own.passed n dd) (passed_seen p held.key all))

  pub left_sees : (n dd : ℕ) (d : DdPlan) (rest : List Action) (s t : State) → Seen s t → Fits names fixed.meanings (Left n dd d ∷ rest) s.own →
      DidAlike Seen (act fixed (Left n dd d) s) (act fixed (Left n dd d) t)
  unfolding act
  left_sees n dd d rest s t h fits = left_both n dd d.name s t h d.kind fits.ahead.0 fits.passed

  pub over_sees : (s t : State) → Seen s t → DidAlike Seen (act fixed Over s) (act fixed Over t)
  unfolding act
  over_sees s t h = record { fates = refl; meets = refl; made = refl; state = h }
