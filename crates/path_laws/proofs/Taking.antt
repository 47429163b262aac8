-- The start of a step, and the taking of its DDs.
use Rattle.std.proofs.Common.{◌≡◌, ◌++◌, ℕ, List, [], ◌∷◌, Option, Some, None, refl, sym, ap, ◌∙◌, subst}
use Rattle.std.specs.Prelude.{is_some, length}
use Rattle.jname_core.specs.declared.key.Key.{Key}
use Rattle.jcl_plan.specs.declared.outcome.Outcome.{Outcome}
use Rattle.jcl_plan.specs.declared.plan.DdKind.{DdKind}
use Rattle.jcl_plan.specs.declared.plan.DdKind.TheVariants.{Sysout, Dummy, Cards, Set}
use Rattle.jcl_plan.specs.declared.plan.DdPlan.{DdPlan}
use Rattle.jcl_plan.specs.declared.plan.SetPlan.{SetPlan}
use Rattle.jcl_plan.specs.declared.plan.StepPlan.{StepPlan}
use Rattle.jcl_plan.specs.declared.words.TakeWord.{TakeWord}
use Rattle.jcl_plan.specs.declared.words.TakeWord.TheVariants as word
use Rattle.jcl_meaning.specs.declared.state.Resolution.{Resolution}
use Rattle.jcl_meaning.specs.declared.state.Resolution.TheVariants.{Means, Fails}
use Rattle.jcl_meaning.specs.declared.take.Decision.{Decision}
use Rattle.jcl_meaning.specs.declared.take.Decision.TheVariants.{Refuses, Takes}
use Rattle.jcl_meaning.specs.declared.take.How.{How}
use Rattle.jcl_meaning.specs.declared.take.How.TheVariants as how
use Rattle.jcl_meaning.specs.Acts.{act}
use Rattle.jcl_meaning.specs.Agendas.{Start, Take}
use Rattle.jcl_meaning.specs.History.{abended, fate_of, is_run, some_satisfied}
use Rattle.jcl_meaning.specs.Resolutions.{meaning_at, place_of}
use Rattle.jcl_meaning.specs.States.{Fixed, State}
use Rattle.jcl_meaning.specs.TakeActs.{decided, decision_at, fate_at, new_dd, new_set, passed_left, store_made, takes, takes_no_set, takes_set, target_at}
use Rattle.jcl_meaning.specs.Takes.{decide, first_passed, is_known, looked_at, target_of, where_of}
use Rattle.path_laws.proofs.Alike.{Meets, Open, Same, dds_pushed, met_both}
use Rattle.path_laws.proofs.Shapes.{Shaped, same_catalogued, same_there, same_where, set_shaped}

module _ (outs : List Outcome) (fixed : Fixed) (s t : State) (o : Open outs s t) where
  abbrev h : Same outs s t
  h = o.same

  -- a step begins, or is passed over
  same_fate : (step : StepPlan) → fate_at fixed step s.own ≡ fate_at fixed step t.own
  same_fate step = λ i. fate_of (h.faulted i) (some_satisfied (h.ended i) fixed.job_tests) step.after_abend (abended (h.ended i))
      (some_satisfied (h.ended i) step.tests.items)

  -- what is taken that is no set
  no_set : (dd : ℕ) (name : Option (List ℕ)) (w : TakeWord) → Meets (Open outs) (takes_no_set dd name w s) (takes_no_set dd name w t)
  no_set dd name w none = (
    refl,
    record {
      same = record {
        store = h.store;
        passed = h.passed;
        ended = h.ended;
        faulted = h.faulted;
        volumes = h.volumes;
        runs = h.runs;
        dds = dds_pushed s.own.dds t.own.dds (new_dd dd name None) (new_dd dd name None) h.dds refl;
        granted = h.granted;
        granted_too = h.granted_too;
        no_cancel = h.no_cancel;
        given = h.given;
        good = h.good;
      };
      over = o.over;
      over_there = o.over_there;
    },
  )

  made_shaped : (how : How) (p : SetPlan) (key : Key) (serial : List ℕ) → Shaped (store_made how fixed p key serial s.store) (store_made how fixed p key serial t.store)
  made_shaped how.Made p key serial = set_shaped s.store t.store h.store key serial (Some (new_set fixed p key)) (Some (new_set fixed p key)) refl
  made_shaped how.Found p key serial = h.store
  made_shaped how.FoundByCatalog p key serial = h.store
  made_shaped (how.Received made by_catalog) p key serial = h.store

  by_decision : (n dd : ℕ) (name : Option (List ℕ)) (p : SetPlan) (key : Key) (d : Decision) →
      Meets (Open outs) (decided fixed n dd name p key s d) (decided fixed n dd name p key t d)
  by_decision n dd name p key (Refuses fault) none = absurd cc
  by_decision n dd name p key (Takes serial how) none = (
    refl,
    record {
      same = record {
        store = made_shaped how p key serial;
        passed = ap (λ (qs : _). passed_left how qs key) h.passed;
        ended = h.ended;
        faulted = h.faulted;
        volumes = ap (λ (vs : _). vs ++ record { step = n; dd = dd; serial = serial } ∷ []) h.volumes;
        runs = h.runs;
        dds = dds_pushed s.own.dds t.own.dds _ _ h.dds refl;
        granted = h.granted;
        granted_too = h.granted_too;
        no_cancel = h.no_cancel;
        given = h.given;
        good = h.good;
      };
      over = o.over;
      over_there = o.over_there;
    },
  )

  same_target : (n dd : ℕ) (p : SetPlan) (key : Key) → target_at fixed n dd p key s ≡ target_at fixed n dd p key t
  same_target n dd p key = λ i. target_of p.status
      ((same_where s.store t.store h.store p.volume s.own.passed s.own.volumes ∙ (λ j. where_of p.volume t.store (h.passed j) (h.volumes j))) i)
      (first_passed (h.passed i) key) (same_catalogued s.store t.store h.store key i) (place_of fixed.places n dd)

  same_decision : (n dd : ℕ) (p : SetPlan) (key : Key) →
      decision_at fixed p key s (target_at fixed n dd p key s) ≡ decision_at fixed p key t (target_at fixed n dd p key t)
  same_decision n dd p key =
      (λ i. decide (target_at fixed n dd p key s) (is_known fixed.volumes (looked_at (target_at fixed n dd p key s)))
      (same_there s.store t.store h.store key (looked_at (target_at fixed n dd p key s)) i) (is_some p.space) ((h.granted ∙ sym h.granted_too) i))
      ∙ ap (decision_at fixed p key t) (same_target n dd p key)

  by_meaning : (n dd : ℕ) (name : Option (List ℕ)) (p : SetPlan) (r : Resolution) → Meets (Open outs) (takes_set fixed n dd name p s r) (takes_set fixed n dd name p t r)
  by_meaning n dd name p (Fails fault) none = absurd cc
  by_meaning n dd name p (Means key) none =
      subst (λ (d : Decision). Meets (Open outs) (decided fixed n dd name p key s (decision_at fixed p key s (target_at fixed n dd p key s))) (decided fixed n dd name p key t d))
      (same_decision n dd p key) (by_decision n dd name p key (decision_at fixed p key s (target_at fixed n dd p key s))) none

  by_kind : (n dd : ℕ) (name : Option (List ℕ)) (kind : DdKind) → Meets (Open outs) (takes fixed n dd name kind s) (takes fixed n dd name kind t)
  by_kind n dd name (Sysout class) = no_set dd name (word.Sysout class)
  by_kind n dd name Dummy = no_set dd name word.Dummy
  by_kind n dd name (Cards cards) = no_set dd name (word.Cards (length cards))
  by_kind n dd name (Set p) = by_meaning n dd name p (meaning_at fixed.meanings n dd)

  pub takes_alike : (n dd : ℕ) (d : DdPlan) → Meets (Open outs) (act fixed (Take n dd d) s) (act fixed (Take n dd d) t)
  unfolding act
  takes_alike n dd d = met_both (Open outs) s.own.runs t.own.runs h.runs s t (takes fixed n dd d.name d.kind s) (takes fixed n dd d.name d.kind t) o (λ runs. by_kind n dd d.name d.kind)

-- a step's start leaves an open step, whatever the step before it ended with
pub starts_alike : (outs : List Outcome) (fixed : Fixed) (s t : State) → Same outs s t → (n : ℕ) (step : StepPlan) →
    ((act fixed (Start n step) s).meets ≡ None) × Open outs (act fixed (Start n step) s).state (act fixed (Start n step) t).state
unfolding act
starts_alike outs fixed s t h n step = (
  refl,
  record {
    same = record {
      store = h.store;
      passed = h.passed;
      ended = h.ended;
      faulted = h.faulted;
      volumes = h.volumes;
      runs = (λ i. is_run (fate_of (h.faulted i) (some_satisfied (h.ended i) fixed.job_tests) step.after_abend (abended (h.ended i))
          (some_satisfied (h.ended i) step.tests.items)));
      dds = tt;
      granted = h.granted;
      granted_too = h.granted_too;
      no_cancel = h.no_cancel;
      given = h.given;
      good = h.good;
    };
    over = tt;
    over_there = refl;
  },
)
