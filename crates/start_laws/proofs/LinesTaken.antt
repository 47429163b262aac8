-- In two stores that show a job the same it writes the same lines as it takes its sets.
use Rattle.std.proofs.Common.{◌≡◌, ◌∙◌, ℕ, Bool, true, false, cond, List, [], ◌∷◌, Option, refl, ap, subst}
use Rattle.std.specs.Prelude.{is_some}
use Rattle.jname_core.specs.declared.key.Key.{Key}
use Rattle.jcl_plan.specs.declared.entry.JobLine.{JobLine}
use Rattle.jcl_plan.specs.declared.fault.Fault.{Fault}
use Rattle.jcl_plan.specs.declared.plan.DdKind.{DdKind}
use Rattle.jcl_plan.specs.declared.plan.DdKind.TheVariants.{Sysout, Dummy, Cards, Set}
use Rattle.jcl_plan.specs.declared.plan.SetPlan.{SetPlan}
use Rattle.jcl_meaning.specs.declared.names.HeldName.{HeldName}
use Rattle.jcl_meaning.specs.declared.state.DdState.{DdState}
use Rattle.jcl_meaning.specs.declared.state.Own.{Own}
use Rattle.jcl_meaning.specs.declared.state.Resolution.{Resolution}
use Rattle.jcl_meaning.specs.declared.state.Resolution.TheVariants.{Fails, Means}
use Rattle.jcl_meaning.specs.declared.take.Decision.{Decision}
use Rattle.jcl_meaning.specs.declared.take.Decision.TheVariants.{Refuses, Takes}
use Rattle.jcl_meaning.specs.declared.take.Target.{Target}
use Rattle.jcl_meaning.specs.Resolutions.{meaning_at, place_of}
use Rattle.jcl_meaning.specs.States.{Answers, Done, Fixed, State, goes, if_runs}
use Rattle.jcl_meaning.specs.Stores.{Store}
use Rattle.jcl_meaning.specs.TakeActs.{decided, decision_at, refused, takes, takes_set, target_at}
use Rattle.jcl_meaning.specs.Takes.{decide, first_passed, is_known, looked_at, target_of}
use Rattle.part_laws.specs.Fits.{IsDdHeld, IsHeldFor, IsVolumeHeld, sees_set}
use Rattle.part_laws.proofs.TakesAlike.{at}
use Rattle.path_laws.proofs.ShownReads.{catalogued_alike, there_alike, where_alike}
use Rattle.path_laws.proofs.ShownWrites.{all_given_back_alike, made_alike}
use Rattle.path_laws.proofs.Sights.{ShowAlike, TookAlike}

-- stores that show the same, the same own state, and the same answers to come
pub record StandAlike (names : List HeldName) (date : ℕ) (s t : State) : Type 0 where
  pub stores : ShowAlike names date s.store t.store
  pub own : s.own ≡ t.own
  pub answers : s.answers ≡ t.answers

-- the same lines were written, and the states stand alike
pub record WroteAlike (names : List HeldName) (date : ℕ) (d e : Done) : Type 0 where
  pub lines : d.lines ≡ e.lines
  pub state : StandAlike names date d.state e.state

took_itself : (xs : List DdState) → TookAlike xs xs
took_itself [] = tt
took_itself (x ∷ xs) = (refl, took_itself xs)

module _ (names : List HeldName) (date : ℕ) where
  abbrev Wrote : Done → Done → Type 0
  Wrote d e = WroteAlike names date d e

  pub goes_on : (s t : Store) (lines : List JobLine) (own : Own) (answers : Answers) → ShowAlike names date s t →
      Wrote (goes lines (at s own answers)) (goes lines (at t own answers))
  goes_on s t lines own answers h = record { lines = refl; state = record { stores = h; own = refl; answers = refl } }

  pub either_wrote : (b : Bool) (d e f g : Done) → Wrote d f → Wrote e g → Wrote (cond b d e) (cond b f g)
  either_wrote true d e f g h k = h
  either_wrote false d e f g h k = k

  pub if_runs_wrote : (b : Bool) (s t : Store) (own : Own) (answers : Answers) (d e : Done) → ShowAlike names date s t → (b ≡ true → Wrote d e) →
      Wrote (if_runs b (at s own answers) d) (if_runs b (at t own answers) e)
  if_runs_wrote true s t own answers d e h wrote = wrote refl
  if_runs_wrote false s t own answers d e h wrote = goes_on s t [] own answers h

module _ (names : List HeldName) (fixed : Fixed) (s t : Store) (h : ShowAlike names fixed.date s t) (own : Own) (answers : Answers) where
  abbrev Same : Done → Done → Type 0
  Same d e = WroteAlike names fixed.date d e

  abbrev here : State
  here = at s own answers

  abbrev there : State
  there = at t own answers

  module _ (n dd : ℕ) (name : Option (List ℕ)) where
    refused_same : (fault : Fault) → Same (refused n dd fault here) (refused n dd fault there)
    refused_same fault = record {
      lines = refl;
      state = record { stores = all_given_back_alike names fixed.date s t h own.dds own.dds (took_itself own.dds); own = refl; answers = refl };
    }

    decided_same : (p : SetPlan) (key : Key) (d : Decision) → Same (decided fixed n dd name p key here d) (decided fixed n dd name p key there d)
    decided_same p key (Refuses fault) = refused_same fault
    decided_same p key (Takes serial how) =
        record { lines = refl; state = record { stores = made_alike names fixed.date s t h how fixed p key serial; own = refl; answers = refl } }

    target_same : (p : SetPlan) (key : Key) → sees_set names key ≡ true → IsVolumeHeld names p.volume →
        target_at fixed n dd p key here ≡ target_at fixed n dd p key there
    target_same p key seen held =
        λ i. target_of p.status (where_alike names fixed.date s t h p.volume own.passed own.volumes held i) (first_passed own.passed key)
        (catalogued_alike names fixed.date s t h key seen i) (place_of fixed.places n dd)

    decision_same : (p : SetPlan) (key : Key) (x y : Target) → sees_set names key ≡ true → x ≡ y →
        decision_at fixed p key here x ≡ decision_at fixed p key there y
    decision_same p key x y seen e =
        ap (decision_at fixed p key here) e
        ∙ ap (λ (b : Bool). decide y (is_known fixed.volumes (looked_at y)) b (is_some p.space) answers.primary)
        (there_alike names fixed.date s t h key (looked_at y) seen)

    set_same : (p : SetPlan) (r : Resolution) → ((key : Key) → r ≡ Means key → IsHeldFor names p key) → IsVolumeHeld names p.volume →
        Same (takes_set fixed n dd name p here r) (takes_set fixed n dd name p there r)
    set_same p (Fails fault) held led = refused_same fault
    set_same p (Means key) held led =
        let seen : sees_set names key ≡ true = (held key refl).seen in
        let d : Decision = decision_at fixed p key here (target_at fixed n dd p key here) in
        subst (λ (e : Decision). Same (decided fixed n dd name p key here d) (decided fixed n dd name p key there e))
        (decision_same p key (target_at fixed n dd p key here) (target_at fixed n dd p key there) seen (target_same p key seen led))
        (decided_same p key d)

    pub take_same : (kind : DdKind) → IsDdHeld names fixed.meanings n dd kind → Same (takes fixed n dd name kind here) (takes fixed n dd name kind there)
    take_same (Sysout class) held = goes_on names fixed.date s t _ _ answers h
    take_same Dummy held = goes_on names fixed.date s t _ _ answers h
    take_same (Cards cards) held = goes_on names fixed.date s t _ _ answers h
    take_same (Set p) held = set_same p (meaning_at fixed.meanings n dd) held.key held.volume
