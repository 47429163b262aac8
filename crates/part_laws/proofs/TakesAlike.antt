-- From states alike a step begins alike and takes alike.
use Rattle.std.proofs.Common.{◌≡◌, ◌∙◌, ℕ, Bool, true, false, cond, List, [], Option, refl, ap, subst}
use Rattle.std.specs.Prelude.{is_some}
use Rattle.jname_core.specs.declared.key.Key.{Key}
use Rattle.jcl_plan.specs.declared.entry.JobLine.{JobLine}
use Rattle.jcl_plan.specs.declared.fault.Fault.{Fault}
use Rattle.jcl_plan.specs.declared.plan.DdKind.{DdKind}
use Rattle.jcl_plan.specs.declared.plan.DdKind.TheVariants.{Sysout, Dummy, Cards, Set}
use Rattle.jcl_plan.specs.declared.plan.SetPlan.{SetPlan}
use Rattle.jcl_meaning.specs.declared.names.HeldName.{HeldName}
use Rattle.jcl_meaning.specs.declared.state.Own.{Own}
use Rattle.jcl_meaning.specs.declared.state.Resolution.{Resolution}
use Rattle.jcl_meaning.specs.declared.state.Resolution.TheVariants.{Fails, Means}
use Rattle.jcl_meaning.specs.declared.take.Decision.{Decision}
use Rattle.jcl_meaning.specs.declared.take.Decision.TheVariants.{Refuses, Takes}
use Rattle.jcl_meaning.specs.declared.take.Target.{Target}
use Rattle.jcl_meaning.specs.Parts.{SamePart}
use Rattle.jcl_meaning.specs.Resolutions.{meaning_at, place_of}
use Rattle.jcl_meaning.specs.States.{Answers, Done, Fixed, State, goes, if_runs}
use Rattle.jcl_meaning.specs.Stores.{Store}
use Rattle.jcl_meaning.specs.TakeActs.{decided, decision_at, refused, takes, takes_set, target_at}
use Rattle.jcl_meaning.specs.Takes.{decide, first_passed, is_known, looked_at, target_of}
use Rattle.part_laws.specs.Alike.{AlikeDone}
use Rattle.part_laws.specs.Fits.{IsDdHeld, IsHeldFor, IsVolumeHeld, sees_set}
use Rattle.part_laws.proofs.SameReads.{same_catalogued, same_there, same_where}
use Rattle.part_laws.proofs.SameWrites.{same_given_back, same_made}

-- a state by its parts
abbrev pub at : Store → Own → Answers → State
at s own answers = record { store = s; own = own; answers = answers }

-- where the same lines are written, the stores have equal parts and the rest is one
pub goes_alike : (names : List HeldName) (s t : Store) (lines : List JobLine) (own : Own) (answers : Answers) → SamePart names s t →
    AlikeDone names (goes lines (at s own answers)) (goes lines (at t own answers))
goes_alike names s t lines own answers p = record { lines = refl; meets = refl; made = refl; state = record { part = p; own = refl; answers = refl } }

pub either_alike : (names : List HeldName) (b : Bool) (d e f g : Done) → AlikeDone names d f → AlikeDone names e g → AlikeDone names (cond b d e) (cond b f g)
either_alike names true d e f g h k = h
either_alike names false d e f g h k = k

pub if_runs_alike : (names : List HeldName) (b : Bool) (s t : Store) (own : Own) (answers : Answers) (d e : Done) → SamePart names s t →
    (b ≡ true → AlikeDone names d e) → AlikeDone names (if_runs b (at s own answers) d) (if_runs b (at t own answers) e)
if_runs_alike names true s t own answers d e p h = h refl
if_runs_alike names false s t own answers d e p h = goes_alike names s t [] own answers p

module _ (names : List HeldName) (s t : Store) (p : SamePart names s t) (own : Own) (answers : Answers) where
  refused_alike : (n dd : ℕ) (fault : Fault) → AlikeDone names (refused n dd fault (at s own answers)) (refused n dd fault (at t own answers))
  refused_alike n dd fault =
      record { lines = refl; meets = refl; made = refl; state = record { part = same_given_back names s t p own.dds; own = refl; answers = refl } }

  decided_alike : (fixed : Fixed) (n dd : ℕ) (name : Option (List ℕ)) (plan : SetPlan) (key : Key) (d : Decision) →
      AlikeDone names (decided fixed n dd name plan key (at s own answers) d) (decided fixed n dd name plan key (at t own answers) d)
  decided_alike fixed n dd name plan key (Refuses fault) = refused_alike n dd fault
  decided_alike fixed n dd name plan key (Takes serial h) =
      record { lines = refl; meets = refl; made = refl; state = record { part = same_made names s t p h fixed plan key serial; own = refl; answers = refl } }

  same_target : (fixed : Fixed) (n dd : ℕ) (plan : SetPlan) (key : Key) → sees_set names key ≡ true → IsVolumeHeld names plan.volume →
      target_at fixed n dd plan key (at s own answers) ≡ target_at fixed n dd plan key (at t own answers)
  same_target fixed n dd plan key seen volume =
      λ i. target_of plan.status (same_where names s t p plan.volume own.passed own.volumes volume i) (first_passed own.passed key)
      (same_catalogued names s t p key seen i) (place_of fixed.places n dd)

  same_decision : (fixed : Fixed) (plan : SetPlan) (key : Key) (x y : Target) → sees_set names key ≡ true → x ≡ y →
      decision_at fixed plan key (at s own answers) x ≡ decision_at fixed plan key (at t own answers) y
  same_decision fixed plan key x y seen e =
      ap (decision_at fixed plan key (at s own answers)) e
      ∙ ap (λ there. decide y (is_known fixed.volumes (looked_at y)) there (is_some plan.space) answers.primary) (same_there names s t p key (looked_at y) seen)

  set_alike : (fixed : Fixed) (n dd : ℕ) (name : Option (List ℕ)) (plan : SetPlan) (r : Resolution) → ((key : Key) → r ≡ Means key → IsHeldFor names plan key) →
      IsVolumeHeld names plan.volume → AlikeDone names (takes_set fixed n dd name plan (at s own answers) r)
      (takes_set fixed n dd name plan (at t own answers) r)
  set_alike fixed n dd name plan (Fails fault) held volume = refused_alike n dd fault
  set_alike fixed n dd name plan (Means key) held volume =
      let seen : sees_set names key ≡ true = (held key refl).seen in
      let x : Target = target_at fixed n dd plan key (at s own answers) in
      let y : Target = target_at fixed n dd plan key (at t own answers) in
      subst (λ (d : Decision). AlikeDone names (decided fixed n dd name plan key (at s own answers) (decision_at fixed plan key (at s own answers) x))
      (decided fixed n dd name plan key (at t own answers) d))
      (same_decision fixed plan key x y seen (same_target fixed n dd plan key seen volume))
      (decided_alike fixed n dd name plan key (decision_at fixed plan key (at s own answers) x))

  pub take_alike : (fixed : Fixed) (n dd : ℕ) (name : Option (List ℕ)) (kind : DdKind) → IsDdHeld names fixed.meanings n dd kind →
      AlikeDone names (takes fixed n dd name kind (at s own answers)) (takes fixed n dd name kind (at t own answers))
  take_alike fixed n dd name (Sysout class) h = goes_alike names s t _ _ answers p
  take_alike fixed n dd name Dummy h = goes_alike names s t _ _ answers p
  take_alike fixed n dd name (Cards cards) h = goes_alike names s t _ _ answers p
  take_alike fixed n dd name (Set plan) h = set_alike fixed n dd name plan (meaning_at fixed.meanings n dd) h.key h.volume
