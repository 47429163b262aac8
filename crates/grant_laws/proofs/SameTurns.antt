-- A turn without its primary is the same turn as with it, or its action is to make a set.
use Rattle.std.proofs.Common.{◌≡◌, ◌⊎◌, inl, inr, ℕ, suc, Bool, true, false, List, [], ◌∷◌, Option, Some, All, refl, sym, ap, ◌∙◌, subst}
use Rattle.std.specs.List.{Contains}
use Rattle.std.proofs.lemmas.List.Elements.{All-head, All-tail}
use Rattle.jname_core.specs.declared.key.Key.{Key}
use Rattle.jcl_plan.specs.declared.entry.JobLine.{JobLine}
use Rattle.jcl_plan.specs.declared.plan.DdKind.{DdKind}
use Rattle.jcl_plan.specs.declared.plan.StepPlan.{StepPlan}
use Rattle.jcl_meaning.specs.declared.names.HeldName.{HeldName}
use Rattle.jcl_meaning.specs.declared.program.SoloProgram.{SoloProgram}
use Rattle.jcl_meaning.specs.declared.state.Own.{Own}
use Rattle.jcl_meaning.specs.declared.state.Place.{Place}
use Rattle.jcl_meaning.specs.declared.state.Resolution.{Resolution}
use Rattle.jcl_meaning.specs.Acts.{act}
use Rattle.jcl_meaning.specs.Agendas.{Action, Take}
use Rattle.jcl_meaning.specs.States.{Answers, Done, Fixed, State}
use Rattle.jcl_meaning.specs.Stores.{Store}
use Rattle.jcl_meaning.specs.Takes.{primary_of}
use Rattle.jcl_meaning.specs.WellFormed.{AreWellFormedPrograms}
use Rattle.part_laws.specs.Fits.{Fits, IsDdHeld, IsSetHeld, sees_set}
use Rattle.part_laws.proofs.ActsFit.{act_fits}
use Rattle.cb_meaning.specs.Writable.{kind_at}
use Rattle.world_meaning.specs.Admissions.{primary_asked}
use Rattle.world_meaning.specs.Turns.{Advanced, advance, answers_due, outcomes_due, unless_silent}
use Rattle.disp_core.specs.Grants.{granted_by, granted_on, primary_granted}
use Rattle.turn_core.specs.Performing.{primary_by}
use Rattle.law_core.proofs.Elements.{contains_first}
use Rattle.case_laws.specs.Cases.{AreFair, MayMake, with_answers}
use Rattle.case_laws.proofs.Fairness.{are_fair}
use Rattle.case_laws.proofs.Known.{IsKnown}
use Rattle.grant_laws.proofs.SameActs.{IsBeside, WantsPrimary, act_beside, no_answers, same, shown, wants}

-- a turn, whatever answers are left
abbrev pub turn_shown : Advanced → Advanced
turn_shown x = record { action = x.action; before = with_answers x.before.store x.before.own no_answers; done = shown x.done; count = x.count }

-- the action at hand writes, or a later one does
data Speaks (lines : List JobLine) (now x : Advanced) (further : Option Advanced) : Type 0 where
  speaks : (first : JobLine) (others : List JobLine) → lines ≡ first ∷ others → now ≡ x → Speaks lines now x further
  is_silent : lines ≡ [] → further ≡ Some x → Speaks lines now x further

who_speaks : (lines : List JobLine) (now x : Advanced) (further : Option Advanced) → unless_silent lines now further ≡ Some x → Speaks lines now x further
who_speaks [] now x further e = is_silent refl e
who_speaks (line ∷ lines) now x further e = speaks line lines refl cc

spoken : (lines : List JobLine) (first : JobLine) (others : List JobLine) (now : Advanced) (further : Option Advanced) → lines ≡ first ∷ others →
    unless_silent lines now further ≡ Some now
spoken [] first others now further e = absurd cc
spoken (line ∷ lines) first others now further e = refl

passed_on : (lines : List JobLine) (now x : Advanced) (further : Option Advanced) → lines ≡ [] → further ≡ Some x → unless_silent lines now further ≡ Some x
passed_on [] now x further e f = f
passed_on (line ∷ lines) now x further e f = absurd cc

module _ (fixed : Fixed) (a : Action) (store : Store) (own : Own) (without with_it : Done) (m : WantsPrimary fixed a store own without with_it) where
  -- its key is one that the job sees
  key_seen : (names : List HeldName) (rest : List Action) → Fits names fixed.meanings (a ∷ rest) own → sees_set names m.key ≡ true
  key_seen names rest fits =
      let taking : Fits names fixed.meanings (Take m.step m.number m.dd ∷ rest) own =
      subst (λ (b : Action). Fits names fixed.meanings (b ∷ rest) own) m.takes fits in
      let held : IsSetHeld names fixed.meanings m.step m.number m.plan = subst (IsDdHeld names fixed.meanings m.step m.number) m.for_set taking.ahead.2 in
      (held.key m.key m.meant).seen

  -- and the primary that it asks for is that of its DD
  abbrev place : Place
  place = record { step = m.step; dd = m.number; serial = m.serial }

  primary_of_dd : (steps : List StepPlan) → IsKnown steps a → primary_asked (kind_at steps m.step m.number) ≡ primary_of m.plan.space
  primary_of_dd steps known = ap primary_asked (subst (IsKnown steps) m.takes known ∙ ap Some m.for_set)

  asks : (grants : Key → Place → ℕ → Bool) → primary_by grants fixed a store own ≡ grants m.key place (primary_of m.plan.space)
  asks grants =
      ap (λ (b : Action). primary_by grants fixed b store own) m.takes
      ∙ ap (λ (kind : DdKind). primary_granted grants fixed m.step m.number kind store own) m.for_set
      ∙ ap (λ (r : Resolution). granted_by grants fixed m.step m.number m.plan store own r) m.meant
      ∙ ap (λ (at : Option (List ℕ)). granted_on (grants m.key) m.step m.number m.plan at) m.looked

module _ (programs : List SoloProgram) (steps planned : List StepPlan) (fixed : Fixed) (cancel growth : Bool) (names : List HeldName) where
  abbrev these : Bool → Action → Own → Answers
  these primary = answers_due programs steps (record { cancel = cancel; growth = growth; primary = primary })

  -- A turn at whose action a set is to be made: the job may make it, under a key that it sees, and its primary is asked for.
  pub record MakesOne (actions : List Action) (store : Store) (own : Own) (x : Advanced) : Type 0 where
    pub place : Place
    pub key : Key
    pub may : MayMake fixed actions store own place
    pub seen : sees_set names key ≡ true
    pub asked : (grants : Key → Place → ℕ → Bool) → primary_by grants fixed x.action x.before.store x.before.own
        ≡ grants key place (primary_asked (kind_at planned place.step place.dd))

  -- the same turn with its primary
  pub record IsGranted (actions : List Action) (s : State) (count : ℕ) (x : Advanced) : Type 0 where
    pub turn : Advanced
    pub advances : advance (these true) fixed actions s count ≡ Some turn
    pub alike : turn_shown x ≡ turn_shown turn
    pub answered : turn.before.answers ≡ these true turn.action turn.before.own
    pub does : turn.done ≡ act fixed turn.action turn.before

  module _ (formed : AreWellFormedPrograms programs) where
    fair : (a : Action) (own : Own) → AreFair (these true a own)
    fair a own = are_fair programs steps (record { cancel = cancel; growth = growth; primary = true }) a own formed refl

    module _ (a : Action) (rest : List Action) (store : Store) (own : Own) (count : ℕ) where
      -- the action at hand, without its primary or with it
      abbrev done : Bool → Done
      done primary = act fixed a (with_answers store own (these primary a own))

      abbrev turn : Bool → Advanced
      turn primary = record { action = a; before = with_answers store own (these primary a own); done = done primary; count = suc count }

      wants_now : WantsPrimary fixed a store own (done false) (done true) → Fits names fixed.meanings (a ∷ rest) own → IsKnown planned a →
          MakesOne (a ∷ rest) store own (turn false)
      wants_now m fits known = record {
        place = place fixed a store own (done false) (done true) m;
        key = m.key;
        may = (
          these true a own,
          fair a own,
          inl (subst (λ (ps : List Place). Contains ps (place fixed a store own (done false) (done true) m)) (sym m.made)
              (contains_first (place fixed a store own (done false) (done true) m) [])),
        );
        seen = key_seen fixed a store own (done false) (done true) m names rest fits;
        asked = λ grants. asks fixed a store own (done false) (done true) m grants
            ∙ ap (grants m.key (place fixed a store own (done false) (done true) m))
            (sym (primary_of_dd fixed a store own (done false) (done true) m planned known));
      }

      wants_later : (x : Advanced) → MakesOne rest (done true).state.store (done true).state.own x → MakesOne (a ∷ rest) store own x
      wants_later x m =
          record { place = m.place; key = m.key; may = (these true a own, fair a own, inr m.may); seen = m.seen; asked = m.asked }

      granted_now : (before : Answers) (first : JobLine) (others : List JobLine) → shown (done false) ≡ shown (done true) → (done false).lines ≡ first ∷ others →
          IsGranted (a ∷ rest) (with_answers store own before) count (turn false)
      unfolding advance
      granted_now before first others r e = record {
        turn = turn true;
        advances = spoken (done true).lines first others (turn true) (advance (these true) fixed rest (done true).state (suc count))
            (sym (ap (λ (d : Done). d.lines) r) ∙ e);
        alike = λ i. record { action = a; before = with_answers store own no_answers; done = r i; count = suc count };
        answered = refl;
        does = refl;
      }

      granted_later : (before : Answers) (x : Advanced) → shown (done false) ≡ shown (done true) → (done false).lines ≡ [] →
          IsGranted rest (done true).state (suc count) x → IsGranted (a ∷ rest) (with_answers store own before) count x
      unfolding advance
      granted_later before x r e g = record {
        turn = g.turn;
        advances = passed_on (done true).lines (turn true) g.turn (advance (these true) fixed rest (done true).state (suc count))
            (sym (ap (λ (d : Done). d.lines) r) ∙ e) g.advances;
        alike = g.alike;
        answered = g.answered;
        does = g.does;
      }

      by_act : (before : Answers) (x : Advanced) → Fits names fixed.meanings (a ∷ rest) own → IsKnown planned a →
          IsBeside fixed a store own (done false) (done true) →
          Speaks (done false).lines (turn false) x (advance (these false) fixed rest (done false).state (suc count)) →
          (advance (these false) fixed rest (with_answers (done true).state.store (done true).state.own (done false).state.answers) (suc count) ≡ Some x →
          MakesOne rest (done true).state.store (done true).state.own x ⊎ IsGranted rest (done true).state (suc count) x) →
          MakesOne (a ∷ rest) store own x ⊎ IsGranted (a ∷ rest) (with_answers store own before) count x
      by_act before x fits known (wants m) (speaks first others e is) later =
          inl (subst (MakesOne (a ∷ rest) store own) is (wants_now m fits known))
      by_act before x fits known (wants m) (is_silent e more) later = absurd (m.told e)
      by_act before x fits known (same r) (speaks first others e is) later =
          inr (subst (IsGranted (a ∷ rest) (with_answers store own before) count) is (granted_now before first others r e))
      by_act before x fits known (same r) (is_silent e more) later =
          by_later (later (subst (λ (s : State). advance (these false) fixed rest s (suc count) ≡ Some x)
          (λ i. with_answers (r i).state.store (r i).state.own (done false).state.answers) more))
        where
          by_later : MakesOne rest (done true).state.store (done true).state.own x ⊎ IsGranted rest (done true).state (suc count) x →
              MakesOne (a ∷ rest) store own x ⊎ IsGranted (a ∷ rest) (with_answers store own before) count x
          by_later (inl m) = inl (wants_later x m)
          by_later (inr g) = inr (granted_later before x r e g)

    pub granted : (actions : List Action) (store : Store) (own : Own) (first other : Answers) (count : ℕ) (x : Advanced) →
        Fits names fixed.meanings actions own → All (IsKnown planned) actions →
        advance (these false) fixed actions (with_answers store own first) count ≡ Some x →
        MakesOne actions store own x ⊎ IsGranted actions (with_answers store own other) count x
    unfolding advance
    granted [] store own first other count x fits known e = absurd cc
    granted (a ∷ rest) store own first other count x fits known e =
        by_act a rest store own count other x fits (All-head (IsKnown planned) a rest known)
        (act_beside fixed store own (outcomes_due programs steps a) (these true a own).cancels growth a)
        (who_speaks (done a rest store own count false).lines (turn a rest store own count false) x
        (advance (these false) fixed rest (done a rest store own count false).state (suc count)) e)
        (λ more. granted rest (done a rest store own count true).state.store (done a rest store own count true).state.own
        (done a rest store own count false).state.answers (done a rest store own count true).state.answers (suc count) x
        (act_fits names fixed a rest (with_answers store own (these true a own)) fits) (All-tail (IsKnown planned) a rest known) more)
