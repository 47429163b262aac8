-- What an admitted job's turn leaves: its store within the job's names, and an own state that fits.
use Rattle.std.proofs.Common.{◌≡◌, ℕ, zero, suc, List, [], ◌∷◌, drop, Option, Some, ◌⊎◌, inl, inr, refl, sym, subst}
use Rattle.jcl_plan.specs.declared.entry.JobLine.{JobLine}
use Rattle.jcl_meaning.specs.declared.names.HeldName.{HeldName}
use Rattle.jcl_meaning.specs.declared.state.Own.{Own}
use Rattle.jcl_meaning.specs.Acts.{act}
use Rattle.jcl_meaning.specs.Agendas.{Action}
use Rattle.jcl_meaning.specs.States.{Answers, Done, Fixed, State}
use Rattle.part_laws.specs.Fits.{Fits}
use Rattle.part_laws.proofs.ActsFit.{act_fits}
use Rattle.part_laws.proofs.ActsWithin.{act_stays}
use Rattle.part_laws.proofs.ChangesWithin.{Stays, stays_along}
use Rattle.world_meaning.specs.Turns.{Advanced, advance, unless_silent}

-- the state in which an action is taken, and what it then does
abbrev pub answered : (Action → Own → Answers) → Action → State → State
answered answers a s = record s { answers = answers a s.own }

abbrev pub acted : (Action → Own → Answers) → Fixed → Action → State → Done
acted answers fixed a s = act fixed a (answered answers a s)

abbrev pub here : (Action → Own → Answers) → Fixed → Action → State → ℕ → Advanced
here answers fixed a s count = record { action = a; before = answered answers a s; done = acted answers fixed a s; count = suc count }

-- the action at hand writes, or a later one does
pub writes_or_not : (lines : List JobLine) (now x : Advanced) (further : Option Advanced) → unless_silent lines now further ≡ Some x →
    (now ≡ x) ⊎ ((lines ≡ []) × (further ≡ Some x))
writes_or_not [] now x further e = inr (refl, e)
writes_or_not (line ∷ lines) now x further e = inl cc

pub drop_next : {X : Type 0} (n : ℕ) (whole rest : List X) (x : X) → drop n whole ≡ x ∷ rest → drop (suc n) whole ≡ rest
drop_next zero [] rest x e = absurd cc
drop_next zero (y ∷ whole) rest x e = cc
drop_next (suc n) [] rest x e = absurd cc
drop_next (suc n) (y ∷ whole) rest x e = drop_next n whole rest x e

-- what is behind the action that writes
pub record Behind (names : List HeldName) (fixed : Fixed) (whole : List Action) (s : State) (x : Advanced) : Type 0 where
  pub stays : Stays names s.store x.done.state.store
  pub fits : Fits names fixed.meanings (drop x.count whole) x.done.state.own

module _ (names : List HeldName) (answers : Action → Own → Answers) (fixed : Fixed) (whole : List Action) where
  by_action : (a : Action) (rest : List Action) (s : State) (count : ℕ) (x : Advanced) → drop (suc count) whole ≡ rest →
      Fits names fixed.meanings (a ∷ rest) s.own → Stays names s.store (acted answers fixed a s).state.store →
      (here answers fixed a s count ≡ x) ⊎ Behind names fixed whole (acted answers fixed a s).state x → Behind names fixed whole s x
  by_action a rest s count x left h stays (inl is) = subst (Behind names fixed whole s) is (record {
    stays = stays;
    fits = subst (λ (actions : List Action). Fits names fixed.meanings actions (acted answers fixed a s).state.own) (sym left)
        (act_fits names fixed a rest (answered answers a s) h);
  })
  by_action a rest s count x left h stays (inr later) = record {
    stays = stays_along names s.store (acted answers fixed a s).state.store x.done.state.store stays later.stays;
    fits = later.fits;
  }

  by_lines : (a : Action) (rest : List Action) (s : State) (count : ℕ) (x : Advanced) →
      (here answers fixed a s count ≡ x) ⊎ (((acted answers fixed a s).lines ≡ [])
      × (advance answers fixed rest (acted answers fixed a s).state (suc count) ≡ Some x)) →
      (advance answers fixed rest (acted answers fixed a s).state (suc count) ≡ Some x → Behind names fixed whole (acted answers fixed a s).state x) →
      (here answers fixed a s count ≡ x) ⊎ Behind names fixed whole (acted answers fixed a s).state x
  by_lines a rest s count x (inl is) later = inl is
  by_lines a rest s count x (inr (silent, further)) later = inr (later further)

  pub advance_behind : (actions : List Action) (s : State) (count : ℕ) (x : Advanced) → drop count whole ≡ actions →
      Fits names fixed.meanings actions s.own → advance answers fixed actions s count ≡ Some x → Behind names fixed whole s x
  unfolding advance
  advance_behind [] s count x left h e = absurd cc
  advance_behind (a ∷ rest) s count x left h e =
      by_action a rest s count x (drop_next count whole rest a left) h (act_stays names fixed a rest (answered answers a s) h)
      (by_lines a rest s count x (writes_or_not (acted answers fixed a s).lines (here answers fixed a s count) x
      (advance answers fixed rest (acted answers fixed a s).state (suc count)) e)
      (advance_behind rest (acted answers fixed a s).state (suc count) x (drop_next count whole rest a left)
      (act_fits names fixed a rest (answered answers a s) h)))
