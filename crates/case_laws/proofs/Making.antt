-- The sets that a job may yet make.
use Rattle.std.proofs.Common.{◌≡◌, ◌≤◌, ◌<◌, ◌+◌, ◌⊎◌, inl, inr, ℕ, suc, List, [], ◌∷◌, Some, All, arith, drop, refl, sym, ◌∙◌, subst}
use Rattle.std.specs.List.{Contains}
use Rattle.std.proofs.lemmas.List.Elements.{All-head, All-tail, Contains-push_cases}
use Rattle.jcl_plan.specs.declared.plan.DdPlan.{DdPlan}
use Rattle.jcl_meaning.specs.declared.names.HeldName.{HeldName}
use Rattle.jcl_meaning.specs.declared.state.Own.{Own}
use Rattle.jcl_meaning.specs.declared.state.Place.{Place}
use Rattle.jcl_meaning.specs.Acts.{act}
use Rattle.jcl_meaning.specs.Agendas.{Action, Take}
use Rattle.jcl_meaning.specs.Parts.{SamePart}
use Rattle.jcl_meaning.specs.States.{Answers, Done, Fixed, State}
use Rattle.jcl_meaning.specs.Stores.{Store}
use Rattle.part_laws.specs.Alike.{AlikeDone}
use Rattle.part_laws.specs.Fits.{Fits}
use Rattle.part_laws.proofs.ActsFit.{act_fits}
use Rattle.part_laws.proofs.RunsAlike.{act_alike}
use Rattle.world_meaning.specs.Turns.{Advanced, advance}
use Rattle.world_laws.proofs.Behind.{acted, drop_next, here, writes_or_not}
use Rattle.case_laws.specs.Cases.{AreFair, MayMake, with_answers}
use Rattle.case_laws.specs.Gains.{Gains, grows, none, one}
use Rattle.case_laws.proofs.Gaining.{act_gains}
use Rattle.case_laws.proofs.Ordered.{AreOrdered, AtLeast, IsAhead}

-- takes alone make sets
pub record IsTakeOf (a : Action) (p : Place) : Type 0 where
  pub dd : DdPlan
  pub is : a ≡ Take p.step p.dd dd

in_none : {X : Type 0} (x : X) → Contains [] x → ⊥
in_none x (n, less, is) = omega (arith, less)

in_one : {X : Type 0} (x y : X) → Contains (x ∷ []) y → x ≡ y
in_one x y h = by_place (Contains-push_cases [] x y h)
  where
    by_place : Contains [] y ⊎ (x ≡ y) → x ≡ y
    by_place (inl nothing) = absurd (in_none y nothing)
    by_place (inr same) = same

by_gains : (fixed : Fixed) (a : Action) (s : State) (d : Done) (p : Place) → Contains d.made p → Gains fixed a s d → IsTakeOf a p
by_gains fixed a s d p h (none g made) = absurd (in_none p (subst (λ (ps : List Place). Contains ps p) made h))
by_gains fixed a s d p h (grows granted made) = absurd (in_none p (subst (λ (ps : List Place). Contains ps p) made h))
by_gains fixed a s d p h (one m) =
    let same : record { step = m.step; dd = m.number; serial = m.serial } ≡ p = in_one _ p (subst (λ (ps : List Place). Contains ps p) m.made h) in
    record { dd = m.dd; is = m.takes ∙ (λ i. Take (same i).step (same i).dd m.dd) }

pub made_by_take : (fixed : Fixed) (a : Action) (s : State) (p : Place) → Contains (act fixed a s).made p → IsTakeOf a p
made_by_take fixed a s p h = by_gains fixed a s (act fixed a s) p h (act_gains fixed a s)

pub may_take : (P : Action → Type 0) (fixed : Fixed) (actions : List Action) (store : Store) (own : Own) (p : Place) → All P actions →
    MayMake fixed actions store own p → (dd : DdPlan) × P (Take p.step p.dd dd)
may_take P fixed [] store own p all m = absurd m
may_take P fixed (a ∷ actions) store own p all (answers, fair, inl h) =
    let t : IsTakeOf a p = made_by_take fixed a (with_answers store own answers) p h in (t.dd, subst P t.is (All-head P a actions all))
may_take P fixed (a ∷ actions) store own p all (answers, fair, inr m) =
    may_take P fixed actions (act fixed a (with_answers store own answers)).state.store (act fixed a (with_answers store own answers)).state.own p
    (All-tail P a actions all) m

-- in a store of which the job sees the same it may make the same
pub may_make_alike : (names : List HeldName) (fixed : Fixed) (actions : List Action) (s t : Store) (own : Own) (p : Place) → SamePart names s t →
    Fits names fixed.meanings actions own → MayMake fixed actions s own p → MayMake fixed actions t own p
may_make_alike names fixed [] s t own p part fits m = m
may_make_alike names fixed (a ∷ actions) s t own p part fits (answers, fair, m) =
    let alike : AlikeDone names (act fixed a (with_answers s own answers)) (act fixed a (with_answers t own answers)) =
    act_alike names fixed a actions (with_answers s own answers) (with_answers t own answers) (record { part = part; own = refl; answers = refl }) fits in (
      answers,
      fair,
      by_place alike
          (λ left later. may_make_alike names fixed actions (act fixed a (with_answers s own answers)).state.store
          (act fixed a (with_answers t own answers)).state.store
          (act fixed a (with_answers s own answers)).state.own p alike.state.part left later)
          (act_fits names fixed a actions (with_answers s own answers) fits) m,
    )
  where
    one_store : State
    one_store = (act fixed a (with_answers s own answers)).state

    other_store : State
    other_store = (act fixed a (with_answers t own answers)).state

    by_place : AlikeDone names (act fixed a (with_answers s own answers)) (act fixed a (with_answers t own answers)) →
        (Fits names fixed.meanings actions one_store.own → MayMake fixed actions one_store.store one_store.own p →
        MayMake fixed actions other_store.store one_store.own p) → Fits names fixed.meanings actions one_store.own →
        Contains (act fixed a (with_answers s own answers)).made p ⊎ MayMake fixed actions one_store.store one_store.own p →
        Contains (act fixed a (with_answers t own answers)).made p ⊎ MayMake fixed actions other_store.store other_store.own p
    by_place alike more left (inl h) = inl (subst (λ (ps : List Place). Contains ps p) alike.made h)
    by_place alike more left (inr later) =
        inr (subst (λ (o : Own). MayMake fixed actions other_store.store o p) alike.state.own (more left later))

-- A turn from a place of the agenda on: what may be made behind it may be made before, and its own take is of an earlier DD.
pub record Led (fixed : Fixed) (whole actions : List Action) (s : State) (x : Advanced) : Type 0 where
  pub back : (p : Place) → MayMake fixed (drop x.count whole) x.done.state.store x.done.state.own p → MayMake fixed actions s.store s.own p
  pub ahead : IsAhead x.action (drop x.count whole)
  pub does : x.done ≡ act fixed x.action x.before

module _ (answers : Action → Own → Answers) (fixed : Fixed) (whole : List Action) (fair : (a : Action) (own : Own) → AreFair (answers a own)) where
  by_action : (a : Action) (rest : List Action) (s : State) (count : ℕ) (x : Advanced) → drop (suc count) whole ≡ rest → IsAhead a rest →
      (here answers fixed a s count ≡ x) ⊎ Led fixed whole rest (acted answers fixed a s).state x → Led fixed whole (a ∷ rest) s x
  by_action a rest s count x left ahead (inl is) = subst (Led fixed whole (a ∷ rest) s) is (record {
    back = λ p m. (
      answers a s.own,
      fair a s.own,
      inr (subst (λ (actions : List Action). MayMake fixed actions (acted answers fixed a s).state.store
          (acted answers fixed a s).state.own p) left m),
    );
    ahead = subst (IsAhead a) (sym left) ahead;
    does = refl;
  })
  by_action a rest s count x left ahead (inr later) =
      record { back = λ p m. (answers a s.own, fair a s.own, inr (later.back p m)); ahead = later.ahead; does = later.does }

  by_lines : (a : Action) (rest : List Action) (s : State) (count : ℕ) (x : Advanced) →
      (here answers fixed a s count ≡ x) ⊎ (((acted answers fixed a s).lines ≡ [])
      × (advance answers fixed rest (acted answers fixed a s).state (suc count) ≡ Some x)) →
      (advance answers fixed rest (acted answers fixed a s).state (suc count) ≡ Some x → Led fixed whole rest (acted answers fixed a s).state x) →
      (here answers fixed a s count ≡ x) ⊎ Led fixed whole rest (acted answers fixed a s).state x
  by_lines a rest s count x (inl is) later = inl is
  by_lines a rest s count x (inr (silent, further)) later = inr (later further)

  pub led : (actions : List Action) (s : State) (count : ℕ) (x : Advanced) → drop count whole ≡ actions → AreOrdered actions →
      advance answers fixed actions s count ≡ Some x → Led fixed whole actions s x
  unfolding advance
  led [] s count x left o e = absurd cc
  led (a ∷ rest) s count x left o e =
      by_action a rest s count x (drop_next count whole rest a left) o.0
      (by_lines a rest s count x (writes_or_not (acted answers fixed a s).lines (here answers fixed a s count) x
      (advance answers fixed rest (acted answers fixed a s).state (suc count)) e)
      (led rest (acted answers fixed a s).state (suc count) x (drop_next count whole rest a left) o.1))

-- what a turn made is not made again
pub not_again : (fixed : Fixed) (whole actions : List Action) (s : State) (x : Advanced) → Led fixed whole actions s x →
    (store : Store) (own : Own) (p q : Place) →
    MayMake fixed (drop x.count whole) store own p → Contains x.done.made q → p.step ≡ q.step → p.dd ≡ q.dd → ⊥
not_again fixed whole actions s x l store own p q m h e f =
    let t : IsTakeOf x.action q = made_by_take fixed x.action x.before q (subst (λ (d : Done). Contains d.made q) l.does h) in
    apart ((may_take (AtLeast q.step (q.dd + 1)) fixed (drop x.count whole) store own p
    (subst (λ (a : Action). IsAhead a (drop x.count whole)) t.is l.ahead) m).1)
  where
    apart : (q.step < p.step) ⊎ ((q.step ≡ p.step) × (q.dd + 1 ≤ p.dd)) → ⊥
    apart (inl less) = omega (arith, e, less)
    apart (inr both) = let le : q.dd + 1 ≤ p.dd = both.1 in omega (arith, f, le)
