-- What a turn of a job comes to: actions that write nothing, and one that writes.
use Rattle.std.proofs.Common.{◌≡◌, inl, inr, ℕ, suc, Bool, true, false, List, [], ◌∷◌, Some, refl, subst}
use Rattle.std.specs.Prelude.{◌||◌}
use Rattle.std.specs.List.{Contains, list_any}
use Rattle.std.proofs.lemmas.Bool.{both_ways}
use Rattle.jcl_plan.specs.declared.entry.JobLine.{JobLine}
use Rattle.jcl_meaning.specs.declared.state.Own.{Own}
use Rattle.jcl_meaning.specs.declared.state.Place.{Place}
use Rattle.jcl_meaning.specs.Acts.{act}
use Rattle.jcl_meaning.specs.Agendas.{Action, Ask, Dispose, Finish, Left, Over, Receive, Start, Take}
use Rattle.jcl_meaning.specs.RequestActs.{head_or}
use Rattle.jcl_meaning.specs.States.{Answers, Fixed, State}
use Rattle.world_meaning.specs.Turns.{Advanced, advance, unless_silent}
use Rattle.law_core.proofs.Elements.{contains_first, contains_later}
use Rattle.case_laws.specs.Cases.{AreFair, MayMake}
use Rattle.case_laws.specs.Gains.{Gains, GainsNone, grows, none, one}
use Rattle.case_laws.proofs.Gained.{chained, unchanged}
use Rattle.case_laws.proofs.Gaining.{act_gains}

abbrev pub is_last : Action → Bool
is_last (Start n step) = false
is_last (Take n dd d) = false
is_last (Ask step move) = false
is_last Receive = false
is_last (Finish n) = false
is_last (Dispose n dd d) = false
is_last (Left n dd d) = false
is_last Over = true

-- the job's end writes a line
end_told : (fixed : Fixed) (a : Action) (s : State) → is_last a ≡ true → (act fixed a s).lines ≡ [] → ⊥
unfolding act
end_told fixed (Start n step) s e told = absurd cc
end_told fixed (Take n dd d) s e told = absurd cc
end_told fixed (Ask step move) s e told = absurd cc
end_told fixed Receive s e told = absurd cc
end_told fixed (Finish n) s e told = absurd cc
end_told fixed (Dispose n dd d) s e told = absurd cc
end_told fixed (Left n dd d) s e told = absurd cc
end_told fixed Over s e told = absurd cc

one_line : (lines : List JobLine) (line : JobLine) → lines ≡ [] → lines ≡ line ∷ [] → ⊥
one_line lines line e f = absurd cc

module _ (answers : Action → Own → Answers) (fixed : Fixed) where
  -- there is an action that writes
  pub turn_told : (actions : List Action) (s : State) (count : ℕ) → list_any is_last actions ≡ true →
      (x : Advanced) × (advance answers fixed actions s count ≡ Some x)
  unfolding advance
  turn_told [] s count e = absurd cc
  turn_told (a ∷ actions) s count e =
      by_lines (act fixed a (record s { answers = answers a s.own })).lines refl
      (λ more. turn_told actions (act fixed a (record s { answers = answers a s.own })).state (suc count) more)
    where
      by_last : (b : Bool) → is_last a ≡ b → (b ≡ true → ⊥) → list_any is_last (a ∷ actions) ≡ true → list_any is_last actions ≡ true
      by_last true f not e = absurd (not refl)
      by_last false f not e = subst (λ (b : Bool). (b || list_any is_last actions) ≡ true) f e

      by_lines : (lines : List JobLine) → (act fixed a (record s { answers = answers a s.own })).lines ≡ lines →
          (list_any is_last actions ≡ true →
          (x : Advanced) × (advance answers fixed actions (act fixed a (record s { answers = answers a s.own })).state (suc count) ≡ Some x)) →
          (x : Advanced) × (unless_silent lines
          (record {
            action = a;
            before = record s { answers = answers a s.own };
            done = act fixed a (record s { answers = answers a s.own });
            count = suc
                count;
          })
          (advance answers fixed actions (act fixed a (record s { answers = answers a s.own })).state (suc count)) ≡ Some x)
      by_lines (l ∷ ls) told more = (_, refl)
      by_lines [] told more =
          more (by_last (is_last a) refl (λ is. end_told fixed a (record s { answers = answers a s.own }) is told) e)

  module _ (refused : (a : Action) (own : Own) → head_or true (answers a own).grants ≡ false) where
    pub record Turned (actions : List Action) (s : State) (x : Advanced) : Type 0 where
      pub before : GainsNone s.store x.before.store
      pub answered : x.before.answers ≡ answers x.action x.before.own
      pub does : x.done ≡ act fixed x.action x.before
      pub among : Contains actions x.action
      pub makes : ((a : Action) (own : Own) → AreFair (answers a own)) → (p : Place) → Contains x.done.made p → MayMake fixed actions s.store s.own p

    pub turned : (actions : List Action) (s : State) (count : ℕ) (x : Advanced) → advance answers fixed actions s count ≡ Some x → Turned actions s x
    unfolding advance
    turned [] s count x e = absurd cc
    turned (a ∷ actions) s count x e =
        by_lines (act fixed a here).lines refl (turned actions (act fixed a here).state (suc count) x) e
      where
        here : State
        here = record s { answers = answers a s.own }

        behind : (act fixed a here).lines ≡ [] → Gains fixed a here (act fixed a here) → Turned actions (act fixed a here).state x →
            Turned (a ∷ actions) s x
        behind told (grows granted made) t = absurd (both_ways (head_or true here.answers.grants) (refused a s.own) granted)
        behind told (one m) t = absurd (one_line (act fixed a here).lines m.line told m.told)
        behind told (none g made) t = record {
          before = chained s.store (act fixed a here).state.store x.before.store g t.before;
          answered = t.answered;
          does = t.does;
          among = contains_later a x.action actions t.among;
          makes = λ fair p h. (answers a s.own, fair a s.own, inr (t.makes fair p h));
        }

        first : Turned (a ∷ actions) s (record { action = a; before = here; done = act fixed a here; count = suc count })
        first = record {
          before = unchanged s.store;
          answered = refl;
          does = refl;
          among = contains_first a actions;
          makes = λ fair p h. (answers a s.own, fair a s.own, inl h);
        }

        by_lines : (lines : List JobLine) → (act fixed a here).lines ≡ lines →
            (advance answers fixed actions (act fixed a here).state (suc count) ≡ Some x → Turned actions (act fixed a here).state x) →
            unless_silent lines (record { action = a; before = here; done = act fixed a here; count = suc count })
            (advance answers fixed actions (act fixed a here).state (suc count)) ≡ Some x → Turned (a ∷ actions) s x
        by_lines (l ∷ ls) told more e =
            let same : record { action = a; before = here; done = act fixed a here; count = suc count } ≡ x = cc in subst (Turned (a ∷ actions) s) same first
        by_lines [] told more e = behind told (act_gains fixed a here) (more e)
