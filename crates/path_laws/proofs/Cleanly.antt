-- Actions that meet no fault, and the state behind them.
use Rattle.std.proofs.Common.{◌≡◌, ◌==◌, ◌++◌, arith, true, List, [], ◌∷◌, length, map, Option, Some, None, refl, sym, ap, ◌∙◌, eqb-true}
use Rattle.std.proofs.lemmas.List.{length-map}
use Rattle.jcl_plan.specs.declared.fault.Fault.{Fault}
use Rattle.jcl_meaning.specs.Acts.{act}
use Rattle.jcl_meaning.specs.Agendas.{Action}
use Rattle.jcl_meaning.specs.Solo.{Met, is_clean, later, met_first, run}
use Rattle.jcl_meaning.specs.States.{Fixed, State}

abbrev pub after : Fixed → List Action → State → State
after fixed [] s = s
after fixed (a ∷ actions) s = after fixed actions (act fixed a s).state

abbrev pub Clean : Fixed → List Action → State → Type 0
Clean fixed [] s = Unit {0}
Clean fixed (a ∷ actions) s = ((act fixed a s).meets ≡ None) × Clean fixed actions (act fixed a s).state

pub after_append : (fixed : Fixed) (xs ys : List Action) (s : State) → after fixed (xs ++ ys) s ≡ after fixed ys (after fixed xs s)
after_append fixed [] ys s = refl
after_append fixed (x ∷ xs) ys s = after_append fixed xs ys (act fixed x s).state

pub clean_join : (fixed : Fixed) (xs ys : List Action) (s : State) → Clean fixed xs s → Clean fixed ys (after fixed xs s) → Clean fixed (xs ++ ys) s
clean_join fixed [] ys s h g = g
clean_join fixed (x ∷ xs) ys s h g = (h.0, clean_join fixed xs ys (act fixed x s).state h.1 g)

pub clean_split : (fixed : Fixed) (xs ys : List Action) (s : State) → Clean fixed (xs ++ ys) s → Clean fixed xs s × Clean fixed ys (after fixed xs s)
clean_split fixed [] ys s h = (tt, h)
clean_split fixed (x ∷ xs) ys s h =
    let both : Clean fixed xs (act fixed x s).state × Clean fixed ys (after fixed xs (act fixed x s).state) = clean_split fixed xs ys (act fixed x s).state h.1 in
    ((h.0, both.0), both.1)

-- a clean run is of such actions
parts : (m : Option Fault) (rest : List Met) → (length (met_first m (map later rest)) == 0) ≡ true → (m ≡ None) × ((length rest == 0) ≡ true)
parts None rest h = (refl, ap (λ n. n == 0) (sym (length-map rest later)) ∙ h)
parts (Some f) rest h =
    let e : length (met_first (Some f) (map later rest)) ≡ 0 = eqb-true (length (met_first (Some f) (map later rest))) 0 h in
    absurd (omega arith)

pub run_is_clean : (fixed : Fixed) (actions : List Action) (s : State) → is_clean (run fixed actions s) ≡ true → Clean fixed actions s
unfolding run
run_is_clean fixed [] s h = tt
run_is_clean fixed (a ∷ actions) s h =
    let both : ((act fixed a s).meets ≡ None) × ((length (run fixed actions (act fixed a s).state).faults == 0) ≡ true) =
    parts (act fixed a s).meets (run fixed actions (act fixed a s).state).faults h in
    (both.0, run_is_clean fixed actions (act fixed a s).state both.1)

none_met : (m : Option Fault) (rest : List Met) → m ≡ None → (length rest == 0) ≡ true → (length (met_first m (map later rest)) == 0) ≡ true
none_met None rest e h = ap (λ n. n == 0) (length-map rest later) ∙ h
none_met (Some f) rest e h = absurd cc

pub clean_is_run : (fixed : Fixed) (actions : List Action) (s : State) → Clean fixed actions s → is_clean (run fixed actions s) ≡ true
unfolding run
clean_is_run fixed [] s h = refl
clean_is_run fixed (a ∷ actions) s h =
    none_met (act fixed a s).meets (run fixed actions (act fixed a s).state).faults h.0 (clean_is_run fixed actions (act fixed a s).state h.1)
