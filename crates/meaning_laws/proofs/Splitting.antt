-- Two lists of actions, one after the other.
use Rattle.std.proofs.Common.{◌≡◌, ◌+◌, ◌++◌, ℕ, List, [], ◌∷◌, Option, Some, None, map, length, refl, sym, ap, ◌∙◌, zero-add, arith}
use Rattle.std.specs.Prelude.{suc}
use Rattle.jcl_plan.specs.declared.fault.Fault.{Fault}
use Rattle.jcl_meaning.specs.Acts.{act}
use Rattle.jcl_meaning.specs.Agendas.{Action}
use Rattle.jcl_meaning.specs.Solo.{Met, Ran, later, met_first, run, then_ran}
use Rattle.jcl_meaning.specs.States.{Done, Fixed, State}
use Rattle.meaning_laws.specs.Laws.{behind, joined}
use Rattle.std.proofs.Common.{append_assoc}

behind_none : (ms : List Met) → ms ≡ map (behind 0) ms
behind_none [] = refl
behind_none (m ∷ ms) = λ i. record { place = sym (zero-add m.place) i; fault = m.fault } ∷ behind_none ms i

later_behind : (count : ℕ) (ms : List Met) → map later (map (behind count) ms) ≡ map (behind (suc count)) ms
later_behind count [] = refl
later_behind count (m ∷ ms) =
    let at : suc (count + m.place) ≡ suc count + m.place = omega arith in
    λ i. record { place = at i; fault = m.fault } ∷ later_behind count ms i

later_append : (xs ys : List Met) → map later (xs ++ ys) ≡ map later xs ++ map later ys
later_append [] ys = refl
later_append (x ∷ xs) ys = λ i. later x ∷ later_append xs ys i

first_append : (fault : Option Fault) (xs ys : List Met) → met_first fault (xs ++ ys) ≡ met_first fault xs ++ ys
first_append None xs ys = refl
first_append (Some fault) xs ys = refl

-- an action before two runs
then_joined : (done : Done) (count : ℕ) (a b : Ran) → then_ran done (λ t. joined count a b) ≡ joined (suc count) (then_ran done (λ t. a)) b
then_joined done count a b =
    let faults : met_first done.meets (map later (a.faults ++ map (behind count) b.faults)) ≡ met_first done.meets (map later a.faults) ++ map (behind (suc count)) b.faults =
    ap (met_first done.meets) (later_append a.faults (map (behind count) b.faults) ∙ ap (λ ms. map later a.faults ++ ms) (later_behind count b.faults))
    ∙ first_append done.meets (map later a.faults) (map (behind (suc count)) b.faults) in
    λ i. record {
      lines = sym (append_assoc done.lines a.lines b.lines) i;
      state = b.state;
      faults = faults i;
      made = sym (append_assoc done.made a.made b.made) i;
    }

pub run_splits : (fixed : Fixed) (xs ys : List Action) (s : State) → run fixed (xs ++ ys) s ≡ joined (length xs) (run fixed xs s) (run fixed ys (run fixed xs s).state)
unfolding run
run_splits fixed [] ys s = let r : Ran = run fixed ys s in λ i. record { lines = r.lines; state = r.state; faults = behind_none r.faults i; made = r.made }
run_splits fixed (x ∷ xs) ys s =
    ap (λ (r : Ran). then_ran (act fixed x s) (λ t. r)) (run_splits fixed xs ys (act fixed x s).state)
    ∙ then_joined (act fixed x s) (length xs) (run fixed xs (act fixed x s).state) (run fixed ys (run fixed xs (act fixed x s).state).state)
