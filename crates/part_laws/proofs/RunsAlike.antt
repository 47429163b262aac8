-- From states alike, each action and each run does the same.
use Rattle.std.proofs.Common.{◌++◌, List, [], ◌∷◌, map, refl, subst}
use Rattle.jcl_meaning.specs.declared.names.HeldName.{HeldName}
use Rattle.jcl_meaning.specs.declared.state.Own.{Own}
use Rattle.jcl_meaning.specs.Acts.{act}
use Rattle.jcl_meaning.specs.Agendas.{Action}
use Rattle.jcl_meaning.specs.Parts.{SamePart}
use Rattle.jcl_meaning.specs.Solo.{later, met_first, run}
use Rattle.jcl_meaning.specs.States.{Answers, Fixed, State}
use Rattle.jcl_meaning.specs.Stores.{Store}
use Rattle.part_laws.specs.Alike.{Alike, AlikeDone, AlikeRun}
use Rattle.part_laws.specs.Fits.{Fits}
use Rattle.part_laws.proofs.ActsFit.{act_fits}
use Rattle.part_laws.proofs.EndsAlike.{dispose_alike, finished_alike, left_alike}
use Rattle.part_laws.proofs.RequestsAlike.{asked_alike, received_alike}
use Rattle.part_laws.proofs.TakesAlike.{at, goes_alike, if_runs_alike, take_alike}

-- where the states have one own state and one list of answers
one_alike : (names : List HeldName) (fixed : Fixed) (a : Action) (rest : List Action) (s t : Store) (own : Own) (answers : Answers) → SamePart names s t →
    Fits names fixed.meanings (a ∷ rest) own → AlikeDone names (act fixed a (at s own answers)) (act fixed a (at t own answers))
unfolding act
one_alike names fixed (Action.Start n step) rest s t own answers p h = goes_alike names s t _ _ answers p
one_alike names fixed (Action.Take n dd d) rest s t own answers p h =
    if_runs_alike names own.runs s t own answers _ _ p (λ runs. take_alike names s t p own answers fixed n dd d.name d.kind h.ahead.2)
one_alike names fixed (Action.Ask step m) rest s t own answers p h = asked_alike names fixed.meanings h.step s t p own answers h.dds h.taken step m h.ahead.0
one_alike names fixed Action.Receive rest s t own answers p h = received_alike names fixed.meanings h.step s t p own answers h.dds h.taken
one_alike names fixed (Action.Finish n) rest s t own answers p h = finished_alike names s t p own answers n
one_alike names fixed (Action.Dispose n dd d) rest s t own answers p h =
    if_runs_alike names own.runs s t own answers _ _ p (λ runs. dispose_alike names s t p own answers fixed n dd d.name h.step h.dds (h.taken runs).each d.kind)
one_alike names fixed (Action.Left n dd d) rest s t own answers p h = left_alike names s t p own answers fixed n dd d.name d.kind h.ahead.0 h.passed
one_alike names fixed Action.Over rest s t own answers p h = goes_alike names s t _ own answers p

pub act_alike : (names : List HeldName) (fixed : Fixed) (a : Action) (rest : List Action) (s t : State) → Alike names s t →
    Fits names fixed.meanings (a ∷ rest) s.own → AlikeDone names (act fixed a s) (act fixed a t)
act_alike names fixed a rest s t e h =
    subst (λ (own : Own). AlikeDone names (act fixed a s) (act fixed a (at t.store own t.answers))) e.own
    (subst (λ (answers : Answers). AlikeDone names (act fixed a s) (act fixed a (at t.store s.own answers))) e.answers
    (one_alike names fixed a rest s.store t.store s.own s.answers e.part h))

pub run_alike : (names : List HeldName) (fixed : Fixed) (rest : List Action) (s t : State) → Alike names s t → Fits names fixed.meanings rest s.own →
    AlikeRun names (run fixed rest s) (run fixed rest t)
unfolding run
run_alike names fixed [] s t e h = record { lines = refl; faults = refl; made = refl; state = e }
run_alike names fixed (a ∷ rest) s t e h =
    let d : AlikeDone names (act fixed a s) (act fixed a t) = act_alike names fixed a rest s t e h in
    let r : AlikeRun names (run fixed rest (act fixed a s).state) (run fixed rest (act fixed a t).state)
    = run_alike names fixed rest (act fixed a s).state (act fixed a t).state d.state (act_fits names fixed a rest s h) in
    record {
      lines = λ i. d.lines i ++ r.lines i;
      faults = λ i. met_first (d.meets i) (map later (r.faults i));
      made = λ i. d.made i ++ r.made i;
      state = r.state;
    }

pub run_fits : (names : List HeldName) (fixed : Fixed) (done rest : List Action) (s : State) → Fits names fixed.meanings (done ++ rest) s.own →
    Fits names fixed.meanings rest (run fixed done s).state.own
unfolding run
run_fits names fixed [] rest s h = h
run_fits names fixed (a ∷ done) rest s h = run_fits names fixed done rest (act fixed a s).state (act_fits names fixed a (done ++ rest) s h)
