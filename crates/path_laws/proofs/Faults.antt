-- Where the faults of a run are met.
use Rattle.std.proofs.Common.{◌<◌, suc, List, [], ◌∷◌, length, map, Option, Some, None, arith}
use Rattle.std.specs.Prelude.{All}
use Rattle.std.proofs.lemmas.List.Elements.{All-cons, All-map, All-nil, All-weaker}
use Rattle.jcl_plan.specs.declared.fault.Fault.{Fault}
use Rattle.jcl_meaning.specs.Acts.{act}
use Rattle.jcl_meaning.specs.Agendas.{Action}
use Rattle.jcl_meaning.specs.Solo.{Met, later, met_first, run}
use Rattle.jcl_meaning.specs.States.{Fixed, State}

-- those of the actions behind the first, and one of the first
one_later : (actions : List Action) (faults : List Met) → All (λ met. met.place < length actions) faults →
    All (λ met. met.place < suc (length actions)) (map later faults)
one_later actions faults h =
    All-map (λ (met : Met). met.place < suc (length actions)) later faults
    (All-weaker (λ (met : Met). met.place < length actions) (λ (met : Met). suc met.place < suc (length actions)) (λ met below. omega arith) faults h)

one_more : (meets : Option Fault) (actions : List Action) (faults : List Met) → All (λ met. met.place < length actions) faults →
    All (λ met. met.place < suc (length actions)) (met_first meets (map later faults))
one_more None actions faults h = one_later actions faults h
one_more (Some fault) actions faults h =
    All-cons (λ (met : Met). met.place < suc (length actions)) (record { place = 0; fault = fault }) (map later faults) (omega arith)
    (one_later actions faults h)

pub met_within : (fixed : Fixed) (actions : List Action) (s : State) → All (λ met. met.place < length actions) (run fixed actions s).faults
unfolding run
met_within fixed [] s = All-nil (λ (met : Met). met.place < 0)
met_within fixed (a ∷ actions) s =
    one_more (act fixed a s).meets actions (run fixed actions (act fixed a s).state).faults (met_within fixed actions (act fixed a s).state)
