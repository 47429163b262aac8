-- The walk over the DDs of a step. (This profile)
use Rattle.std.specs.Prelude.{ℕ, ◌-◌, Bool, List, [], ◌∷◌, ◌++◌, Result, Ok, Err}
use Rattle.cb_meaning.specs.Walks.{walk_dds}
use Rattle.cb_queue.specs.RecordQueues.{RecordQueue, shown}
use Rattle.cb_walk.specs.Follows.{Follows, From, Refuses}

abbrev pub dds_from : RecordQueue → ℕ → ℕ → ℕ → ℕ → List (List Bool) → List Bool → ℕ → From (List Bool × List ℕ)
dds_from q units job fuel stated steps dds n = λ seen. walk_dds q.layout units (shown q) job fuel stated steps dds seen n

-- one DD: whether it is a set, and the number of the next one's SIOT
abbrev pub PassesDd : RecordQueue → ℕ → ℕ → ℕ → List (List Bool) → List Bool → ℕ → List ℕ → List ℕ → Result (Bool × ℕ) ℕ → Type 0
PassesDd q units job left steps dds n marks later (Ok p) =
    (stated : ℕ) → Follows marks later (dds_from q units job left stated steps dds n) (dds_from q units job (left - 1) stated steps (dds ++ p.0 ∷ []) p.1)
PassesDd q units job left steps dds n marks later (Err fault) = (stated : ℕ) → Refuses marks (dds_from q units job left stated steps dds n) fault

-- the walk ends, with which DDs are sets and all marked that was met, or with a fault
abbrev pub EndsDds : List ℕ → List ℕ → From (List Bool × List ℕ) → Result (List Bool) ℕ → Type 0
EndsDds marks later here (Ok dds) = Follows marks later here (λ met. Ok (dds, met))
EndsDds marks later here (Err fault) = Refuses marks here fault
