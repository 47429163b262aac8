-- How a walk goes on: from the marks and the walk at one place to those at another. (This profile)
use Rattle.std.specs.Prelude.{◌≡◌, ℕ, suc, ◌≤◌, Bool, List, Result, Ok, Err}
use Rattle.cb_meaning.specs.Walks.{walk_cards}
use Rattle.cb_queue.specs.RecordQueues.{RecordQueue, shown}
use Rattle.cb_walk.specs.Marks.{AreMarked}

-- a walk from those that were met
abbrev pub From : Type 0 → Type 0
From A = List ℕ → Result A ℕ

-- the walk from here answers what the one from there does
abbrev pub Follows : {A : Type 0} → List ℕ → List ℕ → From A → From A → Type 0
Follows marks later here there = (seen : List ℕ) → AreMarked marks seen → (met : List ℕ) × AreMarked later met × (here seen ≡ there met)

-- the walk from here ends with a fault
abbrev pub Refuses : {A : Type 0} → List ℕ → From A → ℕ → Type 0
Refuses marks here fault = (seen : List ℕ) → AreMarked marks seen → here seen ≡ Err fault

-- the walk ends, with all marked that was met, or with a fault
abbrev pub Ends : List ℕ → List ℕ → From (List ℕ) → Result (Unit {0}) ℕ → Type 0
Ends marks later here (Ok x) = Follows marks later here (λ met. Ok met)
Ends marks later here (Err fault) = Refuses marks here fault

-- one record of cards
abbrev pub cards_from : RecordQueue → ℕ → ℕ → ℕ → ℕ → ℕ → From (List ℕ)
cards_from q job fuel stated read n = λ seen. walk_cards q.layout (shown q) job fuel stated read seen n

pub record PassesCards (q : RecordQueue) (job stated read n : ℕ) (marks later : List ℕ) (more next : ℕ) : Type 0 where
  pub within : more ≤ stated
  pub follows : (fuel : ℕ) → Follows marks later (cards_from q job (suc fuel) stated read n) (cards_from q job fuel stated more next)

abbrev pub Passes : RecordQueue → ℕ → ℕ → ℕ → ℕ → List ℕ → List ℕ → Result (ℕ × ℕ) ℕ → Type 0
Passes q job stated read n marks later (Ok p) = PassesCards q job stated read n marks later p.0 p.1
Passes q job stated read n marks later (Err fault) = (fuel : ℕ) → Refuses marks (cards_from q job (suc fuel) stated read n) fault
