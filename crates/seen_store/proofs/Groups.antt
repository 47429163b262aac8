-- A number that is not there leaves a group as it is.
use Rattle.std.proofs.Common.{◌≡◌, ℕ, Bool, true, false, ◌==◌, cond, List, [], ◌∷◌, Some, None, refl, ap}
use Rattle.group_core.specs.declared.group.Generation.{Generation}
use Rattle.group_core.specs.Groups.{serial_of, without}

without_step : (b : Bool) (g : Generation) (gs : List Generation) (n : ℕ) → (serial_of gs n ≡ None → without gs n ≡ gs) →
    cond b (Some g.serial) (serial_of gs n) ≡ None → cond b gs (g ∷ without gs n) ≡ g ∷ gs
without_step true g gs n ih h = absurd cc
without_step false g gs n ih h = ap (λ xs. g ∷ xs) (ih h)

pub without-absent : (gs : List Generation) (n : ℕ) → serial_of gs n ≡ None → without gs n ≡ gs
without-absent [] n h = refl
without-absent (g ∷ gs) n h = without_step (g.number == n) g gs n (without-absent gs n) h
