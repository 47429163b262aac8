-- Requests by their places, and the moves before the end.
use Rattle.std.proofs.Common.{◌≡◌, ℕ, zero, suc, ◌+◌, ◌<◌, ◌≤◌, true, false, List, [], ◌∷◌, length, Option, Some, None, slice_get, ap, arith, refl}
use Rattle.jcl_meaning.specs.declared.program.Move.{Move}
use Rattle.jcl_meaning.specs.declared.program.Request.{Request}
use Rattle.jcl_meaning.specs.declared.program.Request.TheVariants.{Get, Put, End, Abend}
use Rattle.jcl_meaning.specs.Programs.{ending_in, moves_in}
use Rattle.prog_core.specs.Moves.{ending_by, is_move, move_by}

-- what a request asks for, if there is one
abbrev pub asked : Option Request → Option Move
asked None = None
asked (Some request) = move_by request

-- before the end each request is the move of its place
pub move_there : (requests : List Request) (n : ℕ) → n < length (moves_in requests) → asked (slice_get requests n) ≡ slice_get (moves_in requests) n
move_there [] n lt = absurd (omega (arith, lt))
move_there (Get dd ∷ requests) zero lt = refl
move_there (Get dd ∷ requests) (suc n) lt = move_there requests n (omega (arith, lt))
move_there (Put dd text ∷ requests) zero lt = refl
move_there (Put dd text ∷ requests) (suc n) lt = move_there requests n (omega (arith, lt))
move_there (End code ∷ requests) n lt = absurd (omega (arith, lt))
move_there (Abend code ∷ requests) n lt = absurd (omega (arith, lt))

-- one more move, where all before it are moves
pub one_more_move : (requests : List Request) (n : ℕ) → n ≤ length (moves_in requests) → is_move (slice_get requests n) ≡ true →
    n + 1 ≤ length (moves_in requests)
one_more_move [] n le is = absurd cc
one_more_move (Get dd ∷ requests) zero le is = omega arith
one_more_move (Get dd ∷ requests) (suc n) le is = omega (arith, one_more_move requests n (omega (arith, le)) is)
one_more_move (Put dd text ∷ requests) zero le is = omega arith
one_more_move (Put dd text ∷ requests) (suc n) le is = omega (arith, one_more_move requests n (omega (arith, le)) is)
one_more_move (End code ∷ requests) zero le is = absurd cc
one_more_move (End code ∷ requests) (suc n) le is = absurd (omega (arith, le))
one_more_move (Abend code ∷ requests) zero le is = absurd cc
one_more_move (Abend code ∷ requests) (suc n) le is = absurd (omega (arith, le))

-- and no more, where there is none
pub moves_counted : (requests : List Request) (n : ℕ) → n ≤ length (moves_in requests) → is_move (slice_get requests n) ≡ false → n ≡ length (moves_in requests)
moves_counted [] n le is = omega (arith, le)
moves_counted (Get dd ∷ requests) zero le is = absurd cc
moves_counted (Get dd ∷ requests) (suc n) le is = ap suc (moves_counted requests n (omega (arith, le)) is)
moves_counted (Put dd text ∷ requests) zero le is = absurd cc
moves_counted (Put dd text ∷ requests) (suc n) le is = ap suc (moves_counted requests n (omega (arith, le)) is)
moves_counted (End code ∷ requests) n le is = omega (arith, le)
moves_counted (Abend code ∷ requests) n le is = omega (arith, le)

pub few_moves : (requests : List Request) → length (moves_in requests) ≤ length requests
few_moves [] = omega arith
few_moves (Get dd ∷ requests) = omega (arith, few_moves requests)
few_moves (Put dd text ∷ requests) = omega (arith, few_moves requests)
few_moves (End code ∷ requests) = omega arith
few_moves (Abend code ∷ requests) = omega arith

-- the request after the moves tells the end
pub ending_there : (requests : List Request) → ending_by (slice_get requests (length (moves_in requests))) ≡ ending_in requests
ending_there [] = refl
ending_there (Get dd ∷ requests) = ending_there requests
ending_there (Put dd text ∷ requests) = ending_there requests
ending_there (End code ∷ requests) = refl
ending_there (Abend code ∷ requests) = refl
