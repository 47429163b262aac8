-- The array is the text, and zeros behind it.
use Rattle.std.proofs.Common.{◌≡◌, ◌-◌, ◌≤◌, ◌++◌, List, length, take, drop, replicate, ℕ, arith, refl, length-append}
use Rattle.std.proofs.lemmas.List.{drop-replicate, length-replicate}
use Rattle.std.proofs.Math.Seq.{take-append_seam}
use Rattle.plain.proofs.short.Short.new.Goals as goal

pub record IsFilled (room len : ℕ) (bytes : List ℕ) : Type 0 where
  pub fits : len ≤ room
  pub whole : length bytes ≡ room
  pub zeros : bytes ≡ take len bytes ++ replicate (room - len) 0

filled : (room : ℕ) (text : List ℕ) → length text ≤ room → IsFilled room (length text) (text ++ drop (length text) (replicate room 0))
filled room text h = rw (drop-replicate {X = ℕ} (length text) room 0) (record {
  fits = h;
  whole = omega (arith, length-append text (replicate (room - length text) 0), length-replicate {A = ℕ} (room - length text) 0);
  zeros = rw (take-append_seam text (replicate (room - length text) 0)) refl;
})

pub invariant_of-result : goal.invariant_of-result
invariant_of-result g c = rw c.copy_from_slice.ensures.after (
    let is : IsFilled _ _ _ = filled g.row.N c.args.text.now c.requires in (is.fits, is.whole, is.zeros))
