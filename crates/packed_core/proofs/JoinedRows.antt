-- A row beside the mask of a class of codes.
use Rattle.std.proofs.Common.{◌≡◌, ◌++◌, ◌∷◌, ◌∙◌, ◌+◌, ℕ, zero, suc, Bool, List, [], length, map, zip, refl, sym, ap, arith}
use Rattle.std.specs.Prelude.{◌||◌}
use Rattle.jcl_plan.specs.declared.outcome.Outcome.TheVariants as outcome
use Rattle.jcl_plan.specs.declared.plan.Test.{Test}
use Rattle.jcl_meaning.specs.History.{met_by}
use Rattle.view_core.specs.Bits.{bits_ended}
use Rattle.packed_core.specs.declared.room.Room.{Room}
use Rattle.packed_core.specs.Classes.{IsMask}
use Rattle.packed_core.specs.Words.{bit, bits_from, met_of}
use Rattle.packed_core.proofs.Rows.{length-bits}

-- bits, one by one beside others
abbrev pub beside : List Bool → List Bool → List Bool
beside xs ys = map (λ p. p.0 || p.1) (zip xs ys)

beside_append : (a b c d : List Bool) → length a ≡ length c → beside (a ++ b) (c ++ d) ≡ beside a c ++ beside b d
beside_append [] b [] d e = refl
beside_append [] b (y ∷ c) d e = absurd cc
beside_append (x ∷ a) b [] d e = absurd cc
beside_append (x ∷ a) b (y ∷ c) d e = ap (λ l. (x || y) ∷ l) (beside_append a b c d (let g : length a ≡ length c = omega (arith, e) in g))

beside_tests : (f : Test → Bool) (tests : List Test) (bits : List Bool) → beside (map f tests) bits ≡ map (λ p. f p.0 || p.1) (zip tests bits)
beside_tests f [] bits = refl
beside_tests f (t ∷ tests) [] = refl
beside_tests f (t ∷ tests) (b ∷ bits) = ap (λ l. (f t || b) ∷ l) (beside_tests f tests bits)

module _ (row mask all : List ℕ) (each : (k : ℕ) → bit all k ≡ (bit mask k || bit row k)) where
  joined_from : (n s : ℕ) → bits_from n s all ≡ beside (bits_from n s mask) (bits_from n s row)
  joined_from zero s = refl
  joined_from (suc n) s = λ i. each s i ∷ joined_from n (suc s) i

  pub joined_met : (room : Room) → met_of room all ≡ beside (met_of room mask) (met_of room row)
  joined_met room =
      let behind : ℕ = room.job + room.passed + 1 in
      (λ i. joined_from room.job 1 i ++ joined_from room.left behind i)
      ∙ sym (beside_append (bits_from room.job 1 mask) (bits_from room.left behind mask) (bits_from room.job 1 row) (bits_from room.left behind row)
      (length-bits room.job 1 mask ∙ sym (length-bits room.job 1 row)))

  -- the tests are met that step n meets, which ended by a code of the class, and those that were met before
  pub joined_ended : (n : ℕ) (tests : List Test) (room : Room) (code : ℕ) → IsMask n tests room code mask →
      met_of room all ≡ bits_ended n (outcome.Code code) tests (met_of room row)
  joined_ended n tests room code is =
      joined_met room ∙ ap (λ bits. beside bits (met_of room row)) is.met
      ∙ beside_tests (λ t. met_by t n (outcome.Code code)) tests (met_of room row)

  pub joined_calm : (n : ℕ) (tests : List Test) (room : Room) (code : ℕ) → IsMask n tests room code mask → bit all 0 ≡ bit row 0
  joined_calm n tests room code is = each 0 ∙ ap (λ b. b || bit row 0) is.calm
