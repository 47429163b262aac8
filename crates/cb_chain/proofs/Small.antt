-- Numbers that fit their fields.
use Rattle.std.proofs.Common.{ℕ, zero, suc, ◌≤◌, ◌<◌, ◌^◌, arith}

-- a number of four bytes at most is one of 32 bits
pub small_power : (w n : ℕ) → w ≤ 4 → n < 256 ^ w → n < 4294967296
small_power zero n h p = let small : n < 1 = p in omega arith
small_power (suc zero) n h p = let small : n < 256 = p in omega arith
small_power (suc (suc zero)) n h p = let small : n < 65536 = p in omega arith
small_power (suc (suc (suc zero))) n h p = let small : n < 16777216 = p in omega arith
small_power (suc (suc (suc (suc zero)))) n h p = let small : n < 4294967296 = p in small
small_power (suc (suc (suc (suc (suc w))))) n h p = absurd (omega arith)
