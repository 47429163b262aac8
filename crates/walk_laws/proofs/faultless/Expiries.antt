-- The day of a set in its JFCB: what is read is what is spelled.
use Rattle.std.proofs.Common.{◌≡◌, ℕ, zero, suc, ◌≤◌, ◌==◌, false, ◌&&◌, ◌||◌, refl, arith}
use Rattle.std.specs.Prelude.{nat_lt}
use Rattle.std.proofs.lemmas.Bool.{ltb-false, or_parts}
use Rattle.cb_meaning.specs.declared.layout.TheConstants.{LAST_DAY, MOST_DAYS}
use Rattle.cb_meaning.specs.Codes.{expiry_code, expiry_number}
use Rattle.cb_meaning.specs.Readings.{expiry_read}
use Rattle.cb_meaning.specs.Walks.{is_no_expiry}
use Rattle.cb_meaning.specs.Writable.{IsExpiry}

none_there : (n : ℕ) → nat_lt 0 n ≡ false → n ≡ 0
none_there n h = let low : n ≤ 0 = ltb-false 0 n h in omega (arith, low)

pub record IsExpiryOf (kind days : ℕ) : Type 0 where
  pub kind_is : kind ≡ expiry_code (expiry_read kind days)
  pub days_are : days ≡ expiry_number (expiry_read kind days)
  pub fits : IsExpiry (expiry_read kind days)

pub expiry_of : (kind days : ℕ) → is_no_expiry kind days ≡ false → IsExpiryOf kind days
expiry_of zero days h =
    let parts = or_parts (nat_lt 0 days || false) false h in
    let first = or_parts (nat_lt 0 days) false parts.0 in
    record { kind_is = refl; days_are = none_there days first.0; fits = tt }
expiry_of (suc zero) days h =
    let parts = or_parts (nat_lt LAST_DAY days) false h in
    record { kind_is = refl; days_are = refl; fits = ltb-false LAST_DAY days parts.0 }
expiry_of (suc (suc zero)) days h = record { kind_is = refl; days_are = refl; fits = ltb-false MOST_DAYS days h }
expiry_of (suc (suc (suc n))) days h =
    let kind = suc (suc (suc n)) in
    let last = or_parts (nat_lt 2 kind || (kind == 0 && nat_lt 0 days) || (kind == 1 && nat_lt LAST_DAY days)) (kind == 2 && nat_lt MOST_DAYS days) h in
    let second = or_parts (nat_lt 2 kind || (kind == 0 && nat_lt 0 days)) (kind == 1 && nat_lt LAST_DAY days) last.0 in
    let first = or_parts (nat_lt 2 kind) (kind == 0 && nat_lt 0 days) second.0 in
    let few : kind ≤ 2 = ltb-false 2 kind first.0 in
    absurd (omega (arith, few))
