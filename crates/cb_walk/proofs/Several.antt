-- Bytes in parts, and the bytes of a record one by one.
use Rattle.std.proofs.Common.{◌≡◌, ℕ, zero, suc, ◌-◌, ◌<◌, ◌==◌, Bool, ◌&&◌, ◌||◌, List, take, drop, refl, arith}
use Rattle.std.proofs.lemmas.Bool.{lt-ltb}
use Rattle.std.specs.Prelude.{nat_lt}
use Rattle.std.specs.List.{list_all, list_any}
use Rattle.cb_meaning.specs.Walks.{are_zero, in_parts}

one_less : (n : ℕ) → suc n - 1 ≡ n
one_less n = omega arith

-- one part more
pub any_more : (p : List ℕ → Bool) (count parts width : ℕ) (bytes : List ℕ) → 0 < count → 0 < parts →
    list_any p (take count (in_parts parts width bytes))
    ≡ (p (take width bytes) || list_any p (take (count - 1) (in_parts (parts - 1) width (drop width bytes))))
any_more p zero parts width bytes h k = absurd (omega arith)
any_more p (suc count) zero width bytes h k = absurd (omega arith)
any_more p (suc count) (suc parts) width bytes h k =
    rw (one_less count) (rw (one_less parts) refl)

pub zero_more : (count parts width : ℕ) (bytes : List ℕ) → 0 < parts →
    are_zero (drop count (in_parts parts width bytes))
    ≡ ((nat_lt 0 count || list_all (λ b. b == 0) (take width bytes)) && are_zero (drop (count - 1) (in_parts (parts - 1) width (drop width bytes))))
zero_more count zero width bytes k = absurd (omega arith)
zero_more zero (suc parts) width bytes k = rw (one_less parts) refl
zero_more (suc count) (suc parts) width bytes k = rw (one_less count) (rw (one_less parts) (rw (lt-ltb 0 (suc count) (omega arith)) refl))
