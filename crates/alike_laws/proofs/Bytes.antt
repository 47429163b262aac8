-- Bytes that agree but for some places agree so with other bytes put in.
use Rattle.std.proofs.Common.{◌≡◌, ◌≤◌, ◌+◌, arith, ℕ, zero, suc, Bool, false, List, [], ◌∷◌, ◌++◌, length, take, drop, refl, ap}
use Rattle.std.specs.List.{list_any}
use Rattle.cb_meaning.specs.declared.layout.Layout.{Layout}
use Rattle.cb_meaning.specs.Fields.{byte_at, is_in, with_part}
use Rattle.world_meaning.specs.Records.{AgreeBut, open_fields}

-- the same bytes but at the places that are open
record Agree (is_open : ℕ → Bool) (r s : List ℕ) : Type 0 where
  size : length s ≡ length r
  bytes : (k : ℕ) → is_open k ≡ false → byte_at s k ≡ byte_at r k

-- behind the first byte
behind : (is_open : ℕ → Bool) (x y : ℕ) (r s : List ℕ) → Agree is_open (x ∷ r) (y ∷ s) → Agree (λ k. is_open (suc k)) r s
behind is_open x y r s a = record { size = let size = a.size in cc; bytes = λ k. a.bytes (suc k) }

-- with a byte more before them
before : (is_open : ℕ → Bool) (x y : ℕ) (r s : List ℕ) → (is_open 0 ≡ false → y ≡ x) → Agree (λ k. is_open (suc k)) r s → Agree is_open (x ∷ r) (y ∷ s)
before is_open x y r s first a = record { size = ap suc a.size; bytes = by }
  where
    by : (k : ℕ) → is_open k ≡ false → byte_at (y ∷ s) k ≡ byte_at (x ∷ r) k
    by zero out = first out
    by (suc k) out = a.bytes k out

-- these bytes from one place up to another
abbrev put : List ℕ → ℕ → ℕ → List ℕ → List ℕ
put r at to bytes = take at r ++ (bytes ++ drop to r)

-- the same bytes put in at the same place
put_same : (is_open : ℕ → Bool) (r s : List ℕ) (at to : ℕ) (bytes : List ℕ) → to ≡ at + length bytes → Agree is_open r s →
    Agree is_open (put r at to bytes) (put s at to bytes)
put_same is_open [] [] at to bytes e a = record { size = refl; bytes = λ k out. refl }
put_same is_open [] (y ∷ s) at to bytes e a = let size = a.size in absurd cc
put_same is_open (x ∷ r) [] at to bytes e a = let size = a.size in absurd cc
put_same is_open (x ∷ r) (y ∷ s) zero zero [] e a = a
put_same is_open (x ∷ r) (y ∷ s) zero (suc to) [] e a = absurd (omega (arith, e))
put_same is_open (x ∷ r) (y ∷ s) zero zero (b ∷ bytes) e a = absurd (omega (arith, e))
put_same is_open (x ∷ r) (y ∷ s) zero (suc to) (b ∷ bytes) e a =
    before is_open b b (bytes ++ drop to r) (bytes ++ drop to s) (λ out. refl)
    (put_same (λ k. is_open (suc k)) r s zero to bytes (omega (arith, e)) (behind is_open x y r s a))
put_same is_open (x ∷ r) (y ∷ s) (suc at) zero bytes e a = absurd (omega (arith, e))
put_same is_open (x ∷ r) (y ∷ s) (suc at) (suc to) bytes e a =
    before is_open x y (put r at to bytes) (put s at to bytes) (a.bytes 0)
    (put_same (λ k. is_open (suc k)) r s at to bytes (omega (arith, e)) (behind is_open x y r s a))

-- behind the bytes that are the queue's own
pub part_same : (l : Layout) (r s : List ℕ) (at : ℕ) (bytes : List ℕ) → 8 ≤ at → AgreeBut (open_fields l r) r s →
    AgreeBut (open_fields l (with_part r at bytes)) (with_part r at bytes) (with_part s at bytes)
part_same l [] [] at bytes from a = record { size = refl; bytes = λ k out. refl }
part_same l [] (y ∷ s) at bytes from a = let size = a.size in absurd cc
part_same l (x ∷ r) [] at bytes from a = let size = a.size in absurd cc
part_same l (x ∷ r) (y ∷ s) zero bytes from a = absurd (omega (arith, from))
part_same l (x ∷ r) (y ∷ s) (suc at) bytes from a =
    let b = put_same (λ k. list_any (λ f. is_in f k) (open_fields l (x ∷ r))) (x ∷ r) (y ∷ s) (suc at) (suc at + length bytes) bytes refl
    (record { size = a.size; bytes = a.bytes }) in
    record { size = b.size; bytes = b.bytes }
