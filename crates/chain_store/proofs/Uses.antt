-- What is done to a record in use, by its number.
use Rattle.std.proofs.Common.{◌≡◌, ◌≢◌, ℕ, suc, ◌-◌, ◌<◌, length, true, arith, sym, subst}
use Rattle.std.specs.Prelude.{is_some}
use Rattle.cb_queue.specs.RecordQueues.{owner_at, record_at}
use Rattle.cb_queue.proofs.Storing as storing
use Rattle.chain_store.specs.Chained.{AreChained, Tables, queue_in}
use Rattle.chain_store.proofs.Ops.{used_there}

module _ (t : Tables) (h : AreChained t) (n : ℕ) (used : is_some (record_at (queue_in t) n) ≡ true) where
  pub number : suc (n - 1) ≡ n
  number = let k = storing.used_number (queue_in t) n used in omega (arith, k.0)

  pub used_at : is_some (record_at (queue_in t) (suc (n - 1))) ≡ true
  used_at = subst (λ m. is_some (record_at (queue_in t) m) ≡ true) (sym number) used

  pub owner_place : n - 1 < length t.owners
  owner_place = used_there t h (n - 1) used_at

  pub record_place : n - 1 < length t.records
  record_place = let here = owner_place in let room = h.room in omega (arith, here, room)

  pub is_owned : owner_at (queue_in t) n ≢ 0
  is_owned = storing.owned_record t.layout (record_at (queue_in t) n) (h.sound.in_use n) used
