use Rattle.std.proofs.Common.{◌≡◌, ◌<◌, get_or, arith}
use Rattle.cb_records.proofs.Bytes.{more_fits}
use Rattle.cb_records.proofs.rec.Rec.number.Goals as goal

pub overflow_mul-number : goal.overflow_mul-number
overflow_mul-number c =
    let below = more_fits c.loop-byte.byte-index c.loop-byte.number 0 (let size = c.text-byte-items.ensures.size in
    omega arith) c.loop-byte.invariant.small (omega arith) in
    omega arith

pub overflow_add-number : goal.overflow_add-number
overflow_add-number c =
    let byte : get_or c.text-byte-items.result.now c.loop-byte.byte-index 0 < 256 = omega (arith, c.type_inv.byte-items c.loop-byte.byte-index) in
    let is : c.from.result ≡ get_or c.text-byte-items.result.now c.loop-byte.byte-index 0 = c.from.ensures in
    let below = more_fits c.loop-byte.byte-index c.loop-byte.number c.from.result (let size = c.text-byte-items.ensures.size in
    omega arith) c.loop-byte.invariant.small (omega arith) in
    omega arith
