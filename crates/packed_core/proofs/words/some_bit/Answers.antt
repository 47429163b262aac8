use Rattle.std.proofs.Common.{◌∙◌, arith, sym, false}
use Rattle.std.specs.Prelude.{◌||◌}
use Rattle.packed_core.proofs.Bits.{any_found, any_more}
use Rattle.packed_core.proofs.words.some_bit.Goals as goal

pub returns-then-bit_of : goal.returns-then-bit_of
returns-then-bit_of c = sym (any_found c.loop-i.i c.args.count c.args.from c.args.row.now (omega arith) (sym c.bit_of.ensures ∙ c.if-bit_of.true))

pub loop-i-preserved : goal.loop-i-preserved
loop-i-preserved c =
    any_more c.loop-i.i c.args.from c.args.row.now
    ∙ (λ k. c.loop-i.invariant k || ((sym c.bit_of.ensures ∙ c.if-bit_of.false) k || false))
