use Rattle.std.proofs.Common.{◌≡◌, drop, length}
use Rattle.cb_meaning.specs.declared.layout.TheConstants.{RECORD_BYTES}
use Rattle.cb_meaning.specs.Fields.{is_zero_but}
use Rattle.cb_walk.proofs.fields.is_zero_but.Given as goal

-- the fields that are left decide over the copy
abbrev pub invariant-loop-f : goal.invariant-loop-f
invariant-loop-f l = record {
  size : length l.own ≡ RECORD_BYTES;
  left : is_zero_but (drop l.f-index l.named) l.own ≡ is_zero_but l.named l.r;
}
