use Rattle.std.proofs.Common.{◌≡◌, ◌<◌, ◌^◌, take}
use Rattle.cb_meaning.specs.Fields.{number_of}
use Rattle.cb_records.proofs.rec.Rec.number.Given as goal

abbrev pub invariant-loop-byte : goal.invariant-loop-byte
invariant-loop-byte l = record { value : l.number ≡ number_of (take l.byte-index l.byte-items); small : l.number < 256 ^ l.byte-index }
