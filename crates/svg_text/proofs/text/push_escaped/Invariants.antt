use Rattle.std.proofs.Common.{◌≡◌, ◌++◌, drop}
use Rattle.svg_text.specs.Elements.{escaped}
use Rattle.svg_text.proofs.text.push_escaped.Given as goal

-- what is written and what is left are the whole
abbrev pub invariant-loop-byte : goal.invariant-loop-byte
invariant-loop-byte l = record {
  kept : l.out.kept ≡ l.fn.out.kept;
  whole : l.out.begun ++ escaped (drop l.byte-index l.text) ≡ l.fn.out.begun ++ escaped l.text;
}
