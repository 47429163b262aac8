use Rattle.std.proofs.Common.{◌≡◌, flat_map, take}
use Rattle.jcl_plan.specs.Lines.{text_of}
use Rattle.session_core.proofs.listing.write_lines.Given as goal

abbrev pub invariant-loop-entry : goal.invariant-loop-entry
invariant-loop-entry l = record {
  kept : l.text.kept ≡ l.fn.text.kept;
  begun : l.text.begun ≡ flat_map text_of (take l.entry-index l.entries);
}
