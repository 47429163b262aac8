use Rattle.std.proofs.Common.{true}
use Rattle.part_laws.proofs.SameReads.{both_there, same_but_for_tracks}
use Rattle.part_laws.proofs.SameWrites.{same_appended, same_change, same_entry, same_release, same_there_written, same_written}
use Rattle.part_laws.proofs.equal_writes.Goals as goal

pub returns : goal.returns
returns c = λ names s t p. record {
  set = same_written names s t p;
  set_there = λ key serial set h.
      same_there_written names s t p key serial set (s.set key serial) (t.set key serial)
      (both_there (s.set key serial) (t.set key serial) (same_but_for_tracks names s t p key serial h));
  entry = same_entry names s t p;
  record_put = same_appended names s t p;
  change = same_change names s t p;
  release = same_release names s t p true;
}
