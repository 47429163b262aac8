use Rattle.jcl_meaning.specs.Programs.{taken_at}
use Rattle.part_laws.proofs.SameReads.{each_seen, same_but_for_tracks, same_catalogued, same_disposed, same_group, same_if_alone, same_member, same_sources, same_volume, same_where}
use Rattle.part_laws.proofs.equal_reads.Goals as goal

pub returns : goal.returns
returns c = λ names s t p. record {
  alone = same_if_alone names s t p;
  seen = same_but_for_tracks names s t p;
  group = same_group names s t p;
  member = same_member names s t p;
  volume = same_volume names s t p;
  catalogued = same_catalogued names s t p;
  where_found = same_where names s t p;
  sources = λ dds xs n h. same_sources names s t p dds xs n (λ k. each_seen names (taken_at xs k) (h k));
  disposed = same_disposed names s t p;
}
