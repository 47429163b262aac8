use Rattle.std.proofs.Common.{◌≡◌, ◌++◌, ◌-◌, drop, take}
use Rattle.jcl_meaning.specs.Programs.{continuing, members_at}
use Rattle.job_text.proofs.dds.members_end.Given as goal

-- those so far continue, and what is left decides on the others
abbrev pub invariant-loop-next : goal.invariant-loop-next
invariant-loop-next l = members_at (drop l.dd l.dds) ≡ take (l.next - l.dd) (drop l.dd l.dds) ++ continuing (drop l.next l.dds)
