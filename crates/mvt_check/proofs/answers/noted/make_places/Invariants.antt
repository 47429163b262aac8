use Rattle.std.proofs.Common.{◌≡◌, ℕ, ◌≤◌, None, get_or, length}
use Rattle.mvt_check.proofs.answers.noted.make_places.Given as goal

abbrev pub invariant-loop-place : goal.invariant-loop-place
invariant-loop-place l = record {
  long : l.place ≤ length l.by_job.items;
  same : (job : ℕ) → get_or l.by_job.items job None ≡ get_or l.fn.by_job.items job None;
}
