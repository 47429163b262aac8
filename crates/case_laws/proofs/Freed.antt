-- What was kept for a job that is over is free.
use Rattle.std.proofs.Common.{◌≡◌, ◌≤◌, ◌+◌, ◌-◌, ℕ, List, [], arith, refl}
use Rattle.world_meaning.specs.Holdings.{released}
use Rattle.world_meaning.specs.Tracks.{Conserves, kept_on, kept_without}
use Rattle.world_meaning.specs.Worlds.{Config, Shared}
use Rattle.case_laws.proofs.Sums.{sum_filter}

abbrev pub freed : Shared → ℕ → List ℕ → ℕ
freed s job serial = s.free serial + (kept_on s.kept serial - kept_on (kept_without s.kept job) serial)

whole_again : (free kept left : ℕ) → left ≤ kept → (free + (kept - left)) + (left + 0) ≡ free + (kept + 0)
whole_again free kept left h = omega (arith, h)

pub released_conserves : (c : Config) (s : Shared) (job : ℕ) → Conserves s (released c s job (freed s job))
released_conserves c s job serial = record {
  touched = [];
  once = refl;
  others = λ k out. refl;
  sum = whole_again (s.free serial) (kept_on s.kept serial) (kept_on (kept_without s.kept job) serial) (sum_filter _ _ (s.kept serial));
}
