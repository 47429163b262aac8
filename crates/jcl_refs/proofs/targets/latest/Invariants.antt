use Rattle.std.proofs.Common.{◌≡◌, ◌+◌, drop}
use Rattle.jcl_refs.specs.Meant.{is_meant}
use Rattle.jcl_refs.specs.Targets.{latest, latest_from, or_else}
use Rattle.jcl_refs.proofs.targets.latest.Given as goal

-- what is left decides, else what is found
abbrev pub invariant-loop-step : goal.invariant-loop-step
invariant-loop-step l = record {
  counts : l.n ≡ l.step-index + 1;
  left : or_else (latest_from (is_meant l.meant) l.n l.k (drop l.step-index l.steps)) l.found ≡ latest (is_meant l.meant) l.k l.steps;
}
