use Rattle.std.specs.Prelude.{map, slice_index_or}
use Rattle.path_core.specs.Starts.{fixed_from}
use Rattle.path_core.proofs.analyse.analyse_named.Given as goal

-- the job that is analysed, and where the scenes before its parts are told
abbrev pub ghosts-analyse_holding : goal.ghosts-analyse_holding
ghosts-analyse_holding a = record {
  plan = a.plan.now;
  fixed = fixed_from a.start.now a.plan.now;
  seals = λ k. slice_index_or (map (λ p. p.id) a.seals.now) k 0;
}
