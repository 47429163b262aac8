use Rattle.std.proofs.Common.{◌∷◌, ◌++◌, []}
use Rattle.jcl_meaning.specs.Acts.{act}
use Rattle.jcl_meaning.specs.Agendas.{Over, lefts_from, steps_from}
use Rattle.jcl_meaning.specs.Programs.{moves_of}
use Rattle.solo_core.proofs.Runs.{acts_more, acts_one}
use Rattle.solo_core.proofs.runner.Runner.run_agenda.Goals as goal

pub returns : goal.returns
unfolding act
returns g c =
    let steps = (g.T.JobText.plan c.args.text.now).steps in
    let moves = moves_of c.args.programs.now in
    acts_more (steps_from moves 1 steps) (lefts_from 1 steps ++ (Over ∷ [])) c.args.self.now c.run_steps.new.self c.end.new.self c.in_ok-run_steps.ensures
    (acts_more (lefts_from 1 steps) (Over ∷ []) c.run_steps.new.self c.run_lefts.new.self c.end.new.self c.in_ok-run_lefts.ensures
    (acts_one Over c.run_lefts.new.self c.end.new.self c.in_ok-end.ensures))
