use Rattle.std.proofs.lemmas.Grind.{common_steps}
use Rattle.std.proofs.Common.{◌≡◌, arith}
use Rattle.jcl_procs.specs.Overrides.{with_dds}
use Rattle.jcl_procs.proofs.Reached.{is_place}
use Rattle.jcl_procs.proofs.overriding.placed.Goals as goal

pub returns-clause-place : goal.returns-clause-place
returns-clause-place c =
    let is : c.new.result ≡ with_dds c.args.steps.items c.args.at c.args.members.dds = grind (arith, common_steps) in
    is_place c.args.steps.items c.args.at c.args.members.dds c.args.members.member c.new.result is c.requires.there c.requires.members
