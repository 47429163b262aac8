use Rattle.std.proofs.Common.{◌∙◌, ap}
use Rattle.jcl_procs.proofs.Reached.{dds_are, put_is}
use Rattle.jcl_procs.specs.Overrides.{with_dds}
use Rattle.jcl_procs.proofs.overriding.take_dds.Goals as goal

pub returns-clause-taken : goal.returns-clause-taken
returns-clause-taken c = c.replace.ensures.value ∙ dds_are c.args.steps.now c.args.at c.index-steps-at.result c.requires

pub returns-clause-left : goal.returns-clause-left
returns-clause-left c =
    put_is c.args.steps.now c.args.at c.replace.new.dest c.index-steps-at.result
    ∙ ap (with_dds c.args.steps.now c.args.at) (c.replace.ensures.after ∙ c.empty.ensures)
