use Rattle.std.proofs.Common.{sym, ◌∙◌}
use Rattle.std.specs.Option.{option_copied}
use Rattle.jcl_dds.proofs.Absent.{unasked}
use Rattle.jcl_dds.proofs.given.excludes_in.Goals as goal

pub returns-then-not-may_exclude : goal.returns-then-not-may_exclude
returns-then-not-may_exclude c =
    sym (unasked (option_copied c.args.first) c.args.keywords.now (sym c.may_exclude.ensures ∙ c.if-not-may_exclude.true))
