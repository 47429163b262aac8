use Rattle.std.proofs.Common.{ap, subst, ◌∙◌, rules}
use Rattle.config_core.specs.Configured.{IsConfigured}
use Rattle.config_core.specs.Starts.{IsTakenApart}
use Rattle.session_core.specs.Configuring.{late_in}
use Rattle.session_core.proofs.open.open.Goals as goal

pub returns-clause-ok : goal.returns-clause-ok
returns-clause-ok c =
    let k = c.configure.new.config in
    let conf = c.late_in-late.new.config in
    let store = c.in-Ok-take_apart.store in
    let fixed = c.in-Ok-take_apart.fixed in
    let apart : IsTakenApart conf store fixed = search rules in
    record {
      config = k;
      by = c.in-Ok.ensures.ok;
      late = c.late_in-late.ensures.late ∙ ap (late_in k) c.split_at.ensures.back;
      sound = subst IsConfigured c.late_in-late.ensures.same c.take_apart.ensures.sound;
      apart = subst (λ x. IsTakenApart x store fixed) c.late_in-late.ensures.same apart;
      empty = c.in-Ok-first_queue.ensures;
    }
