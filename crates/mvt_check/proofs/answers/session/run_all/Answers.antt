use Rattle.std.proofs.Common.{refl}
use Rattle.mvt_check.proofs.Owning.{all_told}
use Rattle.mvt_check.proofs.answers.session.run_all.Goals as goal

pub returns : goal.returns
returns c =
    all_told c.args.statements.now c.args.from c.args.given.now c.args.system.now c.run_own.new.system c.run_added.new.system c.run_own.new.decks.items
    c.args.answers.now.by_job.items c.run_own.new.by_job.items (record { decks = c.run_own.new.decks; by_job = c.run_added.new.by_job; days = c.run_added.new.days })
    c.in_ok-run_added.field-0 c.in_ok-run_own.ensures c.in_ok-run_added.ensures refl
