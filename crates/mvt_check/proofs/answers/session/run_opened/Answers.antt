use Rattle.mvt_check.specs.Telling.{TellsAll}
use Rattle.std.proofs.lemmas.Result.{on_ok_weaker}
use Rattle.mvt_check.proofs.Answering.{answered}
use Rattle.mvt_check.proofs.answers.session.run_opened.Goals as goal

pub returns : goal.returns
returns c =
    let x = c.args.opened in
    let opened = c.requires.opened in
    on_ok_weaker c.run_all-ran.result
    (λ (all : TellsAll c.args.statements.now x.from c.args.given.now c.in_ok-system.system c.run_all-ran.new.system c.args.answers.now.by_job.items
    c.run_all-ran.new.answers).
    answered c.args.options c.args.statements.now x.from opened.config c.in_ok-system.system c.run_all-ran.new.system c.args.given.now
    c.args.answers.now.by_job.items c.run_all-ran.new.answers opened.by (c.in_ok-system.ensures opened.config opened.sound opened.apart)
    c.requires.given c.requires.empty.1 all)
    c.run_all-ran.ensures
