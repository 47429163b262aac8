use Rattle.std.proofs.Common.{◌≡◌, ◌+◌, false, true, take, drop, ap, ◌∙◌}
use Rattle.session_text.specs.declared.fault.Fault.TheVariants.{NoEnd}
use Rattle.session_text.specs.declared.statement.Says.TheVariants.{Config}
use Rattle.session_core.specs.Sessions.{fault_behind, told}
use Rattle.session_core.proofs.Configured.{Configured-more, Configured-stops, open_config, refused_config}
use Rattle.session_core.proofs.Standing.{drop_at, take_at}
use Rattle.session_core.proofs.configure.configure.Goals as goal

pub returns-in-Refused-clause-err : goal.returns-in-Refused-clause-err
returns-in-Refused-clause-err c = λ o.
    let all = c.args.statements.now in
    let s = c.index-statements-at.result in
    let p = rw (drop_at all c.loop-at.at s c.loop-at-test.true c.index-statements-at.is) at c.loop-at.invariant in
    Configured-stops o all (take c.loop-at.at all) (drop (c.loop-at.at + 1) all) s c.loop-at.config c.in-Refused.fault
    (c.configuration_has_a_machine.ensures o _ c.is_configured.ensures) p (ap (fault_behind (take c.loop-at.at all)) c.in-Refused.is)

pub returns-in-Err-Refused-clause-err : goal.returns-in-Err-Refused-clause-err
returns-in-Err-Refused-clause-err c = λ o.
    let all = c.args.statements.now in
    let s = c.index-statements-at.result in
    let p = rw (drop_at all c.loop-at.at s c.loop-at-test.true c.index-statements-at.is) at c.loop-at.invariant in
    let own = rw c.get.ensures at (rw c.in-Err-Refused.field-0-is at c.in-Err-Refused.ensures.refused) in
    let is : c.told.result ≡ told c.in-Err-Refused.fault = c.told.ensures ∙ ap told c.in-Err-Refused.fault-is in
    let fault = refused_config all (take c.loop-at.at all) (drop (c.loop-at.at + 1) all) s _ _ c.loop-at.config c.in-Err-Refused.fault p c.in-Config.is own in
    rw is (Configured-stops o all (take c.loop-at.at all) (drop (c.loop-at.at + 1) all) s c.loop-at.config (told c.in-Err-Refused.fault)
    (c.configuration_has_a_machine.ensures o _ c.is_configured.ensures) p fault)

-- a block without END
pub returns-in-Ok-2-clause-err : goal.returns-in-Ok-2-clause-err
returns-in-Ok-2-clause-err c = λ o.
    let all = c.args.statements.now in
    let s = c.index-statements-at.result in
    let p = rw (drop_at all c.loop-at.at s c.loop-at-test.true c.index-statements-at.is) at c.loop-at.invariant in
    let says : s.says ≡ Config c.in-Config.says false = c.in-Config.is ∙ ap (Config c.in-Config.says) c.if-has_end.false in
    let fault = open_config all (take c.loop-at.at all) (drop (c.loop-at.at + 1) all) s c.in-Config.says c.loop-at.config p says (rw c.get.ensures at c.in-Ok.ensures.sound) in
    Configured-stops o all (take c.loop-at.at all) (drop (c.loop-at.at + 1) all) s c.loop-at.config NoEnd
    (c.configuration_has_a_machine.ensures o _ c.is_configured.ensures) p fault

pub loop-at-preserved : goal.loop-at-preserved
loop-at-preserved c =
    let all = c.args.statements.now in
    let s = c.index-statements-at.result in
    let p = rw (drop_at all c.loop-at.at s c.loop-at-test.true c.index-statements-at.is) at c.loop-at.invariant in
    let says : s.says ≡ Config c.in-Config.says true = c.in-Config.is ∙ ap (Config c.in-Config.says) c.if-has_end.true in
    rw (take_at all c.loop-at.at s c.loop-at-test.true c.index-statements-at.is)
    (Configured-more all (take c.loop-at.at all) (drop (c.loop-at.at + 1) all) s c.in-Config.says c.loop-at.config c.add.new.self p says
    (rw c.get.ensures at c.in-Ok.ensures.sound) (rw c.get.ensures at c.in-Ok.ensures.ok))
