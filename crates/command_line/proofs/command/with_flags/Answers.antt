use Rattle.command_line.proofs.Flags.{with_flags_more}
use Rattle.command_line.proofs.command.with_flags.Goals as goal

pub loop-flag-preserved : goal.loop-flag-preserved
loop-flag-preserved c = with_flags_more _ _ _ c.args.flags.now c.loop-flag.flag-index _ _ c.loop-flag-test.true c.loop-flag.invariant
    c.flag_option.ensures.rule (c.in_ok-command.ensures.shape c.flag_option.ensures.own)
