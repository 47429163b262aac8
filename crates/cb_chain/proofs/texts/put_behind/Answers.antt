use Rattle.std.proofs.Common.{◌-◌, ◌+◌, length, arith}
use Rattle.cb_chain.proofs.PutBehind.{put_behind_is}
use Rattle.cb_chain.proofs.texts.put_behind.Goals as goal

pub returns : goal.returns
returns c = λ done size is.
    rw c.copy_from_slice.ensures.after
    (put_behind_is (length c.args.own.now) c.args.at (c.args.at + length c.args.bytes.now - c.args.at) done c.args.bytes.now c.args.own.now size
    (omega arith) is)
