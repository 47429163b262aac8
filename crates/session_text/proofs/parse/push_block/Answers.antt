use Rattle.std.proofs.Common.{◌≡◌, ◌+◌, rules, arith, append_assoc}
use Rattle.session_text.specs.Lines.{lines_of}
use Rattle.session_text.proofs.Blocks.{block_ended}
use Rattle.session_text.proofs.parse.push_block.Goals as goal

pub returns-in-Some-clause-next : goal.returns-in-Some-clause-next
returns-in-Some-clause-next c =
    let line = c.args.line in
    let count = c.in-Some.end.count in
    let end = rw c.in-Some.is at c.in_ok-says.ensures.end in
    let says = rw c.in-Some.is at c.in_ok-says.ensures.says in
    let behind = rw c.in-Some.is at c.in_ok-says.ensures.behind in
    let next : line + 1 + count + 1 ≡ line + count + 2 = omega arith in
    rw (block_ended c.args.ending line c.args.block.now (lines_of c.args.ending c.args.text.now) count end, next, behind, ← says)
    (search (rules, append_assoc))
