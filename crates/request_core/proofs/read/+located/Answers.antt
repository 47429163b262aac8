use Rattle.std.proofs.Common.{ap, nat_lt, sym, slice_get, ◌∙◌, ◌+◌, ◌-◌}
use Rattle.jcl_meaning.specs.Programs.{source_of, taken_at}
use Rattle.job_text.specs.Places.{dd_at, step_at}
use Rattle.request_core.specs.Requests.{is_read_on}
use Rattle.request_core.proofs.Reading.{found_is, located_here, located_on}
use Rattle.request_core.proofs.read.+located.Goals as goal

pub returns-then-is_read_on : goal.returns-then-is_read_on
returns-then-is_read_on g t c =
    let seen = g.S.JobStore.seen c.args.job c.args.store.now in
    let of = c.args.of.now in
    let n = c.args.n in
    let dds = (step_at (g.T.JobText.plan c.args.text.now).steps of.step).dds in
    let kind = (dd_at dds n).kind in
    c.located.ensures
    ∙ located_on seen dds of.states.now of.first n of.end c.args.position c.requires.members.0 c.requires.members.1 c.requires.members.2
    (ap (λ taken. is_read_on (source_of seen kind taken) (nat_lt (n + 1) of.end) c.args.position) (sym c.taken_at-t.ensures)
    ∙ sym (c.is_read_on.ensures kind (sym c.source-source.ensures)) ∙ c.if-is_read_on.true)

pub returns : goal.returns
returns g t c =
    let seen = g.S.JobStore.seen c.args.job c.args.store.now in
    let of = c.args.of.now in
    let n = c.args.n in
    let dds = (step_at (g.T.JobText.plan c.args.text.now).steps of.step).dds in
    let kind = (dd_at dds n).kind in
    found_is (source_of seen kind (taken_at of.states.now n)) (n - of.first) c.args.position c.text_at.result c.serial_of.result
    (c.text_at.ensures ∙ ap (λ taken. slice_get (source_of seen kind taken).records c.args.position) c.taken_at-t.ensures)
    (c.serial_of.ensures kind (sym c.source-source.ensures) ∙ ap (λ taken. (source_of seen kind taken).serial) c.taken_at-t.ensures)
    ∙ located_here seen dds of.states.now of.first n of.end c.args.position c.requires.members.1 c.requires.members.2
    (ap (λ taken. is_read_on (source_of seen kind taken) (nat_lt (n + 1) of.end) c.args.position) (sym c.taken_at-t.ensures)
    ∙ sym (c.is_read_on.ensures kind (sym c.source-source.ensures)) ∙ c.if-is_read_on.false)
