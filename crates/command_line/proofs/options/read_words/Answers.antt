use Rattle.std.proofs.Common.{◌≡◌, ◌∙◌, [], map}
use Rattle.clap.specs.Words.{app_of, fault_of, found_of, matches_of, rows_of}
use Rattle.command_line.specs.CommandLines.{IsProgram, names_of}
use Rattle.command_line.proofs.Flags.{program_is_free, program_is_simple}
use Rattle.command_line.proofs.Reading.{clap_refuses, given_read, is_taken, memory_wants, options_read, views_fail, views_unread}
use Rattle.command_line.proofs.options.read_words.Goals as goal

pub returns-in_err-command : goal.returns-in_err-command
returns-in_err-command g c = memory_wants _ _ (map g.S.AsStr.text c.args.words.now) c.from_residual.result c.from_residual.ensures.1

pub returns-in_err-matches : goal.returns-in_err-matches
returns-in_err-matches g c = clap_refuses _ _ _ _ _ c.in_err-matches.field-0.0 c.in_ok-command.ensures
    (c.in_err-matches.ensures.kinds (program_is_free _ _ _ c.in_ok-command.ensures)) c.from_residual-in_err-matches.ensures.1

pub returns-in_err-given_of-in-Some : goal.returns-in_err-given_of-in-Some
returns-in_err-given_of-in-Some g c = memory_wants _ _ (map g.S.AsStr.text c.args.words.now) c.from_residual-in_err-given_of-in-Some.result
    c.from_residual-in_err-given_of-in-Some.ensures.1

pub returns-in-Some : goal.returns-in-Some
returns-in-Some g c =
    let program : IsProgram c.args.program.now.name.now (names_of c.args.program.now.flags.now) (app_of c.in_ok-command.command) =
    c.in_ok-command.ensures in
    let free : fault_of (app_of c.in_ok-command.command) (map g.S.AsStr.text c.args.words.now) ≡ [] =
    c.in_ok-matches.ensures.kinds (program_is_free _ _ _ program) in
    let rows : rows_of (found_of c.in_ok-matches.matches) ≡ matches_of (app_of c.in_ok-command.command) (map g.S.AsStr.text c.args.words.now) =
    (c.in_ok-matches.ensures.ok.2 (program_is_simple _ _ _ program)).0 in
    is_taken _ _ _ _ _ program free (options_read c.in_ok-matches.matches _ rows _ _ _ c.risk_of.ensures c.in-Some.ensures c.is_used.ensures)
    (c.in_ok-given_of-in-Some.ensures ∙ given_read c.in_ok-matches.matches _ rows (names_of c.args.program.now.flags.now))

pub returns-in_err-error-in-None : goal.returns-in_err-error-in-None
returns-in_err-error-in-None g c = memory_wants _ _ (map g.S.AsStr.text c.args.words.now) c.from_residual-in_err-error-in-None.result
    c.from_residual-in_err-error-in-None.ensures.1

pub returns : goal.returns
returns g c =
    let program : IsProgram c.args.program.now.name.now (names_of c.args.program.now.flags.now) (app_of c.in_ok-command.command) =
    c.in_ok-command.ensures in
    let free : fault_of (app_of c.in_ok-command.command) (map g.S.AsStr.text c.args.words.now) ≡ [] =
    c.in_ok-matches.ensures.kinds (program_is_free _ _ _ program) in
    let rows : rows_of (found_of c.in_ok-matches.matches) ≡ matches_of (app_of c.in_ok-command.command) (map g.S.AsStr.text c.args.words.now) =
    (c.in_ok-matches.ensures.ok.2 (program_is_simple _ _ _ program)).0 in
    views_fail _ _ _ _ _ program free (views_unread c.in_ok-matches.matches _ rows c.in-None.ensures) c.in_ok-error-in-None.ensures.kind
