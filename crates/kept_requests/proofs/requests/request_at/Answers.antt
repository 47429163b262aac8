use Rattle.std.proofs.Common.{sym, ◌∙◌}
use Rattle.kept_requests.proofs.Parts.{no_request_got, request_got}
use Rattle.kept_requests.proofs.requests.request_at.Goals as goal

pub returns-in-None : goal.returns-in-None
returns-in-None c = sym (no_request_got c.args.heads.now c.args.texts.now c.args.place (sym c.in-None.ensures))

pub returns-in-Some : goal.returns-in-Some
returns-in-Some c = c.with_text.ensures ∙ sym (request_got c.args.heads.now c.args.texts.now c.args.place c.in-Some.head c.requires (sym c.in-Some.ensures))
