use Rattle.std.proofs.Common.{sym, ◌∙◌}
use Rattle.shared_core.proofs.Showing.{sum_shown}
use Rattle.machine_core.proofs.tracks.tracks_of.Goals as goal

pub returns-clause-kept : goal.returns-clause-kept
returns-clause-kept c = c.kept_tracks.ensures ∙ sym (sum_shown c.args.m.now)
