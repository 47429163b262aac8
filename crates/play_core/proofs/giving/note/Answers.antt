use Rattle.std.proofs.Common.{◌≡◌, true, false, sym, subst, take}
use Rattle.std.proofs.lemmas.List.{take_all}
use Rattle.std.proofs.lemmas.List.Elements.{All-more, All-same}
use Rattle.play_core.specs.Giving.{IsWait}
use Rattle.play_core.proofs.giving.note.Goals.{in-None, in-Some+in_ok-push-in-Some}
use Rattle.play_core.proofs.giving.note.Goals as goal

pub loop-entry-preserved : goal.loop-entry-preserved
loop-entry-preserved c = λ e. elim c.match-wait_of.branch [
  | in-Some+in_ok-push-in-Some w ↦
      (let same = w.all-is in
      let was : c.loop-entry.all ≡ true = cc in
      let before = c.loop-entry.invariant was in (
        before.0,
        All-more IsWait c.args.lines.now c.loop-entry.entry-index c.entry-item.result c.loop-entry-test.true before.1
            (subst IsWait c.entry-item.is w.in-Some.ensures),
      ))
  | in-None w ↦
      (let same = w.all-is in
      let no : false ≡ true = cc in
      absurd cc)
]

pub returns : goal.returns
returns c = λ e.
    let lines = c.args.lines.now in
    let at = c.loop-entry.entry-index in
    let before = c.loop-entry.invariant e in
    (before.0, All-same IsWait lines (take at lines) (sym (take_all at lines c.loop-entry-test.false)) before.1)
