use Rattle.std.proofs.Common.{◌≡◌, ◌<◌, ◌+◌, true, Some, take, get_or, sym, ap, subst, ◌∙◌}
use Rattle.std.specs.List.{All}
use Rattle.std.proofs.lemmas.List.{take_all}
use Rattle.std.proofs.lemmas.List.Elements.{All-more}
use Rattle.shared_core.specs.Shown.{mounted_in}
use Rattle.place_core.specs.Vain.{AreVain}
use Rattle.place_core.specs.Volumes.{aside_at, has_room}
use Rattle.place_core.proofs.Choosing.{LacksRoom, chosen_at, chosen_none, head_same, room_lacks}
use Rattle.place_core.proofs.aside.aside_on_other.Goals as goal
use Rattle.place_core.proofs.aside.aside_on_other.Goals.{then-not-is_vain+in_ok-set_aside+else-branch, else-not-is_vain}

pub returns-then-branch-clause-chosen : goal.returns-then-branch-clause-chosen
returns-then-branch-clause-chosen c =
    let volumes = c.args.volumes.now in
    let n = c.args.tracks in
    let s = c.serial-item.result in
    let some : 0 < n = c.requires.some in
    let room : has_room n (mounted_in volumes (get_or c.args.among.now c.loop-serial.serial-index s)) ≡ true =
    sym (ap (λ q. has_room n (mounted_in volumes q)) c.serial-item.is) ∙ sym (ap (λ v. has_room n (mounted_in v s)) c.loop-serial.invariant.same)
    ∙ sym c.in_ok-set_aside.ensures.room ∙ c.if-branch.true in
    ap Some c.serial-item.is
    ∙ sym (chosen_at volumes n some c.args.among.now c.loop-serial.serial-index s c.loop-serial-test.true c.loop-serial.invariant.lack room)

pub is_vain-requires : goal.is_vain-requires
is_vain-requires c = subst (λ v. AreVain v c.args.tracks c.loop-serial.vain) (sym c.loop-serial.invariant.same) c.loop-serial.invariant.vain

pub note_vain-requires-clause-vain : goal.note_vain-requires-clause-vain
note_vain-requires-clause-vain c =
    let n = c.args.tracks in
    let s = c.serial-item.result in
    let none : LacksRoom c.loop-serial.volumes n s = sym c.in_ok-set_aside.ensures.room ∙ c.if-branch.false in
    subst (λ v. AreVain v n c.loop-serial.vain)
    (sym (c.in_ok-set_aside.ensures.ok ∙ room_lacks c.loop-serial.volumes n c.args.at s none ∙ c.loop-serial.invariant.same)) c.loop-serial.invariant.vain

pub note_vain-requires-clause-lacks : goal.note_vain-requires-clause-lacks
note_vain-requires-clause-lacks c =
    let n = c.args.tracks in
    let s = c.serial-item.result in
    let none : LacksRoom c.loop-serial.volumes n s = sym c.in_ok-set_aside.ensures.room ∙ c.if-branch.false in
    ap (λ v. has_room n (mounted_in v s)) (c.in_ok-set_aside.ensures.ok ∙ room_lacks c.loop-serial.volumes n c.args.at s none) ∙ none

pub loop-serial-preserved : goal.loop-serial-preserved
loop-serial-preserved c =
    let volumes = c.args.volumes.now in
    let n = c.args.tracks in
    let s = c.serial-item.result in
    let more : LacksRoom c.loop-serial.volumes n s → All (LacksRoom volumes n) (take (c.loop-serial.serial-index + 1) c.args.among.now) =
    λ none.
    All-more (LacksRoom volumes n) c.args.among.now c.loop-serial.serial-index s c.loop-serial-test.true c.loop-serial.invariant.lack
    (sym (ap (λ q. has_room n (mounted_in volumes q)) c.serial-item.is) ∙ sym (ap (λ v. has_room n (mounted_in v s)) c.loop-serial.invariant.same) ∙ none) in
    elim c.if-not-is_vain.branch [
      | then-not-is_vain+in_ok-set_aside+else-branch w ↦
          let none : LacksRoom c.loop-serial.volumes n s = sym w.in_ok-set_aside.ensures.room ∙ w.if-branch.false in
          let stays = w.in_ok-set_aside.ensures.ok ∙ room_lacks c.loop-serial.volumes n c.args.at s none ∙ c.loop-serial.invariant.same in
          record {
            same = w.volumes-is ∙ stays;
            lack = more none;
            vain = subst (λ x. AreVain volumes n x) (sym w.vain-is) (subst (λ v. AreVain v n w.note_vain.new.vain) stays w.note_vain.ensures);
          }
      | else-not-is_vain w ↦
          record {
            same = w.volumes-is ∙ c.loop-serial.invariant.same;
            lack = more (c.is_vain.ensures w.if-not-is_vain.false);
            vain = subst (λ x. AreVain volumes n x) (sym w.vain-is) c.loop-serial.invariant.vain;
          }
    ]

pub returns-clause-chosen : goal.returns-clause-chosen
returns-clause-chosen c =
    let volumes = c.args.volumes.now in
    let n = c.args.tracks in
    let some : 0 < n = c.requires.some in
    let lack : All (LacksRoom volumes n) c.args.among.now =
    subst (All (LacksRoom volumes n)) (take_all c.loop-serial.serial-index c.args.among.now c.loop-serial-test.false) c.loop-serial.invariant.lack in
    c.copied.ensures ∙ c.first.ensures.value ∙ sym (chosen_none volumes n some c.args.among.now lack)

pub returns-clause-ok : goal.returns-clause-ok
returns-clause-ok c =
    let volumes = c.args.volumes.now in
    let n = c.args.tracks in
    let lack : All (LacksRoom volumes n) c.args.among.now =
    subst (All (LacksRoom volumes n)) (take_all c.loop-serial.serial-index c.args.among.now c.loop-serial-test.false) c.loop-serial.invariant.lack in
    c.loop-serial.invariant.same
    ∙ sym (ap (λ o. aside_at o c.args.at n volumes) (c.copied.ensures ∙ c.first.ensures.value) ∙ head_same volumes n c.args.at c.args.among.now lack)
