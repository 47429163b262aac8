use Rattle.std.proofs.Common.{◌≡◌, ◌+◌, ◌==◌, is_some, length, sym, ap, ◌∙◌}
use Rattle.operand_core.specs.Faults.{earlier, told}
use Rattle.value_core.specs.Spaces.{further_faults, further_place_faults}
use Rattle.value_core.proofs.OneByOne.{told_more}
use Rattle.value_core.proofs.Tracks.{last_is, left_is, left_of, next_at, none_left, other_of}
use Rattle.value_core.proofs.space.further.Goals as goal

pub loop-next-preserved : goal.loop-next-preserved
loop-next-preserved c =
    let next = c.next-next-in-Some.result in
    let behind = c.next-next-in-Some.new.self in
    let places = c.loop-next.places in
    let at = c.loop-next.at in
    let text = c.in-Some.text.now in
    let one : c.further_place_fault.result ≡ told (further_place_faults at text (length places == 0)) =
    c.further_place_fault.ensures
    ∙ ap (λ is_last. told (further_place_faults at text is_last)) (other_of c.is_none.result (is_some next) c.is_none.ensures ∙ last_is next places behind c.next-next-in-Some.ensures) in (
      none_left next places behind c.next-next-in-Some.ensures,
      ap (λ xs. earlier c.earlier-fault.result (told (further_faults c.saturating_add-at.result xs))) (left_is next places behind c.next-next-in-Some.ensures)
          ∙ ap (λ faults. earlier c.earlier-fault.result (told faults)) (next_at places at c.saturating_add-at.result c.saturating_add-at.ensures)
          ∙ ap (λ fault. earlier fault (told (further_faults (at + 1) places))) c.earlier-fault.ensures
          ∙ told_more c.loop-next.fault c.further_place_fault.result (further_place_faults at text (length places == 0)) (further_faults (at + 1) places) one
          ∙ ap (λ first. earlier c.loop-next.fault (told (further_faults at (left_of first places)))) (sym c.in-Some.is)
          ∙ c.loop-next.invariant.1,
    )
