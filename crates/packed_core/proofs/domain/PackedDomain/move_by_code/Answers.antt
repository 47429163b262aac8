use Rattle.std.proofs.Common.{◌≡◌, ◌∙◌, ℕ, List, [], None, Some, Vec, ap, sym, true}
use Rattle.std.specs.Global.{Global}
use Rattle.packed_core.specs.Rows.{has_row}
use Rattle.packed_core.specs.Words.{joined_words}
use Rattle.packed_core.proofs.Moves.{class_told}
use Rattle.packed_core.proofs.Skipping.{got_stands}
use Rattle.packed_core.proofs.domain.PackedDomain.move_by_code.Goals as goal

pub returns-in-Some : goal.returns-in-Some
returns-in-Some g c =
    let behind = c.args.behind.now in
    let base : List ℕ = c.args.base.now in
    let class = c.args.class.now in
    let rows : List (List ℕ) = c.standing.result.now in
    let mask : List ℕ = c.as_slice-mask.result.now in
    let stands : has_row (joined_words base class.mask.items) behind.rows ≡ true =
    sym (λ i. has_row (joined_words base (c.as_slice-mask.ensures.value i)) (c.standing.ensures i))
    ∙ got_stands (joined_words base mask) rows c.in-Some.number c.in-Some.ensures in
    record {
      tells = class_told {V = ℕ} (λ n. []) g.J.Job.plan g.J.Job.fixed.date behind base class c.requires.base c.requires.class None stands;
      stands = λ e. stands;
    }

pub returns-in_ok-row-in-None : goal.returns-in_ok-row-in-None
returns-in_ok-row-in-None g c =
    let base : List ℕ = c.args.base.now in
    record {
      tells = class_told (λ w. w.row.items) g.J.Job.plan g.J.Job.fixed.date c.args.behind.now base c.args.class.now c.requires.base c.requires.class (Some c.move_of-next.result) (
        c.move_of-next.ensures.outcome,
        ap (λ (r : Vec ℕ Global). r.items) c.move_of-next.ensures.row ∙ c.in_ok-row-in-None.ensures.words
            ∙ ap (joined_words base) c.as_slice-mask.ensures.value,
      );
      stands = λ e. absurd cc;
    }
