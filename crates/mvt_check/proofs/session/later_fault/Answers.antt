use Rattle.std.proofs.Common.{◌≡◌, ◌∷◌, ◌+◌, suc, arith, get_or, Some, None, drop, ap, sym, ◌∙◌}
use Rattle.std.proofs.Math.Seq.{drop-cons}
use Rattle.std.proofs.lemmas.List.{drop_all}
use Rattle.mvt_check.specs.Checking.{fault_at, later_fault, or_later}
use Rattle.mvt_check.proofs.Later.{opened_fault}
use Rattle.mvt_check.proofs.session.later_fault.Goals as goal

pub returns-in-Some : goal.returns-in-Some
returns-in-Some c =
    let late = c.args.opened.now.late in
    let behind = c.split_at.result.1.now in
    let at = c.loop-statement.statement-index in
    let next : suc at ≡ at + 1 = omega arith in
    let split : drop at behind ≡ c.statement-item.result ∷ drop (at + 1) behind =
    drop-cons behind at c.statement-item.result c.loop-statement-test.true
    ∙ ap (λ n. get_or behind at c.statement-item.result ∷ drop n behind) next
    ∙ ap (λ s. s ∷ drop (at + 1) behind) (sym c.statement-item.is) in
    let here : fault_at late c.statement-item.result ≡ Some c.in-Some.fault = sym c.fault_at.ensures ∙ c.in-Some.is in
    sym (opened_fault c.args.statements.now c.args.opened.now c.requires c.split_at.ensures.back
    ∙ c.loop-statement.invariant
    ∙ ap (later_fault late) split
    ∙ ap (λ f. or_later f (later_fault late (drop (at + 1) behind))) here)

pub loop-statement-preserved : goal.loop-statement-preserved
loop-statement-preserved c =
    let late = c.args.opened.now.late in
    let behind = c.split_at.result.1.now in
    let at = c.loop-statement.statement-index in
    let next : suc at ≡ at + 1 = omega arith in
    let split : drop at behind ≡ c.statement-item.result ∷ drop (at + 1) behind =
    drop-cons behind at c.statement-item.result c.loop-statement-test.true
    ∙ ap (λ n. get_or behind at c.statement-item.result ∷ drop n behind) next
    ∙ ap (λ s. s ∷ drop (at + 1) behind) (sym c.statement-item.is) in
    let none : fault_at late c.statement-item.result ≡ None = sym c.fault_at.ensures ∙ c.in_default.is in
    c.loop-statement.invariant
    ∙ ap (later_fault late) split
    ∙ ap (λ f. or_later f (later_fault late (drop (at + 1) behind))) none

pub returns : goal.returns
returns c =
    let behind = c.split_at.result.1.now in
    sym (opened_fault c.args.statements.now c.args.opened.now c.requires c.split_at.ensures.back
    ∙ c.loop-statement.invariant
    ∙ ap (later_fault c.args.opened.now.late) (drop_all c.loop-statement.statement-index behind c.loop-statement-test.false))
