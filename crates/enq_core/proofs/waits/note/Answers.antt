use Rattle.std.proofs.Common.{◌≡◌, ◌==◌, ◌++◌, ◌∷◌, Bool, true, false, List, [], cond, not, subst, sym, rules, tests}
use Rattle.std.specs.Prelude.{All, filter, is_ok}
use Rattle.std.proofs.lemmas.Fn.{filter_same}
use Rattle.std.proofs.lemmas.List.Elements.{All-filter, All-push}
use Rattle.enq_core.specs.declared.table.Want.{Want}
use Rattle.enq_core.specs.declared.waits.Wait.{Wait}
use Rattle.enq_core.specs.Holds.{IsFirstBlock}
use Rattle.enq_core.proofs.waits.note.Goals as goal

with_one : (P : Wait → Type 0) (waits : List Wait) (wait : Wait) (b : Bool) → All P waits → P wait → All P (cond b (waits ++ wait ∷ []) waits)
with_one P waits wait true all one = All-push P waits wait all one
with_one P waits wait false all one = all

pub returns-in-Ok : goal.returns-in-Ok
returns-in-Ok c = λ holds right first.
    let P : Wait → Type 0 = λ wait. IsFirstBlock holds wait.wants wait.blocked in
    let kept : c.retain.new.self.items ≡ filter (λ wait. not (wait.job == c.args.job)) c.args.waits.now.items =
    filter_same _ (λ wait. not (wait.job == c.args.job)) _ (λ x b f k. search (rules, tests)) c.args.waits.now.items c.retain.new.self.items
    c.retain.ensures.filtered in
    subst (All P) (sym c.push.ensures.items)
    (with_one P c.retain.new.self.items (record { job = c.args.job; wants = c.in-Ok.wants; blocked = c.args.blocked.now }) (is_ok c.push.result)
    (subst (All P) (sym kept) (All-filter (λ wait. not (wait.job == c.args.job)) P c.args.waits.now.items right))
    (subst (λ (wants : List Want). IsFirstBlock holds wants c.args.blocked.now) (sym c.in-Ok.ensures) first))

pub returns-in-Err : goal.returns-in-Err
returns-in-Err c = λ holds right first.
    let P : Wait → Type 0 = λ wait. IsFirstBlock holds wait.wants wait.blocked in
    let kept : c.retain.new.self.items ≡ filter (λ wait. not (wait.job == c.args.job)) c.args.waits.now.items =
    filter_same _ (λ wait. not (wait.job == c.args.job)) _ (λ x b f k. search (rules, tests)) c.args.waits.now.items c.retain.new.self.items
    c.retain.ensures.filtered in
    subst (All P) (sym kept) (All-filter (λ wait. not (wait.job == c.args.job)) P c.args.waits.now.items right)
