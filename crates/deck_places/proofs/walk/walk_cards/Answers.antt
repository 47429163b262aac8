use Rattle.std.proofs.Common.{◌≡◌, ◌∷◌, ◌∙◌, ◌+◌, ◌-◌, ℕ, ap, arith, drop, length, rules, subst, sym}
use Rattle.std.proofs.lemmas.List.{length-drop}
use Rattle.deck_places.specs.Cards.{walk_from}
use Rattle.deck_places.specs.Walks.{LeadsOn, behind}
use Rattle.deck_places.proofs.Walked.{goes_within, leads_on, walk_on}
use Rattle.deck_places.proofs.walk.walk_cards.Goals as goal

pub behind-rest-requires-in-Goes : goal.behind-rest-requires-in-Goes
behind-rest-requires-in-Goes c =
    goes_within (length c.in-Some.behind) c.in_ok-refused.field-0 c.in-Goes.calls c.in-Goes.used
    (c.in_ok-refused.ensures.bound (length c.in-Some.behind) c.in_ok-step.ensures.bound) c.in-Goes.is

pub loop-card-preserved : goal.loop-card-preserved
loop-card-preserved c =
    let used = c.in-Goes.used in
    let cards = c.in-Some.behind in
    let all = length c.args.cards.now in
    let at = all - length c.loop-card.rest in
    let begun = c.loop-card.begun.items in
    let fits = goes_within (length cards) c.in_ok-refused.field-0 c.in-Goes.calls used (c.in_ok-refused.ensures.bound (length cards) c.in_ok-step.ensures.bound)
    c.in-Goes.is in
    let split : c.loop-card.rest ≡ c.in-Some.card ∷ cards = search rules in
    let LeadsFrom : ℕ → Type 0 = λ n. LeadsOn c.loop-card.called n c.in_ok-step.step begun c.take_step.new.begun.items c.in_ok-refused.field-0 in
    let here : c.len.result - c.len-in-Some.result ≡ at = ap (λ (n : ℕ). n - c.len-in-Some.result) c.len.ensures ∙ ap (λ (n : ℕ). all - n) c.len-in-Some.ensures in
    let leads = leads_on c.loop-card.called at c.in_ok-step.step begun c.take_step.new.begun.items c.in_ok-refused.field-0 c.in-Goes.calls used
    (subst LeadsFrom here c.in_ok-refused.ensures.leads) c.in-Goes.is in
    let left : length (drop used cards) ≡ length cards - used = length-drop used cards in
    let one : length c.loop-card.rest ≡ length cards + 1 = ap length split ∙ (let e : length (c.in-Some.card ∷ cards) ≡ length cards + 1 = omega arith in e) in
    let within = c.loop-card.invariant.within in
    let place : at + (1 + used) ≡ all - length (drop used cards) = omega (arith, left, one, within, fits) in
    let taken : c.behind-rest-in-Goes.result ≡ drop used cards = c.behind-rest-in-Goes.ensures.rest in
    record {
      so = c.loop-card.invariant.so ∙ ap (λ l. behind begun (walk_from c.loop-card.called at 0 l)) split
          ∙ walk_on c.loop-card.called at c.in-Some.card cards c.in_ok-step.step begun c.take_step.new.begun.items c.in-Goes.calls used
          c.in_ok-step.ensures.step fits leads
          ∙ ap (λ n. behind c.take_step.new.begun.items (walk_from c.in-Goes.calls n 0 (drop used cards))) place
          ∙ ap (λ l. behind c.take_step.new.begun.items (walk_from c.in-Goes.calls (all - length l) 0 l)) (sym taken);
      within = let size : length c.behind-rest-in-Goes.result ≡ length cards - used = ap length taken ∙ left in omega (arith, size, one, within);
    }
