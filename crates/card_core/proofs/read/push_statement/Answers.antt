use Rattle.std.proofs.Common.{◌≡◌, ℕ, Bool, subst, sym}
use Rattle.card_core.specs.declared.begun.Begun.{Begun}
use Rattle.card_core.specs.declared.card.Kind.{Kind}
use Rattle.card_core.specs.declared.card.Kind.TheVariants.{Jcl, Data}
use Rattle.card_core.specs.Deck.{Statements, begins, onto, statements_behind}
use Rattle.card_core.proofs.Statements.{passes-begun}
use Rattle.card_core.proofs.read.push_statement.Goals as goal
use Rattle.card_core.proofs.read.push_statement.Goals.{in-Jcl+in_ok-begun-in-Jcl, in-Data+in_ok-begun-in-Data}

pub returns-clause-passes : goal.returns-clause-passes
returns-clause-passes c =
    let cards = c.args.cards.now in
    let next : Bool → ℕ → Statements = λ called used. statements_behind called used cards in
    let begun : Begun = c.match-kind.begun in
    let IsOf : Kind → Begun → Type 0 = λ kind b. begins kind c.args.called c.args.card.now cards next ≡ onto b.statement (next b.called b.used) in
    elim c.match-kind.branch [
      | in-Jcl+in_ok-begun-in-Jcl w ↦ passes-begun c.args.out.now.items c.put_begun.new.out.items c.args.called Jcl c.args.card.now cards begun c.in_ok-put_begun.field-0
          (sym w.in-Jcl.ensures) (subst (IsOf Jcl) (sym w.begun-is) (w.in_ok-begun-in-Jcl.ensures.begins next))
          c.in_ok-put_begun.ensures.put c.in_ok-put_begun.ensures.place
      | in-Data+in_ok-begun-in-Data w ↦ passes-begun c.args.out.now.items c.put_begun.new.out.items c.args.called Data c.args.card.now cards begun c.in_ok-put_begun.field-0
          (sym w.in-Data.ensures) (subst (IsOf Data) (sym w.begun-is) (w.in_ok-begun-in-Data.ensures.begins next))
          c.in_ok-put_begun.ensures.put c.in_ok-put_begun.ensures.place
    ]
