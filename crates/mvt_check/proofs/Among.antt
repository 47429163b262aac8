-- What is told of a job is among the text of its deck.
use Rattle.std.proofs.Common.{◌≡◌, ◌<◌, ◌+◌, ℕ, List, [], ◌∷◌, ◌++◌, Option, None, Some, All, take, get_or, length, append_assoc, ap, sym, ◌∙◌, arith, subst}
use Rattle.std.proofs.lemmas.List.{append-nil, take_more}
use Rattle.std.proofs.lemmas.List.Elements.{All-push, All-tail, All-weaker}
use Rattle.jcl_plan.specs.declared.plan.JobPlan.{JobPlan}
use Rattle.deck_places.specs.Stands.{Stood}
use Rattle.mvt_check.specs.declared.answers.answer.Answer.{Answer}
use Rattle.mvt_check.specs.declared.answers.answer.Answers.{Answers}
use Rattle.mvt_check.specs.declared.answers.answer.DeckRead.{DeckRead}
use Rattle.mvt_check.specs.declared.asides.Aside.{Aside}
use Rattle.mvt_check.specs.declared.asides.Taken as deck
use Rattle.mvt_check.specs.Cards.{BeginsWith, HasAside, IsAmong, OneAnswers, TellsAnswer, answer_head, answer_to, card_told, line_at, stood_of}
use Rattle.mvt_check.specs.Words.{beginning}

among_more : (words text more : List ℕ) → IsAmong words text → IsAmong words (text ++ more)
among_more words text more h = record {
  before = h.before;
  behind = h.behind ++ more;
  so = ap (λ t. t ++ more) h.so ∙ append_assoc (h.before ++ words) h.behind more;
}

among_last : (words text : List ℕ) → IsAmong words (text ++ words)
among_last words text = record { before = text; behind = []; so = sym (append-nil (text ++ words)) }

among_front : (words whole text behind : List ℕ) → whole ≡ words ++ behind → IsAmong whole text → IsAmong words text
among_front words whole text behind e h = record {
  before = h.before;
  behind = behind ++ h.behind;
  so = h.so ∙ ap (λ w. h.before ++ w ++ h.behind) e ∙ ap (λ t. t ++ h.behind) (sym (append_assoc h.before words behind))
      ∙ append_assoc (h.before ++ words) behind h.behind;
}

-- one aside more, with warnings before it
pub all_on : (asides : List Aside) (i : ℕ) (a : Aside) (text due between new : List ℕ) → i < length asides → a ≡ get_or asides i a →
    between ≡ text ++ due → new ≡ between ++ a.text.items → All (HasAside text) (take i asides) → All (HasAside new) (take (i + 1) asides)
all_on asides i a text due between new within is e f all =
    let others : All (HasAside new) (take i asides) =
    All-weaker (HasAside text) (HasAside new)
    (λ x h. subst (IsAmong x.text.items) (sym f) (among_more x.text.items between a.text.items
    (subst (IsAmong x.text.items) (sym e) (among_more x.text.items text due h))))
    (take i asides) all in
    let last : HasAside new a = subst (IsAmong a.text.items) (sym f) (among_last a.text.items between) in
    subst (All (HasAside new)) (sym (take_more asides i a within ∙ ap (λ x. take i asides ++ x ∷ []) (sym is)))
    (All-push (HasAside new) (take i asides) a others last)

-- and warnings behind the last
pub all_more : (asides : List Aside) (text due new : List ℕ) → new ≡ text ++ due → All (HasAside text) asides → All (HasAside new) asides
all_more asides text due new e all =
    All-weaker (HasAside text) (HasAside new) (λ x h. subst (IsAmong x.text.items) (sym e) (among_more x.text.items text due h)) asides all

the_one : (P : Aside → Type 0) (front : List Aside) (x : Aside) (back : List Aside) → All P (front ++ x ∷ back) → P x
the_one P [] x back all = all 0 x (omega arith)
the_one P (y ∷ front) x back all = the_one P front x back (All-tail P y (front ++ x ∷ back) all)

-- what is answered is among a text that has the asides
pub answer_among : (d : deck.Taken) (answers : Answers) (read : Option DeckRead) (asides : List Aside) (text : List ℕ) →
    OneAnswers d answers read asides → All (HasAside text) asides → TellsAnswer d.first (stood_of d) d.plan.now answers read text
answer_among d answers None asides text one all = tt
answer_among d answers (Some read) asides text one all =
    among_front (answer_head d.first (stood_of d) d.plan.now answers read) one.aside.text.items text one.begins.0 one.begins.1
    (the_one (HasAside text) one.there.front one.aside one.there.back (subst (All (HasAside text)) one.there.so all))

-- the line, the job and what it is answered, with words behind
pub begins_so : (first : ℕ) (s : Stood) (plan : JobPlan) (answers : Answers) (read : DeckRead) (answer : Option Answer) (card : Option ℕ) (line : ℕ)
    (rest said text whole : List ℕ) → answer ≡ answer_to answers read.job → card ≡ card_told s answer → line ≡ line_at first card →
    text ≡ beginning line read.job plan.name answer ++ rest → whole ≡ text ++ said → BeginsWith (answer_head first s plan answers read) whole
begins_so first s plan answers read answer card line rest said text whole is at on e f = (
  rest ++ said,
  f ∙ ap (λ t. t ++ said) e ∙ append_assoc (beginning line read.job plan.name answer) rest said
      ∙ ap (λ n. beginning n read.job plan.name answer ++ (rest ++ said)) (on ∙ ap (line_at first) at)
      ∙ ap (λ a. beginning (line_at first (card_told s a)) read.job plan.name a ++ (rest ++ said)) is,
)
