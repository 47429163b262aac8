-- The statements of a procedure that bring steps at one call, read at another with other symbols: what need not be read again there.
use Rattle.std.proofs.Common.{◌≡◌, ◌∷◌, ◌++◌, ◌∙◌, ◌||◌, ◌==◌, ◌+◌, ℕ, Bool, true, false, List, [], Result, Ok, Err, ap, length, length-append, map, refl, subst, sym}
use Rattle.std.specs.Prelude.{if◌then◌else◌}
use Rattle.card_core.specs.declared.statement.Statement.{Statement}
use Rattle.jcl_dds.specs.declared.dd.DdCard.{DdCard}
use Rattle.jcl_dds.specs.DdCards.{dd_card, dd_name_faults}
use Rattle.jcl_deck.specs.declared.operation.Operation.{Operation}
use Rattle.jcl_deck.specs.declared.operation.Operation.TheVariants.{IsDd, IsExec, IsJob, IsOther, IsPend, IsProc}
use Rattle.jcl_deck.specs.Decks.{operation_of}
use Rattle.jcl_plan.specs.declared.fault.Cause.{Cause}
use Rattle.jcl_plan.specs.declared.fault.Cause.TheVariants.{P}
use Rattle.jcl_plan.specs.declared.fault.StatementFault.TheVariants.{NoStep}
use Rattle.jcl_procs.specs.declared.step.FlatStep.{FlatStep}
use Rattle.jcl_procs.specs.declared.calls.Place as code
use Rattle.jcl_procs.specs.Calling.{Moves, behind}
use Rattle.jcl_procs.specs.Calls.{Call, Place, behind_by, dd_faults, onto_last, read_with, steps_behind, steps_from, steps_of, steps_with, takes_dd}
use Rattle.jcl_procs.specs.Counting.{IsSettled, Tells}
use Rattle.jcl_procs.proofs.Alike.{AreAlike, Follow, alike_dds, alike_settled, alike_steps, as_many_behind, follow_by, has_none, with_dd}
use Rattle.jcl_procs.proofs.Called.{value_is}
use Rattle.jcl_procs.proofs.Unused.{unused}
use Rattle.jcl_symbols.specs.Substitutions.{substituted}
use Rattle.operand_core.specs.Faults.{or_fault, told}
use Rattle.value_core.specs.declared.refusal.ReadError.{ReadError}
use Rattle.value_core.specs.declared.refusal.ReadError.TheVariants.{Memory, Refused}
use Rattle.value_core.specs.Reads.{Read}

alike_as : (a b x y : Place) → AreAlike a b → x ≡ a → y ≡ b → AreAlike x y
alike_as a b x y alike is so = subst (λ p. AreAlike p y) (sym is) (subst (λ p. AreAlike a p) (sym so) alike)

module _ (first call : Call) where
  -- both calls take the statements so far, the second one also those that are left out
  pub record Goes (statements : List Statement) (place : Place) (rest : List Statement) : Type 0 where
    pub before : Place
    pub full : Place
    pub found : List FlatStep
    pub was : steps_from first before rest ≡ Ok found
    pub so : steps_of call statements ≡ steps_from call full rest
    pub near : AreAlike before full
    pub kept : AreAlike full place
    pub count : length full.steps ≡ length place.steps

  abbrev nothing : Place
  nothing = record { job_library = false; steps = [] }

  pub begins : (statements : List Statement) (found : List FlatStep) → steps_of first statements ≡ Ok found → Goes statements nothing statements
  begins statements found is = record {
    before = nothing;
    full = nothing;
    found = found;
    was = is;
    so = refl;
    near = record { none = refl; faults = λ s. refl };
    kept = record { none = refl; faults = λ s. refl };
    count = refl;
  }

  -- the DD that a call reads
  abbrev dd_at : Call → Place → Statement → DdCard
  dd_at c place s =
      (read_with (substituted c.symbols true s.operand) (dd_name_faults s.name) (λ operand. dd_card s.name operand s.cards) (dd_faults place s)).value

  both_taken : (operation : Operation) (a b x y : Place) (s : Statement) → AreAlike a b → behind_by operation first a s ≡ Ok x →
      behind_by operation call b s ≡ Ok y → AreAlike x y
  both_taken IsExec a b x y s alike is so = alike_as _ _ x y (alike_steps a b _ _ refl refl) (value_is _ _ x is) (value_is _ _ y so)
  both_taken IsDd a b x y s alike is so = alike_as _ _ x y (alike_dds a b (dd_at first a s) (dd_at call b s) alike) (value_is _ _ x is) (value_is _ _ y so)
  both_taken IsProc a b x y s alike is so = alike_as a b x y alike (value_is _ a x is) (value_is _ b y so)
  both_taken IsJob a b x y s alike is so = alike_as a b x y alike (value_is _ a x is) (value_is _ b y so)
  both_taken IsPend a b x y s alike is so = alike_as a b x y alike (value_is _ a x is) (value_is _ b y so)
  both_taken IsOther a b x y s alike is so = alike_as a b x y alike (value_is _ a x is) (value_is _ b y so)

  length_is : (a x : Place) → x ≡ a → length x.steps ≡ length a.steps
  length_is a x is = ap (λ (p : Place). length p.steps) is

  as_long : (operation : Operation) (a b x y : Place) (s : Statement) → length a.steps ≡ length b.steps → behind_by operation call a s ≡ Ok x →
      behind_by operation call b s ≡ Ok y → length x.steps ≡ length y.steps
  as_long IsExec a b x y s same is so =
      let one = length_is _ x (value_is _ _ x is) ∙ length-append a.steps (_ ∷ []) in
      let two = length_is _ y (value_is _ _ y so) ∙ length-append b.steps (_ ∷ []) in
      one ∙ ap (λ n. n + 1) same ∙ sym two
  as_long IsDd a b x y s same is so =
      length_is _ x (value_is _ _ x is) ∙ as_many_behind (dd_at call a s) a.steps ∙ same
      ∙ sym (length_is _ y (value_is _ _ y so) ∙ as_many_behind (dd_at call b s) b.steps)
  as_long IsProc a b x y s same is so = length_is a x (value_is _ a x is) ∙ same ∙ sym (length_is b y (value_is _ b y so))
  as_long IsJob a b x y s same is so = length_is a x (value_is _ a x is) ∙ same ∙ sym (length_is b y (value_is _ b y so))
  as_long IsPend a b x y s same is so = length_is a x (value_is _ a x is) ∙ same ∙ sym (length_is b y (value_is _ b y so))
  as_long IsOther a b x y s same is so = length_is a x (value_is _ a x is) ∙ same ∙ sym (length_is b y (value_is _ b y so))

  follows : (s : Statement) (full place : Place) → AreAlike full place → Follow (behind call full s) (behind call place s)
  follows s full place kept = follow_by call.name call.name call.symbols call.place call.place (operation_of s.operation) full place s kept

  module _ (statements rest : List Statement) (s : Statement) (place : Place) (it : Goes statements place (s ∷ rest)) where
    so_behind : (operation : Operation) (next : Place) → operation_of s.operation ≡ operation → behind_by operation call it.full s ≡ Ok next →
        steps_of call statements ≡ steps_from call next rest
    so_behind operation next is taken =
        it.so ∙ ap (λ (o : Operation). steps_behind (behind_by o call it.full s) (λ p. steps_from call p rest)) is
        ∙ ap (λ (r : Result Place Cause). steps_behind r (λ p. steps_from call p rest)) taken

    taken_by : (next : Place) → behind call place s ≡ Ok next → (x y : Result Place Cause) → behind first it.before s ≡ x → behind call it.full s ≡ y →
        steps_behind x (λ p. steps_from first p rest) ≡ Ok it.found → Follow y (Ok next) → Goes statements next rest
    taken_by next is (Ok a) (Ok b) is_a is_b was alike = record {
      before = a;
      full = b;
      found = it.found;
      was = was;
      so = so_behind (operation_of s.operation) b refl is_b;
      near = both_taken (operation_of s.operation) it.before it.full a b s it.near is_a is_b;
      kept = alike;
      count = as_long (operation_of s.operation) it.full place b next s it.count is_b is;
    }
    taken_by next is (Ok a) (Err f) is_a is_b was alike = absurd alike
    taken_by next is (Err f) y is_a is_b was alike = absurd cc

    pub goes_on : (next : Place) → behind call place s ≡ Ok next → Goes statements next rest
    goes_on next is =
        taken_by next is (behind first it.before s) (behind call it.full s) refl refl it.was
        (subst (λ r. Follow (behind call it.full s) r) is (follows s it.full place it.kept))

    refused_by : (fault : Cause) (y : Result Place Cause) → behind call it.full s ≡ y → Follow y (Err fault) → steps_of call statements ≡ Err fault
    refused_by fault (Ok b) is alike = absurd alike
    refused_by fault (Err own) is same =
        it.so ∙ ap (λ (r : Result Place Cause). steps_behind r (λ p. steps_from call p rest)) is
        ∙ ap (λ (f : Cause). let r : Result (List FlatStep) Cause = Err f in r) same

    pub refuses : (fault : Cause) → behind call place s ≡ Err fault → steps_of call statements ≡ Err fault
    refuses fault is =
        refused_by fault (behind call it.full s) refl (subst (λ r. Follow (behind call it.full s) r) is (follows s it.full place it.kept))

    -- a DD that need not be read
    abbrev taken_with : Read (List ℕ) → Result Place Cause
    taken_with operand =
        let r : Read DdCard = read_with operand (dd_name_faults s.name) (λ text. dd_card s.name text s.cards) (dd_faults it.full s) in
        or_fault (told r.faults) (with_dd it.full r.value)

    past_by : (x y : Result Place Cause) → takes_dd first it.before s ≡ x → takes_dd call it.full s ≡ y → IsSettled place s →
        steps_behind x (λ p. steps_from first p rest) ≡ Ok it.found → Follow x y → Goes statements place rest
    past_by (Ok a) (Ok b) is_a is_b settled was alike = record {
      before = a;
      full = b;
      found = it.found;
      was = was;
      so = so_behind IsDd b settled.dd is_b;
      near = alike;
      kept = alike_as _ place b place (alike_settled it.full place (dd_at call it.full s) it.kept settled.behind) (value_is _ _ b is_b) refl;
      count = length_is _ b (value_is _ _ b is_b) ∙ as_many_behind (dd_at call it.full s) it.full.steps ∙ it.count;
    }
    past_by (Ok a) (Err f) is_a is_b settled was alike = absurd alike
    past_by (Err f) y is_a is_b settled was alike = absurd cc

    pub goes_past : IsSettled place s → Goes statements place rest
    goes_past settled =
        let same : taken_with (substituted first.symbols true s.operand) ≡ taken_with (substituted call.symbols true s.operand) =
        ap taken_with (unused first.symbols call.symbols true s.operand settled.plain) in
        past_by (takes_dd first it.before s) (takes_dd call it.full s) refl refl settled
        (subst (λ (o : Operation). steps_behind (behind_by o first it.before s) (λ p. steps_from first p rest) ≡ Ok it.found) settled.dd it.was)
        (subst (λ r. Follow (takes_dd first it.before s) r) same
        (follow_by first.name call.name first.symbols first.place call.place IsDd it.before it.full s it.near))

  ended : Bool → List FlatStep → Result (List FlatStep) Cause
  ended none steps = if none then Err (P NoStep) else Ok steps

  pub ends : (statements : List Statement) (place : Place) → Goes statements place [] →
      (found : List FlatStep) × (steps_of call statements ≡ Ok found) × (length found ≡ length place.steps)
  unfolding ended
  ends statements place it = by (has_none it.before) refl it.was
    where
      by : (b : Bool) → has_none it.before ≡ b → ended b it.before.steps ≡ Ok it.found →
          (found : List FlatStep) × (steps_of call statements ≡ Ok found) × (length found ≡ length place.steps)
      by true is h = absurd cc
      by false is h = (it.full.steps, it.so ∙ ap (λ b. ended b it.full.steps) (sym it.near.none ∙ is), it.count)

-- what is told of an error
pub tells_on : (told : Result ℕ ReadError) (r : Result (List FlatStep) Cause) (e : ReadError) → Tells (Err e) r →
    (d : ReadError) × (told ≡ Err d) × (d ≡ e) → Tells told r
tells_on told r e is exit =
    subst (λ (x : Result ℕ ReadError). Tells x r)
    (sym (exit.1 ∙ ap (λ (d : ReadError). let x : Result ℕ ReadError = Err d in x) exit.2)) is

pub tells_moved : (r : Result (List FlatStep) Cause) (moved : Result Place Cause) (e : ReadError) (new : code.Place) →
    ((f : Cause) → moved ≡ Err f → r ≡ Err f) → Moves (Err e) new moved → Tells (Err e) r
tells_moved r moved (Refused f) new goes is = goes f is
tells_moved r moved Memory new goes is = tt
