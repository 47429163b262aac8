-- A procedure of a deck stands behind its PROC statement.
use Rattle.std.proofs.Common.{◌≡◌, ◌∷◌, ◌++◌, ◌∙◌, ◌⊎◌, inl, inr, ◌<◌, ◌≤◌, ℕ, suc, ◌+◌, ◌&&◌, Bool, true, false, List, [], Option, None, Some, Result, Ok, Err, append_assoc, append-nil, ap, arith, cond, drop, length, length-drop, refl, subst, sym, take}
use Rattle.std.specs.Prelude.{unwrap_or, if◌then◌else◌}
use Rattle.std.proofs.lemmas.List.{length-take-le}
use Rattle.std.specs.List.{position_from}
use Rattle.std.specs.Str.{bytes_eq}
use Rattle.card_core.specs.declared.statement.Statement.{Statement}
use Rattle.jcl_cards.specs.declared.job.JobCard.{JobCard}
use Rattle.jcl_cards.specs.declared.procedure.ProcedureCard.{ProcedureCard}
use Rattle.jcl_cards.specs.ProcedureCards as cards
use Rattle.jcl_deck.specs.declared.deck.Deck.{Deck}
use Rattle.jcl_deck.specs.declared.deck.Procedure.{Procedure}
use Rattle.jcl_deck.specs.declared.operation.Operation.{Operation}
use Rattle.jcl_deck.specs.declared.operation.Operation.TheVariants.{IsDd, IsExec, IsJob, IsOther, IsPend, IsProc}
use Rattle.jcl_deck.specs.Decks.{Place, behind, deck_behind, deck_from, deck_of, ended_with, keeps, onto_open, operation_of, outside, procedure_with, start, within}
use Rattle.jcl_plan.specs.declared.fault.Cause.{Cause}
use Rattle.jcl_procs.specs.Bodies.{is_proc, is_proc_by}
use Rattle.jcl_procs.specs.Expansions.{in_deck}
use Rattle.operand_core.specs.Faults.{or_fault, written_name}
use Rattle.operand_core.specs.Keywords.{is_long}
use Rattle.operand_core.specs.Operands.{operand_of}
use Rattle.value_core.specs.Reads.{Read}
use Rattle.deck_places.specs.Called.{StandsAmong, begins_procedure}

-- what a statement that is taken does to the procedures
data Moved (place : Place) (s : Statement) (next : Place) : Type 0 where
  Stays : place.is_open ≡ false → is_proc s ≡ false → next.is_open ≡ false → next.procedures ≡ place.procedures → Moved place s next
  Opens : place.is_open ≡ false → is_proc s ≡ true → next.is_open ≡ true → (p : Procedure) → p.name ≡ s.name → p.statements ≡ [] →
      next.procedures ≡ place.procedures ++ p ∷ [] → Moved place s next
  Keeps : place.is_open ≡ true → is_proc s ≡ false → next.is_open ≡ true → next.procedures ≡ onto_open s place.procedures → Moved place s next
  Closes : place.is_open ≡ true → is_proc s ≡ false → next.is_open ≡ false → next.procedures ≡ place.procedures → Moved place s next

ok_is : {A : Type 0} (fault : Option Cause) (x y : A) → or_fault fault x ≡ Ok y → x ≡ y
ok_is None x y e = cc
ok_is (Some fault) x y e = absurd cc

name_is : (name : List ℕ) → unwrap_or (written_name name) [] ≡ name
name_is [] = refl
name_is (c ∷ cs) = refl

card_is : (long : Bool) (name : List ℕ) (faults : List Cause) (r : Read ProcedureCard) → r.value.name ≡ written_name name →
    unwrap_or (if long then record { value = r.value; faults = faults } else r).value.name [] ≡ name
card_is true name faults r e = ap (λ n. unwrap_or n []) e ∙ name_is name
card_is false name faults r e = ap (λ n. unwrap_or n []) e ∙ name_is name

-- outside of a procedure
module _ (place : Place) (closed : place.is_open ≡ false) (s : Statement) (next : Place) where
  stays_same : is_proc s ≡ false → next.is_open ≡ place.is_open → next.procedures ≡ place.procedures → Moved place s next
  stays_same none shown procedures = Stays closed none (shown ∙ closed) procedures

  stays_with : is_proc s ≡ false → (made : Place) → made ≡ next → made.is_open ≡ place.is_open → made.procedures ≡ place.procedures → Moved place s next
  stays_with none made is shown procedures =
      stays_same none (ap (λ (p : Place). p.is_open) (sym is) ∙ shown) (ap (λ (p : Place). p.procedures) (sym is) ∙ procedures)

  by_outside : (operation : Operation) → operation_of s.operation ≡ operation → outside operation place s ≡ Ok next → Moved place s next
  by_outside IsJob o e = stays_with (ap is_proc_by o) _ (ok_is _ _ next e) refl refl
  by_outside IsExec o e = stays_with (ap is_proc_by o) _ (ok_is _ _ next e) refl refl
  by_outside IsDd o e = stays_with (ap is_proc_by o) _ (ok_is _ _ next e) refl refl
  by_outside IsPend o e = stays_with (ap is_proc_by o) _ (ok_is _ _ next e) refl refl
  by_outside IsOther o e = stays_with (ap is_proc_by o) _ (ok_is _ _ next e) refl refl
  by_outside IsProc o e =
      let is = ok_is _ _ next e in
      Opens closed (ap is_proc_by o) (ap (λ (p : Place). p.is_open) (sym is)) (procedure_with (cards.procedure_card true s.name s.operand).value)
      (card_is (is_long s.operand) s.name _ (cards.procedure_with true s.name (operand_of 0 s.operand)) refl) refl (ap (λ (p : Place). p.procedures) (sym is))

-- within one
module _ (place : Place) (opened : place.is_open ≡ true) (s : Statement) (next : Place) where
  keeps_with : is_proc s ≡ false → keeps place s ≡ next → Moved place s next
  keeps_with none is =
      Keeps opened none (ap (λ (p : Place). p.is_open) (sym is) ∙ opened) (ap (λ (p : Place). p.procedures) (sym is))

  by_within : (operation : Operation) → operation_of s.operation ≡ operation → within operation place s ≡ Ok next → Moved place s next
  by_within IsExec o e = keeps_with (ap is_proc_by o) cc
  by_within IsDd o e = keeps_with (ap is_proc_by o) cc
  by_within IsPend o e =
      let is : record place { is_open = false } ≡ next = cc in
      Closes opened (ap is_proc_by o) (ap (λ (p : Place). p.is_open) (sym is)) (ap (λ (p : Place). p.procedures) (sym is))
  by_within IsJob o e = absurd cc
  by_within IsProc o e = absurd cc
  by_within IsOther o e = absurd cc

moved_by : (shown : Bool) (place : Place) (s : Statement) (next : Place) → place.is_open ≡ shown →
    (if shown then within (operation_of s.operation) place s else outside (operation_of s.operation) place s) ≡ Ok next → Moved place s next
moved_by true place s next o e = by_within place o s next (operation_of s.operation) refl e
moved_by false place s next o e = by_outside place o s next (operation_of s.operation) refl e

moved : (place : Place) (s : Statement) (next : Place) → behind place s ≡ Ok next → Moved place s next
moved place s next e = moved_by place.is_open place s next refl e

-- a deck behind a statement is one from the next place on
behind_it : (r : Result Place Cause) (statements : List Statement) (deck : Deck) → deck_behind r (λ next. deck_from next statements) ≡ Ok deck →
    (next : Place) × (r ≡ Ok next) × (deck_from next statements ≡ Ok deck)
behind_it (Err cause) statements deck e = absurd cc
behind_it (Ok next) statements deck e = (next, refl, e)

at_end : (job : Option JobCard) (place : Place) (deck : Deck) → ended_with job place ≡ Ok deck → deck.procedures ≡ place.procedures
at_end None place deck e = absurd cc
at_end (Some job) place deck e = let is = ok_is _ _ deck e in ap (λ (d : Deck). d.procedures) (sym is)

-- procedures by their names
module _ (name : List ℕ) where
  in_front_turn : (b : Bool) (p q : Procedure) (procedures : List Procedure) (last : Procedure) →
      (in_deck procedures name ≡ Some q → in_deck (procedures ++ last ∷ []) name ≡ Some q) →
      (if b then Some p else in_deck procedures name) ≡ Some q → (if b then Some p else in_deck (procedures ++ last ∷ []) name) ≡ Some q
  in_front_turn true p q procedures last more e = e
  in_front_turn false p q procedures last more e = more e

  in_front : (procedures : List Procedure) (last q : Procedure) → in_deck procedures name ≡ Some q → in_deck (procedures ++ last ∷ []) name ≡ Some q
  in_front [] last q e = absurd cc
  in_front (p ∷ procedures) last q e = in_front_turn (bytes_eq p.name name) p q procedures last (in_front procedures last q) e

  at_last_turn : (b : Bool) (p : Procedure) (procedures : List Procedure) (last : Procedure) →
      (in_deck procedures name ≡ None → in_deck (procedures ++ last ∷ []) name ≡ (if bytes_eq last.name name then Some last else None)) →
      (if b then Some p else in_deck procedures name) ≡ None →
      (if b then Some p else in_deck (procedures ++ last ∷ []) name) ≡ (if bytes_eq last.name name then Some last else None)
  at_last_turn true p procedures last more e = absurd cc
  at_last_turn false p procedures last more e = more e

  at_last : (procedures : List Procedure) (last : Procedure) → in_deck procedures name ≡ None →
      in_deck (procedures ++ last ∷ []) name ≡ (if bytes_eq last.name name then Some last else None)
  at_last [] last e = refl
  at_last (p ∷ procedures) last e = at_last_turn (bytes_eq p.name name) p procedures last (at_last procedures last) e

  kept_none_turn : (b : Bool) (p : Procedure) (procedures kept : List Procedure) → (in_deck procedures name ≡ None → in_deck kept name ≡ None) →
      (if b then Some p else in_deck procedures name) ≡ None → (if b then Some p else in_deck kept name) ≡ None
  kept_none_turn true p procedures kept more e = absurd cc
  kept_none_turn false p procedures kept more e = more e

  kept_last : (b : Bool) (p q : Procedure) → (if b then Some p else None) ≡ None → (if b then Some q else None) ≡ None
  kept_last true p q e = absurd cc
  kept_last false p q e = refl

  kept_none : (s : Statement) (procedures : List Procedure) → in_deck procedures name ≡ None → in_deck (onto_open s procedures) name ≡ None
  kept_none s [] e = refl
  kept_none s (p ∷ []) e = kept_last (bytes_eq p.name name) p (record p { statements = p.statements ++ s ∷ [] }) e
  kept_none s (p ∷ q ∷ procedures) e =
      kept_none_turn (bytes_eq p.name name) p (q ∷ procedures) (onto_open s (q ∷ procedures)) (kept_none s (q ∷ procedures)) e

abbrev with_statement : Procedure → Statement → Procedure
with_statement p s = record p { statements = p.statements ++ s ∷ [] }

kept_behind : (s : Statement) (front : List Procedure) (last : Procedure) → onto_open s (front ++ last ∷ []) ≡ front ++ with_statement last s ∷ []
kept_behind s [] last = refl
kept_behind s (p ∷ []) last = refl
kept_behind s (p ∷ q ∷ front) last = ap (λ l. p ∷ l) (kept_behind s (q ∷ front) last)

-- a procedure of a name that stays as it is: none is open, or it is not the last
abbrev IsFixed : Place → List ℕ → Procedure → Type 0
IsFixed place name p =
    (place.is_open ≡ false) × (in_deck place.procedures name ≡ Some p)
    ⊎ ((front : List Procedure) × (last : Procedure) × (place.procedures ≡ front ++ last ∷ []) × (in_deck front name ≡ Some p))

is_found : (place : Place) (name : List ℕ) (p : Procedure) → IsFixed place name p → in_deck place.procedures name ≡ Some p
is_found place name p (inl (closed, found)) = found
is_found place name p (inr (front, last, so, found)) = ap (λ l. in_deck l name) so ∙ in_front name front last p found

fixed_behind : (place : Place) (s : Statement) (next : Place) (name : List ℕ) (p : Procedure) → IsFixed place name p → Moved place s next → IsFixed next name p
fixed_behind place s next name p fixed (Stays closed none shown procedures) =
    inl (shown, ap (λ l. in_deck l name) procedures ∙ is_found place name p fixed)
fixed_behind place s next name p fixed (Opens closed proc shown q named new procedures) =
    inr (place.procedures, q, procedures, is_found place name p fixed)
fixed_behind place s next name p fixed (Closes opened none closed procedures) =
    inl (closed, ap (λ l. in_deck l name) procedures ∙ is_found place name p fixed)
fixed_behind place s next name p (inl (closed, found)) (Keeps opened none shown procedures) =
    let both : true ≡ false = sym opened ∙ closed in absurd cc
fixed_behind place s next name p (inr (front, last, so, found)) (Keeps opened none shown procedures) =
    inr (front, with_statement last s, procedures ∙ ap (onto_open s) so ∙ kept_behind s front last, found)

stays_fixed : (statements : List Statement) (place : Place) (deck : Deck) (name : List ℕ) (p : Procedure) → IsFixed place name p →
    deck_from place statements ≡ Ok deck → in_deck deck.procedures name ≡ Some p
stays_fixed [] place deck name p fixed e = ap (λ l. in_deck l name) (at_end place.job place deck e) ∙ is_found place name p fixed
stays_fixed (s ∷ statements) place deck name p fixed e =
    let next = behind_it (behind place s) statements deck e in
    stays_fixed statements next.0 deck name p (fixed_behind place s next.0 name p fixed (moved place s next.0 next.1)) next.2

-- a list's first items behind others
record IsBehind (all front statements : List Statement) : Type 0 where
  count : ℕ
  within : count ≤ length statements
  so : all ≡ front ++ take count statements

-- the last of a name, which is open, takes statements to its end
module _ (name : List ℕ) (deck : Deck) (p : Procedure) (there : in_deck deck.procedures name ≡ Some p) where
  is_it : (q : Procedure) → in_deck deck.procedures name ≡ Some q → p ≡ q
  is_it q e = let both : Some p ≡ Some q = sym there ∙ e in cc

  ends_here : (statements : List Statement) (last : Procedure) → p ≡ last → IsBehind p.statements last.statements statements
  ends_here statements last e = record {
    count = 0;
    within = omega arith;
    so = ap (λ (q : Procedure). q.statements) e ∙ sym (append-nil last.statements);
  }

  its_own : (procedures front : List Procedure) (last : Procedure) → procedures ≡ front ++ last ∷ [] → in_deck front name ≡ None →
      bytes_eq last.name name ≡ true → in_deck procedures name ≡ Some last
  its_own procedures front last so none named =
      ap (λ l. in_deck l name) so ∙ at_last name front last none ∙ ap (λ b. if b then Some last else None) named

  takes_turn : (s : Statement) (statements : List Statement) (place : Place) (front : List Procedure) (last : Procedure) → place.is_open ≡ true →
      place.procedures ≡ front ++ last ∷ [] → in_deck front name ≡ None → bytes_eq last.name name ≡ true →
      ((next : Place) → next.is_open ≡ true → next.procedures ≡ front ++ with_statement last s ∷ [] → deck_from next statements ≡ Ok deck →
      IsBehind p.statements (last.statements ++ s ∷ []) statements) →
      (next : Place) → deck_from next statements ≡ Ok deck → Moved place s next → IsBehind p.statements last.statements (s ∷ statements)
  takes_turn s statements place front last was so none named further next read (Stays closed other shut procedures) =
      let both : true ≡ false = sym was ∙ closed in absurd cc
  takes_turn s statements place front last was so none named further next read (Opens closed other shut q own new procedures) =
      let both : true ≡ false = sym was ∙ closed in absurd cc
  takes_turn s statements place front last was so none named further next read (Closes opened other shut procedures) =
      let found = its_own next.procedures front last (procedures ∙ so) none named in
      ends_here (s ∷ statements) last (is_it last (stays_fixed statements next deck name last (inl (shut, found)) read))
  takes_turn s statements place front last was so none named further next read (Keeps opened other still procedures) =
      let more = further next still (procedures ∙ ap (onto_open s) so ∙ kept_behind s front last) read in
      record {
        count = suc more.count;
        within = let within = more.within in omega arith;
        so = more.so ∙ append_assoc last.statements (s ∷ []) (take more.count statements);
      }

  takes : (statements : List Statement) (place : Place) (front : List Procedure) (last : Procedure) → place.is_open ≡ true →
      place.procedures ≡ front ++ last ∷ [] → in_deck front name ≡ None → bytes_eq last.name name ≡ true → deck_from place statements ≡ Ok deck →
      IsBehind p.statements last.statements statements
  takes [] place front last was so none named e =
      ends_here [] last (is_it last (ap (λ l. in_deck l name) (at_end place.job place deck e) ∙ its_own place.procedures front last so none named))
  takes (s ∷ statements) place front last was so none named e =
      let next = behind_it (behind place s) statements deck e in
      takes_turn s statements place front last was so none named
      (λ after still its read. takes statements after front (with_statement last s) still its none named read) next.0 next.2 (moved place s next.0 next.1)

  -- one that is not there yet begins with a PROC statement of its name
  record Begins (i : ℕ) (statements : List Statement) : Type 0 where
    before : ℕ
    at : position_from (begins_procedure name) i statements ≡ Some (i + before)
    taken : IsBehind p.statements [] (drop (before + 1) statements)
    within : before < length statements

  later : (i : ℕ) (s : Statement) (statements : List Statement) → begins_procedure name s ≡ false → Begins (i + 1) statements → Begins i (s ∷ statements)
  later i s statements not further = record {
    before = suc further.before;
    at = ap (λ b. cond b (Some i) (position_from (begins_procedure name) (i + 1) statements)) not ∙ further.at
        ∙ ap Some (let e : i + 1 + further.before ≡ i + suc further.before = omega arith in e);
    taken = subst (λ n. IsBehind p.statements [] (drop n (s ∷ statements)))
        (let e : suc (further.before + 1) ≡ suc further.before + 1 = omega arith in e) further.taken;
    within = let within = further.within in omega arith;
  }

  module _ (s : Statement) (statements : List Statement) (place : Place) (i : ℕ) (none : in_deck place.procedures name ≡ None)
      (further : (next : Place) → in_deck next.procedures name ≡ None → deck_from next statements ≡ Ok deck → Begins (i + 1) statements) where
    other : is_proc s ≡ false → begins_procedure name s ≡ false
    other h = ap (λ b. b && bytes_eq s.name name) h

    begins_with : (b : Bool) → bytes_eq s.name name ≡ b → is_proc s ≡ true → (next : Place) → deck_from next statements ≡ Ok deck → next.is_open ≡ true →
        (q : Procedure) → q.name ≡ s.name → q.statements ≡ [] → next.procedures ≡ place.procedures ++ q ∷ [] → Begins i (s ∷ statements)
    begins_with true its proc next read now q own new procedures =
        let named : bytes_eq q.name name ≡ true = ap (λ n. bytes_eq n name) own ∙ its in
        let first : begins_procedure name s ≡ true = ap (λ b. b && bytes_eq s.name name) proc ∙ its in
        let body = takes statements next place.procedures q now procedures none named read in
        record {
          before = 0;
          at = ap (λ b. cond b (Some i) (position_from (begins_procedure name) (i + 1) statements)) first ∙ ap Some (let e : i ≡ i + 0 = omega arith in e);
          taken = record { count = body.count; within = body.within; so = body.so ∙ ap (λ l. l ++ take body.count statements) new };
          within = omega arith;
        }
    begins_with false its proc next read now q own new procedures =
        let not_it : bytes_eq q.name name ≡ false = ap (λ n. bytes_eq n name) own ∙ its in
        let none_more : in_deck next.procedures name ≡ None = ap (λ l. in_deck l name) procedures ∙ at_last name place.procedures q none
        ∙ ap (λ b. if b then Some q else None) not_it in
        later i s statements (ap (λ b. b && bytes_eq s.name name) proc ∙ its) (further next none_more read)

    begins_turn : (next : Place) → deck_from next statements ≡ Ok deck → Moved place s next → Begins i (s ∷ statements)
    begins_turn next read (Stays closed not shut procedures) =
        later i s statements (other not) (further next (ap (λ l. in_deck l name) procedures ∙ none) read)
    begins_turn next read (Closes opened not shut procedures) =
        later i s statements (other not) (further next (ap (λ l. in_deck l name) procedures ∙ none) read)
    begins_turn next read (Keeps opened not still procedures) =
        later i s statements (other not) (further next (ap (λ l. in_deck l name) procedures ∙ kept_none name s place.procedures none) read)
    begins_turn next read (Opens closed proc now q own new procedures) = begins_with (bytes_eq s.name name) refl proc next read now q own new procedures

  begins : (statements : List Statement) (place : Place) (i : ℕ) → in_deck place.procedures name ≡ None → deck_from place statements ≡ Ok deck → Begins i statements
  begins [] place i none e =
      let both : None ≡ Some p = sym none ∙ ap (λ l. in_deck l name) (sym (at_end place.job place deck e)) ∙ there in absurd cc
  begins (s ∷ statements) place i none e =
      let next = behind_it (behind place s) statements deck e in
      begins_turn s statements place i none (λ after no read. begins statements after (i + 1) no read) next.0 next.2 (moved place s next.0 next.1)

-- a list's first items are as many as they are
counted : (all statements : List Statement) → IsBehind all [] statements → (length all ≤ length statements) × (take (length all) statements ≡ all)
counted all statements behind =
    let so : all ≡ take behind.count statements = behind.so in
    let many : length all ≡ behind.count = ap length so ∙ length-take-le behind.count statements behind.within in
    let within = behind.within in (omega arith, ap (λ n. take n statements) many ∙ sym so)

-- a procedure that a deck has stands among its statements
pub stands_among : (statements : List Statement) (deck : Deck) (name : List ℕ) (p : Procedure) → deck_of statements ≡ Ok deck →
    in_deck deck.procedures name ≡ Some p → StandsAmong statements name p
stands_among statements deck name p read there =
    let it = begins name deck p there statements start 0 refl read in
    let body = counted p.statements (drop (it.before + 1) statements) it.taken in
    let left = length-drop (it.before + 1) statements in
    let within = it.within in
    let most = body.0 in
    record {
      proc = it.before;
      there = it.at ∙ ap Some (let e : 0 + it.before ≡ it.before = omega arith in e);
      within = omega arith;
      so = body.1;
    }
