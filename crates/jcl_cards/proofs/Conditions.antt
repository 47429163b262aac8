-- what COND says in keywords that are read one by one
use Rattle.std.proofs.Common.{◌≡◌, ℕ, suc, ◌<◌, ◌+◌, Bool, true, false, cond, not, ◌&&◌, ◌||◌, ◌==◌, List, [], ◌∷◌, ◌++◌, length, take, filter, map, get_or, codes, Option, Some, None, Result, Ok, Err, IfOk, refl, sym, ap, ◌∙◌, arith}
use Rattle.std.specs.List.{flat_map, prefix_len}
use Rattle.std.specs.Str.{bytes_eq}
use Rattle.std.proofs.lemmas.List.{take_more, append-nil}
use Rattle.std.proofs.lemmas.Slice.Eq.{bytes_eq-Decides}
use Rattle.jcl_plan.specs.declared.fault.Cause.{Cause}
use Rattle.list_values.specs.declared.condition.Condition.{Condition}
use Rattle.operand_core.specs.Faults.{earlier, or_fault, told}
use Rattle.operand_core.specs.Operands.{Keyword}
use Rattle.operand_core.specs.Qualified.{head_of, is_no_period, is_qualified}
use Rattle.operand_core.proofs.Told.{told-none, told_append, told_flat_map_more}
use Rattle.jcl_cards.specs.declared.exec.StepCondition.{StepCondition}
use Rattle.jcl_cards.specs.declared.exec_conditions.Conditions.{Conditions}
use Rattle.jcl_cards.specs.Conditions.{AddsKeyword, AddsRead, AreAllRead, conditions_in, or_first, with_condition, with_keyword}
use Rattle.jcl_cards.specs.ExecCards.{ExecKeyword, IsLeftOut, IsUnknown, OfCondition, OfForm, OfParm, OfProcedure, OfProgram, OfSymbol, condition_in, condition_of, exec_keyword, faults_of, is_step_condition, step_condition, step_faults, step_named}
use Rattle.jcl_cards.specs.Execs.{faults_on, is_form, is_left_out, keyword_of, step_conditions_of}
use Rattle.jcl_cards.specs.declared.exec_keyword.ExecKeyword.{ExecKeyword as Word}
use Rattle.jcl_cards.specs.declared.exec_keyword.ExecKeyword.TheVariants as word
use Rattle.value_core.specs.Reads.{IsRead}

-- one keyword more
abbrev own_case : Bool → Option Condition → Condition → Option Condition
own_case is own value = cond is (or_first own value) own

-- COND without a step, of one more
own_more : (keywords : List Keyword) (k : Keyword) →
    condition_in (keywords ++ k ∷ []) ≡ own_case (bytes_eq k.key (codes "COND")) (condition_in keywords) (condition_of k.value).value
own_more [] k = last (bytes_eq k.key (codes "COND"))
  where
    last : (is : Bool) → cond is (Some (condition_of k.value).value) None ≡ own_case is None (condition_of k.value).value
    last true = refl
    last false = refl
own_more (x ∷ xs) k = front (bytes_eq x.key (codes "COND")) (bytes_eq k.key (codes "COND")) (own_more xs k)
  where
    front : (is here : Bool) → condition_in (xs ++ k ∷ []) ≡ own_case here (condition_in xs) (condition_of k.value).value →
        cond is (Some (condition_of x.value).value) (condition_in (xs ++ k ∷ []))
        ≡ own_case here (cond is (Some (condition_of x.value).value) (condition_in xs)) (condition_of k.value).value
    front true true more = refl
    front true false more = refl
    front false here more = more

abbrev steps_case : Bool → List StepCondition → StepCondition → List StepCondition
steps_case is steps one = cond is (steps ++ one ∷ []) steps

steps_more : (keywords : List Keyword) (k : Keyword) →
    step_conditions_of (keywords ++ k ∷ []) ≡ steps_case (is_step_condition k) (step_conditions_of keywords) (step_condition k)
steps_more [] k = last (is_step_condition k)
  where
    last : (is : Bool) → map step_condition (cond is (k ∷ []) []) ≡ steps_case is [] (step_condition k)
    last true = refl
    last false = refl
steps_more (x ∷ xs) k = front (is_step_condition x) (is_step_condition k) (steps_more xs k)
  where
    front : (is here : Bool) → step_conditions_of (xs ++ k ∷ []) ≡ steps_case here (step_conditions_of xs) (step_condition k) →
        map step_condition (cond is (x ∷ filter is_step_condition (xs ++ k ∷ [])) (filter is_step_condition (xs ++ k ∷ [])))
        ≡ steps_case here (map step_condition (cond is (x ∷ filter is_step_condition xs) (filter is_step_condition xs))) (step_condition k)
    front true true more = ap (λ steps. step_condition x ∷ steps) more
    front true false more = ap (λ steps. step_condition x ∷ steps) more
    front false here more = more

both_parts : {own other : Option Condition} {steps others : List StepCondition} → own ≡ other → steps ≡ others →
    let one : Conditions = record { own = own; of_steps = steps } in let two : Conditions = record { own = other; of_steps = others } in one ≡ two
both_parts own steps = cc

one_more : (keywords : List Keyword) (k : Keyword) → conditions_in (keywords ++ k ∷ []) ≡ with_keyword k (conditions_in keywords)
one_more keywords k = both_parts (own_more keywords k) (steps_more keywords k)

earlier_none : (a b : Option Cause) → earlier a b ≡ None → (a ≡ None) × (b ≡ None)
earlier_none None b h = (refl, h)
earlier_none (Some a) None h = absurd (cc)
earlier_none (Some a) (Some b) h = absurd (cc)

pub reads_one_more : (called : Bool) (keywords : List Keyword) (i : ℕ) (k d : Keyword) (old new : Conditions) (fault of_one all : Option Cause) →
    i < length keywords → k ≡ get_or keywords i d → AreAllRead called (take i keywords) old fault → AddsKeyword called k old new of_one →
    all ≡ earlier fault of_one → AreAllRead called (take (i + 1) keywords) new all
reads_one_more called keywords i k d old new fault of_one all lt is read adds all_is =
    let same : take (i + 1) keywords ≡ take i keywords ++ k ∷ [] = take_more keywords i d lt ∙ ap (λ x. take i keywords ++ x ∷ []) (sym is) in
    record {
      fault_is =
          all_is ∙ ap (λ f. earlier f of_one) read.fault_is ∙ ap (earlier (told (flat_map (faults_on called) (take i keywords))))
          (adds.fault_is ∙ ap (λ x. told (faults_on called x)) is) ∙ sym (told_flat_map_more (faults_on called) keywords i d lt);
      said = λ none.
          let parts = earlier_none fault of_one (sym all_is ∙ none) in
          adds.added parts.1 ∙ ap (with_keyword k) (read.said parts.0) ∙ sym (one_more (take i keywords) k) ∙ ap conditions_in (sym same);
    }

-- what a keyword is, by what holds of its key
abbrev word_of : Bool → Bool → Bool → Bool → Bool → Bool → Bool → Bool → ExecKeyword
word_of program procedure qualified called left_out conditional parm form =
    cond program OfProgram (cond procedure OfProcedure (cond (qualified && not called) IsUnknown (cond left_out IsLeftOut (cond conditional OfCondition
    (cond parm OfParm (cond form OfForm (cond (qualified || not called) IsUnknown OfSymbol)))))))

is_condition : (program procedure qualified called left_out conditional parm form : Bool) →
    word_of program procedure qualified called left_out conditional parm form ≡ OfCondition → conditional ≡ true
is_condition true procedure qualified called left_out conditional parm form h = absurd (cc)
is_condition false true qualified called left_out conditional parm form h = absurd (cc)
is_condition false false true false left_out conditional parm form h = absurd (cc)
is_condition false false true true true conditional parm form h = absurd (cc)
is_condition false false true true false true parm form h = refl
is_condition false false true true false false true form h = absurd (cc)
is_condition false false true true false false false true h = absurd (cc)
is_condition false false true true false false false false h = absurd (cc)
is_condition false false false called true conditional parm form h = absurd (cc)
is_condition false false false called false true parm form h = refl
is_condition false false false called false false true form h = absurd (cc)
is_condition false false false called false false false true h = absurd (cc)
is_condition false false false true false false false false h = absurd (cc)
is_condition false false false false false false false false h = absurd (cc)

is_no_condition : (k : Keyword) (program procedure qualified called left_out conditional parm form : Bool) → (program ≡ true → conditional ≡ false) →
    (procedure ≡ true → conditional ≡ false) → (word_of program procedure qualified called left_out conditional parm form ≡ OfCondition → ⊥) →
    faults_of (word_of program procedure qualified called left_out conditional parm form) k ≡ [] → conditional ≡ false
is_no_condition k program procedure qualified called left_out false parm form p q is_no none = refl
is_no_condition k true procedure qualified called left_out true parm form p q is_no none = p refl
is_no_condition k false true qualified called left_out true parm form p q is_no none = q refl
is_no_condition k false false true false left_out true parm form p q is_no none = absurd (cc)
is_no_condition k false false true true true true parm form p q is_no none = absurd (cc)
is_no_condition k false false true true false true parm form p q is_no none = absurd (is_no refl)
is_no_condition k false false false called true true parm form p q is_no none = absurd (cc)
is_no_condition k false false false called false true parm form p q is_no none = absurd (is_no refl)

take_front : (n c : ℕ) (cs : List ℕ) → take (1 + n) (c ∷ cs) ≡ c ∷ take n cs
take_front n c cs = ap (λ m. take m (c ∷ cs)) (let one : 1 + n ≡ suc n = omega arith in one)

-- a key without a period is its own head
whole_head : (key : List ℕ) → is_qualified key ≡ false → head_of key ≡ key
whole_head [] none = refl
whole_head (c ∷ cs) none = case (c == 46) none (whole_head cs)
  where
    case : (is : Bool) → (is || is_qualified cs) ≡ false → (is_qualified cs ≡ false → head_of cs ≡ cs) → take (cond (not is) (1 + prefix_len is_no_period cs) 0) (c ∷ cs) ≡ c ∷ cs
    case true h behind = absurd (cc)
    case false h behind = take_front (prefix_len is_no_period cs) c cs ∙ ap (λ xs. c ∷ xs) (behind h)

other_head : (key word : List ℕ) → bytes_eq key word ≡ true → bytes_eq (head_of word) (codes "COND") ≡ false → bytes_eq (head_of key) (codes "COND") ≡ false
other_head key word is other = ap (λ x. bytes_eq (head_of x) (codes "COND")) ((bytes_eq-Decides key word).0 is) ∙ other

-- neither COND nor COND of a step
no_change : (k : Keyword) (old : Conditions) → bytes_eq (head_of k.key) (codes "COND") ≡ false → old ≡ with_keyword k old
no_change k old other =
    let own : bytes_eq k.key (codes "COND") ≡ false = not_own (bytes_eq k.key (codes "COND")) refl in
    let step : is_step_condition k ≡ false = ap (λ b. is_qualified k.key && b) other ∙ and_false (is_qualified k.key) in
    both_parts (sym (ap (λ b. cond b (or_first old.own (condition_of k.value).value) old.own) own))
    (sym (ap (λ b. cond b (old.of_steps ++ step_condition k ∷ []) old.of_steps) step))
  where
    not_own : (is : Bool) → bytes_eq k.key (codes "COND") ≡ is → is ≡ false
    not_own true h = absurd (clash (sym other ∙ ap (λ x. bytes_eq (head_of x) (codes "COND")) ((bytes_eq-Decides k.key (codes "COND")).0 h)))
      where
        clash : false ≡ true → ⊥
        clash c = cc
    not_own false h = refl

    and_false : (b : Bool) → (b && false) ≡ false
    and_false true = refl
    and_false false = refl

-- COND, or COND of a step
change_by : (k : Keyword) (old : Conditions) (value : Condition) (qualified own : Bool) → (qualified ≡ true → own ≡ false) → (qualified ≡ false → own ≡ true) →
    let steps : List StepCondition = old.of_steps ++ record { step = step_named k.key; condition = value } ∷ [] in
    let by_key : Conditions = record { own = cond own (or_first old.own value) old.own; of_steps = cond (qualified && true) steps old.of_steps } in
    cond qualified (let new : Conditions = record old { of_steps = steps } in new) (let new : Conditions = record old { own = or_first old.own value } in new)
    ≡ by_key
change_by k old value true true p q = absurd (let h = p refl in cc)
change_by k old value true false p q = refl
change_by k old value false true p q = refl
change_by k old value false false p q = absurd (let h = q refl in cc)

one_change : (k : Keyword) (old : Conditions) → bytes_eq (head_of k.key) (codes "COND") ≡ true →
    with_condition k.key (condition_of k.value).value old ≡ with_keyword k old
one_change k old is =
    let value = (condition_of k.value).value in
    change_by k old value (is_qualified k.key) (bytes_eq k.key (codes "COND"))
    (not_own (bytes_eq k.key (codes "COND")) refl)
    (λ none. ap (λ key. bytes_eq key (codes "COND")) (sym (whole_head k.key none)) ∙ is)
    ∙ both_parts refl (ap (λ b. cond (is_qualified k.key && b) (old.of_steps ++ step_condition k ∷ []) old.of_steps) (sym is))
  where
    not_own : (own : Bool) → bytes_eq k.key (codes "COND") ≡ own → is_qualified k.key ≡ true → own ≡ false
    not_own true h qualified = absurd (let same = ap is_qualified ((bytes_eq-Decides k.key (codes "COND")).0 h) in cc)
    not_own false h qualified = refl

pub of_condition : (called : Bool) (k : Keyword) (old new : Conditions) (fault : Option Cause) → exec_keyword called k.key ≡ OfCondition →
    AddsRead k old new fault → AddsKeyword called k old new fault
of_condition called k old new fault is read =
    let key = k.key in
    let head = head_of key in
    let conditional =
    is_condition (bytes_eq key (codes "PGM")) (bytes_eq key (codes "PROC")) (is_qualified key) called (is_left_out head) (bytes_eq head (codes "COND"))
    (bytes_eq head (codes "PARM")) (is_form head) is in
    record {
      fault_is = read.fault_is ∙ ap (λ word. told (faults_of word k)) (sym is);
      added = λ none. read.added none ∙ one_change k old conditional;
    }

pub of_other : (called : Bool) (k : Keyword) (old : Conditions) (fault : Option Cause) → (exec_keyword called k.key ≡ OfCondition → ⊥) →
    fault ≡ told (faults_on called k) → AddsKeyword called k old old fault
of_other called k old fault is_no fault_is =
    let key = k.key in
    let head = head_of key in
    record {
      fault_is = fault_is;
      added = λ none.
          no_change k old
          (is_no_condition k (bytes_eq key (codes "PGM")) (bytes_eq key (codes "PROC")) (is_qualified key) called (is_left_out head)
          (bytes_eq head (codes "COND")) (bytes_eq head (codes "PARM")) (is_form head) (λ is. other_head key (codes "PGM") is refl)
          (λ is. other_head key (codes "PROC") is refl) is_no (told-none (faults_on called k) (sym fault_is ∙ none)));
    }

-- the fault of a value that was refused
err_told : {A : Type 0} (f : Option Cause) (v : A) (fault : Cause) → or_fault f v ≡ Err fault → f ≡ Some fault
err_told None v fault h = absurd (cc)
err_told (Some other) v fault h = cc

earlier_some : (a : Option Cause) (fault : Cause) → earlier a (Some fault) ≡ None → ⊥
earlier_some None fault h = cc
earlier_some (Some a) fault h = cc

pub refused_condition : (k : Keyword) (old : Conditions) (names all : Option Cause) (fault : Cause) → names ≡ told (step_faults k.key) →
    IsRead (Err fault) (condition_of k.value) → all ≡ earlier names (Some fault) → AddsRead k old old all
refused_condition k old names all fault names_is read all_is =
    let told_is = err_told (told (condition_of k.value).faults) (condition_of k.value).value fault (sym read) in
    record {
      fault_is =
          all_is ∙ ap (λ n. earlier n (Some fault)) names_is ∙ ap (earlier (told (step_faults k.key))) (sym told_is)
          ∙ sym (told_append (step_faults k.key) (condition_of k.value).faults);
      added = λ none. absurd (earlier_some names fault (sym all_is ∙ none));
    }

pub known_as : (is : Word) → keyword_of is ≡ OfCondition → is ≡ word.Condition
known_as word.Condition h = refl
known_as word.Program h = absurd (cc)
known_as word.Procedure h = absurd (cc)
known_as word.Parm h = absurd (cc)
known_as word.Form h = absurd (cc)
known_as word.Symbol h = absurd (cc)
known_as word.LeftOut h = absurd (cc)
known_as word.Unknown h = absurd (cc)

pub each_ok : {A B : Type 0} {P Q : A → Type 0} (r : Result A B) → ((x : A) → P x → Q x) → IfOk r P → IfOk r Q
each_ok (Ok x) turn holds = turn x holds
each_ok (Err e) turn holds = holds
