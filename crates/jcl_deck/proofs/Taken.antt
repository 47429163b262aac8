-- a statement that is taken or refused by its card and its place
use Rattle.std.proofs.Common.{◌≡◌, ℕ, Bool, true, false, cond, List, ◌++◌, Option, Some, None, Result, Ok, Err, refl, sym, ap, ◌∙◌, subst}
use Rattle.card_core.specs.declared.statement.Statement.{Statement}
use Rattle.jcl_plan.specs.declared.fault.Cause.{Cause}
use Rattle.operand_core.specs.Faults.{earlier, lower, or_fault, told}
use Rattle.operand_core.specs.Keywords.{is_long}
use Rattle.operand_core.proofs.Told.{told_append}
use Rattle.value_core.specs.declared.refusal.ReadError.{ReadError}
use Rattle.value_core.specs.declared.refusal.ReadError.TheVariants.{Refused, Memory}
use Rattle.value_core.specs.Reads.{Gives, Read, answer, with_fault}
use Rattle.jcl_deck.specs.declared.place.Place as code
use Rattle.jcl_deck.specs.Decks.{Place, taken}
use Rattle.jcl_deck.specs.Places.{Moves, error_with}

none_behind : (a : Option Cause) → earlier a None ≡ a
none_behind None = refl
none_behind (Some fault) = refl

told_unless : (long : Bool) (own faults : List Cause) → earlier (told own) (cond long None (told faults)) ≡ told (cond long own (own ++ faults))
told_unless true own faults = none_behind (told own)
told_unless false own faults = sym (told_append own faults)

with_fault_told : {A : Type 0} (f g : Option Cause) (x : A) → with_fault (or_fault f x) g ≡ or_fault (earlier f g) x
with_fault_told None None x = refl
with_fault_told None (Some g) x = refl
with_fault_told (Some f) None x = refl
with_fault_told (Some f) (Some g) x = refl

taken_told : {A : Type 0} (long : Bool) (r : Read A) (faults : List Cause) {fault : Option Cause} → fault ≡ told faults →
    with_fault (answer r) (cond long None fault) ≡ or_fault (told (cond long r.faults (r.faults ++ faults))) r.value
taken_told {A} long r faults {fault} is =
    ap (λ f. let x : Result A Cause = with_fault (answer r) (cond long None f) in x) is
    ∙ with_fault_told (told r.faults) (cond long None (told faults)) r.value
    ∙ ap (λ f. let x : Result A Cause = or_fault f r.value in x) (told_unless long r.faults faults)

ok_next : {A : Type 0} (f : Option Cause) (value x : A) (next : A → Place) → or_fault f value ≡ Ok x → or_fault f (next value) ≡ Ok (next x)
ok_next None value x next h = cc
ok_next (Some fault) value x next h = cc

err_next : {A : Type 0} (f : Option Cause) (value : A) (e : Cause) (next : A → Place) → or_fault f value ≡ Err e → or_fault f (next value) ≡ Err e
err_next None value e next h = cc
err_next (Some fault) value e next h = cc

-- the card of the statement's own fields
own_card : {A : Type 0} (s : Statement) (read : List ℕ → List ℕ → Read A) {name operand : List ℕ} (card : Result A ReadError) →
    name ≡ s.name → operand ≡ s.operand → Gives card (answer (read name operand)) → Gives card (answer (read s.name s.operand))
own_card {A} s read {name} {operand} card name_is operand_is gives =
    let P : List ℕ → Type 0 = λ n. Gives card (answer (read n operand)) in
    let Q : List ℕ → Type 0 = λ o. Gives card (answer (read s.name o)) in
    subst Q operand_is (subst P name_is gives)

pub taken_ok : {A : Type 0} (s : Statement) (read : List ℕ → List ℕ → Read A) (faults : List Cause) (next : A → Place) {name operand : List ℕ}
    {fault : Option Cause} (card : Result A ReadError) {x : A} → name ≡ s.name → operand ≡ s.operand → fault ≡ told faults →
    Gives card (answer (read name operand)) →
    ((given : Result A Cause) → Gives card given → with_fault given (cond (is_long operand) None fault) ≡ Ok x) →
    taken s (read s.name s.operand) faults next ≡ Ok (next x)
taken_ok {A} s read faults next {name} {operand} {fault} card {x} name_is operand_is is gives had =
    let r : Read A = read s.name s.operand in
    let long = is_long s.operand in
    ok_next (told (cond long r.faults (r.faults ++ faults))) r.value x next
    (sym (taken_told long r faults is)
    ∙ ap (λ o. let a : Result A Cause = with_fault (answer r) (cond (is_long o) None fault) in a) (sym operand_is)
    ∙ had (answer r) (own_card s read card name_is operand_is gives))

moves_by : {A : Type 0} (e : ReadError) (given : Result A Cause) (moved : Result Place Cause) (place : code.Place) →
    ((fault : Cause) → given ≡ Err fault → moved ≡ Err fault) → Gives (let r : Result A ReadError = Err e in r) given → Moves (Err e) place moved
moves_by (Refused fault) given moved place f h = f fault h
moves_by Memory given moved place f h = tt

pub taken_err : {A : Type 0} (s : Statement) (read : List ℕ → List ℕ → Read A) (faults : List Cause) (next : A → Place) {name operand : List ℕ}
    {fault : Option Cause} (card at : Result A ReadError) {e : ReadError} {result : Result (Unit {0}) ReadError} (place : code.Place) →
    name ≡ s.name → operand ≡ s.operand → fault ≡ told faults → Gives card (answer (read name operand)) →
    ((given : Result A Cause) → Gives card given → Gives at (with_fault given (cond (is_long operand) None fault))) →
    at ≡ Err e → (d : ReadError) × (result ≡ Err d) × (d ≡ e) → Moves result place (taken s (read s.name s.operand) faults next)
taken_err {A} s read faults next {name} {operand} {fault} card at {e} {result} place name_is operand_is is gives had was exit =
    let r : Read A = read s.name s.operand in
    let long = is_long s.operand in
    let given : Result A Cause = with_fault (answer r) (cond (is_long operand) None fault) in
    let moved = taken s (read s.name s.operand) faults next in
    let P : Result A ReadError → Type 0 = λ a. Gives a given in
    let Q : Result (Unit {0}) ReadError → Type 0 = λ a. Moves a place moved in
    let whole : given ≡ or_fault (told (cond long r.faults (r.faults ++ faults))) r.value =
    ap (λ o. let a : Result A Cause = with_fault (answer r) (cond (is_long o) None fault) in a) operand_is ∙ taken_told long r faults is in
    subst Q (sym (exit.1 ∙ ap (λ d. let a : Result (Unit {0}) ReadError = Err d in a) exit.2))
    (moves_by e given moved place (λ f h. err_next (told (cond long r.faults (r.faults ++ faults))) r.value f next (sym whole ∙ h))
    (subst P was (had (answer r) (own_card s read card name_is operand_is gives))))

-- the answer for a card, by its own fault and that of its place
taken_at : {A : Type 0} (s : Statement) (read : List ℕ → List ℕ → Read A) (faults : List Cause) (next : A → Place) {operand : List ℕ} {fault at : Option Cause} →
    operand ≡ s.operand → fault ≡ told faults → at ≡ cond (is_long operand) None fault →
    let r : Read A = read s.name s.operand in
    taken s r faults next ≡ or_fault (earlier (told r.faults) at) (next r.value)
taken_at {A} s read faults next {operand} {fault} operand_is is at_is =
    let r : Read A = read s.name s.operand in
    let long = is_long s.operand in
    let at_told = at_is ∙ ap (λ o. let f : Option Cause = cond (is_long o) None fault in f) operand_is
    ∙ ap (λ x. let f : Option Cause = cond long None x in f) is in
    ap (λ f. let p : Result Place Cause = or_fault f (next r.value) in p) (sym (told_unless long r.faults faults) ∙ ap (earlier (told r.faults)) (sym at_told))

read_next : {A : Type 0} (f at : Option Cause) (value x : A) (next : A → Place) → or_fault f value ≡ Ok x →
    or_fault (earlier f at) (next value) ≡ or_fault at (next x)
read_next None at value x next h =
    let same : value ≡ x = cc in
    ap (λ v. let p : Result Place Cause = or_fault at (next v) in p) same
read_next (Some fault) at value x next h = absurd (cc)

pub taken_card : {A : Type 0} (s : Statement) (read : List ℕ → List ℕ → Read A) (faults : List Cause) (next : A → Place) {name operand : List ℕ}
    {fault at : Option Cause} {x : A} → name ≡ s.name → operand ≡ s.operand → fault ≡ told faults → at ≡ cond (is_long operand) None fault →
    answer (read name operand) ≡ Ok x → taken s (read s.name s.operand) faults next ≡ or_fault at (next x)
taken_card {A} s read faults next {name} {operand} {fault} {at} {x} name_is operand_is is at_is was =
    let r : Read A = read s.name s.operand in
    let card : Result A ReadError = Ok x in
    taken_at s read faults next operand_is is at_is ∙ read_next (told r.faults) at r.value x next (own_card s read card name_is operand_is was)

refused_next : {A : Type 0} (f at : Option Cause) (value : A) (own : Cause) (place : code.Place) (next : A → Place) → or_fault f value ≡ Err own →
    let result : Result (Unit {0}) ReadError = Err (error_with (Refused own) at) in
    Moves result place (or_fault (earlier f at) (next value))
refused_next None at value own place next h = absurd (cc)
refused_next (Some fault) None value own place next h = cc
refused_next (Some fault) (Some other) value own place next h =
    let same : fault ≡ own = cc in
    ap (λ f. let p : Result Place Cause = Err (lower f other) in p) same

refused_at : {A : Type 0} (r : Read A) (e : ReadError) (at : Option Cause) (place : code.Place) (next : A → Place) (moved : Result Place Cause) →
    moved ≡ or_fault (earlier (told r.faults) at) (next r.value) → Gives (let card : Result A ReadError = Err e in card) (answer r) →
    let result : Result (Unit {0}) ReadError = Err (error_with e at) in
    Moves result place moved
refused_at r Memory at place next moved is gives = tt
refused_at {A} r (Refused own) at place next moved is gives =
    let result : Result (Unit {0}) ReadError = Err (error_with (Refused own) at) in
    let P : Result Place Cause → Type 0 = λ m. Moves result place m in
    subst P (sym is) (refused_next (told r.faults) at r.value own place next gives)

pub taken_refused : {A : Type 0} (s : Statement) (read : List ℕ → List ℕ → Read A) (faults : List Cause) (next : A → Place) {name operand : List ℕ}
    {fault at : Option Cause} (e error : ReadError) (place : code.Place) → name ≡ s.name → operand ≡ s.operand → fault ≡ told faults →
    at ≡ cond (is_long operand) None fault → Gives (let card : Result A ReadError = Err e in card) (answer (read name operand)) → error ≡ error_with e at →
    let result : Result (Unit {0}) ReadError = Err error in
    Moves result place (taken s (read s.name s.operand) faults next)
taken_refused {A} s read faults next {name} {operand} {fault} {at} e error place name_is operand_is is at_is gives error_is =
    let r : Read A = read s.name s.operand in
    let card : Result A ReadError = Err e in
    let moved = taken s r faults next in
    let Q : ReadError → Type 0 = λ d. let result : Result (Unit {0}) ReadError = Err d in Moves result place moved in
    subst Q (sym error_is)
    (refused_at r e at place next moved (taken_at s read faults next operand_is is at_is) (own_card s read card name_is operand_is gives))
