-- The DDs of a step, walked through, spell those that are read of them.
use Rattle.std.proofs.Common.{◌≡◌, ℕ, zero, suc, ◌+◌, ◌≤◌, ◌==◌, Bool, true, false, cond, ◌&&◌, List, [], ◌∷◌, ◌++◌, length, Option, Some, None, refl, sym, ap, ◌∙◌, subst, arith, inl, inr, eqb-true}
use Rattle.std.specs.Prelude.{Result, Ok, Err, if◌then◌else◌, is_none}
use Rattle.std.proofs.lemmas.Bool.{both_ways, cases_Bool, eqb-false, eq-eqb}
use Rattle.std.proofs.lemmas.List.{append-nil, append_assoc, length-append}
use Rattle.jcl_plan.specs.declared.plan.DdKind.{DdKind}
use Rattle.jcl_plan.specs.declared.plan.DdPlan.{DdPlan}
use Rattle.jcl_plan.specs.declared.plan.StepPlan.{StepPlan}
use Rattle.cb_meaning.specs.declared.layout.Layout.{Layout}
use Rattle.cb_meaning.specs.Fields.{number_at, part}
use Rattle.cb_meaning.specs.Layouts.{all_apart, siot_places}
use Rattle.cb_meaning.specs.Readings.{dd_read, dds_read, kind_read, name_read}
use Rattle.cb_meaning.specs.Spelled.{DdChain, Records, siot}
use Rattle.cb_meaning.specs.Walks.{and_then, arrival_fault, continues, is_set, lowest, siot_faults, unless_fault, walk_below, walk_dds, with_dds}
use Rattle.cb_meaning.specs.Writable.{AreDds, BeginsNamed, most_dds}
use Rattle.walk_laws.specs.WalkLaws.{AreRecords}
use Rattle.walk_laws.proofs.faultless.Below.{dd_walked}
use Rattle.walk_laws.proofs.faultless.Earlier.{Agrees, length_marks, marks_more, passed, set_marks, step_marks}
use Rattle.walk_laws.proofs.faultless.Passing.{Passes, passes_both, passes_first, passes_none}
use Rattle.walk_laws.proofs.faultless.Siots.{SiotFine, siot_fine}
use Rattle.walk_laws.proofs.faultless.Told.{arrives, counted, first_of, not_refused, one_more, rest_of, then_parts, unless_parts}

abbrev pub Out : Type 0
Out = List Bool × List ℕ

dds_spent : (l : Layout) (units : ℕ) (q : Records) (job stated : ℕ) (steps : List (List Bool)) (dds : List Bool) (seen : List ℕ) (n : ℕ) (out : Out) →
    walk_dds l units q job 0 stated steps dds seen n ≡ Ok out → ⊥
unfolding walk_dds
dds_spent l units q job stated steps dds seen n out h = cc

dds_end : (l : Layout) (units : ℕ) (q : Records) (job fuel stated : ℕ) (steps : List (List Bool)) (dds : List Bool) (seen : List ℕ) (n : ℕ) (out : Out) →
    (n == 0) ≡ true → walk_dds l units q job (suc fuel) stated steps dds seen n ≡ Ok out → ((length dds == stated) ≡ true) × ((dds, seen) ≡ out)
unfolding walk_dds
dds_end l units q job fuel stated steps dds seen n out e h = counted (length dds == stated) 5 (dds, seen) out (first_of (n == 0) _ _ out e h)

-- a DD that is passed
pub record DdStep (l : Layout) (units : ℕ) (q : Records) (job fuel stated : ℕ) (steps : List (List Bool)) (dds : List Bool) (seen : List ℕ)
    (n : ℕ) (out : Out) : Type 0 where
  pub met : List ℕ
  pub arrival : arrival_fault l q job siot seen n ≡ None
  pub room : (length dds == most_dds) ≡ false
  pub faults : lowest (siot_faults l units (with_dds steps dds) (length steps + 1) (length dds + 1) (q.at n)) ≡ None
  pub below : walk_below l q job (suc fuel) (with_dds steps dds) (length steps + 1) (length dds + 1) (q.at n) (n ∷ seen) ≡ Ok met
  pub goes : walk_dds l units q job fuel stated steps (dds ++ is_set (q.at n) ∷ []) met (number_at (q.at n) l.next_dd) ≡ Ok out

dds_step : (l : Layout) (units : ℕ) (q : Records) (job fuel stated : ℕ) (steps : List (List Bool)) (dds : List Bool) (seen : List ℕ) (n : ℕ) (out : Out) →
    (n == 0) ≡ false → walk_dds l units q job (suc fuel) stated steps dds seen n ≡ Ok out → DdStep l units q job fuel stated steps dds seen n out
unfolding walk_dds
dds_step l units q job fuel stated steps dds seen n out e h =
    let marks = with_dds steps dds in
    let k = length steps + 1 in
    let d = length dds + 1 in
    let behind : List ℕ → Result Out ℕ = λ met. walk_dds l units q job fuel stated steps (dds ++ is_set (q.at n) ∷ []) met (number_at (q.at n) l.next_dd) in
    let below = walk_below l q job (suc fuel) marks k d (q.at n) (n ∷ seen) in
    let told = lowest (siot_faults l units marks k d (q.at n)) in
    let on : Unit {0} → Result Out ℕ = λ _. and_then below behind in
    let a = unless_parts (arrival_fault l q job siot seen n) (λ _. if length dds == most_dds then Err 10 else unless_fault told on) out
    (rest_of (n == 0) _ _ out e h) in
    let b = not_refused (length dds == most_dds) 10 (unless_fault told on) out a.1 in
    let c = unless_parts told on out b.1 in
    let g = then_parts below behind out c.1 in
    record { met = g.0; arrival = a.0; room = b.0; faults = c.0; below = g.1; goes = g.2 }

none_read : (l : Layout) (q : Records) (fuel n : ℕ) → (n == 0) ≡ true → dds_read l q (suc fuel) n ≡ []
unfolding dds_read
none_read l q fuel n e = ap (λ b. cond b [] (dd_read l q (q.at n) ∷ dds_read l q fuel (number_at (q.at n) l.next_dd))) e

more_read : (l : Layout) (q : Records) (fuel n : ℕ) → (n == 0) ≡ false →
    dds_read l q (suc fuel) n ≡ dd_read l q (q.at n) ∷ dds_read l q fuel (number_at (q.at n) l.next_dd)
unfolding dds_read
more_read l q fuel n e = ap (λ b. cond b [] (dd_read l q (q.at n) ∷ dds_read l q fuel (number_at (q.at n) l.next_dd))) e

-- those read so far, and those that are walked through
pub record DdsWalked (l : Layout) (units : ℕ) (q : Records) (job stated : ℕ) (all : List StepPlan) (k : ℕ) (front : List DdPlan) (seen : List ℕ)
    (n : ℕ) (out : Out) (dds : List DdPlan) : Type 0 where
  pub numbers : List ℕ
  pub chain : DdChain l q job n numbers dds
  pub passes : Passes seen numbers out.1
  pub marks : out.0 ≡ set_marks (front ++ dds)
  pub count : length front + length dds ≡ stated
  pub few : length front ≤ most_dds → length front + length dds ≤ most_dds
  pub fits : AreDds units all k (length (set_marks front) + 1) dds
  pub begins : length front ≡ 0 → BeginsNamed dds

named_first : (o : Option (List ℕ)) (kind : DdKind) (dds : List DdPlan) → is_none o ≡ false → BeginsNamed (record { name = o; kind = kind } ∷ dds)
named_first None kind dds h = absurd cc
named_first (Some name) kind dds h = tt

module _ (l : Layout) (own : all_apart (siot_places l) ≡ true) (units : ℕ) (q : Records) (job : ℕ) (known : AreRecords q)
    (all done behind : List StepPlan) (here : StepPlan) (whole : all ≡ done ++ here ∷ behind) where
  abbrev steps : List (List Bool)
  steps = step_marks done

  abbrev number : ℕ
  number = length steps + 1

  abbrev Walked : ℕ → List DdPlan → List ℕ → ℕ → Out → List DdPlan → Type 0
  Walked stated front seen n out dds = DdsWalked l units q job stated all number front seen n out dds

  ended : (fuel stated : ℕ) (front : List DdPlan) (seen : List ℕ) (n : ℕ) (out : Out) (dds : List DdPlan) → (n == 0) ≡ true → dds ≡ [] →
      walk_dds l units q job (suc fuel) stated steps (set_marks front) seen n ≡ Ok out → Walked stated front seen n out dds
  ended fuel stated front seen n out dds e none h =
      let stop = dds_end l units q job fuel stated steps (set_marks front) seen n out e h in
      let same = eqb-true (length (set_marks front)) stated stop.0 in
      let size = length_marks front in
      let Ends : List DdPlan → Type 0 = Walked stated front seen n out in
      let end : n ≡ 0 = eqb-true n 0 e in
      let nothing : Ends [] = record {
        numbers = [];
        chain = (end, refl);
        passes = passes_none seen out.1 (ap (λ (o : Out). o.1) (sym stop.1));
        marks = ap (λ (o : Out). o.0) (sym stop.1) ∙ ap set_marks (sym (append-nil front));
        count = omega (arith, same, size);
        few = λ low. omega (arith, low);
        fits = tt;
        begins = λ start. tt;
      } in
      subst Ends (sym none) nothing

  -- a first DD has a name
  begins_named : (marks : List (List Bool)) (d : ℕ) (s : List ℕ) (kind : DdKind) (dds : List DdPlan) → SiotFine l units marks number d s → d ≡ 1 →
      BeginsNamed (record { name = name_read (part s 16 8); kind = kind } ∷ dds)
  begins_named marks d s kind dds fine first =
      named_first (name_read (part s 16 8)) kind dds (fine.name.absent ∙ not_both (continues s) (d == 1) (eq-eqb d 1 first) fine.begins)
    where
      not_both : (x y : Bool) → y ≡ true → (x && y) ≡ false → x ≡ false
      not_both true y e h = absurd (both_ways y h e)
      not_both false y e h = refl

  stepped : (fuel stated : ℕ) (front : List DdPlan) (seen : List ℕ) (n : ℕ) (out : Out) (rest : List DdPlan) →
      here.dds ≡ front ++ dd_read l q (q.at n) ∷ rest → suc fuel ≤ l.most_records + 1 →
      (step : DdStep l units q job fuel stated steps (set_marks front) seen n out) →
      ((front : List DdPlan) → here.dds ≡ front ++ rest →
      walk_dds l units q job fuel stated steps (set_marks front) step.met (number_at (q.at n) l.next_dd) ≡ Ok out →
      Walked stated front step.met (number_at (q.at n) l.next_dd) out rest) →
      Walked stated front seen n out (dd_read l q (q.at n) ∷ rest)
  stepped fuel stated front seen n out rest is few step later =
      let s = q.at n in
      let dd = dd_read l q s in
      let marks = with_dds steps (set_marks front) in
      let d = length (set_marks front) + 1 in
      let came = arrives l q job siot seen n refl known step.arrival in
      let record_is = known n came.in_use in
      let fine = siot_fine l units marks number d s step.faults in
      let agrees : Agrees marks all = passed all done behind here front (dd ∷ rest) whole is in
      let under = dd_walked l own units q job known marks all agrees number d s record_is fine (n ∷ seen) step.met (suc fuel) few step.below in
      let more = front ++ dd ∷ [] in
      let one : set_marks more ≡ set_marks front ++ is_set s ∷ [] = marks_more front dd ∙ ap (λ b. set_marks front ++ b ∷ []) under.mark in
      let behind_is : here.dds ≡ more ++ rest = is ∙ sym (append_assoc front (dd ∷ []) rest) in
      let next = number_at s l.next_dd in
      let goes : walk_dds l units q job fuel stated steps (set_marks more) step.met next ≡ Ok out =
      ap (λ (ms : List Bool). walk_dds l units q job fuel stated steps ms step.met next) one ∙ step.goes in
      let after = later more behind_is goes in
      let size = length-append front (dd ∷ []) in
      let counted_is = after.count in
      let longer = after.few in
      let marked = length_marks front in
      let room : length front ≤ most_dds → length more ≤ most_dds = λ low.
      one_more (length (set_marks front)) (length front) (length more) most_dds marked size (eqb-false (length (set_marks front)) most_dds step.room) low in
      let place : length (set_marks more) + 1 ≡ d + 1 = (let m = length_marks more in omega (arith, m, size, marked)) in
      record {
        numbers = n ∷ (under.numbers ++ after.numbers);
        chain = (under.numbers, after.numbers, refl, came.owned, under.spells, under.below, after.chain);
        passes = passes_first n seen (under.numbers ++ after.numbers) out.1 came.new
            (passes_both (n ∷ seen) under.numbers step.met after.numbers out.1 under.passes after.passes);
        marks = after.marks ∙ ap set_marks (append_assoc front (dd ∷ []) rest);
        count = omega (arith, size, counted_is);
        few = λ low. (let short = longer (room low) in omega (arith, size, short));
        fits = (fine.name.name, under.fits, subst (λ m. AreDds units all number m rest) place after.fits);
        begins = λ start. begins_named marks d s (kind_read l q s) rest fine (omega (arith, marked, start));
      }

  pub dds_walked : (fuel stated : ℕ) (front : List DdPlan) (seen : List ℕ) (n : ℕ) (out : Out) → here.dds ≡ front ++ dds_read l q fuel n →
      fuel ≤ l.most_records + 1 → walk_dds l units q job fuel stated steps (set_marks front) seen n ≡ Ok out →
      Walked stated front seen n out (dds_read l q fuel n)
  dds_walked zero stated front seen n out is few h = absurd (dds_spent l units q job stated steps (set_marks front) seen n out h)
  dds_walked (suc fuel) stated front seen n out is few h =
      elim (cases_Bool (n == 0)) [
        | inl end ↦ ended fuel stated front seen n out (dds_read l q (suc fuel) n) end (none_read l q fuel n end) h
        | inr some ↦ (let step = dds_step l units q job fuel stated steps (set_marks front) seen n out some h in
            let next = number_at (q.at n) l.next_dd in
            let read = more_read l q fuel n some in
            subst (λ (ds : List DdPlan). Walked stated front seen n out ds) (sym read)
            (stepped fuel stated front seen n out (dds_read l q fuel next) (is ∙ ap (λ (ds : List DdPlan). front ++ ds) read) few step
            (λ more behind_is goes. dds_walked fuel stated more step.met next out behind_is (omega (arith, few)) goes)))
      ]
