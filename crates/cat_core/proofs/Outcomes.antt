-- What follows from what holds at an `Ok` or at an `Err`.
use Rattle.std.proofs.Common.{Result, Ok, Err, OnOk, OnErr}

pub at_ok : {A E : Type 0} (r : Result A E) (P Q : Type 0) → (P → Q) → OnOk r P → OnOk r Q
at_ok (Ok x) P Q f h = f h
at_ok (Err e) P Q f h = h

pub at_err : {A E : Type 0} (r : Result A E) (P Q : Type 0) → (P → Q) → OnErr r P → OnErr r Q
at_err (Ok x) P Q f h = h
at_err (Err e) P Q f h = f h
