-- Facts that hold whatever a call answers.
use Rattle.std.specs.Prelude.{Result, Ok, Err, IfOk, OnErr}

pub always_ok : {T E : Type 0} (P : T → Type 0) (r : Result T E) → ((x : T) → P x) → IfOk r P
always_ok P (Ok x) h = h x
always_ok P (Err e) h = tt

pub always_err : {T E P : Type 0} (r : Result T E) → P → OnErr r P
always_err (Ok x) h = tt
always_err (Err e) h = h
