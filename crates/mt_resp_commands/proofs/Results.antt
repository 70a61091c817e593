-- What holds of a result that is a value.
use Rattle.std.proofs.Common.{Result, Ok, Err, OnOk}

pub on_ok : {T E P Q : Type 0} (result : Result T E) → (P → Q) → OnOk result P → OnOk result Q
on_ok (Ok value) f p = f p
on_ok (Err e) f p = p
