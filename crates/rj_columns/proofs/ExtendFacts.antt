-- What is told of a result that is no error.
use Rattle.std.proofs.Common.{◌≡◌, true, false, is_err, Result, Ok, Err, OnOk}

distinct : true ≡ false → ⊥
distinct e = cc

pub told-ok : {T E P : Type 0} (r : Result T E) → is_err r ≡ false → OnOk r P → P
told-ok (Ok x) e told = told
told-ok (Err x) e told = absurd (distinct e)
