-- Facts of answers.
use Rattle.std.proofs.Common.{Result, Ok, Err}
use Rattle.std.specs.Prelude.{IfErr, IfOk}

-- what follows of a fact of an answer that is given holds of it
pub ok_so : {X E : Type 0} {P Q : X → Type 0} (r : Result X E) → ((x : X) → P x → Q x) → IfOk r P → IfOk r Q
ok_so (Ok x) f h = f x h
ok_so (Err e) f h = tt

-- the same of one that is refused
pub err_so : {X E : Type 0} {P Q : E → Type 0} (r : Result X E) → ((e : E) → P e → Q e) → IfErr r P → IfErr r Q
err_so (Ok x) f h = tt
err_so (Err e) f h = f e h
