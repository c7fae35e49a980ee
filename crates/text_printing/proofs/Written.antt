-- What was written last.
use Rattle.std.proofs.Common.{◌≡◌, ℕ, List, ◌++◌, if◌then◌else◌}
use Rattle.std.specs.Prelude.{Result, Ok, Err, OnOk}
use Rattle.std.specs.Result.{is_ok}

-- a text was written behind another, unless that failed
pub written : {X E : Type 0} (r : Result X E) (now next s : List ℕ) → next ≡ (if is_ok r then now ++ s else now) →
    OnOk r (next ≡ now ++ s)
written (Ok x) now next s e = e
written (Err x) now next s e = tt
