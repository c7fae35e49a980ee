-- What is said of one handle is said of the same one.
use Rattle.std.proofs.Common.{◌≡◌, Some, unwrap_or, sym, ap, subst}

-- of the handle that was found
pub found_same : {X : Type 0} (P : X → Type 0) (x y : X) → Some x ≡ Some y → P y → P x
found_same P x y e h = subst P (sym (ap (λ o. unwrap_or o x) e)) h

pub answer_same : {X : Type 0} (P : X → Type 0) (x y : X) → x ≡ y → P y → P x
answer_same P x y e h = subst P (sym e) h
