-- What a lookup at an index finds in a list that was lent.
use Rattle.std.proofs.Common.{◌≡◌, ℕ, ◌<◌, ◌≤◌, Bool, true, false, List, Option, Some, None, get_or, length, slice_get, refl, subst, not}
use Rattle.std.specs.Prelude.{is_some, is_none}
use Rattle.std.proofs.lemmas.Option.{slice_get_read, slice_get_past}

pub got : {X : Type 0} (xs ys : List X) (i : ℕ) (x : X) → xs ≡ ys → i < length xs → x ≡ get_or xs i x → slice_get ys i ≡ Some x
got xs ys i x same within is = subst (λ zs. slice_get zs i ≡ Some x) same (slice_get_read xs (length xs) i x refl within is)

pub past : {X : Type 0} (xs ys : List X) (i : ℕ) → xs ≡ ys → length xs ≤ i → slice_get ys i ≡ None
past xs ys i same out = subst (λ zs. slice_get zs i ≡ None) same (slice_get_past xs i out)

pub is_nothing : {X : Type 0} (o : Option X) (b : Bool) → is_some o ≡ not b → b ≡ is_none o
is_nothing None true e = refl
is_nothing None false e = cc
is_nothing (Some x) true e = cc
is_nothing (Some x) false e = refl
