-- What is there, and what isn't.
use Rattle.std.proofs.Common.{◌≡◌, Option, Some, None, IsSome, refl, sym, subst}

module _ {X : Type 0} where
  -- something that is there is something
  pub something : (o : Option X) → IsSome o → (x : X) × (o ≡ Some x)
  something (Some x) h = (x, refl)
  something None h = cc

  pub is_something : (o : Option X) (x : X) → o ≡ Some x → IsSome o
  is_something o x e = subst IsSome (sym e) refl

  pub same_some : (x y : X) → Some x ≡ Some y → x ≡ y
  same_some x y e = cc
