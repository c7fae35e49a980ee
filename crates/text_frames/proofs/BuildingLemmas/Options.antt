-- Values that may be there.
use Rattle.std.proofs.Common.{◌≡◌, Option, Some, None, IsSome, option_map, refl, sym, subst}

pub no_some : {X : Type 0} {Y : Type 0} (x : X) → None ≡ Some x → Y
no_some x e = cc

pub same_some : {X : Type 0} (x y : X) → Some x ≡ Some y → x ≡ y
same_some x y e = cc

no_none : (X : Type 0) → IsSome {T = X} None → ⊥
no_none X h = cc

-- what is there is something
pub is_there : {X : Type 0} (o : Option X) → IsSome o → (x : X) × (o ≡ Some x)
is_there {X} None h = absurd (no_none X h)
is_there (Some x) h = (x, refl)

pub there : {X : Type 0} (o : Option X) (x : X) → o ≡ Some x → IsSome o
there o x e = subst IsSome (sym e) refl

-- what a function makes of a value that may be there is made of a value that is there
pub mapped : {X Y : Type 0} (f : X → Y) (o : Option X) (y : Y) → option_map f o ≡ Some y → (x : X) × (o ≡ Some x) × (f x ≡ y)
mapped f None y e = no_some y e
mapped f (Some x) y e = (x, refl, same_some (f x) y e)

pub mapped_there : {X Y : Type 0} (f : X → Y) (o : Option X) → IsSome o → IsSome (option_map f o)
mapped_there f None h = h
mapped_there f (Some x) h = h

pub unmapped_there : {X Y : Type 0} (f : X → Y) (o : Option X) → IsSome (option_map f o) → IsSome o
unmapped_there f None h = h
unmapped_there f (Some x) h = h
