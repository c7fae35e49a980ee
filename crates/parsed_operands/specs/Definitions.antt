-- What defining a name makes of a context.
use Rattle.std.specs.Prelude.{◌≡◌, Option, MatchOption}
use Rattle.std.specs.Borrow.{MutBor}
use Rattle.std.specs.Fn.{Once}

-- what puts a value in the place of what stood in for it, in a context
abbrev pub Resolver : (F C V : Type 0) → Type 1
Resolver F C V = Once F (MutBor C × (V × Unit {0})) (Unit {0} × (MutBor C × Unit {0}))

-- it was called once, with what stood in, and this is what it left
pub record IsResolved {F C V : Type 0} (resolver : Resolver F C V) (resolve : F) (old : C) (stand_in : V) (new : C) : Type 0 where
  pub shown : MutBor C
  pub shows : shown.now ≡ old
  pub left : MutBor C
  pub met : resolver.post resolve (shown, (stand_in, tt)) (tt, (left, tt))
  pub leaves : left.now ≡ new

-- What stood in for the value, where something did, was resolved; otherwise the context is as it was.
abbrev pub Settles : {F C V : Type 0} → Resolver F C V → F → Option V → (old new : C) → Type 0
Settles resolver resolve stand_in old new = MatchOption stand_in (new ≡ old) (λ v. IsResolved resolver resolve old v new)
