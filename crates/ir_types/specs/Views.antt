-- What contracts see of the types of a context.
use Rattle.std.specs.Prelude.{List, Option}

-- the keys of the types in the order in which they came, the body of the type at each index, where it has one, and the saved values in their order
pub record TypesView (K B S : Type 0) : Type 0 where
  pub keys : List K
  pub bodies : List (Option B)
  pub saved : List S
