-- What an edit leaves as it was.
use Rattle.std.specs.Prelude.{◌≡◌, ◌⊎◌, ◌++◌, List, [], ◌∷◌}
use Rattle.ir_program.specs.Program.{type_at}
use Rattle.ir_program.specs.Edits.{KeepsValues, IsUnchanged}
use Rattle.ir_program.specs.declared.handles.Value.{Value}
use Rattle.ir_context.specs.Views.{ContextView}

-- ys is xs without its last element, if it has one
abbrev pub IsPopped : {X : Type 0} → List X → List X → Type 0
IsPopped {X} xs ys = ((xs ≡ []) × (ys ≡ [])) ⊎ ((x : X) × (xs ≡ ys ++ x ∷ []))

-- each value keeps its type, the number that comes next stays, and so do the types
pub record KeepsValuesAndTypes {O B T : Type 0} (old new : ContextView O B T) : Type 0 where
  pub values : KeepsValues old.program new.program
  pub types : new.types ≡ old.types

-- each handle leads to what it led to, each value keeps its type, and the types stay
pub record IsSame {O B T : Type 0} (old new : ContextView O B T) : Type 0 where
  pub program : IsUnchanged old.program new.program
  pub values : (v : Value) → type_at new.program v ≡ type_at old.program v
  pub types : new.types ≡ old.types
