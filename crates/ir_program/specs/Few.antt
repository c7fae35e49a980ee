-- That the uses of all values together can be counted.
use Rattle.std.specs.Prelude.{◌≡◌, ℕ, ◌<◌, ◌^◌, List, length, Some, slice_get}
use Rattle.ir_program.specs.Program.{Program}
use Rattle.ir_program.specs.Uses.{IsUse}
use Rattle.ir_program.specs.declared.handles.Value.{Value}
use Rattle.ir_program.specs.declared.handles.Use.{Use}

-- no list of uses of values, whichever values they are, has as many as 2 ^ 64, where it has each use once at most
abbrev pub HasFewUses : {O B : Type 0} → Program O B → Type 0
HasFewUses c = (us : List (Use Value)) → ((i j : ℕ) (u : Use Value) → slice_get us i ≡ Some u → slice_get us j ≡ Some u → i ≡ j) → ((i : ℕ) (u : Use Value) → slice_get us i ≡ Some u → IsUse c u) → length us < 2 ^ 64
