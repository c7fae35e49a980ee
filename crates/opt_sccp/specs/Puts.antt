-- Constants put into a program, and what that makes of its trees.
use Rattle.std.specs.Prelude.{◌≡◌, ◌≢◌, Option, Some, None}
use Rattle.ir_program.specs.Program.{Program, operation_at, block_at, region_at}
use Rattle.ir_program.specs.declared.handles.Ptr.{Ptr}
use Rattle.ir_program.specs.declared.handles.Operation.{Operation}
use Rattle.ir_program.specs.declared.handles.Region.{Region}
use Rattle.ir_program.specs.declared.handles.BasicBlock.{BasicBlock}
use Rattle.ir_program.specs.declared.handles.DefiningEntity.TheVariants.{Op as ByOp}
use Rattle.ir_program.specs.declared.handles.Value.{Value}
use Rattle.ir_trees.specs.Renames.{Maps, rename_root}
use Rattle.ir_trees.specs.Stands.{by_handle, in_program, ProgramTree, StandsFor}
use Rattle.opt_inside.specs.Outside.{ChangesOperandsOutside}
use Rattle.opt_trees.specs.Dialect.{Dialect}
use Rattle.opt_trees.specs.Sccp.{Old, New, fresh, used_as, put_root}

-- the constants of these values are put in, under handles that led nowhere, each its own; and the uses of the values are
-- uses of the constants
pub record PutsConstants {O B A : Type 0} (d : Dialect (in_program O B) A) (old new : Program O B) (op : Ptr Operation) (made : Value → Option A) (t : ProgramTree O B) : Type 0 where
  -- the handles of what is put in; what was there keeps its own
  pub names : Maps (fresh by_handle) by_handle
  pub old_operations : (p : Ptr Operation) → names.operation (Old p) ≡ p
  pub old_blocks : (b : Ptr BasicBlock) → names.block b ≡ b
  pub old_values : (v : Value) → names.value (Old v) ≡ v
  pub led_nowhere : (v : Value) (a : A) → made v ≡ Some a → operation_at old (names.operation (New v)) ≡ None
  pub apart : (v w : Value) (a b : A) → made v ≡ Some a → made w ≡ Some b
      → names.operation (New v) ≡ names.operation (New w) → v ≡ w
  -- the result of each is a value of its own operation
  pub own : (v : Value) (a : A) → made v ≡ Some a → (names.value (New v)).definer ≡ ByOp (names.operation (New v))
  -- the root stands for the tree with the constants
  pub stands : StandsFor new op (rename_root names (put_root d made t))
  pub outside : ChangesOperandsOutside old new op (λ v. names.value (used_as v (made v)))
  -- nothing else comes to be there
  pub no_others : (p : Ptr Operation) → operation_at old p ≡ None
      → ((v : Value) (a : A) → made v ≡ Some a → p ≢ names.operation (New v)) → operation_at new p ≡ None
  pub no_blocks : (b : Ptr BasicBlock) → block_at old b ≡ None → block_at new b ≡ None
  pub no_regions : (r : Ptr Region) → region_at old r ≡ None → region_at new r ≡ None
