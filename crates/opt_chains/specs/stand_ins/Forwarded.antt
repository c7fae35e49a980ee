-- What is forwarded to the arguments of blocks that are joined.
use Rattle.std.specs.Prelude.{◌≡◌, ℕ, List, [], Some, option_map, unwrap_or, length, slice_get}
use Rattle.ir_program.specs.Program.{Program, OperationView, operation_at, arguments_at, value_in}
use Rattle.ir_program.specs.declared.handles.Ptr.{Ptr}
use Rattle.ir_program.specs.declared.handles.Operation.{Operation}
use Rattle.ir_program.specs.declared.handles.BasicBlock.{BasicBlock}
use Rattle.ir_program.specs.declared.handles.Value.{Value}
use Rattle.ir_trees.specs.Searched.{Lists}
use Rattle.ir_trees.specs.Stands.{in_program}
use Rattle.opt_trees.specs.Dialect.{Dialect}
use Rattle.opt_trees.specs.Occurrences.{picks}
use Rattle.opt_chains.specs.declared.merging.Join.{Join}

-- the first value is an argument of the block, and the second has its index in the list
abbrev pub IsPaired : {O B : Type 0} → Program O B → Ptr BasicBlock → List Value → Value → Value → Type 0
IsPaired c b us v u = (i : ℕ) × (value_in (arguments_at c b) i ≡ Some v) × (slice_get us i ≡ Some u)

module _ {O B A : Type 0} (d : Dialect (in_program O B) A) (c : Program O B) where
  -- what an operation forwards along its first edge
  abbrev pub forwarded_by : Ptr Operation → List Value
  forwarded_by p = unwrap_or (option_map (λ (v : OperationView O). picks v.operands (d.forwards v.payload (length v.operands) 0)) (operation_at c p)) []

  -- the first value is an argument of a block that is joined, and the branch to it forwards the second to it
  abbrev pub IsForwarded : List Join → Value → Value → Type 0
  IsForwarded js v u = (j : Join) × Lists js j × IsPaired c j.block (forwarded_by j.branch) v u
