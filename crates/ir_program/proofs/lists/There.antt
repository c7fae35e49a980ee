-- A handle leads somewhere exactly where its key does.
use Rattle.std.proofs.Common.{IsSome}
use Rattle.ir_arena.specs.Arena.{get}
use Rattle.ir_program.specs.Program.{Program, operation_at, block_at, region_at, operation_of, block_of, region_of}
use Rattle.ir_program.specs.declared.handles.Ptr.{Ptr}
use Rattle.ir_program.specs.declared.handles.Operation.{Operation}
use Rattle.ir_program.specs.declared.handles.BasicBlock.{BasicBlock}
use Rattle.ir_program.specs.declared.handles.Region.{Region}
use Rattle.ir_program.proofs.lists.Slotted.{some_of_map, map_of_some}

module _ {O B : Type 0} (c : Program O B) where
  pub operation_got : (p : Ptr Operation) → IsSome (operation_at c p) → IsSome (get c.forest.ops p.key)
  operation_got p live = some_of_map (operation_of c p) (get c.forest.ops p.key) live

  pub operation_there : (p : Ptr Operation) → IsSome (get c.forest.ops p.key) → IsSome (operation_at c p)
  operation_there p live = map_of_some (operation_of c p) (get c.forest.ops p.key) live

  pub block_got : (b : Ptr BasicBlock) → IsSome (block_at c b) → IsSome (get c.forest.blocks b.key)
  block_got b live = some_of_map (block_of c b) (get c.forest.blocks b.key) live

  pub block_there : (b : Ptr BasicBlock) → IsSome (get c.forest.blocks b.key) → IsSome (block_at c b)
  block_there b live = map_of_some (block_of c b) (get c.forest.blocks b.key) live

  pub region_got : (r : Ptr Region) → IsSome (region_at c r) → IsSome (get c.forest.regions r.key)
  region_got r live = some_of_map (λ u. region_of c r) (get c.forest.regions r.key) live

  pub region_there : (r : Ptr Region) → IsSome (get c.forest.regions r.key) → IsSome (region_at c r)
  region_there r live = map_of_some (λ u. region_of c r) (get c.forest.regions r.key) live
