-- The nearest module around an operation, by its handle.
use Rattle.std.specs.Prelude.{◌≡◌, List, [], ◌∷◌, Option, Some, None}
use Rattle.ir_program.specs.Program.{Program}
use Rattle.ir_program.specs.declared.handles.IRNode.{IRNode}
use Rattle.ir_program.specs.declared.handles.IRNode.TheVariants.{Operation as OperationNode}
use Rattle.ir_program.specs.declared.handles.Ptr.{Ptr}
use Rattle.ir_program.specs.declared.handles.Operation.{Operation}
use Rattle.ir_trees.specs.Stands.{ProgramTree, StandsFor}
use Rattle.kit_ops.specs.declared.kinds.KitOp.TheVariants.{Module}
use Rattle.kit_checks.specs.Sites.{Around, Site}
use Rattle.kit_checks.specs.World.{World}
use Rattle.kit_verifier.specs.Reading.{kind_at}

module _ {O B : Type 0} where
  -- the operations that one is in, the nearest first and the root last; nothing is around the root
  abbrev pub outer_of : Option (Around O B) → List (ProgramTree O B)
  outer_of None = []
  outer_of (Some a) = a.owner ∷ a.outer

  -- an operation, and those that it is in
  abbrev pub with_outer : Site O B → List (ProgramTree O B)
  with_outer s = s.op ∷ outer_of s.around

module _ {O B : Type 0} (c : Program O B) where
  -- the operation stands for the tree, or there is neither
  abbrev pub StandsIf : Option (ProgramTree O B) → Option (Ptr Operation) → Type 0
  StandsIf None None = Unit {0}
  StandsIf None (Some op) = ⊥
  StandsIf (Some u) None = ⊥
  StandsIf (Some u) (Some op) = StandsFor c op u

module _ {O B : Type 0} (w : World O B) (c : Program O B) where
  -- what is answered of an entity: an operation that is a module
  abbrev pub IsModuleAt : IRNode → Option (Ptr Operation) → Type 0
  IsModuleAt e None = (op : Ptr Operation) → e ≡ OperationNode op → kind_at w c op ≡ Some Module → ⊥
  IsModuleAt e (Some op) = (e ≡ OperationNode op) × (kind_at w c op ≡ Some Module)
