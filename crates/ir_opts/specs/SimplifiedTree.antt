-- What simplifying control flow makes of a program and of the tree of an operation.
use Rattle.std.specs.Prelude.{◌≡◌, ◌⊎◌, None, IsSome}
use Rattle.ir_program.specs.Program.{Program, operation_at}
use Rattle.ir_program.specs.declared.handles.Ptr.{Ptr}
use Rattle.ir_program.specs.declared.handles.Operation.{Operation}
use Rattle.ir_trees.specs.Renames.{rename_root}
use Rattle.ir_trees.specs.Stands.{by_handle, in_program, ProgramTree, StandsFor}
use Rattle.opt_trees.specs.Dce.{TreeSurroundings}
use Rattle.opt_trees.specs.Dialect.{Dialect}
use Rattle.opt_trees.specs.Simplify.{IsSimplify}
use Rattle.opt_inside.specs.Around.{SaysAround}
use Rattle.opt_inside.specs.Outside.{AddsNoneOutside, ChangesOperandsOutside}
use Rattle.opt_decide.specs.Phase.{maps_of}
use Rattle.opt_decide.specs.Planned.{IsDecidedBelow}

-- the operation stands for its tree, simplified, up to the handles of new branches: each of these, which led nowhere,
-- and the handle of the branch in whose place it is change places. Those are branches below the operation that their
-- operands decide; each other operation keeps its handle. What isn't inside the operation is as it was, but for
-- operands: in place of an argument of a block that went is what was forwarded to it; and nothing comes there
pub record SimplifiesTree {O B A : Type 0} (d : Dialect (in_program O B) A) (old new : Program O B)
    (op : Ptr Operation) (t : ProgramTree O B) : Type 0 where
  pub around : TreeSurroundings by_handle A
  pub says : SaysAround d old op around
  pub after : ProgramTree O B
  pub simplified : IsSimplify d around t after
  pub names : Ptr Operation → Ptr Operation
  pub twice : (p : Ptr Operation) → names (names p) ≡ p
  pub fresh : (p : Ptr Operation) → IsSome (operation_at old p)
      → (names p ≡ p) ⊎ (operation_at old (names p) ≡ None)
  pub kept : (p : Ptr Operation) → IsSome (operation_at old p) → (IsDecidedBelow d old op p → ⊥) → names p ≡ p
  pub root : names op ≡ op
  pub stands : StandsFor new op (rename_root (maps_of names) after)
  pub outside : ChangesOperandsOutside old new op simplified.is_joined.names
  pub none_come : AddsNoneOutside old new op
