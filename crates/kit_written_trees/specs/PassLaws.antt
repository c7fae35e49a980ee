-- The statements: what a pass makes of a tree that can be written can be written, where the types of a context are
-- those of a list, by the numbers of their handles.
use Rattle.std.specs.Prelude.{List, Option, slice_get}
use Rattle.ir_base.specs.declared.types.TypeHandle.{TypeHandle}
use Rattle.ir_program.specs.declared.handles.Value.{Value}
use Rattle.ir_trees.specs.Stands.{by_handle}
use Rattle.kit.specs.Context.{KitTree}
use Rattle.kit.specs.Meaning.{kit}
use Rattle.kit_ops.specs.declared.attributes.IntegerAttr.{IntegerAttr}
use Rattle.kit_ops.specs.declared.types.KitType.{KitType}
use Rattle.kit_pass_rules.specs.Laws.{IsGood, MakesUpToNames, IsSccpUpToNames}
use Rattle.kit_writable_trees.specs.Writable.{IsWritableRoot}
use Rattle.opt_trees.specs.Dce.{TreeSurroundings, IsDce}
use Rattle.opt_trees.specs.Occurrences.{OperationsApart}
use Rattle.opt_trees.specs.Simplify.{IsLocal, IsSimplify}

-- what a handle leads to: the type with its number
abbrev pub leads_by : List KitType → TypeHandle → Option KitType
leads_by types ty = slice_get types ty.number

-- without what is dead, where operations have names of their own
abbrev pub DceStaysWritable : Type 0
DceStaysWritable = (types : List KitType) (w : TreeSurroundings by_handle IntegerAttr) (t after : KitTree) →
    IsWritableRoot types t → OperationsApart t → IsDce kit w t after → IsWritableRoot types after

-- with constants put in for known values, under whatever handles, where the tree keeps the rules
abbrev pub SccpStaysWritable : Type 0
SccpStaysWritable = (types : List KitType) (typed : Value → Option TypeHandle) (t after : KitTree) →
    IsWritableRoot types t → IsGood (leads_by types) typed t → IsSccpUpToNames t after → IsWritableRoot types after

-- with simpler control flow, up to handles of operations, where blocks have names of their own and edges stay in their
-- region
abbrev pub SimplifyStaysWritable : Type 0
SimplifyStaysWritable = (types : List KitType) (w : TreeSurroundings by_handle IntegerAttr) (t after : KitTree) →
    IsWritableRoot types t → IsLocal t → MakesUpToNames (IsSimplify kit w) t after → IsWritableRoot types after
