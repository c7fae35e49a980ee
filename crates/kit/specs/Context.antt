-- What is seen of a context of `kit`.
use Rattle.ir_context.specs.Views.{ContextView}
use Rattle.ir_program.specs.Program.{Program}
use Rattle.ir_trees.specs.Stands.{ProgramTree}
use Rattle.ir_types.specs.Views.{TypesView}
use Rattle.kit.specs.declared.dialect.Unused.{Unused}
use Rattle.kit.specs.Meaning.{KitOperation, KitBlock}
use Rattle.kit_ops.specs.declared.types.KitType.{KitType}

-- its operations, regions and blocks
abbrev pub KitProgram : Type 0
KitProgram = Program KitOperation KitBlock

-- the program, and its types
abbrev pub KitContext : Type 0
KitContext = ContextView KitOperation KitBlock (TypesView KitType Unused Unused)

-- a tree of operations, by their handles
abbrev pub KitTree : Type 0
KitTree = ProgramTree KitOperation KitBlock
