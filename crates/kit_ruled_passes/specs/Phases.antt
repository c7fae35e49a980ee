-- The phases of simplifying control flow below the root of a module.
use Rattle.ir_program.specs.declared.handles.Operation.{Operation}
use Rattle.ir_program.specs.declared.handles.Ptr.{Ptr}
use Rattle.ir_trees.specs.Stands.{StandsFor}
use Rattle.kit.specs.Context.{KitProgram, KitTree}
use Rattle.opt_decide.specs.Phase.{DecidesBranches}
use Rattle.opt_simplify.specs.Phases.{RemovesBlocks}
use Rattle.opt_trees.specs.Simplify.{all_of}
use Rattle.kit.specs.Meaning.{kit}

-- the branches that their operands decide are unconditional ones
abbrev pub DecidesBranchesBelow : KitProgram → KitProgram → Ptr Operation → Type 0
DecidesBranchesBelow old new root = (t : KitTree) → StandsFor old root t → DecidesBranches kit old new root t

-- the blocks of visited regions that nothing reaches are gone
abbrev pub RemovesBlocksBelow : KitProgram → KitProgram → Ptr Operation → Type 0
RemovesBlocksBelow old new root = (t : KitTree) → StandsFor old root t → RemovesBlocks kit (all_of t) old new root t
