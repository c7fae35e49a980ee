-- Tests of types and of blocks, which several rules make of all members of a list.
use Rattle.std.specs.Prelude.{◌≡◌, ◌≢◌, []}
use Rattle.ir_base.specs.declared.types.TypeHandle.{TypeHandle}
use Rattle.ir_program.specs.Program.{Program}
use Rattle.ir_program.specs.declared.handles.Ptr.{Ptr}
use Rattle.ir_program.specs.declared.handles.BasicBlock.{BasicBlock}
use Rattle.ir_program.specs.declared.handles.Region.{Region}
use Rattle.ir_trees.specs.Trees.{Blocks}
use Rattle.kit_checks.specs.declared.blocks.BlockTest.{BlockTest}
use Rattle.kit_checks.specs.declared.blocks.BlockTest.TheVariants as of_blocks
use Rattle.kit_checks.specs.declared.types.TypeTest.{TypeTest}
use Rattle.kit_checks.specs.declared.types.TypeTest.TheVariants as of_types
use Rattle.kit_checks.specs.World.{World}
use Rattle.kit_checks.specs.Located.{IsBody, RegionHasBlocks}
use Rattle.kit_checks.specs.Sites.{Listed, Body, operation_list}
use Rattle.kit_checks.specs.Rules.{IsCommon}
use Rattle.kit_checks.specs.Words.{Every, IsValueType, IsBit, types_of}

module _ {O B : Type 0} (w : World O B) where
  -- what a test of a type asks: that values can have it, that it is one bit, or this type
  abbrev pub TypePasses : TypeTest → TypeHandle → Type 0
  TypePasses of_types.Value h = IsValueType w h
  TypePasses of_types.Bit h = IsBit w h
  TypePasses (of_types.Same other) h = h ≡ other

  -- what a test of a block asks: that its arguments can be values, that it isn't empty, or that every block may have its attributes
  abbrev pub BlockPasses : BlockTest → Body O B → Type 0
  BlockPasses of_blocks.Values b = Every (IsValueType w) (types_of b.label.arguments)
  BlockPasses of_blocks.Filled b = operation_list b.operations ≢ []
  BlockPasses of_blocks.Known b = Every IsCommon (w.block_attributes b.label.content)

module _ {O B : Type 0} (c : Program O B) where
  -- it holds of what the block is; of the blocks that the region has
  abbrev pub OfBody : Ptr BasicBlock → (Body O B → Type 0) → Type 0
  OfBody block P = (b : Body O B) → IsBody c block b → P b

  abbrev pub OfRegion : Ptr Region → (Listed O B Blocks → Type 0) → Type 0
  OfRegion region P = (blocks : Listed O B Blocks) → RegionHasBlocks c region blocks → P blocks
