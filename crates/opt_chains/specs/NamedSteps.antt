-- Steps along chains of numbers as steps that join the blocks with these numbers.
use Rattle.std.specs.Prelude.{◌≡◌, ℕ, ◌<◌, List, Some, IsSome, length, slice_get}
use Rattle.ir_program.specs.Program.{Program, block_at}
use Rattle.ir_program.specs.declared.handles.Ptr.{Ptr}
use Rattle.ir_program.specs.declared.handles.Operation.{Operation}
use Rattle.ir_program.specs.declared.handles.BasicBlock.{BasicBlock}
use Rattle.ir_trees.specs.Stands.{in_program}
use Rattle.opt_trees.specs.Dialect.{Dialect}
use Rattle.opt_chains.specs.Exits.{IsBareExit}
use Rattle.opt_chains.specs.declared.chain_steps.ChainStep.{ChainStep}
use Rattle.opt_chains.specs.declared.merging.Join.{Join}

module _ {O B A : Type 0} (d : Dialect (in_program O B) A) (c : Program O B) (keys : List (Ptr BasicBlock)) where
  -- the numbers are those of blocks, and the block before ends in a bare branch to the one that the step leads to
  pub record HasExit (s : ChainStep) : Type 0 where
    pub within : s.first < length keys
    pub before : Ptr BasicBlock
    pub before_is : slice_get keys s.before ≡ Some before
    pub live : IsSome (block_at c before)
    pub target : Ptr BasicBlock
    pub target_is : slice_get keys s.to ≡ Some target
    pub branch : Ptr Operation
    pub exit : IsBareExit d c before branch target

  -- the step on blocks is that on their numbers
  pub record IsNamedStep (s : ChainStep) (j : Join) : Type 0 where
    pub first : slice_get keys s.first ≡ Some j.first
    pub to : slice_get keys s.to ≡ Some j.block
    pub exit : (z : Ptr BasicBlock) → slice_get keys s.before ≡ Some z → IsBareExit d c z j.branch j.block

  -- so are all
  pub record AreNamedSteps (ss : List ChainStep) (js : List Join) : Type 0 where
    pub len : length js ≡ length ss
    pub each : (k : ℕ) (s : ChainStep) (j : Join) → slice_get ss k ≡ Some s → slice_get js k ≡ Some j → IsNamedStep s j
