-- Simplification of control flow: branches are decided, then unreached blocks are cut, then chains are joined.
use Rattle.std.specs.Prelude.{◌≡◌}
use Rattle.ir_program.specs.Program.{Program}
use Rattle.ir_program.specs.declared.handles.Ptr.{Ptr}
use Rattle.ir_program.specs.declared.handles.Operation.{Operation}
use Rattle.ir_trees.specs.Stands.{in_program, ProgramTree, StandsFor}
use Rattle.opt_trees.specs.Dialect.{Dialect}
use Rattle.opt_trees.specs.Simplify.{all_of}
use Rattle.opt_dialect.specs.declared.status.OptError.{OptError}
use Rattle.opt_dialect.specs.declared.status.OptError.TheVariants.{LiveUse, Memory}
use Rattle.opt_inside.specs.declared.reach.starts.Start.TheVariants.{Operation as AtOperation}
use Rattle.opt_decide.specs.Phase.{CarriesOutPart, DecidesBranches, HasNoneDecided}
use Rattle.opt_simplify.specs.Phases.{RemovesBlocks}
use Rattle.opt_simplify.specs.Refusals.{HasNoneUnreached, LosesNone, LosesUses}
use Rattle.opt_chains.specs.Phases.{MergesBlocks}
use Rattle.ir_opts.specs.joining.Answers.{HasCircle, HasNoCircle, HasNoneJoinable}

module _ {O B A : Type 0} (d : Dialect (in_program O B) A) where
  -- 1. each phase, of the tree that the operation stands for; looking begins at all regions of the operation

  -- the branches that their operands decide are unconditional ones
  abbrev pub Decides : Program O B → Program O B → Ptr Operation → Type 0
  Decides old new op = (t : ProgramTree O B) → StandsFor old op t → DecidesBranches d old new op t

  -- the blocks of visited regions that nothing reaches are gone
  abbrev pub Removes : Program O B → Program O B → Ptr Operation → Type 0
  Removes old new op = (t : ProgramTree O B) → StandsFor old op t → RemovesBlocks d (all_of t) old new op t

  -- the chains of blocks of visited regions are joined, each at its first
  abbrev pub JoinsChains : Program O B → Program O B → Ptr Operation → Type 0
  JoinsChains old new op = (t : ProgramTree O B) → StandsFor old op t → MergesBlocks d (all_of t) old new op t

  -- 2. all three

  module _ (old new : Program O B) (op : Ptr Operation) where
    -- decided, then cut, then joined: the steps of `IsSimplify`, with names of their own for the new branches; neither
    -- of the last two was to be refused
    pub record Simplifies : Type 0 where
      pub decided : Program O B
      pub cut : Program O B
      pub decides : Decides old decided op
      pub removes : Removes decided cut op
      pub joins : JoinsChains cut new op
      pub loses_none : LosesNone d decided op (AtOperation op)
      pub no_circle : HasNoCircle d cut op (AtOperation op)

    -- the phase that stops, and what the program is then
    pub data StopsAt (e : OptError) : Type 0 where
      -- some of the branches are decided, each whole, and there is no memory for the next
      while_deciding : e ≡ Memory → CarriesOutPart d old new op → StopsAt e
      -- the branches are decided, and there is no memory to look for blocks that nothing reaches
      while_removing : e ≡ Memory → Decides old new op → StopsAt e
      -- the branches are decided, and what would stay takes a value of a block that would go
      loses_uses : e ≡ LiveUse → Decides old new op → LosesUses d new op (AtOperation op) → StopsAt e
      -- decided and cut, and there is no memory to look for chains
      while_joining : e ≡ Memory → (mid : Program O B) → Decides old mid op → Removes mid new op → StopsAt e
      -- decided and cut, and following what is forwarded to an argument comes back to it
      comes_back : e ≡ LiveUse → (mid : Program O B) → Decides old mid op → Removes mid new op
          → HasCircle d new op (AtOperation op) → StopsAt e

  -- no branch is decided, no block is unreached, and no two blocks can be joined
  pub record HasNothingToDo (c : Program O B) (op : Ptr Operation) : Type 0 where
    pub none_decided : HasNoneDecided d c op
    pub none_unreached : HasNoneUnreached d c op (AtOperation op)
    pub none_joinable : HasNoneJoinable d c op (AtOperation op)
