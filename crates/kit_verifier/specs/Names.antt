-- What modules hold and what calls call, said of the entities inside a root.
use Rattle.std.specs.Prelude.{◌≡◌, ◌↔◌, true, List, Option, Some, None}
use Rattle.ir_context.specs.Holders.{HasOperation}
use Rattle.ir_program.specs.Lists.{StandsInside, operations_in}
use Rattle.ir_program.specs.Program.{Program}
use Rattle.ir_program.specs.declared.handles.IRNode.{IRNode}
use Rattle.ir_program.specs.declared.handles.IRNode.TheVariants.{Operation as OperationNode}
use Rattle.ir_program.specs.declared.handles.IRNode.TheVariants.{Region as RegionNode, BasicBlock as BlockNode}
use Rattle.ir_program.specs.declared.handles.Ptr.{Ptr}
use Rattle.ir_program.specs.declared.handles.Operation.{Operation}
use Rattle.ir_program.specs.declared.handles.BasicBlock.{BasicBlock}
use Rattle.opt_trees.specs.Occurrences.{Has}
use Rattle.kit_ops.specs.declared.kinds.KitOp.{KitOp}
use Rattle.kit_ops.specs.declared.kinds.KitOp.TheVariants.{Call, Module}
use Rattle.kit_checks.specs.Reading.{OfTree}
use Rattle.kit_checks.specs.Rules.{HasModuleBody}
use Rattle.kit_checks.specs.Words.{is_symbol}
use Rattle.kit_checks.specs.World.{World}
use Rattle.kit_verifier.specs.Callees.{AreCallees, callables_of}
use Rattle.kit_verifier.specs.Reading.{kind_at}
use Rattle.kit_verifier.specs.Repeats.{IsRepeat}
use Rattle.kit_verifier.specs.declared.names.CallsInside.{CallsInside}

module _ {O B : Type 0} (w : World O B) (c : Program O B) where
  -- the operation is a module or a function
  abbrev pub IsSymbolAt : Ptr Operation → Type 0
  IsSymbolAt op = (k : KitOp) → kind_at w c op ≡ Some k → is_symbol k ≡ true

  -- the operations are modules and functions, and none has the name of an earlier one
  pub record AreSymbols (ops : List (Ptr Operation)) : Type 0 where
    pub kinds : (op : Ptr Operation) → Has op ops → IsSymbolAt op
    pub fresh : (op : Ptr Operation) → IsRepeat w c ops op → ⊥

  -- the block is one of an operation that is a module
  abbrev pub IsOfModule : Ptr BasicBlock → Type 0
  IsOfModule b = (owner : Ptr Operation) × HasOperation c b owner × (kind_at w c owner ≡ Some Module)

  -- an operation that is a module has a module's body, and a block of a module has what a module may hold
  abbrev pub HoldsAt : IRNode → Type 0
  HoldsAt (OperationNode op) = kind_at w c op ≡ Some Module → OfTree c op HasModuleBody
  HoldsAt (BlockNode b) = IsOfModule b → AreSymbols (operations_in c b)
  HoldsAt (RegionNode r) = Unit {0}

  -- the entity is the operation, and that is a call
  abbrev pub IsCallAt : IRNode → Ptr Operation → Type 0
  IsCallAt (OperationNode p) op = (op ≡ p) × (kind_at w c p ≡ Some Call)
  IsCallAt (BlockNode b) op = ⊥
  IsCallAt (RegionNode r) op = ⊥

  module _ (root : Ptr Operation) where
    -- the list has exactly the calls inside the root
    abbrev pub AreCalls : List (Ptr Operation) → Type 0
    AreCalls calls = (op : Ptr Operation) →
        Has op calls ↔ ((e : IRNode) × StandsInside c (OperationNode root) e × IsCallAt e op)

    -- all modules inside the root hold what they may, and these are the calls there, and what they can call
    pub record IsCallsInside (found : CallsInside) : Type 0 where
      pub holds : (e : IRNode) → StandsInside c (OperationNode root) e → HoldsAt e
      pub callees : AreCallees w c root (callables_of found.callees.keys)
      pub calls : AreCalls found.calls.items

    -- what is found inside the root: its calls, or nothing where a module there holds what it may not
    abbrev pub IsGathered : Option CallsInside → Type 0
    IsGathered None = (e : IRNode) × StandsInside c (OperationNode root) e × (HoldsAt e → ⊥)
    IsGathered (Some found) = IsCallsInside found
