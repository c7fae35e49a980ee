-- How a block has to end.
use Rattle.std.specs.Prelude.{◌≡◌, ℕ, ◌+◌, ◌-◌, ◌<◌, Bool, true, false, Option, Some, None, length, slice_get}
use Rattle.std.specs.Option.{option_map_or}
use Rattle.ir_names.specs.declared.interfaces.OpInterface.{OpInterface}
use Rattle.ir_names.specs.declared.interfaces.OpInterface.TheVariants.{IsTerminator, NoTerminator}
use Rattle.ir_program.specs.Lists.{operations_in, StandsInside, IsUnlinkedBlock}
use Rattle.ir_program.specs.declared.handles.Ptr.{Ptr}
use Rattle.ir_program.specs.declared.handles.Operation.{Operation}
use Rattle.ir_program.specs.declared.handles.BasicBlock.{BasicBlock}
use Rattle.ir_program.specs.declared.handles.IRNode.{IRNode}
use Rattle.ir_program.specs.declared.handles.IRNode.TheVariants.{Operation as OperationNode, Region as RegionNode, BasicBlock as BlockNode}
use Rattle.ir_context.specs.Holders.{HasOperation}
use Rattle.ir_context.specs.Kept.{kind_at}
use Rattle.ir_core.specs.verification.Dialect.{DialectProgram}
use Rattle.ir_core.specs.declared.verification.errors.BasicBlockVerifyErr.{BasicBlockVerifyErr}
use Rattle.ir_core.specs.declared.verification.errors.BasicBlockVerifyErr.TheVariants.{MissingTerminator, TerminatorNotLast, NoParent}

-- a dialect, and which interfaces its kinds of operations implement
module _ {D TypeKind AttrKind TypeBody Saved Location OpKind Attr TypeKey : Type 0} (has : OpKind → OpInterface → Bool) (c : DialectProgram D TypeKind AttrKind TypeBody Saved Location OpKind Attr TypeKey) where
  -- whether the operation's kind implements the interface
  abbrev pub implements : OpInterface → Ptr Operation → Bool
  implements interface op = option_map_or (λ kind. has kind interface) (kind_at c op) false

  -- no operation whose kind says that its blocks need no terminator holds the block
  abbrev pub NeedsTerminator : Ptr BasicBlock → Type 0
  NeedsTerminator block = (op : Ptr Operation) → HasOperation c block op → implements NoTerminator op ≡ false

  -- whether there is an operation, and it is a terminator
  abbrev pub is_terminator : Option (Ptr Operation) → Bool
  is_terminator None = false
  is_terminator (Some op) = implements IsTerminator op

  -- whether the block has a last operation, and it is a terminator
  abbrev pub ends_in_terminator : Ptr BasicBlock → Bool
  ends_in_terminator block = is_terminator (slice_get (operations_in c block) (length (operations_in c block) - 1))

  -- an operation of the block that isn't its last is a terminator
  pub record HasEarlyTerminator (block : Ptr BasicBlock) : Type 0 where
    pub op : Ptr Operation
    pub index : ℕ
    pub here : slice_get (operations_in c block) index ≡ Some op
    pub early : index + 1 < length (operations_in c block)
    pub terminator : implements IsTerminator op ≡ true

  -- the block has the flaw
  abbrev pub HasFlaw : BasicBlockVerifyErr → Ptr BasicBlock → Type 0
  HasFlaw MissingTerminator block = NeedsTerminator block × (ends_in_terminator block ≡ false)
  HasFlaw TerminatorNotLast block = NeedsTerminator block × HasEarlyTerminator block
  HasFlaw NoParent block = IsUnlinkedBlock c block

  -- the entity is a block that has the flaw
  abbrev pub IsFlawed : BasicBlockVerifyErr → IRNode → Type 0
  IsFlawed flaw (BlockNode block) = HasFlaw flaw block
  IsFlawed flaw (OperationNode op) = ⊥
  IsFlawed flaw (RegionNode region) = ⊥

  -- a block that is x or stands inside x has the flaw
  pub record SomeHasFlaw (flaw : BasicBlockVerifyErr) (x : IRNode) : Type 0 where
    pub block : IRNode
    pub inside : StandsInside c x block
    pub flawed : IsFlawed flaw block

  -- the last operation of a block that needs a terminator is one, and no other of its operations is
  pub record BlockEndsWell (block : Ptr BasicBlock) : Type 0 where
    pub last : NeedsTerminator block → ends_in_terminator block ≡ true
    pub others : NeedsTerminator block → HasEarlyTerminator block → ⊥

  -- each block that is x or stands inside x ends as it has to
  abbrev pub BlocksEndWell : IRNode → Type 0
  BlocksEndWell x = (block : Ptr BasicBlock) → StandsInside c x (BlockNode block) → BlockEndsWell block
