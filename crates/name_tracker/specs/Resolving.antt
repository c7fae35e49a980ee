-- What becomes of what stood in for a value or a block, once that is there.
use Rattle.std.specs.Prelude.{◌≡◌, ◌≢◌, ◌⊎◌, IsSome}
use Rattle.ir_program.specs.Program.{Program, operation_at}
use Rattle.ir_program.specs.Edits.{KeepsValues}
use Rattle.ir_program.specs.Erased.{IsApart, ErasesOperation, ErasesBlock}
use Rattle.ir_program.specs.UseEdits.{ReplacesValue, RetargetsBlock}
use Rattle.ir_program.specs.declared.handles.Ptr.{Ptr}
use Rattle.ir_program.specs.declared.handles.BasicBlock.{BasicBlock}
use Rattle.ir_program.specs.declared.handles.Value.{Value}
use Rattle.ir_program.specs.declared.handles.DefiningEntity.{DefiningEntity}
use Rattle.ir_program.specs.declared.handles.DefiningEntity.TheVariants.{Op as ByOp, Block as ByBlock}
use Rattle.ir_program.specs.declared.handles.IRNode.TheVariants.{Operation as OperationNode, BasicBlock as BlockNode}

-- it goes where it may, and otherwise all is as it was
abbrev pub GoesWhere : {C : Type 0} → Type 0 → Type 0 → C → C → Type 0
GoesWhere May Goes old new = (May × Goes) ⊎ ((May → ⊥) × (new ≡ old))

module _ {O B : Type 0} where
  -- An operation that is there goes, if nothing outside it names what is in it. A block stays, of which what stood in was an argument.
  abbrev pub DefinerGoes : Program O B → Program O B → DefiningEntity → Type 0
  DefinerGoes old new (ByOp p) = GoesWhere (IsSome (operation_at old p) × IsApart old (OperationNode p)) (ErasesOperation old new p) old new
  DefinerGoes old new (ByBlock b) = new ≡ old

  -- a block goes, if nothing outside it names what is in it
  abbrev pub BlockGoes : Program O B → Program O B → Ptr BasicBlock → Type 0
  BlockGoes old new b = GoesWhere (IsApart old (BlockNode b)) (ErasesBlock old new b) old new

  -- Each use of what stood in is one of the value now. What defined what stood in goes, unless it defines the value too.
  pub record ResolvesValue (old new : Program O B) (stand_in value : Value) : Type 0 where
    pub between : Program O B
    pub replaced : ReplacesValue old between stand_in value
    pub values : KeepsValues old between
    pub same : stand_in.definer ≡ value.definer → new ≡ between
    pub gone : stand_in.definer ≢ value.definer → DefinerGoes between new stand_in.definer

  -- Each edge to what stood in leads to the block now. What stood in goes, if nothing outside it names what is in it, unless it is the block.
  pub record ResolvesLabel (old new : Program O B) (stand_in block : Ptr BasicBlock) : Type 0 where
    pub between : Program O B
    pub retargeted : RetargetsBlock old between stand_in block
    pub values : KeepsValues old between
    pub same : stand_in ≡ block → new ≡ between
    pub gone : stand_in ≢ block → BlockGoes between new stand_in
