-- A terminator is in one block.
use Rattle.std.proofs.Common.{◌≡◌, ◌∙◌, Bool, Option, Some, subst, sym}
use Rattle.std.proofs.lemmas.Option.{same_Some}
use Rattle.ir_names.specs.declared.interfaces.OpInterface.{OpInterface}
use Rattle.ir_program.specs.Lists.{StandsInBlock}
use Rattle.ir_program.specs.Program.{Program}
use Rattle.ir_program.specs.declared.handles.BasicBlock.{BasicBlock}
use Rattle.ir_program.specs.declared.handles.Operation.{Operation}
use Rattle.ir_program.specs.declared.handles.Ptr.{Ptr}
use Rattle.ir_context.specs.Holders.{HasOperation}
use Rattle.ir_context.specs.declared.notes.OperationData.{OperationData}
use Rattle.ir_queries.specs.Edges.{terminator_of}
use Rattle.region_ifaces.specs.RegionEdges.{IsRegionTerminator}

module _ {D TypeKind AttrKind TypeBody Saved Location OpKind Attr TypeKey B : Type 0} (has : OpKind → OpInterface → Bool) (c : Program (OperationData D TypeKind AttrKind TypeBody Saved Location OpKind Attr TypeKey) B) (op t : Ptr Operation) (block : Ptr BasicBlock) (found : Option (Ptr BasicBlock)) (is : found ≡ Some block) (only : (b : Ptr BasicBlock) → StandsInBlock c t b → found ≡ Some b) (r : IsRegionTerminator has c op t) where
  same_block : r.block ≡ block
  same_block = same_Some r.block block (sym (only r.block r.inner) ∙ is)

  -- it ends the block that it is in
  pub ends_block : terminator_of has c block ≡ Some t
  ends_block = subst (λ (b : Ptr BasicBlock). terminator_of has c b ≡ Some t) same_block r.ends

  -- this block is in a region of the operation
  pub holds_block : HasOperation c block op
  holds_block = subst (λ (b : Ptr BasicBlock). HasOperation c b op) same_block r.outer
