-- The edges of a region are local where they are so block by block.
use Rattle.std.specs.Prelude.{Bool, Contains}
use Rattle.ir_names.specs.declared.interfaces.OpInterface.{OpInterface}
use Rattle.ir_program.specs.Program.{Program}
use Rattle.ir_program.specs.Lists.{blocks_in}
use Rattle.ir_program.specs.declared.handles.Ptr.{Ptr}
use Rattle.ir_program.specs.declared.handles.Region.{Region}
use Rattle.ir_program.specs.declared.handles.BasicBlock.{BasicBlock}
use Rattle.ir_context.specs.declared.notes.OperationData.{OperationData}
use Rattle.ir_graph.specs.Regions.{IsEnteredInside, IsLeftInside, HasLocalEdges}

module _ {D TypeKind AttrKind TypeBody Saved Location OpKind Attr TypeKey B : Type 0} (has : OpKind → OpInterface → Bool) (c : Program (OperationData D TypeKind AttrKind TypeBody Saved Location OpKind Attr TypeKey) B) (region : Ptr Region) where
  pub local_from : ((b : Ptr BasicBlock) → Contains (blocks_in c region) b → IsLeftInside has c region b) → ((b : Ptr BasicBlock) → Contains (blocks_in c region) b → IsEnteredInside c region b) → HasLocalEdges has c region
  local_from left entered = record {
    terminators = λ b p k l. (left b k p l).0;
    leaving = λ p of. (left of.block of.in_region p of.in_block).1;
    entering = entered;
  }

  pub left_of : HasLocalEdges has c region → (b : Ptr BasicBlock) → Contains (blocks_in c region) b → IsLeftInside has c region b
  left_of h b k p l = (h.terminators b p k l, h.leaving p (record { block = b; in_region = k; in_block = l }))
