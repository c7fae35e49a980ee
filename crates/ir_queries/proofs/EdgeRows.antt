-- The edges of a block whose terminator is known.
use Rattle.std.proofs.Common.{◌≡◌, Bool, [], Option, Some, ap}
use Rattle.std.specs.Option.{option_map_or}
use Rattle.ir_names.specs.declared.interfaces.OpInterface.{OpInterface}
use Rattle.ir_program.specs.Program.{Program}
use Rattle.ir_program.specs.Rows.{successors_at}
use Rattle.ir_program.specs.declared.handles.Ptr.{Ptr}
use Rattle.ir_program.specs.declared.handles.Operation.{Operation}
use Rattle.ir_program.specs.declared.handles.BasicBlock.{BasicBlock}
use Rattle.ir_context.specs.declared.notes.OperationData.{OperationData}
use Rattle.ir_queries.specs.Edges.{terminator_of, edges_of}

pub edges_are : {D TypeKind AttrKind TypeBody Saved Location OpKind Attr TypeKey B : Type 0} (has : OpKind → OpInterface → Bool) (c : Program (OperationData D TypeKind AttrKind TypeBody Saved Location OpKind Attr TypeKey) B) (b : Ptr BasicBlock) (o : Option (Ptr Operation)) (p : Ptr Operation)
    → o ≡ terminator_of has c b → o ≡ Some p → successors_at c p ≡ edges_of has c b
edges_are has c b o p e f = let s : Some p ≡ terminator_of has c b = cc in ap (λ t. option_map_or (successors_at c) t []) s
