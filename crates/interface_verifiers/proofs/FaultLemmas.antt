-- The fault of an operation's table is one of the operation.
use Rattle.std.proofs.Common.{◌≡◌, List, Some}
use Rattle.ir_names.specs.declared.interfaces.OpInterface.{OpInterface}
use Rattle.ir_program.specs.Program.{Program}
use Rattle.ir_program.specs.declared.handles.Operation.{Operation}
use Rattle.ir_program.specs.declared.handles.Ptr.{Ptr}
use Rattle.ir_types.specs.Views.{TypesView}
use Rattle.ir_context.specs.Kept.{kind_at}
use Rattle.ir_context.specs.declared.notes.OperationData.{OperationData}
use Rattle.region_ifaces.specs.declared.region_edges.RegionEdge.{RegionEdge}
use Rattle.interface_verifiers.specs.Faults.{IsListedFault, IsOperationFault}
use Rattle.interface_verifiers.specs.Summary.{DialectSummary}
use Rattle.interface_verifiers.specs.declared.faults.OperationFault.{OperationFault}
use Rattle.interface_verifiers.specs.declared.faults.OperationFault.TheVariants.{Interface, Builtin}

module _ {D TypeKind AttrKind TypeBody Saved Location OpKind Attr TypeKey B : Type 0} (d : DialectSummary OpKind Attr TypeKey)
    (c : Program (OperationData D TypeKind AttrKind TypeBody Saved Location OpKind Attr TypeKey) B) (types : TypesView TypeKey TypeBody Saved) (op : Ptr Operation) (edges : Ptr Operation → List RegionEdge) where
  pub of_table : (kind : OpKind) → kind_at c op ≡ Some kind → (interfaces : List OpInterface) → interfaces ≡ d.interfaces kind → (fault : OperationFault)
      → IsListedFault d c types op edges interfaces fault → IsOperationFault d c types op edges fault
  of_table kind at interfaces same (Interface i fault) is = rw (at, ← same) is
  of_table kind at interfaces same (Builtin fault) is = absurd is
