-- What is accepted meets the conditions of the getters.
use Rattle.std.proofs.Common.{◌≡◌, true, false, List, Option, Some, None, refl, sym, ◌∙◌}
use Rattle.std.specs.Prelude.{IfSome}
use Rattle.std.specs.Option.{option_map_or}
use Rattle.std.proofs.lemmas.Bool.{false≢true}
use Rattle.ir_names.specs.declared.interfaces.OpInterface.{OpInterface}
use Rattle.ir_names.specs.declared.interfaces.OpInterface.TheVariants as interface
use Rattle.ir_program.specs.declared.handles.IRNode.TheVariants.{Operation as OperationNode}
use Rattle.ir_program.specs.declared.handles.Operation.{Operation}
use Rattle.ir_program.specs.declared.handles.Ptr.{Ptr}
use Rattle.ir_types.specs.Views.{TypesView}
use Rattle.ir_context.specs.Kept.{kind_at}
use Rattle.ir_core.specs.verification.Dialect.{DialectProgram}
use Rattle.ir_core.specs.verification.Verified.{IsVerified}
use Rattle.builtin_tables.specs.Listed.{has_only_numbers, lists_interface}
use Rattle.builtin_ifaces.proofs.ListedLemmas.{listed_at}
use Rattle.region_ifaces.specs.declared.region_edges.RegionEdge.{RegionEdge}
use Rattle.interface_verifiers.specs.Conditions.{AllMeetConditions, MeetsConditions}
use Rattle.interface_verifiers.specs.Summary.{DialectSummary}
use Rattle.interface_verifiers.specs.Wanted.{IsAccepted, IsAsAllWant, IsAsWanted, IsAsWantedBy}

-- a dialect whose kinds implement what its table lists, the edges that lead into the regions of each operation, and a program
module _ {D TypeKind AttrKind TypeBody Saved Location OpKind Attr TypeKey : Type 0} (d : DialectSummary OpKind Attr TypeKey)
    (listed : (kind : OpKind) (i : OpInterface) → d.implements kind i ≡ lists_interface (d.interfaces kind) i)
    (edges : Ptr Operation → List RegionEdge) (c : DialectProgram D TypeKind AttrKind TypeBody Saved Location OpKind Attr TypeKey) (types : TypesView TypeKey TypeBody Saved) where
  -- the operation is as each interface wants it that its kind implements
  met : (op : Ptr Operation) (i : OpInterface) → has_only_numbers i ≡ true → (kind : Option OpKind) → IfSome kind (λ k. IsAsAllWant d edges c types op (d.interfaces k))
      → option_map_or (λ k. d.implements k i) kind false ≡ true → IsAsWantedBy d edges c types op i
  met op i plain None all has = absurd (false≢true has)
  met op i plain (Some k) all has = let at = listed_at (d.interfaces k) i plain (sym (listed k i) ∙ has) in all at.0 i at.1

  conditions : (op : Ptr Operation) → IsAsWanted d edges c types op → MeetsConditions d edges c types op
  conditions op w = record {
    branch = λ has. (met op interface.Branch refl (kind_at c op) w.interfaces has).alone.own;
    segments = λ has. (met op interface.OperandSegment refl (kind_at c op) w.interfaces has).alone.own;
    symbol = λ has. (met op interface.SymbolOp refl (kind_at c op) w.interfaces has).alone.own;
    call = λ has. (met op interface.CallOp refl (kind_at c op) w.interfaces has).alone.own;
    table = λ has. (met op interface.SymbolTable refl (kind_at c op) w.interfaces has).inside;
    regions = λ has. (met op interface.RegionBranch refl (kind_at c op) w.interfaces has).inside;
    rows = λ i plain told has. (met op i plain (kind_at c op) w.interfaces has).alone.rows told;
    function = w.builtin.function;
    constant = w.builtin.constant;
    forward_ref = w.builtin.forward_ref;
  }

  pub all_conditions : (root : Ptr Operation) → IsVerified d.implements (IsAccepted d edges c types) c (OperationNode root) → AllMeetConditions d edges c types root
  all_conditions root verified op inside = conditions op (verified.tests (OperationNode op) inside).0
