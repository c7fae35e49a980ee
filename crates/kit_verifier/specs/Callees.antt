-- Functions that can be called, and what calls call.
use Rattle.std.specs.Prelude.{◌≡◌, ◌↔◌, ℕ, List, ◌∷◌, map, Option, Some, None}
use Rattle.ir_base.specs.declared.types.TypeHandle.{TypeHandle}
use Rattle.ir_program.specs.Lists.{StandsInside}
use Rattle.ir_program.specs.Program.{Program}
use Rattle.ir_program.specs.declared.handles.IRNode.{IRNode}
use Rattle.ir_program.specs.declared.handles.IRNode.TheVariants.{Operation as OperationNode}
use Rattle.ir_program.specs.declared.handles.IRNode.TheVariants.{Region as RegionNode, BasicBlock as BlockNode}
use Rattle.ir_program.specs.declared.handles.Ptr.{Ptr}
use Rattle.ir_program.specs.declared.handles.Operation.{Operation}
use Rattle.ir_trees.specs.Stands.{ProgramTree, StandsFor}
use Rattle.opt_trees.specs.Occurrences.{Has}
use Rattle.kit_ops.specs.declared.attributes.keys.TheConstants.{FUNCTION_TYPE}
use Rattle.kit_ops.specs.declared.kinds.KitOp.TheVariants.{Func}
use Rattle.kit_ops.specs.declared.types.FunctionType.{FunctionType}
use Rattle.kit_checks.specs.Located.{IsOwnedBy}
use Rattle.kit_checks.specs.Rules.{HasAround, CallsFunction}
use Rattle.kit_checks.specs.Sites.{Around, Site}
use Rattle.kit_checks.specs.Words.{HaveTypes, callee_name, callee_type, first_module, function_type, types_of}
use Rattle.kit_checks.specs.World.{World}
use Rattle.kit_verifier.specs.Reading.{kind_at, name_at, type_under}
use Rattle.kit_verifier.specs.declared.callees.Callee.{Callee}

-- how functions are called: the operation that a function is in, its name, its type
pub record Callable : Type 0 where
  pub scope : Ptr Operation
  pub name : List ℕ
  pub ty : TypeHandle

abbrev pub callable_of : Callee → Callable
callable_of x = record { scope = x.scope; name = x.name.now; ty = x.ty }

abbrev pub callables_of : List Callee → List Callable
callables_of xs = map callable_of xs

-- what is known of a function, put together where all of it is known
abbrev pub callable_from : Option (Ptr Operation) → Option (List ℕ) → Option TypeHandle → Option Callable
callable_from None name ty = None
callable_from (Some scope) None ty = None
callable_from (Some scope) (Some name) None = None
callable_from (Some scope) (Some name) (Some ty) = Some (record { scope = scope; name = name; ty = ty })

module _ {O B : Type 0} (w : World O B) (c : Program O B) where
  -- the operation is a function that can be called so: it is in that operation, and has that name and that type
  pub record IsCallable (op : Ptr Operation) (q : Callable) : Type 0 where
    pub owner : IsOwnedBy c op q.scope
    pub is_function : kind_at w c op ≡ Some Func
    pub named : name_at w c op ≡ Some q.name
    pub typed : type_under w c FUNCTION_TYPE.now op ≡ Some q.ty

  -- the entity is such an operation
  abbrev pub IsCallableAt : IRNode → Callable → Type 0
  IsCallableAt (OperationNode op) q = IsCallable op q
  IsCallableAt (BlockNode b) q = ⊥
  IsCallableAt (RegionNode r) q = ⊥

  -- the list says of exactly the functions inside the root how they can be called
  abbrev pub AreCallees : Ptr Operation → List Callable → Type 0
  AreCallees root callees = (q : Callable) →
      Has q callees ↔ ((e : IRNode) × StandsInside c (OperationNode root) e × IsCallableAt e q)

  -- the operation says that it calls this: in the nearest module around it, by its callee's name and type
  pub record Calls (s : Site O B) (q : Callable) : Type 0 where
    pub around : Around O B
    pub is_in : HasAround w s around
    pub scope : ProgramTree O B
    pub nearest : first_module w (around.owner ∷ around.outer) ≡ Some scope
    pub scope_is : StandsFor c q.scope scope
    pub name : callee_name w s.op ≡ Some q.name
    pub type : callee_type w s.op ≡ Some q.ty

module _ {O B : Type 0} (w : World O B) where
  -- the type is a function type, and operands and results have its inputs' and results' types, in number and order
  pub record HasSignature (u : ProgramTree O B) (ty : TypeHandle) : Type 0 where
    pub signature : FunctionType
    pub is_signature : function_type w ty ≡ Some signature
    pub operands : HaveTypes w u.head.operands signature.inputs.items
    pub results : types_of u.head.results ≡ signature.results.items

  -- the operation is in something, and calls a function of the nearest module there
  abbrev pub CallsOne : Site O B → Type 0
  CallsOne s = (a : Around O B) × HasAround w s a × CallsFunction w s.op a
