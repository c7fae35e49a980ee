-- What is tested of a program, and in which order.
use Rattle.std.specs.Prelude.{List, [], ◌∷◌, ◌++◌, map, option_map, unwrap_or}
use Rattle.std.specs.List.{flat_map}
use Rattle.ir_base.specs.declared.types.TypeHandle.{TypeHandle}
use Rattle.ir_program.specs.Lent.{block_payload_at}
use Rattle.ir_program.specs.Lists.{IsLiveNode}
use Rattle.ir_program.specs.Preorder.{nodes_inside}
use Rattle.ir_program.specs.Program.{Program, TypedValue, results_at, arguments_at}
use Rattle.ir_program.specs.declared.handles.Ptr.{Ptr}
use Rattle.ir_program.specs.declared.handles.Operation.{Operation}
use Rattle.ir_program.specs.declared.handles.BasicBlock.{BasicBlock}
use Rattle.ir_program.specs.declared.handles.IRNode.{IRNode}
use Rattle.ir_program.specs.declared.handles.IRNode.TheVariants.{Operation as OperationNode, Region as RegionNode, BasicBlock as BlockNode}
use Rattle.ir_context.specs.Kept.{notes_at}
use Rattle.ir_core.specs.verification.Dialect.{DialectProgram}

-- the handle leads to an operation, a region or a block
pub record NodeIsLive {O B : Type 0} (c : Program O B) (node : IRNode) : Type 0 where
  pub live : IsLiveNode c node

-- a test of an operation, of an attribute or of a type
pub data Test (Attr : Type 0) : Type 0 where
  of_op : Ptr Operation → Test Attr
  of_attr : Attr → Test Attr
  of_type : TypeHandle → Test Attr

-- the tests of attributes under their names, and of the types of values, in order
module _ {Name Attr : Type 0} where
  abbrev pub tests_of_attributes : List (Name × Attr) → List (Test Attr)
  tests_of_attributes entries = map (λ e. of_attr e.1) entries

module _ {Attr : Type 0} where
  abbrev pub tests_of_types : List TypedValue → List (Test Attr)
  tests_of_types values = map (λ v. of_type v.ty) values

module _ {D TypeKind AttrKind TypeBody Saved Location OpKind Attr TypeKey : Type 0} (c : DialectProgram D TypeKind AttrKind TypeBody Saved Location OpKind Attr TypeKey) where
  -- an operation, then its attributes, then the types of its results
  abbrev pub tests_of_operation : Ptr Operation → List (Test Attr)
  tests_of_operation op = of_op op ∷ (tests_of_attributes (unwrap_or (option_map (λ n. n.attributes) (notes_at c op)) []) ++ tests_of_types (results_at c op))

  -- the attributes of a block, then the types of its arguments
  abbrev pub tests_of_block : Ptr BasicBlock → List (Test Attr)
  tests_of_block block = tests_of_attributes (unwrap_or (option_map (λ n. n.attributes) (block_payload_at c block)) []) ++ tests_of_types (arguments_at c block)

  -- all that is tested of an entity by itself
  abbrev pub tests_of : IRNode → List (Test Attr)
  tests_of (OperationNode op) = tests_of_operation op
  tests_of (RegionNode region) = []
  tests_of (BlockNode block) = tests_of_block block

  -- all that is tested of x and of what stands inside x, in the order of the walk
  abbrev pub tests_inside : IRNode → List (Test Attr)
  tests_inside x = flat_map tests_of (nodes_inside c x)

  -- the test of an operation alone
  abbrev pub operation_tests_of : IRNode → List (Test Attr)
  operation_tests_of (OperationNode op) = of_op op ∷ []
  operation_tests_of (RegionNode region) = []
  operation_tests_of (BlockNode block) = []

  -- the operations that are x or stand inside x, in the order of the walk
  abbrev pub operation_tests_inside : IRNode → List (Test Attr)
  operation_tests_inside x = flat_map operation_tests_of (nodes_inside c x)
