-- The functions of a module of a context, as the machine executes them.
use Rattle.std.specs.Prelude.{ℕ, nat_le, Bool, true, false, ◌&&◌, List, [], ◌∷◌, map, Option, Some, None, option_map, option_and_then, unwrap_or, if◌then◌else◌, slice_get}
use Rattle.std.specs.Str.{bytes_eq}
use Rattle.ir_base.specs.declared.types.TypeHandle.{TypeHandle}
use Rattle.ir_names.specs.Dictionary.{attribute_at}
use Rattle.ir_names.specs.Identifier.{text_of}
use Rattle.ir_types.specs.Interned.{key_at}
use Rattle.ir_program.specs.Program.{BlockView, block_at, results_at, type_in}
use Rattle.ir_program.specs.Lists.{operations_in, blocks_in, regions_in}
use Rattle.ir_program.specs.Rows.{operands_at, successors_at}
use Rattle.ir_program.specs.declared.handles.Ptr.{Ptr}
use Rattle.ir_program.specs.declared.handles.Operation.{Operation}
use Rattle.ir_program.specs.declared.handles.BasicBlock.{BasicBlock}
use Rattle.ir_program.specs.declared.handles.Value.{Value}
use Rattle.ir_context.specs.Kept.{kind_at, notes_at}
use Rattle.ir_context.specs.declared.notes.OperationNotes.{OperationNotes}
use Rattle.kit.specs.Context.{KitContext, KitProgram}
use Rattle.kit_ops.specs.Keys.{symbol_name, constant_value, segment_sizes, callee}
use Rattle.kit.specs.declared.dialect.Kit.{Kit}
use Rattle.kit.specs.declared.dialect.Unused.{Unused}
use Rattle.kit_ops.specs.declared.kinds.KitOp.{KitOp}
use Rattle.kit_ops.specs.declared.kinds.KitOp.TheVariants as ops
use Rattle.kit_ops.specs.declared.types.KitType.{KitType}
use Rattle.kit_ops.specs.declared.types.KitType.TheVariants as types
use Rattle.kit_ops.specs.declared.types.KitTypeKind.{KitTypeKind}
use Rattle.kit_ops.specs.declared.attributes.KitAttr.{KitAttr}
use Rattle.kit_ops.specs.declared.attributes.KitAttr.TheVariants as attrs
use Rattle.kit_ops.specs.declared.attributes.KitAttrKind.{KitAttrKind}
use Rattle.kit_ops.specs.declared.attributes.KitLocation.{KitLocation}
use Rattle.kit_flat.specs.Machine.{MachineOp, Other, MachineBlock, Code}
use Rattle.kit_flat.specs.Forms.{Form, Constant, Calculate, Compare, Emit, Call, Br, CondBr, Return, op_of}
use Rattle.kit_places.specs.declared.places.Place.{Place}
use Rattle.kit_places.specs.Numbers.{values_of}
use Rattle.kit.specs.Meaning.{KitBlock}

-- ---- forms

-- the width of an integer type. The machine has numbers of at most 64 bits
abbrev pub width_of : Option KitType → Option ℕ
width_of None = None
width_of (Some (types.Integer t)) = if nat_le t.width 64 then Some t.width else None
width_of (Some (types.Function f)) = None
width_of (Some types.Unit) = None

-- a constant of the number that the attribute holds
abbrev pub constant_form : {F : Type 0} → Option KitAttr → Option (Form F)
constant_form (Some (attrs.Integer a)) = Some (Constant a.bits)
constant_form _ = None

-- the sizes of the segments are those of the condition and of what is forwarded along each edge
abbrev pub by_sizes : {F : Type 0} → List ℕ → Option (Form F)
by_sizes (condition ∷ first ∷ second ∷ []) = Some (CondBr first)
by_sizes _ = None

abbrev pub conditional_form : {F : Type 0} → Option KitAttr → Option (Form F)
conditional_form (Some (attrs.SegmentSizes sizes)) = by_sizes sizes.items
conditional_form _ = None

-- a call of the function that the attribute names, where there is one
abbrev pub call_form : {F : Type 0} → (List ℕ → Option F) → Option KitAttr → Option (Form F)
call_form named (Some (attrs.Identifier name)) = option_map (λ g. Call (Some g)) (named (text_of name))
call_form named _ = None

-- the form of an operation of a kind: by its attributes, the width of its first result, and the functions that calls
-- may name
abbrev pub form_of : {F : Type 0} → KitOp → (List ℕ → Option KitAttr) → Option ℕ → (List ℕ → Option F) → Option (Form F)
form_of ops.Module attribute width named = None
form_of ops.Func attribute width named = None
form_of ops.Constant attribute width named = constant_form (attribute constant_value)
form_of ops.ForwardRef attribute width named = None
form_of (ops.Arithmetic f) attribute width named = option_map (Calculate f) width
form_of (ops.Comparison f) attribute width named = Some (Compare f)
form_of ops.Br attribute width named = Some Br
form_of ops.CondBr attribute width named = conditional_form (attribute segment_sizes)
form_of ops.Call attribute width named = call_form named (attribute callee)
form_of ops.Emit attribute width named = Some Emit
form_of ops.Return attribute width named = Some Return

-- the operation of a form, if there is one
abbrev pub op_if : {V B F : Type 0} → Option (Form F) → List V → List V → List B → MachineOp V B F
op_if None rs xs bs = Other
op_if (Some s) rs xs bs = op_of s rs xs bs

-- ---- names

-- the attribute is this name
abbrev pub is_name : List ℕ → Option KitAttr → Bool
is_name text (Some (attrs.Identifier name)) = bytes_eq text (text_of name)
is_name text _ = false

abbrev pub is_function : Option KitOp → Bool
is_function (Some ops.Func) = true
is_function _ = false

abbrev pub is_module : Option KitOp → Bool
is_module (Some ops.Module) = true
is_module _ = false

-- the first that passes a test
abbrev pub first_with : {X : Type 0} → (X → Bool) → List X → Option X
first_with test [] = None
first_with test (x ∷ xs) = if test x then Some x else first_with test xs

module _ (c : KitProgram) where
  -- the attribute of an operation under a key
  abbrev pub attribute_of : Ptr Operation → List ℕ → Option KitAttr
  attribute_of p key = option_and_then (λ (n : OperationNotes Kit KitTypeKind KitAttrKind Unused Unused KitLocation
      KitOp KitAttr KitType). attribute_at n.attributes key) (notes_at c p)

  -- the blocks of the first region of an operation
  abbrev pub body_of : Ptr Operation → List (Ptr BasicBlock)
  body_of p = unwrap_or (option_map (blocks_in c) (slice_get (regions_in c p) 0)) []

  -- the operations of a module, which are those of its first block
  abbrev pub members : Ptr Operation → List (Ptr Operation)
  members m = unwrap_or (option_map (operations_in c) (slice_get (body_of m) 0)) []

  -- the operation is a function of a name
  abbrev pub is_function_named : List ℕ → Ptr Operation → Bool
  is_function_named name p = is_function (kind_at c p) && is_name name (attribute_of p symbol_name)

  -- the function, or the module, of a name among the operations of a module
  abbrev pub function_named : Ptr Operation → List ℕ → Option (Ptr Operation)
  function_named m name = first_with (is_function_named name) (members m)

  abbrev pub module_named : Ptr Operation → List ℕ → Option (Ptr Operation)
  module_named m name = first_with (λ p. is_module (kind_at c p) && is_name name (attribute_of p symbol_name))
      (members m)

  -- where a path leads from a module: through the modules of these names, the outermost one first, to the function of
  -- the last name
  abbrev pub locate : Ptr Operation → List (List ℕ) → Option Place
  locate m [] = None
  locate m (x ∷ []) = option_map (λ f. record { within = m; function = f }) (function_named m x)
  locate m (x ∷ y ∷ path) = option_and_then (λ k. locate k (y ∷ path)) (module_named m x)

-- ---- what the machine executes

module _ (s : KitContext) where
  -- the width of a type
  abbrev pub width_at : TypeHandle → Option ℕ
  width_at ty = width_of (key_at s.types ty)

  module _ (m : Ptr Operation) where
    -- the form of an operation of a function of module m
    abbrev pub form_at : Ptr Operation → Option (Form (Ptr Operation))
    form_at p = option_and_then (λ kind. form_of kind (attribute_of s.program p)
        (option_and_then width_at (type_in (results_at s.program p) 0)) (function_named s.program m))
        (kind_at s.program p)

    -- the operation, as the machine sees it
    abbrev pub op_at : Ptr Operation → MachineOp Value (Ptr BasicBlock) (Ptr Operation)
    op_at p = op_if (form_at p) (values_of (results_at s.program p)) (operands_at s.program p)
        (successors_at s.program p)

    abbrev pub block_seen : BlockView KitBlock → MachineBlock Value (Ptr BasicBlock) (Ptr Operation)
    block_seen b = record { arguments = values_of b.arguments; operations = map op_at b.operations }

    -- the functions of module m. A run never leaves the module of its function, since calls are of functions of the
    -- nearest enclosing module
    abbrev pub module_code : Code Value (Ptr BasicBlock) (Ptr Operation)
    module_code = record {
      entry = λ f. slice_get (body_of s.program f) 0;
      block = λ f b. option_map block_seen
          (block_at s.program b);
    }
