-- How the functions of a module are made into a flat module.
use Rattle.std.specs.Prelude.{◌≡◌, ◌≢◌, ◌⊎◌, ℕ, ◌<◌, Bool, true, List, map, length, Option, Some, option_map, option_and_then, slice_get}
use Rattle.std.specs.List.{position}
use Rattle.ir_names.specs.declared.interfaces.OpInterface.TheVariants as iface
use Rattle.ir_program.specs.Program.{Program, results_at, arguments_at}
use Rattle.ir_program.specs.Lists.{operations_in}
use Rattle.ir_program.specs.Rows.{operands_at, successors_at}
use Rattle.ir_program.specs.Replacing.{same_value}
use Rattle.ir_program.specs.declared.handles.Ptr.{Ptr}
use Rattle.ir_program.specs.declared.handles.Operation.{Operation}
use Rattle.ir_program.specs.declared.handles.BasicBlock.{BasicBlock}
use Rattle.ir_program.specs.declared.handles.Value.{Value}
use Rattle.ir_symbols.specs.Collections.{TableEntries, same_handle, table_in}
use Rattle.ir_symbols.specs.Contents.{symbol_name}
use Rattle.ir_symbols.specs.Symbols.{HasOneBlock, IsTable}
use Rattle.ir_symbols.specs.Tables.{entry_at, IsTableOf, SharesName}
use Rattle.ir_symbols.specs.declared.tables.SymbolTable.{SymbolTable}
use Rattle.ir_trees.specs.Searched.{Lists}
use Rattle.kit.specs.Builtin.{held_identifier}
use Rattle.kit.specs.Context.{KitContext, KitProgram}
use Rattle.kit.specs.Meaning.{KitOperation}
use Rattle.kit_ops.specs.Table.{has_interface}
use Rattle.kit_flat.specs.Machine.{Other}
use Rattle.kit_flat.specs.Forms.{Form, rename_form, form_view}
use Rattle.kit_flat.specs.declared.forming.FlatForm.{FlatForm}
use Rattle.kit_flat.specs.View.{op_view}
use Rattle.kit_flat.specs.Sound.{InstructionFits, BlockFits, FunctionFits}
use Rattle.kit_flat.specs.Renames.{rename_op, TargetsAreInside, IsFunctionOf}
use Rattle.kit_flat.specs.declared.flat.Instruction.{Instruction}
use Rattle.kit_flat.specs.declared.flat.FlatBlock.{FlatBlock}
use Rattle.kit_flat.specs.declared.flat.FlatFunction.{FlatFunction}
use Rattle.kit_places.specs.Numbers.{values_of, value_at, block_with, operation_with}
use Rattle.kit_places.specs.Store.{body_of, function_named, is_function_named, op_at, module_code}

-- ---- what it needs

module _ {O B : Type 0} (c : Program O B) where
  -- the value is an argument of one of these blocks or a result of one of their operations
  abbrev pub IsValueIn : List (Ptr BasicBlock) → Value → Type 0
  IsValueIn blocks v =
      (b : Ptr BasicBlock) × Lists blocks b
      × (Lists (values_of (arguments_at c b)) v ⊎
      ((q : Ptr Operation) × Lists (operations_in c b) q × Lists (values_of (results_at c q)) v))

-- a function can run: it has a block, the machine executes each operation of its blocks, operands are values of these
-- blocks, and successors are blocks of
-- the function
pub record CanRun (s : KitContext) (m f : Ptr Operation) : Type 0 where
  pub entry : 0 < length (body_of s.program f)
  pub executes : (b : Ptr BasicBlock) (q : Ptr Operation) → Lists (body_of s.program f) b
      → Lists (operations_in s.program b) q → op_at s m q ≢ Other
  pub operands : (b : Ptr BasicBlock) (q : Ptr Operation) (v : Value) → Lists (body_of s.program f) b
      → Lists (operations_in s.program b) q → Lists (operands_at s.program q) v
      → IsValueIn s.program (body_of s.program f) v
  pub successors : (b : Ptr BasicBlock) (q : Ptr Operation) (d : Ptr BasicBlock) → Lists (body_of s.program f) b
      → Lists (operations_in s.program b) q → Lists (successors_at s.program q) d → Lists (body_of s.program f) d

-- so can each function of a module that a call may name
abbrev pub FunctionsCanRun : KitContext → Ptr Operation → Type 0
FunctionsCanRun s m = (name : List ℕ) (f : Ptr Operation) → function_named s.program m name ≡ Some f → CanRun s m f

-- the name that an operation of `kit` has as a symbol
abbrev pub symbol_of : KitOperation → Option (List ℕ)
symbol_of = symbol_name has_interface held_identifier

-- whether it holds a symbol table
abbrev pub holds_table : KitOperation → Bool
holds_table o = has_interface o.kind iface.SymbolTable

-- a module has a symbol table: it has one region, with one block, of which no two symbols have one name
pub record HasSymbolTable (c : KitProgram) (m : Ptr Operation) : Type 0 where
  pub holds : IsTable holds_table c m
  pub body : HasOneBlock c m
  pub apart : SharesName symbol_of holds_table c m → ⊥

-- a module can run: it has a symbol table, and each of its functions can run
pub record ModuleCanRun (s : KitContext) (m : Ptr Operation) : Type 0 where
  pub table : HasSymbolTable s.program m
  pub functions : FunctionsCanRun s m

-- ---- tables of functions

-- the operation is a function that has a name
abbrev pub IsNamedFunction : KitProgram → Ptr Operation → Type 0
IsNamedFunction c f = (name : List ℕ) × (is_function_named c name f ≡ true)

-- these are the functions that have names among the operations
pub record AreNamedFunctions (c : KitProgram) (ops handles : List (Ptr Operation)) : Type 0 where
  pub each : (f : Ptr Operation) → Lists handles f → Lists ops f × IsNamedFunction c f
  pub all : (f : Ptr Operation) → Lists ops f → IsNamedFunction c f → Lists handles f

-- the tables have the one of a module
pub record HaveTableOf (c : KitProgram) (m : Ptr Operation) (tables : TableEntries) : Type 0 where
  pub table : SymbolTable
  pub kept : table_in tables m ≡ Some table
  pub is : IsTableOf symbol_of holds_table c m table

-- the number of a name: the index, among these functions, of the one that the table of a module has under it
abbrev pub number_of : TableEntries → Ptr Operation → List (Ptr Operation) → List ℕ → Option ℕ
number_of tables m handles name = option_and_then (λ f. position (same_handle f) handles)
    (option_and_then (λ table. entry_at table name) (table_in tables m))

-- names have the numbers of the operations that a search finds for them, and each operation is found for some name
pub record NumbersFunctions (found : List ℕ → Option (Ptr Operation)) (handles : List (Ptr Operation))
    (number : List ℕ → Option ℕ) : Type 0 where
  pub named : (name : List ℕ) → option_map (operation_with handles) (number name) ≡ found name
  pub below : (name : List ℕ) (i : ℕ) → number name ≡ Some i → i < length handles
  pub back : (i : ℕ) (f : Ptr Operation) → slice_get handles i ≡ Some f → (name : List ℕ) × (found name ≡ Some f)

-- the numbers are those of the functions of the module
abbrev pub IsFunctionTable : KitProgram → Ptr Operation → List (Ptr Operation) → (List ℕ → Option ℕ) → Type 0
IsFunctionTable c m handles number = NumbersFunctions (function_named c m) handles number

-- ---- what is made

-- the form is that of the operation
abbrev pub IsFormOf : List (Ptr Operation) → Option (Form (Ptr Operation)) → Option FlatForm → Type 0
IsFormOf handles form shape = option_map (λ s. rename_form (operation_with handles) (form_view s)) shape ≡ form

-- the values and blocks that an operation names have numbers, and the machine executes it
pub record IsLowerable (s : KitContext) (m : Ptr Operation) (values : List Value) (blocks : List (Ptr BasicBlock))
    (q : Ptr Operation) : Type 0 where
  pub executes : op_at s m q ≢ Other
  pub results : (v : Value) → Lists (values_of (results_at s.program q)) v → Lists values v
  pub operands : (v : Value) → Lists (operands_at s.program q) v → Lists values v
  pub successors : (b : Ptr BasicBlock) → Lists (successors_at s.program q) b → Lists blocks b

-- the same of the operations of a block, and of its arguments
pub record IsBlockNumbered (s : KitContext) (m : Ptr Operation) (values : List Value)
    (blocks : List (Ptr BasicBlock)) (b : Ptr BasicBlock) : Type 0 where
  pub arguments : (v : Value) → Lists (values_of (arguments_at s.program b)) v → Lists values v
  pub operations : (q : Ptr Operation) → Lists (operations_in s.program b) q → IsLowerable s m values blocks q

module _ (s : KitContext) (m : Ptr Operation) (values : List Value) (blocks : List (Ptr BasicBlock))
    (handles : List (Ptr Operation)) where
  -- the instruction is the operation, by numbers that are in their bounds
  pub record LowersOperation (q : Ptr Operation) (x : Instruction) : Type 0 where
    pub seen : op_at s m q ≡ rename_op (value_at values) (block_with blocks) (operation_with handles) (op_view x)
    pub fits : InstructionFits (length handles) (length values) x
    pub inside : TargetsAreInside (length blocks) x

  -- so are the instructions the operations of a block, and its arguments are those of the block
  pub record LowersBlock (b : Ptr BasicBlock) (x : FlatBlock) : Type 0 where
    pub arguments : values_of (arguments_at s.program b) ≡ map (value_at values) x.arguments.items
    pub operations : map (op_at s m) (operations_in s.program b) ≡ map
        (λ o. rename_op (value_at values) (block_with blocks) (operation_with handles) (op_view o)) x.instructions.items
    pub fits : BlockFits (length handles) (length values) x
    pub inside : (j : ℕ) (o : Instruction) → slice_get x.instructions.items j ≡ Some o → TargetsAreInside (length blocks) o

-- the flat function is the function, in which values have some names, and its numbers are in their bounds
abbrev pub LowersFunction : KitContext → Ptr Operation → List (Ptr Operation) → Ptr Operation → FlatFunction → Type 0
LowersFunction s m handles f x =
    (value : ℕ → Value) × IsFunctionOf same_value (module_code s m) (operation_with handles) f
    (block_with (body_of s.program f)) value x × FunctionFits (length handles) x

-- so is each function of the flat module that of the table with its number
pub record LowersModule (s : KitContext) (m : Ptr Operation) (handles : List (Ptr Operation))
    (fs : List FlatFunction) : Type 0 where
  pub len : length fs ≡ length handles
  pub each : (i : ℕ) (x : FlatFunction) → slice_get fs i ≡ Some x
      → LowersFunction s m handles (operation_with handles i) x
