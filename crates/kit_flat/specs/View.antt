-- What the flat form is to the machine: values, blocks and functions are numbers.
use Rattle.std.specs.Prelude.{ℕ, ◌∷◌, List, map, reverse, Option, Some, None, option_map, slice_get, get_or}
use Rattle.kit_flat.specs.Machine.{MachineEdge, MachineOp, Constant, Calculate, Compare, Emit, Call, Br, CondBr, Return, MachineBlock, Code, MachineFrame, MachineState, Going}
use Rattle.kit_flat.specs.declared.flat.FlatEdge.{FlatEdge}
use Rattle.kit_flat.specs.declared.flat.Instruction.{Instruction}
use Rattle.kit_flat.specs.declared.flat.Instruction.TheVariants as flat
use Rattle.kit_flat.specs.declared.flat.FlatBlock.{FlatBlock}
use Rattle.kit_flat.specs.declared.flat.FlatFunction.{FlatFunction}
use Rattle.kit_flat.specs.declared.frames.FlatFrame.{FlatFrame}
use Rattle.kit_flat.specs.declared.interpreter.Running.{Running}

abbrev pub edge_view : FlatEdge → MachineEdge ℕ ℕ
edge_view e = record { target = e.target; operands = e.operands.items }

abbrev pub op_view : Instruction → MachineOp ℕ ℕ ℕ
op_view (flat.Constant r n) = Constant r n
op_view (flat.Calculate f w r x y) = Calculate f w r x y
op_view (flat.Compare f r x y) = Compare f r x y
op_view (flat.Emit x) = Emit x
op_view (flat.Call rs g xs) = Call rs.items (Some g) xs.items
op_view (flat.Br e) = Br (edge_view e)
op_view (flat.CondBr x e d) = CondBr x (edge_view e) (edge_view d)
op_view (flat.Return xs) = Return xs.items

abbrev pub block_view : FlatBlock → MachineBlock ℕ ℕ ℕ
block_view b = record { arguments = b.arguments.items; operations = map op_view b.instructions.items }

-- the block of a function
abbrev pub block_in : Option FlatFunction → ℕ → Option FlatBlock
block_in None b = None
block_in (Some f) b = slice_get f.blocks.items b

-- the functions of a flat module: the first block of each is its entry
abbrev pub flat_code : List FlatFunction → Code ℕ ℕ ℕ
flat_code fs = record { entry = λ i. Some 0; block = λ i b. option_map block_view (block_in (slice_get fs i) b) }

-- how many values a function has
abbrev pub count_of : Option FlatFunction → ℕ
count_of None = 0
count_of (Some f) = f.values

-- a value that isn't bound is 0
abbrev pub numbers_of : List ℕ → ℕ → ℕ
numbers_of ns = λ v. get_or ns v 0

abbrev pub frame_view : FlatFrame → MachineFrame ℕ ℕ ℕ
frame_view a = record { function = a.function; block = a.block; index = a.index; numbers = numbers_of a.values.items }

abbrev pub state_view : Running → MachineState ℕ ℕ ℕ
state_view r = Going (frame_view r.top ∷ map frame_view (reverse r.waiting.items)) r.emissions.items
