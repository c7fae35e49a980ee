-- Flat modules whose numbers are in their bounds.
use Rattle.std.specs.Prelude.{◌≡◌, ℕ, List, [], Option, Some, None, length, slice_get, ◌<◌, ◌≤◌, ◌^◌, ◌-◌}
use Rattle.std.specs.List.{All}
use Rattle.kit_flat.specs.declared.flat.FlatEdge.{FlatEdge}
use Rattle.kit_flat.specs.declared.flat.Instruction.{Instruction}
use Rattle.kit_flat.specs.declared.flat.Instruction.TheVariants.{Constant, Calculate, Compare, Emit, Call, Br, CondBr, Return}
use Rattle.kit_flat.specs.declared.flat.FlatBlock.{FlatBlock}
use Rattle.kit_flat.specs.declared.flat.FlatFunction.{FlatFunction}
use Rattle.kit_flat.specs.declared.frames.FlatFrame.{FlatFrame}
use Rattle.kit_flat.specs.declared.interpreter.Running.{Running}
use Rattle.kit_flat.specs.View.{block_in, count_of}

-- each is the number of one of n values
abbrev pub AreBelow : ℕ → List ℕ → Type 0
AreBelow n vs = All (λ v. v < n) vs

-- the operands of an edge are among n values
abbrev pub EdgeOperandsFit : ℕ → FlatEdge → Type 0
EdgeOperandsFit n e = AreBelow n e.operands.items

-- an instruction names some of n values, and a callee is one of m functions; a width is at most that of a number
abbrev pub InstructionFits : ℕ → ℕ → Instruction → Type 0
InstructionFits m n (Constant r k) = r < n
InstructionFits m n (Calculate f w r x y) = (w ≤ 64) × (r < n) × (x < n) × (y < n)
InstructionFits m n (Compare f r x y) = (r < n) × (x < n) × (y < n)
InstructionFits m n (Emit x) = x < n
InstructionFits m n (Call rs g xs) = AreBelow n rs.items × AreBelow n xs.items × (g < m)
InstructionFits m n (Br e) = EdgeOperandsFit n e
InstructionFits m n (CondBr x e d) = (x < n) × EdgeOperandsFit n e × EdgeOperandsFit n d
InstructionFits m n (Return xs) = AreBelow n xs.items

-- so do all instructions of a block, and its arguments
pub record BlockFits (m n : ℕ) (b : FlatBlock) : Type 0 where
  pub arguments_fit : AreBelow n b.arguments.items
  pub instructions_fit : (i : ℕ) (o : Instruction) → slice_get b.instructions.items i ≡ Some o → InstructionFits m n o

-- so do all blocks of a function
pub record FunctionFits (m : ℕ) (f : FlatFunction) : Type 0 where
  pub blocks_fit : (i : ℕ) (b : FlatBlock) → slice_get f.blocks.items i ≡ Some b → BlockFits m f.values b

-- so do all functions of a module
pub record FlatFunctionsFit (fs : List FlatFunction) : Type 0 where
  pub functions_fit : (i : ℕ) (f : FlatFunction) → slice_get fs i ≡ Some f → FunctionFits (length fs) f

-- ---- frames

-- the instruction at an index of a block
abbrev pub instruction_in : Option FlatBlock → ℕ → Option Instruction
instruction_in None i = None
instruction_in (Some b) i = slice_get b.instructions.items i

-- the instruction at which a frame is
abbrev pub instruction_at : List FlatFunction → FlatFrame → Option Instruction
instruction_at fs a = instruction_in (block_in (slice_get fs a.function) a.block) a.index

-- the frame is one of a function of the module, and has a number for each of its values
pub record IsActive (fs : List FlatFunction) (a : FlatFrame) : Type 0 where
  pub within : a.function < length fs
  pub sized : length a.values.items ≡ count_of (slice_get fs a.function)

-- it is at an instruction
pub record IsAtInstruction (fs : List FlatFunction) (a : FlatFrame) : Type 0 where
  pub active : IsActive fs a
  pub instruction : Instruction
  pub here : instruction_at fs a ≡ Some instruction

-- so are all frames of a run
pub record IsRunning (fs : List FlatFunction) (r : Running) : Type 0 where
  pub top_active : IsActive fs r.top
  pub all_waiting : All (IsAtInstruction fs) r.waiting.items

-- the arguments of all blocks of a function are among n values
abbrev pub ArgumentsFit : ℕ → FlatFunction → Type 0
ArgumentsFit n f = (i : ℕ) (b : FlatBlock) → slice_get f.blocks.items i ≡ Some b → AreBelow n b.arguments.items

abbrev pub FitsIf : ℕ → ℕ → ℕ → Option Instruction → Type 0
FitsIf m n i None = Unit {0}
FitsIf m n i (Some o) = InstructionFits m n o × (i < 2 ^ 64 - 1)

-- the instruction at which a frame is, which fits its numbers; none where there is none
pub record Fetched (fs : List FlatFunction) (a : FlatFrame) (o : Option Instruction) : Type 0 where
  pub here : instruction_at fs a ≡ o
  pub fits : FitsIf (length fs) (length a.values.items) a.index o

-- the results that a call names
abbrev pub results_named : Instruction → List ℕ
results_named (Constant r k) = []
results_named (Calculate f w r x y) = []
results_named (Compare f r x y) = []
results_named (Emit x) = []
results_named (Call rs g xs) = rs.items
results_named (Br e) = []
results_named (CondBr x e d) = []
results_named (Return xs) = []
