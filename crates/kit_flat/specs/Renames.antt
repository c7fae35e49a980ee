-- Flat modules that are other code, in which values, blocks and functions have other names.
use Rattle.std.specs.Prelude.{◌≡◌, ℕ, ◌<◌, Bool, List, map, Some, length, slice_get, option_map, nat_eq}
use Rattle.kit_flat.specs.Machine.{MachineEdge, MachineOp, Constant, Calculate, Compare, Emit, Call, Br, CondBr, Return, Other, MachineBlock, Code}
use Rattle.kit_flat.specs.declared.flat.Instruction.{Instruction}
use Rattle.kit_flat.specs.declared.flat.Instruction.TheVariants as flat
use Rattle.kit_flat.specs.declared.flat.FlatBlock.{FlatBlock}
use Rattle.kit_flat.specs.declared.flat.FlatFunction.{FlatFunction}
use Rattle.kit_flat.specs.View.{block_view}
use Rattle.kit_flat.specs.Sound.{FlatFunctionsFit}

-- the same with other names
abbrev pub rename_edge : {V B W C : Type 0} → (V → W) → (B → C) → MachineEdge V B → MachineEdge W C
rename_edge f g e = record { target = g e.target; operands = map f e.operands }

abbrev pub rename_op : {V B F W C G : Type 0} → (V → W) → (B → C) → (F → G) → MachineOp V B F → MachineOp W C G
rename_op f g h (Constant r n) = Constant (f r) n
rename_op f g h (Calculate a w r x y) = Calculate a w (f r) (f x) (f y)
rename_op f g h (Compare a r x y) = Compare a (f r) (f x) (f y)
rename_op f g h (Emit x) = Emit (f x)
rename_op f g h (Call rs callee xs) = Call (map f rs) (option_map h callee) (map f xs)
rename_op f g h (Br e) = Br (rename_edge f g e)
rename_op f g h (CondBr x e d) = CondBr (f x) (rename_edge f g e) (rename_edge f g d)
rename_op f g h (Return xs) = Return (map f xs)
rename_op f g h Other = Other

abbrev pub rename_block : {V B F W C G : Type 0} → (V → W) → (B → C) → (F → G) → MachineBlock V B F → MachineBlock W C G
rename_block f g h b = record { arguments = map f b.arguments; operations = map (rename_op f g h) b.operations }

-- what the numbers of a flat module name: its functions, and the blocks and values of each function
pub record FlatNames (W C G : Type 0) : Type 0 where
  pub function : ℕ → G
  pub block : ℕ → ℕ → C
  pub value : ℕ → ℕ → W

-- the targets of an instruction are among n blocks
abbrev pub TargetsAreInside : ℕ → Instruction → Type 0
TargetsAreInside n (flat.Constant r k) = Unit {0}
TargetsAreInside n (flat.Calculate f w r x y) = Unit {0}
TargetsAreInside n (flat.Compare f r x y) = Unit {0}
TargetsAreInside n (flat.Emit x) = Unit {0}
TargetsAreInside n (flat.Call rs g xs) = Unit {0}
TargetsAreInside n (flat.Br e) = e.target < n
TargetsAreInside n (flat.CondBr x e d) = (e.target < n) × (d.target < n)
TargetsAreInside n (flat.Return xs) = Unit {0}

module _ {W C G : Type 0} (same : W → W → Bool) (code : Code W C G) where
  -- the flat function is what the code has under this name, where calls name functions so: it has a first block,
  -- which is the entry; each block is there
  -- under its name; edges lead to its blocks; and two of its values have the same name only if they are the same
  pub record IsFunctionOf (function : ℕ → G) (own : G) (block : ℕ → C) (value : ℕ → W) (f : FlatFunction) : Type 0 where
    pub first : 0 < length f.blocks.items
    pub entry : code.entry own ≡ Some (block 0)
    pub blocks : (b : ℕ) (x : FlatBlock) → slice_get f.blocks.items b ≡ Some x
        → code.block own (block b) ≡ Some (rename_block value block function (block_view x))
    pub inside : (b : ℕ) (x : FlatBlock) → slice_get f.blocks.items b ≡ Some x → (j : ℕ) (o : Instruction)
        → slice_get x.instructions.items j ≡ Some o → TargetsAreInside (length f.blocks.items) o
    pub apart : (v w : ℕ) → v < f.values → w < f.values → same (value v) (value w) ≡ nat_eq v w

  -- so is each function of a flat module, and their numbers are in their bounds
  pub record IsModuleOf (names : FlatNames W C G) (fs : List FlatFunction) : Type 0 where
    pub sound : FlatFunctionsFit fs
    pub functions : (i : ℕ) (f : FlatFunction) → slice_get fs i ≡ Some f
        → IsFunctionOf names.function (names.function i) (names.block i) (names.value i) f
