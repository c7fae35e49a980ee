-- What replacing several uses at once makes.
use Rattle.std.specs.Prelude.{Bool, map}
use Rattle.ir_program.specs.Program.{Program}
use Rattle.ir_program.specs.Edits.{EditsOperations}
use Rattle.ir_program.specs.Replacing.{replacing, retargeting, with_chosen}
use Rattle.ir_program.specs.declared.handles.Ptr.{Ptr}
use Rattle.ir_program.specs.declared.handles.BasicBlock.{BasicBlock}
use Rattle.ir_program.specs.declared.handles.Value.{Value}
use Rattle.ir_program.specs.declared.handles.Use.{Use}

module _ {O B : Type 0} where
  -- each operand that is the value is the other one now
  abbrev pub ReplacesValue : Program O B → Program O B → Value → Value → Type 0
  ReplacesValue old new value other = EditsOperations old new (λ _ o. record o { operands = map (replacing value other) o.operands })

  -- the operand at each use that is chosen is the other value now
  abbrev pub ReplacesChosen : Program O B → Program O B → (Use Value → Bool) → Value → Type 0
  ReplacesChosen old new chosen other = EditsOperations old new (λ p o. record o { operands = with_chosen chosen other p 0 o.operands })

  -- each successor that is the block is the other one now
  abbrev pub RetargetsBlock : Program O B → Program O B → Ptr BasicBlock → Ptr BasicBlock → Type 0
  RetargetsBlock old new block other = EditsOperations old new (λ _ o. record o { successors = map (retargeting block other) o.successors })

  -- the successor at each use that is chosen is the other block now
  abbrev pub RetargetsChosen : Program O B → Program O B → (Use (Ptr BasicBlock) → Bool) → Ptr BasicBlock → Type 0
  RetargetsChosen old new chosen other = EditsOperations old new (λ p o. record o { successors = with_chosen chosen other p 0 o.successors })
