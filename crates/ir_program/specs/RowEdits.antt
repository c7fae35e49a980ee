-- What edits of one operation's operands and successors make.
use Rattle.std.specs.Prelude.{ℕ, [], ◌∷◌, ◌++◌, insert, remove, slice_set}
use Rattle.ir_program.specs.Program.{Program}
use Rattle.ir_program.specs.Rows.{operands_at, successors_at}
use Rattle.ir_program.specs.Edits.{EditsOperation}
use Rattle.ir_program.specs.declared.handles.Ptr.{Ptr}
use Rattle.ir_program.specs.declared.handles.Operation.{Operation}
use Rattle.ir_program.specs.declared.handles.BasicBlock.{BasicBlock}
use Rattle.ir_program.specs.declared.handles.Value.{Value}

module _ {O B : Type 0} where  -- the operation takes x too, behind its other operands
  abbrev pub PushesOperand : Program O B → Program O B → Ptr Operation → Value → Type 0
  PushesOperand old new op x = EditsOperation old new op (λ o. record o { operands = o.operands ++ x ∷ [] })

  -- the operation takes x too, at index i of its operands
  abbrev pub InsertsOperand : Program O B → Program O B → Ptr Operation → ℕ → Value → Type 0
  InsertsOperand old new op i x = EditsOperation old new op (λ o. record o { operands = insert o.operands i x })

  -- the operation has no longer what it had at index i of its operands
  abbrev pub RemovesOperand : Program O B → Program O B → Ptr Operation → ℕ → Type 0
  RemovesOperand old new op i = EditsOperation old new op (λ o. record o { operands = remove o.operands i })

  -- the operation takes x at index i of its operands, in place of what was there
  abbrev pub ReplacesOperand : Program O B → Program O B → Ptr Operation → ℕ → Value → Type 0
  ReplacesOperand old new op i x = EditsOperation old new op (λ o. record o { operands = slice_set o.operands i x })

  -- the operation has other operands, and nothing else has changed
  abbrev pub ChangesOperands : Program O B → Program O B → Ptr Operation → Type 0
  ChangesOperands old new op = EditsOperation old new op (λ o. record o { operands = operands_at new op })

  -- the operation goes on to x too, behind its other successors
  abbrev pub PushesSuccessor : Program O B → Program O B → Ptr Operation → Ptr BasicBlock → Type 0
  PushesSuccessor old new op x = EditsOperation old new op (λ o. record o { successors = o.successors ++ x ∷ [] })

  -- the operation goes on to x too, at index i of its successors
  abbrev pub InsertsSuccessor : Program O B → Program O B → Ptr Operation → ℕ → Ptr BasicBlock → Type 0
  InsertsSuccessor old new op i x = EditsOperation old new op (λ o. record o { successors = insert o.successors i x })

  -- the operation has no longer what it had at index i of its successors
  abbrev pub RemovesSuccessor : Program O B → Program O B → Ptr Operation → ℕ → Type 0
  RemovesSuccessor old new op i = EditsOperation old new op (λ o. record o { successors = remove o.successors i })

  -- the operation goes on to x at index i of its successors, in place of what was there
  abbrev pub ReplacesSuccessor : Program O B → Program O B → Ptr Operation → ℕ → Ptr BasicBlock → Type 0
  ReplacesSuccessor old new op i x = EditsOperation old new op (λ o. record o { successors = slice_set o.successors i x })

  -- the operation has other successors, and nothing else has changed
  abbrev pub ChangesSuccessors : Program O B → Program O B → Ptr Operation → Type 0
  ChangesSuccessors old new op = EditsOperation old new op (λ o. record o { successors = successors_at new op })
