-- What edits of an operation's results and a block's arguments make.
use Rattle.std.specs.Prelude.{ℕ, ◌-◌, [], ◌∷◌, ◌++◌, length, insert, remove}
use Rattle.ir_base.specs.declared.types.TypeHandle.{TypeHandle}
use Rattle.ir_program.specs.Program.{Program}
use Rattle.ir_program.specs.Edits.{EditsOperation, EditsBlock}
use Rattle.ir_program.specs.declared.handles.Ptr.{Ptr}
use Rattle.ir_program.specs.declared.handles.Operation.{Operation}
use Rattle.ir_program.specs.declared.handles.BasicBlock.{BasicBlock}
use Rattle.ir_program.specs.declared.handles.Value.{Value}

module _ {O B : Type 0} where  -- the operation has the value of this type too, behind its other results
  abbrev pub PushesResult : Program O B → Program O B → Ptr Operation → Value → TypeHandle → Type 0
  PushesResult old new op value ty = EditsOperation old new op (λ w. record w { results = w.results ++ (record { value = value; ty = ty }) ∷ [] })

  -- the operation has the value of this type too, at index i of its results
  abbrev pub InsertsResult : Program O B → Program O B → Ptr Operation → ℕ → Value → TypeHandle → Type 0
  InsertsResult old new op i value ty = EditsOperation old new op (λ w. record w { results = insert w.results i (record { value = value; ty = ty }) })

  -- the operation has no longer the last of its results
  abbrev pub PopsResult : Program O B → Program O B → Ptr Operation → Type 0
  PopsResult old new op = EditsOperation old new op (λ w. record w { results = remove w.results (length w.results - 1) })

  -- the operation has no longer what it had at index i of its results
  abbrev pub RemovesResult : Program O B → Program O B → Ptr Operation → ℕ → Type 0
  RemovesResult old new op i = EditsOperation old new op (λ w. record w { results = remove w.results i })

  -- the block has the value of this type too, behind its other arguments
  abbrev pub PushesArgument : Program O B → Program O B → Ptr BasicBlock → Value → TypeHandle → Type 0
  PushesArgument old new block value ty = EditsBlock old new block (λ w. record w { arguments = w.arguments ++ (record { value = value; ty = ty }) ∷ [] })

  -- the block has the value of this type too, at index i of its arguments
  abbrev pub InsertsArgument : Program O B → Program O B → Ptr BasicBlock → ℕ → Value → TypeHandle → Type 0
  InsertsArgument old new block i value ty = EditsBlock old new block (λ w. record w { arguments = insert w.arguments i (record { value = value; ty = ty }) })

  -- the block has no longer the last of its arguments
  abbrev pub PopsArgument : Program O B → Program O B → Ptr BasicBlock → Type 0
  PopsArgument old new block = EditsBlock old new block (λ w. record w { arguments = remove w.arguments (length w.arguments - 1) })

  -- the block has no longer what it had at index i of its arguments
  abbrev pub RemovesArgument : Program O B → Program O B → Ptr BasicBlock → ℕ → Type 0
  RemovesArgument old new block i = EditsBlock old new block (λ w. record w { arguments = remove w.arguments i })
