-- Single edits of lists, and of all uses of a value or a block, as what they make of trees.
use Rattle.std.specs.Prelude.{Bool, true, false, not, cond, ℕ, List, [], ◌∷◌, map, slice_set}
use Rattle.ir_program.specs.Program.{Program}
use Rattle.ir_program.specs.Lists.{StandsInside}
use Rattle.ir_program.specs.Replacing.{same_block, same_definer, replacing, retargeting, with_chosen}
use Rattle.ir_program.specs.declared.handles.IRNode.{IRNode}
use Rattle.ir_program.specs.declared.handles.IRNode.TheVariants.{Operation as OperationNode}
use Rattle.ir_program.specs.declared.handles.Ptr.{Ptr}
use Rattle.ir_program.specs.declared.handles.Operation.{Operation}
use Rattle.ir_program.specs.declared.handles.BasicBlock.{BasicBlock}
use Rattle.ir_program.specs.declared.handles.Value.{Value}
use Rattle.ir_program.specs.declared.handles.Use.{Use}
use Rattle.ir_program.specs.declared.handles.DefiningEntity.TheVariants.{Op as ByOp}
use Rattle.ir_trees.specs.Names.{Names, Contents}
use Rattle.ir_trees.specs.Trees.{Operations, Tree, end, operation, Root}
use Rattle.ir_trees.specs.Stands.{by_handle, in_program, ProgramTree, ProgramHead, StandsFor}
use Rattle.ir_trees.specs.Rewrites.{Rewriting, roots}

-- both are the same operation
abbrev pub same_operation : Ptr Operation → Ptr Operation → Bool
same_operation p q = same_definer (ByOp p) (ByOp q)

-- the operation is one of the list
abbrev pub is_among : List (Ptr Operation) → Ptr Operation → Bool
is_among [] p = false
is_among (q ∷ qs) p = cond (same_operation p q) true (is_among qs p)

module _ {N : Names} {S : Contents} where
  -- nothing is put anywhere, nothing is left out, and each head and label stays
  abbrev pub as_it_is : Rewriting N S
  as_it_is = record { before = λ h. end; after = λ h. end; first = λ l. end; last = λ l. end; keeps = λ h. true; keeps_block = λ l. true; head = λ h. h; label = λ l. l }

  -- the list of one operation, with its regions
  abbrev pub list_of : Root N S → Tree N S Operations
  list_of s = operation s.head s.regions end

module _ {O B : Type 0} where
  -- the operation that is s comes right before the operation mark, wherever that one is in a block of the tree
  abbrev pub puts_before : Ptr Operation → ProgramTree O B → Rewriting by_handle (in_program O B)
  puts_before mark s = record as_it_is { before = λ h. cond (same_operation h.name mark) (list_of s) end }

  -- it comes right after the operation mark
  abbrev pub puts_after : Ptr Operation → ProgramTree O B → Rewriting by_handle (in_program O B)
  puts_after mark s = record as_it_is { after = λ h. cond (same_operation h.name mark) (list_of s) end }

  -- it comes at the start of the block, before all that is there
  abbrev pub puts_first : Ptr BasicBlock → ProgramTree O B → Rewriting by_handle (in_program O B)
  puts_first block s = record as_it_is { first = λ l. cond (same_block l.name block) (list_of s) end }

  -- it comes at the end of the block, behind all that is there
  abbrev pub puts_last : Ptr BasicBlock → ProgramTree O B → Rewriting by_handle (in_program O B)
  puts_last block s = record as_it_is { last = λ l. cond (same_block l.name block) (list_of s) end }

  -- the operation op and all that is in it is left out, wherever it is in a block of the tree
  abbrev pub leaves_out : Ptr Operation → Rewriting by_handle (in_program O B)
  leaves_out op = record as_it_is { keeps = λ h. not (same_operation h.name op) }

  -- the block and all that is in it is left out
  abbrev pub leaves_out_block : Ptr BasicBlock → Rewriting by_handle (in_program O B)
  leaves_out_block block = record as_it_is { keeps_block = λ l. not (same_block l.name block) }

  -- the operations of the list `moved` are left out where they are, and come at the end of the block, behind all that is there
  abbrev pub moves_to : Ptr BasicBlock → Tree by_handle (in_program O B) Operations → Rewriting by_handle (in_program O B)
  moves_to block moved = record as_it_is { keeps = λ h. not (is_among (roots moved) h.name); last = λ l. cond (same_block l.name block) moved end }

  -- of the operation op, x in place of the operand at index i; each other operation as it is
  abbrev pub with_operand : Ptr Operation → ℕ → Value → ProgramHead O B → ProgramHead O B
  with_operand op i x h = cond (same_operation h.name op) (record h { operands = slice_set h.operands i x }) h

  -- of the operation op, the block x in place of the successor at index i; each other operation as it is
  abbrev pub with_successor : Ptr Operation → ℕ → Ptr BasicBlock → ProgramHead O B → ProgramHead O B
  with_successor op i x h = cond (same_operation h.name op) (record h { successors = slice_set h.successors i x }) h

  -- the operation with `other` in place of each operand that is `value`
  abbrev pub with_replaced : Value → Value → ProgramHead O B → ProgramHead O B
  with_replaced value other h = record h { operands = map (replacing value other) h.operands }

  -- the operation with `other` in place of the operand at each use that is chosen
  abbrev pub with_chosen_replaced : (Use Value → Bool) → Value → ProgramHead O B → ProgramHead O B
  with_chosen_replaced chosen other h = record h { operands = with_chosen chosen other h.name 0 h.operands }

  -- the operation with `other` in place of each successor that is `block`
  abbrev pub with_retargeted : Ptr BasicBlock → Ptr BasicBlock → ProgramHead O B → ProgramHead O B
  with_retargeted block other h = record h { successors = map (retargeting block other) h.successors }

  -- the operation with `other` in place of the successor at each use that is chosen
  abbrev pub with_chosen_retargeted : (Use (Ptr BasicBlock) → Bool) → Ptr BasicBlock → ProgramHead O B → ProgramHead O B
  with_chosen_retargeted chosen other h = record h { successors = with_chosen chosen other h.name 0 h.successors }

module _ {O B : Type 0} where
  -- each operation that isn't inside x stands for what g makes of the tree that it stood for
  abbrev pub TurnsIntoOutside : Program O B → Program O B → IRNode → (ProgramTree O B → ProgramTree O B) → Type 0
  TurnsIntoOutside old new x g = (op : Ptr Operation) (t : ProgramTree O B) → (StandsInside old x (OperationNode op) → ⊥) → StandsFor old op t → StandsFor new op (g t)

-- the operation p stands for the tree s, and x isn't inside it: so p can be put where x is
pub record CanBePutAt {O B : Type 0} (c : Program O B) (x : IRNode) (p : Ptr Operation) (s : ProgramTree O B) : Type 0 where
  pub stands : StandsFor c p s
  pub apart : StandsInside c (OperationNode p) x → ⊥
