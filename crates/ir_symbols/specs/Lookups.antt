-- What a name means.
use Rattle.std.specs.Prelude.{◌≡◌, ℕ, Bool, List, Option, Some, None}
use Rattle.ir_program.specs.Lists.{operations_in}
use Rattle.ir_program.specs.Program.{Program}
use Rattle.ir_program.specs.declared.handles.BasicBlock.{BasicBlock}
use Rattle.ir_program.specs.declared.handles.IRNode.TheVariants.{Operation as OperationNode}
use Rattle.ir_program.specs.declared.handles.Operation.{Operation}
use Rattle.ir_program.specs.declared.handles.Ptr.{Ptr}
use Rattle.ir_queries.specs.Ancestors.{AnswersNearest}
use Rattle.ir_symbols.specs.Scans.{first_named}
use Rattle.ir_symbols.specs.Symbols.{HasBody, HasOneBlock, IsTable}

module _ {O B : Type 0} (name_in : O → Option (List ℕ)) (c : Program O B) where
  -- it is the first operation with the name in the operation's one block; none where the operation hasn't one region with one block
  pub record IsFoundIn (table : Ptr Operation) (name : List ℕ) (found : Option (Ptr Operation)) : Type 0 where
    pub in_body : (body : Ptr BasicBlock) → HasBody c table body → found ≡ first_named name_in c name (operations_in c body)
    pub no_body : (HasOneBlock c table → ⊥) → found ≡ None

  -- the same of an operation, if there is one
  abbrev pub IsFoundIf : Option (Ptr Operation) → List ℕ → Option (Ptr Operation) → Type 0
  IsFoundIf None name found = found ≡ None
  IsFoundIf (Some table) name found = IsFoundIn table name found

-- it is the first operation with the name in the nearest table around an operation; none where none is around it
pub record IsFoundInNearest {O B : Type 0} (name_in : O → Option (List ℕ)) (holds_table : O → Bool) (c : Program O B) (op : Ptr Operation) (name : List ℕ) (found : Option (Ptr Operation)) : Type 0 where
  pub nearest : Option (Ptr Operation)
  pub is_nearest : AnswersNearest OperationNode c (OperationNode op) (IsTable holds_table c) nearest
  pub is_found : IsFoundIf name_in c nearest name found
