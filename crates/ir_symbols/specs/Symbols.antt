-- Which operations are symbols, and which hold a symbol table.
use Rattle.std.specs.Prelude.{◌≡◌, ◌≢◌, ℕ, Bool, true, List, [], ◌∷◌, Option, Some, option_map, option_and_then}
use Rattle.ir_program.specs.Lent.{payload_at}
use Rattle.ir_program.specs.Lists.{blocks_in, regions_in, StandsInBlock}
use Rattle.ir_program.specs.Program.{Program}
use Rattle.ir_program.specs.declared.handles.BasicBlock.{BasicBlock}
use Rattle.ir_program.specs.declared.handles.Operation.{Operation}
use Rattle.ir_program.specs.declared.handles.Ptr.{Ptr}
use Rattle.ir_program.specs.declared.handles.Region.{Region}

-- `name_in` reads the name of a symbol out of what an operation carries; it has none where the operation is no symbol
module _ {O B : Type 0} (name_in : O → Option (List ℕ)) (c : Program O B) where
  -- the name of an operation
  abbrev pub name_at : Ptr Operation → Option (List ℕ)
  name_at p = option_and_then name_in (payload_at c p)

  -- the operation is one of the block's, and has the name
  pub record IsSymbolIn (block : Ptr BasicBlock) (name : List ℕ) (op : Ptr Operation) : Type 0 where
    pub stands : StandsInBlock c op block
    pub named : name_at op ≡ Some name

  -- two operations of the block have one name
  pub record HasSharedName (block : Ptr BasicBlock) : Type 0 where
    pub name : List ℕ
    pub one : Ptr Operation
    pub other : Ptr Operation
    pub apart : one ≢ other
    pub first : IsSymbolIn block name one
    pub second : IsSymbolIn block name other

-- `holds_table` says of what an operation carries whether the operation holds a symbol table
abbrev pub IsTable : {O B : Type 0} → (O → Bool) → Program O B → Ptr Operation → Type 0
IsTable holds_table c p = option_map holds_table (payload_at c p) ≡ Some true

module _ {O B : Type 0} (c : Program O B) (op : Ptr Operation) where
  -- the operation has one region, that has one block, and this is the block
  pub record HasBody (body : Ptr BasicBlock) : Type 0 where
    pub region : Ptr Region
    pub one_region : regions_in c op ≡ region ∷ []
    pub one_block : blocks_in c region ≡ body ∷ []

  -- the operation has one region, and that has one block
  abbrev pub HasOneBlock : Type 0
  HasOneBlock = (body : Ptr BasicBlock) × HasBody body
