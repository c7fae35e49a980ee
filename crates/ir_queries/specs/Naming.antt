-- Which names values and blocks have: those that they were given, ids, and unique ones.
use Rattle.std.specs.Prelude.{◌≡◌, ℕ, ◌<◌, ◌+◌, ◌^◌, List, [], ◌++◌, Option, Some, None, IsSome, option_map, option_and_then, unwrap_or, slice_get, decimal, codes}
use Rattle.ir_names.specs.Dictionary.{attribute_at}
use Rattle.ir_names.specs.Identifier.{text_of}
use Rattle.ir_program.specs.Program.{Program, block_at, value_in, IsLiveValue}
use Rattle.ir_program.specs.Lent.{block_payload_at}
use Rattle.ir_program.specs.Definers.{values_at}
use Rattle.ir_program.specs.declared.handles.Ptr.{Ptr}
use Rattle.ir_program.specs.declared.handles.BasicBlock.{BasicBlock}
use Rattle.ir_program.specs.declared.handles.Value.{Value}
use Rattle.ir_program.specs.declared.handles.DefiningEntity.{DefiningEntity}
use Rattle.ir_program.specs.declared.handles.DefiningEntity.TheVariants.{Op as ByOp, Block as ByBlock}
use Rattle.ir_context.specs.Kept.{notes_at, label_at}
use Rattle.ir_context.specs.declared.notes.OperationData.{OperationData}
use Rattle.ir_context.specs.declared.notes.BlockNotes.{BlockNotes}

-- what has a name: a value or a block
pub data Nameable : Type 0 where
  value : Value → Nameable
  block : Ptr BasicBlock → Nameable

-- the value stands at its definer, or the handle leads to a block
abbrev pub IsLive : {O B : Type 0} → Program O B → Nameable → Type 0
IsLive c (value v) = IsLiveValue c v
IsLive c (block b) = IsSome (block_at c b)

-- the numbers of a value, or of a block's handle, are those of a program: each has at most 64 bits
abbrev pub HasProgramNumbers : Nameable → Type 0
HasProgramNumbers (value v) = v.number < 2 ^ 64
HasProgramNumbers (block b) = (b.key.slot < 2 ^ 64) × (b.key.version < 2 ^ 64)

-- the id of a value is `v` and its number; that of a block is `block`, its slot counted from 1, `v` and its version
abbrev pub id_text : Nameable → List ℕ
id_text (value v) = codes "v" ++ decimal v.number
id_text (block b) = codes "block" ++ decimal (b.key.slot + 1) ++ codes "v" ++ decimal b.key.version

-- a name that was given, `_` and an id; the id where no name was given
abbrev pub with_id : Option (List ℕ) → List ℕ → List ℕ
with_id None id = id
with_id (Some name) id = name ++ codes "_" ++ id

-- a dialect's key for names, and the names that each of its attributes holds
module _ {Attr : Type 0} (key : List ℕ) (names_in : Attr → Option (List (Option (List ℕ)))) where
  -- the names that the attribute under the key for names holds; none where there is no such attribute
  abbrev pub names_under : List (List ℕ × Attr) → List (Option (List ℕ))
  names_under attributes = unwrap_or (option_and_then names_in (attribute_at attributes key)) []

-- a name in a list; None where there is no name, and past the list
abbrev pub name_at : List (Option (List ℕ)) → ℕ → Option (List ℕ)
name_at names k = unwrap_or (slice_get names k) None

module _ {D TypeKind AttrKind TypeBody Saved Location OpKind Attr TypeKey : Type 0} where
  -- the attributes of the operation or block that defines values
  abbrev pub attributes_of : Program (OperationData D TypeKind AttrKind TypeBody Saved Location OpKind Attr TypeKey) (BlockNotes D TypeKind AttrKind TypeBody Saved Location OpKind Attr TypeKey) → DefiningEntity → List (List ℕ × Attr)
  attributes_of c (ByOp p) = unwrap_or (option_map (λ n. n.attributes) (notes_at c p)) []
  attributes_of c (ByBlock b) = unwrap_or (option_map (λ n. n.attributes) (block_payload_at c b)) []

  module _ (key : List ℕ) (names_in : Attr → Option (List (Option (List ℕ)))) where
    -- the name that a value or a block was given: the one at the value's index among the names that its definer's attributes hold, or
    -- the label of the block
    abbrev pub IsGivenName : Program (OperationData D TypeKind AttrKind TypeBody Saved Location OpKind Attr TypeKey) (BlockNotes D TypeKind AttrKind TypeBody Saved Location OpKind Attr TypeKey) → Nameable → Option (List ℕ) → Type 0
    IsGivenName c (value v) name = (k : ℕ) → value_in (values_at c v.definer) k ≡ Some v → name ≡ name_at (names_under key names_in (attributes_of c v.definer)) k
    IsGivenName c (block b) name = option_map (option_map text_of) (label_at c b) ≡ Some name

    -- the text is the name that was given, `_` and the id, or the id where no name was given
    pub record IsUnique (c : Program (OperationData D TypeKind AttrKind TypeBody Saved Location OpKind Attr TypeKey) (BlockNotes D TypeKind AttrKind TypeBody Saved Location OpKind Attr TypeKey)) (x : Nameable) (text : List ℕ) : Type 0 where
      pub name : Option (List ℕ)
      pub given : IsGivenName c x name
      pub joined : text ≡ with_id name (id_text x)

    -- values and blocks with one unique name are the same
    abbrev pub HaveOwnNames : Program (OperationData D TypeKind AttrKind TypeBody Saved Location OpKind Attr TypeKey) (BlockNotes D TypeKind AttrKind TypeBody Saved Location OpKind Attr TypeKey) → Type 0
    HaveOwnNames c = (x y : Nameable) (text : List ℕ) → IsLive c x → IsLive c y → HasProgramNumbers x → HasProgramNumbers y → IsUnique c x text → IsUnique c y text → x ≡ y
