-- The names of results and arguments, and what changes of them.
use Rattle.std.specs.Prelude.{◌≡◌, ℕ, List, Option, Some, None, option_and_then, remove, unwrap_or}
use Rattle.std.proofs.Math.ListN.{replicate}
use Rattle.ir_names.specs.Dictionary.{attribute_at, with_attribute}
use Rattle.ir_program.specs.Edits.{EditsBlock, EditsOperation}
use Rattle.ir_program.specs.Lent.{block_payload_at, payload_at}
use Rattle.ir_program.specs.Program.{Program}
use Rattle.ir_program.specs.declared.handles.Ptr.{Ptr}
use Rattle.ir_program.specs.declared.handles.BasicBlock.{BasicBlock}
use Rattle.ir_program.specs.declared.handles.Operation.{Operation}
use Rattle.ir_context.specs.declared.notes.BlockNotes.{BlockNotes}
use Rattle.ir_context.specs.declared.notes.OperationData.{OperationData}

-- the names of so many values that were given none
abbrev pub no_names : ℕ → List (Option (List ℕ))
no_names count = replicate count None

-- a dialect's key for names, and the names that each of its attributes holds
module _ {Attr : Type 0} (key : List ℕ) (names_in : Attr → Option (List (Option (List ℕ)))) where
  -- the names that are held, if any are
  abbrev pub held_names : List (List ℕ × Attr) → Option (List (Option (List ℕ)))
  held_names attributes = option_and_then names_in (attribute_at attributes key)

  -- the names that are held; where none are, those of so many values that were given none
  abbrev pub names_or_none : List (List ℕ × Attr) → ℕ → List (Option (List ℕ))
  names_or_none attributes count = unwrap_or (held_names attributes) (no_names count)

  -- the attribute under the key holds these names, and the other attributes are as they were
  pub record HoldNames (old new : List (List ℕ × Attr)) (names : List (Option (List ℕ))) : Type 0 where
    pub attr : Attr
    pub holds : names_in attr ≡ Some names
    pub are : new ≡ with_attribute old key attr

  -- where names are held, the one at the index is gone, and else nothing has changed
  pub record LoseName (old new : List (List ℕ × Attr)) (i : ℕ) : Type 0 where
    pub none : held_names old ≡ None → new ≡ old
    pub less : (names : List (Option (List ℕ))) → held_names old ≡ Some names → HoldNames old new (remove names i)

-- a dialect and its types
module _ {D TypeKind AttrKind TypeBody Saved Location OpKind Attr TypeKey : Type 0} where
  -- the attributes of the operation change so, and nothing else does
  pub record ChangesAttributes {B : Type 0} (old new : Program (OperationData D TypeKind AttrKind TypeBody Saved Location OpKind Attr TypeKey) B) (op : Ptr Operation)
      (Change : List (List ℕ × Attr) → List (List ℕ × Attr) → Type 0) : Type 0 where
    pub before : OperationData D TypeKind AttrKind TypeBody Saved Location OpKind Attr TypeKey
    pub after : List (List ℕ × Attr)
    pub carried : payload_at old op ≡ Some before
    pub change : Change before.notes.attributes after
    pub edited : EditsOperation old new op (λ o. record o { payload = record before { notes = record before.notes { attributes = after } } })

  -- the attributes of the block change so, and nothing else does
  pub record ChangesBlockAttributes {O : Type 0} (old new : Program O (BlockNotes D TypeKind AttrKind TypeBody Saved Location OpKind Attr TypeKey)) (block : Ptr BasicBlock)
      (Change : List (List ℕ × Attr) → List (List ℕ × Attr) → Type 0) : Type 0 where
    pub before : BlockNotes D TypeKind AttrKind TypeBody Saved Location OpKind Attr TypeKey
    pub after : List (List ℕ × Attr)
    pub carried : block_payload_at old block ≡ Some before
    pub change : Change before.attributes after
    pub edited : EditsBlock old new block (λ b. record b { payload = record before { attributes = after } })
