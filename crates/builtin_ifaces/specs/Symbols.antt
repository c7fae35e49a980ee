-- Giving an operation a name as a symbol.
use Rattle.std.specs.Prelude.{◌≡◌, ℕ, List, Option, Some}
use Rattle.ir_names.specs.Dictionary.{attribute_at, with_attribute}
use Rattle.ir_program.specs.Edits.{EditsOperation}
use Rattle.ir_program.specs.Lent.{payload_at}
use Rattle.ir_program.specs.Program.{Program}
use Rattle.ir_program.specs.declared.handles.Ptr.{Ptr}
use Rattle.ir_program.specs.declared.handles.Operation.{Operation}
use Rattle.ir_context.specs.declared.notes.OperationData.{OperationData}
use Rattle.builtin_tables.specs.Keys.{symbol_name}

-- a dialect and its types; `held_identifier` says which identifier an attribute holds
module _ {D TypeKind AttrKind TypeBody Saved Location OpKind Attr TypeKey : Type 0} (held_identifier : Attr → Option (List ℕ)) where
  -- what an operation carries is the same but for an attribute under the key for names of symbols, which holds the name
  pub record IsNamedBy (old new : OperationData D TypeKind AttrKind TypeBody Saved Location OpKind Attr TypeKey) (name : List ℕ) : Type 0 where
    pub attr : Attr
    pub holds : held_identifier attr ≡ Some name
    pub there : attribute_at new.notes.attributes symbol_name ≡ Some attr
    pub carries : new ≡ record old { notes = record old.notes { attributes = with_attribute old.notes.attributes symbol_name attr } }

  -- the operation gets a name, and nothing else changes
  pub record NamesSymbol {B : Type 0} (old new : Program (OperationData D TypeKind AttrKind TypeBody Saved Location OpKind Attr TypeKey) B) (op : Ptr Operation) (name : List ℕ) : Type 0 where
    pub before : OperationData D TypeKind AttrKind TypeBody Saved Location OpKind Attr TypeKey
    pub after : OperationData D TypeKind AttrKind TypeBody Saved Location OpKind Attr TypeKey
    pub carried : payload_at old op ≡ Some before
    pub named : IsNamedBy before after name
    pub edited : EditsOperation old new op (λ o. record o { payload = after })
