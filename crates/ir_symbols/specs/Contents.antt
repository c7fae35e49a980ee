-- Which operations of a context are symbols.
use Rattle.std.specs.Prelude.{if◌then◌else◌, ℕ, Bool, List, Option, None, option_and_then}
use Rattle.ir_context.specs.declared.notes.OperationData.{OperationData}
use Rattle.ir_names.specs.Dictionary.{attribute_at}
use Rattle.ir_names.specs.declared.interfaces.OpInterface.{OpInterface}
use Rattle.ir_names.specs.declared.interfaces.OpInterface.TheVariants.{SymbolOp}
use Rattle.builtin_tables.specs.Keys as keys

-- the identifier that an operation of a kind of symbols holds under the key for their names; `has` says which interfaces a
-- kind implements, and `held` which identifier an attribute holds
abbrev pub symbol_name : {D TypeKind AttrKind TypeBody Saved Location OpKind Attr TypeKey : Type 0}
    → (OpKind → OpInterface → Bool) → (Attr → Option (List ℕ))
    → OperationData D TypeKind AttrKind TypeBody Saved Location OpKind Attr TypeKey → Option (List ℕ)
symbol_name has held o = if has o.kind SymbolOp then option_and_then held (attribute_at o.notes.attributes keys.symbol_name)
    else None
