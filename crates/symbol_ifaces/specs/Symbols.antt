-- Symbols of a dialect's operations: their names, and which of them operations use.
use Rattle.std.specs.Prelude.{ℕ, Bool, false, List, Option, Some, None, cond, ◌&&◌, option_and_then}
use Rattle.std.specs.Option.{option_map_or}
use Rattle.ir_names.specs.declared.interfaces.OpInterface.{OpInterface}
use Rattle.ir_names.specs.declared.interfaces.OpInterface.TheVariants as interface
use Rattle.ir_program.specs.Program.{Program}
use Rattle.ir_program.specs.declared.handles.Ptr.{Ptr}
use Rattle.ir_program.specs.declared.handles.Operation.{Operation}
use Rattle.ir_context.specs.Kept.{kind_at}
use Rattle.ir_context.specs.declared.notes.OperationData.{OperationData}
use Rattle.builtin_ifaces.specs.Calls.{Callee, named, value, callee_at}
use Rattle.builtin_tables.specs.declared.dialect.CalleePlace.{CalleePlace}

-- the name by which something is called
abbrev pub called_name : Callee → Option (List ℕ)
called_name (named name) = Some name
called_name (value v) = None

-- a dialect and its types; `has` says which kinds implement which interfaces
module _ {D TypeKind AttrKind TypeBody Saved Location OpKind Attr TypeKey : Type 0} (has : OpKind → OpInterface → Bool) where
  -- an operation that carries this holds a symbol table
  abbrev pub holds_table : OperationData D TypeKind AttrKind TypeBody Saved Location OpKind Attr TypeKey → Bool
  holds_table o = has o.kind interface.SymbolTable

  module _ {B : Type 0} (c : Program (OperationData D TypeKind AttrKind TypeBody Saved Location OpKind Attr TypeKey) B) (op : Ptr Operation) where
    -- the operation's kind implements the interface
    abbrev pub implements : OpInterface → Bool
    implements i = option_map_or (λ kind. has kind i) (kind_at c op) false

    -- the name of what the operation calls, if it calls something by name; `held_identifier` says which identifier an attribute holds, and
    -- `callee_key` and `callee_place` where calls of a kind have what they call
    abbrev pub name_of_callee : (Attr → Option (List ℕ)) → (OpKind → List ℕ) → (OpKind → CalleePlace) → Option (List ℕ)
    name_of_callee held_identifier callee_key callee_place = option_and_then called_name (callee_at c op held_identifier callee_key callee_place)

-- the name of the symbol that an operation uses: a symbol user that is a call uses what it calls, if it calls that by name
abbrev pub used_symbol : {D TypeKind AttrKind TypeBody Saved Location OpKind Attr TypeKey B : Type 0} → (OpKind → OpInterface → Bool) → (Attr → Option (List ℕ)) → (OpKind → List ℕ) → (OpKind → CalleePlace)
    → Program (OperationData D TypeKind AttrKind TypeBody Saved Location OpKind Attr TypeKey) B → Ptr Operation → Option (List ℕ)
used_symbol has held_identifier callee_key callee_place c op =
    cond (implements has c op interface.SymbolUserOp && implements has c op interface.CallOp) (name_of_callee has c op held_identifier callee_key callee_place) None
