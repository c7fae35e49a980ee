-- What a contract sees of the names of dialects and of their kinds.
use Rattle.std.specs.Prelude.{ℕ, List, ◌∷◌, ◌++◌}
use Rattle.ir_names.specs.declared.names.DialectName.{DialectName}
use Rattle.ir_names.specs.declared.names.OpName.{OpName}
use Rattle.ir_names.specs.declared.names.AttrName.{AttrName}
use Rattle.ir_names.specs.declared.names.TypeName.{TypeName}
use Rattle.ir_names.specs.declared.names.OpId.{OpId}
use Rattle.ir_names.specs.declared.names.AttrId.{AttrId}
use Rattle.ir_names.specs.declared.names.TypeId.{TypeId}

-- the text of a dialect's name
abbrev pub dialect_text : DialectName → List ℕ
dialect_text name = name.text.now

-- the text of the name of a kind of operations
abbrev pub op_text : OpName → List ℕ
op_text name = name.text.now

-- the text of the name of a kind of attributes
abbrev pub attr_text : AttrName → List ℕ
attr_text name = name.text.now

-- the text of the name of a kind of types
abbrev pub type_text : TypeName → List ℕ
type_text name = name.text.now

-- the name of a dialect and a name in it, with a dot between them
abbrev pub dotted : List ℕ × List ℕ → List ℕ
dotted names = names.0 ++ 46 ∷ names.1

-- the names that the id of a kind of operations is made of: its dialect's, and its own
abbrev pub op_id_text : OpId → List ℕ × List ℕ
op_id_text id = (dialect_text id.dialect, op_text id.name)

-- the names that the id of a kind of types is made of
abbrev pub type_id_text : TypeId → List ℕ × List ℕ
type_id_text id = (dialect_text id.dialect, type_text id.name)

-- the names that the id of a kind of attributes is made of
abbrev pub attr_id_text : AttrId → List ℕ × List ℕ
attr_id_text id = (dialect_text id.dialect, attr_text id.name)
