-- What the types end as, where a `&mut` to a body is returned.
use Rattle.std.specs.Prelude.{Option, slice_set}
use Rattle.std.specs.Borrow.{Lends, Fml, RattleType, MutBor}
use Rattle.std.specs.contracts.option.Option as option
use Rattle.std.specs.declared.cmp.PartialEq as eq
use Rattle.std.specs.declared.hash.Hash as hash
use Rattle.ir_base.specs.declared.types.TypeHandle.{TypeHandle}
use Rattle.ir_types.specs.declared.dialect.DialectTables as tables
use Rattle.ir_types.specs.contracts.types.Types.{the_row}
use Rattle.ir_types.specs.Views.{TypesView}

-- the types with another body for one of them
abbrev pub with_body : {K B S : Type 0} → TypesView K B S → TypeHandle → Option B → TypesView K B S
with_body s ty w = record s { bodies = slice_set s.bodies ty.number w }

-- a dialect, its types, and what its traits say of them
module _ (D TypeKind AttrKind TypeBody Saved Location OpKind Attr TypeKey : RattleType)
    (own : tables.Ghosts D.Denot TypeKind.Denot AttrKind.Denot TypeBody.Denot Saved.Denot Location.Denot OpKind.Denot Attr.Denot TypeKey.Denot)
    (op_eq : eq.Ghosts OpKind.Denot)
    (attr_eq : eq.Ghosts Attr.Denot) (attr_hash : hash.Ghosts Attr.Denot)
    (key_eq : eq.Ghosts TypeKey.Denot) (key_hash : hash.Ghosts TypeKey.Denot)
    (type_kind_eq : eq.Ghosts TypeKind.Denot) (attr_kind_eq : eq.Ghosts AttrKind.Denot)
    (saved_eq : eq.Ghosts Saved.Denot) (saved_hash : hash.Ghosts Saved.Denot)
    (location_eq : eq.Ghosts Location.Denot) where
  -- the dialect's types, as the logic holds them
  abbrev pub types_row : RattleType
  types_row =
      the_row D TypeKind AttrKind TypeBody Saved Location OpKind Attr TypeKey own op_eq attr_eq attr_hash key_eq key_hash
      type_kind_eq attr_kind_eq saved_eq saved_hash location_eq

  -- the type ends with the last body behind r, and all else stays
  abbrev pub lends_body : MutBor (TypesView TypeKey.Denot TypeBody.Denot Saved.Denot) → TypeHandle → MutBor (Option TypeBody.Denot) → Fml
  lends_body s ty r = Lends types_row (option.the_row TypeBody) s r (with_body s.now ty)
