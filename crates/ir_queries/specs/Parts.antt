-- What contracts say of types by their kinds, whatever a dialect calls its kinds.
use Rattle.std.specs.Prelude.{ℕ, List, codes, Option, option_and_then}
use Rattle.std.specs.Option.{option_map_or}
use Rattle.ir_base.specs.declared.types.TypeHandle.{TypeHandle}
use Rattle.ir_types.specs.Interned.{key_at}
use Rattle.ir_types.specs.Views.{TypesView}

-- the names that an error has for what a handle leads to, where that is no type
abbrev pub unknown_text : List ℕ × List ℕ
unknown_text = (codes "unknown", codes "type")

module _ {K B S : Type 0} where
  -- what the type behind a handle is made of, if it is of the kind that has such parts
  abbrev pub part_at : {P : Type 0} → (K → Option P) → TypesView K B S → TypeHandle → Option P
  part_at part types ty = option_and_then part (key_at types ty)

  -- the names of the kind of the type behind a handle
  abbrev pub kind_text_at : (K → List ℕ × List ℕ) → TypesView K B S → TypeHandle → List ℕ × List ℕ
  kind_text_at text types ty = option_map_or text (key_at types ty) unknown_text
