-- What a contract says of the types of a context and of what it saves.
use Rattle.std.specs.Prelude.{◌≡◌, ◌↔◌, ◌<◌, Bool, true, false, [], ◌∷◌, ◌++◌, Option, Some, None, if◌then◌else◌, slice_get, length, option_and_then}
use Rattle.std.specs.List.{list_any, position_or_len}
use Rattle.std.specs.Option.{option_map_or}
use Rattle.ir_base.specs.declared.types.TypeHandle.{TypeHandle}
use Rattle.ir_types.specs.declared.saved.SavedKey.{SavedKey}
use Rattle.ir_types.specs.Views.{TypesView}

module _ {K B S : Type 0} where
  -- the handle leads to a type
  abbrev pub IsKnown : TypesView K B S → TypeHandle → Type 0
  IsKnown s ty = ty.number < length s.keys

  -- the key of a type
  abbrev pub key_at : TypesView K B S → TypeHandle → Option K
  key_at s ty = slice_get s.keys ty.number

  -- the body of a type that has one
  abbrev pub body_at : TypesView K B S → TypeHandle → Option B
  body_at s ty = option_and_then (λ body. body) (slice_get s.bodies ty.number)

  -- the key leads to a saved value
  abbrev pub IsSaved : TypesView K B S → SavedKey → Type 0
  IsSaved s key = key.number < length s.saved

  -- the saved value under a key
  abbrev pub saved_at : TypesView K B S → SavedKey → Option S
  saved_at s key = slice_get s.saved key.number

  -- each type keeps its key and its body
  abbrev pub KeepsTypes : TypesView K B S → TypesView K B S → Type 0
  KeepsTypes old new = (ty : TypeHandle) (key : K) → key_at old ty ≡ Some key → (key_at new ty ≡ Some key) × (body_at new ty ≡ body_at old ty)

  -- each key of a saved value keeps leading to it
  abbrev pub KeepsSaved : TypesView K B S → TypesView K B S → Type 0
  KeepsSaved old new = (key : SavedKey) (value : S) → saved_at old key ≡ Some value → saved_at new key ≡ Some value

  -- the handle of the type that comes next
  abbrev pub next_handle : TypesView K B S → TypeHandle
  next_handle s = record { number = length s.keys }

  -- the key of the saved value that comes next
  abbrev pub next_saved_key : TypesView K B S → SavedKey
  next_saved_key s = record { number = length s.saved }

  -- a test of the key of a type, which an unknown handle doesn't pass
  abbrev pub passes : (K → Bool) → TypesView K B S → TypeHandle → Bool
  passes test s ty = option_map_or test (key_at s ty) false

  module _ (eq : K → K → Bool) where
    -- handles are equal exactly where the keys of their types are
    abbrev pub HasDistinctTypes : TypesView K B S → Type 0
    HasDistinctTypes s = (one other : TypeHandle) (x y : K) → key_at s one ≡ Some x → key_at s other ≡ Some y → ((one ≡ other) ↔ (eq x y ≡ true))

    -- a type has a key that equals this one
    abbrev pub has_key : TypesView K B S → K → Bool
    has_key s key = list_any (eq key) s.keys

    -- the handle of the type with a key: its place among the keys, the next one where it isn't there
    abbrev pub handle_of : TypesView K B S → K → TypeHandle
    handle_of s key = record { number = position_or_len (eq key) s.keys }

    -- the types with this key among them: where it is new it comes last, and has no body
    abbrev pub with_type : TypesView K B S → K → TypesView K B S
    with_type s key = if has_key s key then s else record s { keys = s.keys ++ key ∷ []; bodies = s.bodies ++ None ∷ [] }

  module _ (eq : S → S → Bool) where
    -- keys are equal exactly where their saved values are
    abbrev pub HasDistinctSaved : TypesView K B S → Type 0
    HasDistinctSaved s = (one other : SavedKey) (x y : S) → saved_at s one ≡ Some x → saved_at s other ≡ Some y → ((one ≡ other) ↔ (eq x y ≡ true))

    -- a value that equals this one is saved
    abbrev pub has_saved : TypesView K B S → S → Bool
    has_saved s value = list_any (eq value) s.saved

    -- the key of a saved value: its place among them, the next one where it isn't there
    abbrev pub saved_key_of : TypesView K B S → S → SavedKey
    saved_key_of s value = record { number = position_or_len (eq value) s.saved }

    -- the types with this value among the saved ones: where it is new it comes last
    abbrev pub with_saved : TypesView K B S → S → TypesView K B S
    with_saved s value = if has_saved s value then s else record s { saved = s.saved ++ value ∷ [] }
