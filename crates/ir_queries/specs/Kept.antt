-- What contracts see of values that a context keeps once.
use Rattle.std.specs.Prelude.{◌≡◌, ◌↔◌, Bool, true, Option, Some}
use Rattle.ir_types.specs.Interned.{IsSaved, saved_at}
use Rattle.ir_types.specs.Views.{TypesView}
use Rattle.ir_types.specs.declared.saved.SavedKey.{SavedKey}
use Rattle.ir_queries.specs.declared.uniqued.Uniqued.{Uniqued}
use Rattle.ir_queries.specs.declared.uniqued.UniquedKey.{UniquedKey}

-- the value that is kept under a key
abbrev pub uniqued : {S : Type 0} → SavedKey → Uniqued S
uniqued key = record { key = key; of = record {} }

-- the key under which a value is kept
abbrev pub saved_key : {S : Type 0} → Uniqued S → SavedKey
saved_key u = u.key

-- the same as a key
abbrev pub uniqued_key : {S : Type 0} → Uniqued S → UniquedKey S
uniqued_key u = record { key = u.key; of = record {} }

module _ {K B S : Type 0} where
  -- the context keeps the value
  abbrev pub IsKeptByContext : TypesView K B S → Uniqued S → Type 0
  IsKeptByContext types u = IsSaved types (saved_key u)

  -- the value that the context keeps
  abbrev pub value_at : TypesView K B S → Uniqued S → Option S
  value_at types u = saved_at types (saved_key u)

  -- what is kept is the same exactly where its values are equal
  abbrev pub AreKeptOnce : (S → S → Bool) → TypesView K B S → Type 0
  AreKeptOnce eq types = (one other : Uniqued S) (x y : S) → value_at types one ≡ Some x → value_at types other ≡ Some y → ((one ≡ other) ↔ (eq x y ≡ true))
