-- What a contract sees of a dictionary: the attribute under each key.
use Rattle.std.specs.Prelude.{◌≡◌, ℕ, List, Option, cond, bytes_eq}
use Rattle.std.specs.BTreeMap.{get_by_text}
use Rattle.builtin_data.specs.declared.dicts.DictAttr.{DictAttr}

module _ {A : Type 0} where
  -- the attribute under a key
  abbrev pub member_at : DictAttr A → List ℕ → Option A
  member_at dict key = get_by_text dict.members key

  -- this is under the key now, or nothing, and under each other key what was there
  abbrev pub SetsMember : DictAttr A → DictAttr A → List ℕ → Option A → Type 0
  SetsMember old new key member = (other : List ℕ) → member_at new other ≡ cond (bytes_eq key other) member (member_at old other)

  -- under each key is what was there
  abbrev pub HasSameMembers : DictAttr A → DictAttr A → Type 0
  HasSameMembers old new = (key : List ℕ) → member_at new key ≡ member_at old key
