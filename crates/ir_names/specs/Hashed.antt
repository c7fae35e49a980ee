-- What a hasher is fed for an attribute dictionary: one number, whatever the order of the names.
use Rattle.std.specs.Prelude.{ℕ, ◌%◌, ◌^◌, List, sum_by, bytes_eq}
use Rattle.std.specs.Hash as fed
use Rattle.std.specs.Hash.FoldHasher as folding
use Rattle.std.specs.List.{fold}
use Rattle.std.specs.Option.{option_map_or}
use Rattle.std.specs.Set.{unique_keys}
use Rattle.ir_names.specs.Dictionary.{attribute_at, names_of}

-- the hash of a name and of an attribute that feeds this
unfoldable pub entry_hash : List ℕ → List (List ℕ) → ℕ
entry_hash name writes = folding.finish (fold folding.write (fold folding.write folding.initial (fed.str name)) writes)

module _ {X : Type 0} (feed : X → List (List ℕ)) where
  -- the hash of a name and of what stands under it
  abbrev pub hash_under : List (List ℕ × X) → List ℕ → ℕ
  hash_under es name = option_map_or (λ attr. entry_hash name (feed attr)) (attribute_at es name) 0

  -- the hashes of the names with what stands under each, added up
  abbrev pub hash_total : List (List ℕ × X) → ℕ
  hash_total es = sum_by (hash_under es) (unique_keys bytes_eq (names_of es))

  -- what a hasher is fed
  abbrev pub hash_input_of : List (List ℕ × X) → List (List ℕ)
  hash_input_of es = fed.u64 (hash_total es % 2 ^ 64)
