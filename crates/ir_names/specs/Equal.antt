-- Equality of attribute dictionaries is one of maps from names to attributes.
use Rattle.std.specs.Prelude.{◌≡◌, ℕ, Bool, true, List}
use Rattle.std.specs.Cmp.{IsEquivalence}
use Rattle.std.specs.Cmp as cmp
use Rattle.std.specs.Cmp.Lexicographic.{nat_list_eq_equiv}
use Rattle.std.specs.HashMap.{HashMap}
use Rattle.std.specs.HashMap.Eq.{hash_map_eq_symm, hash_map_eq_trans, hash_map_eq_refl}
use Rattle.std.specs.Str.{bytes_eq}
use Rattle.indexmap.specs.Layout.{hash_map}
use Rattle.ir_names.specs.Dictionary.{are_equal}

module _ {X : Type 0} where
  -- the map with these entries
  abbrev pub as_map : List (List ℕ × X) → HashMap (List ℕ) X (Unit {0})
  as_map es = hash_map es tt 0

  module _ {eq : X → X → Bool} (laws : IsEquivalence eq) where
    pub are_equal_symm : (es fs : List (List ℕ × X)) → are_equal eq es fs ≡ are_equal eq fs es
    are_equal_symm es fs = hash_map_eq_symm bytes_eq eq laws.symm (as_map es) (as_map fs)

    pub are_equal_trans : (es fs gs : List (List ℕ × X)) → are_equal eq es fs ≡ true → are_equal eq fs gs ≡ true → are_equal eq es gs ≡ true
    are_equal_trans es fs gs = hash_map_eq_trans bytes_eq eq nat_list_eq_equiv (cmp.partial_equiv_from_equiv laws).trans (as_map es) (as_map fs) (as_map gs)

    pub are_equal_refl : (es : List (List ℕ × X)) → are_equal eq es es ≡ true
    are_equal_refl es = hash_map_eq_refl bytes_eq eq laws.refl (as_map es)
