-- Equal keys of integer types, and of the unit type, are the same.
use Rattle.std.proofs.Common.{◌≡◌, ℕ, true, refl, ap, arith}
use Rattle.std.proofs.lemmas.Bool.Decides.{nat_tests}
use Rattle.ir_names.specs.declared.kinds.Signedness.{Signedness}
use Rattle.ir_names.specs.declared.kinds.Signedness.TheVariants.{Signless, Signed, Unsigned}
use Rattle.kit_ops.specs.declared.types.IntegerType.{IntegerType}
use Rattle.kit_ops.specs.declared.types.KitType.{KitType}
use Rattle.kit_ops.specs.declared.types.KitType.TheVariants as keys
use Rattle.kit_ops.specs.contracts.types.IntegerTypePartialEq.TheImpl as of_integers
use Rattle.kit_ops.specs.contracts.types.KitTypePartialEq.TheImpl as of_keys

abbrev type_of : Signedness → ℕ → IntegerType
type_of s w = record { signedness = s; width = w }

equal_fields : (s t : Signedness) (v w : ℕ) → (of_integers.ghosts).eq (type_of s v) (type_of t w) ≡ true → type_of t w ≡ type_of s v
equal_fields Signless Signless v w h = let e : w ≡ v = grind (arith, nat_tests) in ap (λ n. type_of Signless n) e
equal_fields Signed Signed v w h = let e : w ≡ v = grind (arith, nat_tests) in ap (λ n. type_of Signed n) e
equal_fields Unsigned Unsigned v w h = let e : w ≡ v = grind (arith, nat_tests) in ap (λ n. type_of Unsigned n) e
equal_fields Signless Signed v w h = cc
equal_fields Signless Unsigned v w h = cc
equal_fields Signed Signless v w h = cc
equal_fields Signed Unsigned v w h = cc
equal_fields Unsigned Signless v w h = cc
equal_fields Unsigned Signed v w h = cc

-- a key that equals that of an integer type is that key
pub equal_key : (i : IntegerType) (k : KitType) → (of_keys.ghosts).eq (keys.Integer i) k ≡ true → k ≡ keys.Integer i
equal_key i (keys.Integer j) h = ap keys.Integer (equal_fields i.signedness j.signedness i.width j.width h)
equal_key i (keys.Function f) h = cc
equal_key i keys.Unit h = cc

-- a key that equals that of the unit type is that key
pub equal_unit : (k : KitType) → (of_keys.ghosts).eq keys.Unit k ≡ true → k ≡ keys.Unit
equal_unit (keys.Integer j) h = cc
equal_unit (keys.Function f) h = cc
equal_unit keys.Unit h = refl
