-- Bytes that are identifiers.
use Rattle.std.proofs.Common.{◌≡◌, ℕ, zero, suc, ◌<◌, List, [], ◌∷◌, Bool, true, false, refl, arith, rules, slice_index, ◌||◌, nat_le, nat_eq, ◌&&◌}
use Rattle.std.specs.List.{list_all}
use Rattle.std.specs.Str.{IsUtf8, IsAscii}
use Rattle.std.proofs.lemmas.Str.{IsUtf8-from_ascii}
use Rattle.ir_names.specs.Text.{is_later_code, is_identifier}
use Rattle.ir_names.proofs.Identifiers.{identifier_later}
use Rattle.ir_formats.proofs.Booleans.{both_hold}

-- a letter, `_` or digit is below 128
later_small : (c : ℕ) → is_later_code c ≡ true → c < 128
later_small c h = grind (arith, rules)

later_ascii : (bs : List ℕ) → list_all is_later_code bs ≡ true → IsAscii bs
later_ascii [] h i = omega arith
later_ascii (b ∷ bs) h zero = later_small b (both_hold _ _ h).0
later_ascii (b ∷ bs) h (suc i) = later_ascii bs (both_hold _ _ h).1 i

-- what is no UTF-8 is no identifier
pub no_identifier : (bs : List ℕ) → (IsUtf8 bs → ⊥) → is_identifier bs ≡ false
no_identifier bs bad = go (is_identifier bs) refl
  where
    go : (b : Bool) → is_identifier bs ≡ b → is_identifier bs ≡ false
    go true e = absurd (bad (IsUtf8-from_ascii bs (later_ascii bs (identifier_later bs e))))
    go false e = e
