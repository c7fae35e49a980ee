-- Names of blocks tell slots and versions apart.
use Rattle.std.proofs.Common.{◌≡◌, ℕ, ◌+◌, ◌<◌, ◌^◌, true, false, List, [], ◌∷◌, ◌++◌, sym, ap, subst, ◌∙◌}
use Rattle.std.specs.Fmt.{decimal}
use Rattle.std.specs.List.{list_all}
use Rattle.std.specs.Prelude.{codes}
use Rattle.std.proofs.lemmas.Fmt.{decimal_injective}
use Rattle.std.proofs.lemmas.List.{append_assoc}
use Rattle.ir_formats.proofs.Booleans.{both_hold}
use Rattle.ir_rereading.proofs.layouts.PrintedNames.{is_digit_code, decimal_all, block_name_injective}
use Rattle.text_dialect.specs.Printed.{block_name}

tail_of : {x y : ℕ} {xs ys : List ℕ} → x ∷ xs ≡ y ∷ ys → xs ≡ ys
tail_of e = cc

no_v : (xs ds : List ℕ) → list_all is_digit_code (xs ++ 118 ∷ ds) ≡ true → ⊥
no_v [] ds h = let t : false ≡ true = h in cc
no_v (x ∷ xs) ds h = no_v xs ds (both_hold (is_digit_code x) (list_all is_digit_code (xs ++ 118 ∷ ds)) h).1

-- what is behind the last `v`
after_v : (xs ys ds es : List ℕ) → list_all is_digit_code ds ≡ true → list_all is_digit_code es ≡ true
    → xs ++ 118 ∷ ds ≡ ys ++ 118 ∷ es → ds ≡ es
after_v [] [] ds es d e h = tail_of h
after_v [] (y ∷ ys) ds es d e h = absurd (no_v ys es (subst (λ zs. list_all is_digit_code zs ≡ true) (tail_of h) d))
after_v (x ∷ xs) [] ds es d e h =
    absurd (no_v xs ds (subst (λ zs. list_all is_digit_code zs ≡ true) (sym (tail_of h)) e))
after_v (x ∷ xs) (y ∷ ys) ds es d e h = after_v xs ys ds es d e (tail_of h)

split : (front : List ℕ) (slot version : ℕ)
    → block_name front slot version ≡ ((front ++ codes "block") ++ decimal (slot + 1)) ++ 118 ∷ decimal version
split front slot version =
    sym (append_assoc (front ++ codes "block") (decimal (slot + 1)) (118 ∷ decimal version)
    ∙ append_assoc front (codes "block") (decimal (slot + 1) ++ 118 ∷ decimal version))

-- blocks of one name have one slot and one version
pub one_block : (front back : List ℕ) (slot other version later : ℕ) → slot < 2 ^ 64 → other < 2 ^ 64
    → version < 2 ^ 64 → later < 2 ^ 64
    → block_name front slot version ≡ block_name back other later → (slot ≡ other) × (version ≡ later)
one_block front back slot other version later a b c d e =
    let digits : decimal version ≡ decimal later =
    after_v ((front ++ codes "block") ++ decimal (slot + 1)) ((back ++ codes "block") ++ decimal (other + 1))
    (decimal version) (decimal later)
    (decimal_all version c) (decimal_all later d) (sym (split front slot version) ∙ e ∙ split back other later) in
    let versions : version ≡ later = decimal_injective version later c d digits in (
      block_name_injective front back slot other version a b
          (e ∙ ap (λ w. block_name back other w) (sym versions)),
      versions,
    )
