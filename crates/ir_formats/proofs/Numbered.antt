-- Kinds in a list, each at its number.
use Rattle.std.proofs.Common.{◌≡◌, ℕ, ◌+◌, ◌<◌, ◌≤◌, List, [], ◌∷◌, ◌++◌, length, map, take, get_or, slice_get}
use Rattle.std.proofs.Common.{Some, None, Bool, true, ◌&&◌, Result, Ok, Err, IfOk, sym, ap, ◌∙◌, arith, inl, inr}
use Rattle.std.specs.Prelude.{nat_le}
use Rattle.std.specs.Option.{option_map}
use Rattle.std.proofs.lemmas.Bool.{leb-true}
use Rattle.std.proofs.lemmas.List.{map-append, length-map, take_more, take_all}
use Rattle.std.proofs.lemmas.Option.{slice_get-map, slice_get-get_or, slice_get_past, slice_get_within, slice_get_cases, get_or_from_slice_get}
use Rattle.ir_print.specs.Formats.{Formats, Kind, is_small}
use Rattle.ir_formats.specs.declared.rules.KindText.{KindText}
use Rattle.ir_formats.specs.declared.rules.KindTexts.{KindTexts}
use Rattle.ir_formats.specs.declared.rules.Sort.{Sort}
use Rattle.ir_formats.specs.declared.rules.Sort.TheVariants as sort
use Rattle.ir_formats.specs.Making.{kind_of, formats_of}
use Rattle.ir_formats.specs.Rules.{kinds_of}
use Rattle.ir_formats.proofs.Booleans.{both_hold}

-- the kind at a place within
pub kind_here : (ks : List KindText) (i : ℕ) (d : KindText) → i < length ks
    → slice_get (map kind_of ks) i ≡ Some (kind_of (get_or ks i d))
kind_here ks i d lt = slice_get-map kind_of ks i ∙ ap (option_map kind_of) (slice_get-get_or ks i d lt)

pub no_kind_left : (ks : List KindText) (i : ℕ) → length ks ≤ i → slice_get (map kind_of ks) i ≡ None
no_kind_left ks i le = slice_get_past (map kind_of ks) i (omega (arith, length-map ks kind_of))

-- ---- kinds that are asked for one after the other

module _ (ks : List Kind) (i : ℕ) where
  pub kinds_taken : (xs ys : List KindText) (x : KindText) → Some (kind_of x) ≡ slice_get ks i
      → map kind_of xs ≡ take i ks → ys ≡ xs ++ x ∷ [] → map kind_of ys ≡ take (i + 1) ks
  kinds_taken xs ys x at all one =
      let k = kind_of x in
      let here : get_or ks i k ≡ k = get_or_from_slice_get ks i k k (sym at) in
      let more = take_more ks i k (slice_get_within ks i k (sym at)) ∙ ap (λ j. take i ks ++ j ∷ []) here in
      ap (map kind_of) one ∙ (map-append kind_of xs (x ∷ []) ∙ (ap (λ zs. zs ++ k ∷ []) all ∙ sym more))

  pub no_more_kinds : None ≡ slice_get ks i → length ks ≤ i
  no_more_kinds e = elim (slice_get_cases ks i).1 [
    | inl p ↦ absurd (let wrong : None ≡ Some p.0 = e ∙ p.2 in cc)
    | inr p ↦ p.0
  ]

  pub all_taken : (xs : List KindText) → length ks ≤ i → map kind_of xs ≡ take i ks → map kind_of xs ≡ ks
  all_taken xs le all = all ∙ take_all i ks le

abbrev are_few : List Kind → Bool
are_few ks = nat_le (length ks) 256

-- kinds of each sort are few
pub few_of : (f : Formats) → is_small f ≡ true → (s : Sort) → length (kinds_of f s) ≤ 256
few_of f e = go
  where
    outer : (are_few f.operations && are_few f.types ≡ true) × (are_few f.attributes ≡ true)
    outer = both_hold (are_few f.operations && are_few f.types) (are_few f.attributes) e

    inner : (are_few f.operations ≡ true) × (are_few f.types ≡ true)
    inner = both_hold (are_few f.operations) (are_few f.types) outer.0

    go : (s : Sort) → length (kinds_of f s) ≤ 256
    go sort.Operation = leb-true (length f.operations) 256 inner.0
    go sort.«Type» = leb-true (length f.types) 256 inner.1
    go sort.Attribute = leb-true (length f.attributes) 256 outer.1

-- kinds of each sort are those of the formats
pub formats_are : (k : KindTexts) (f : Formats) → map kind_of k.operations.items ≡ f.operations
    → map kind_of k.types.items ≡ f.types → map kind_of k.attributes.items ≡ f.attributes → formats_of k ≡ f
formats_are k f a b c =
    let types = map kind_of k.types.items in
    let attributes = map kind_of k.attributes.items in
    ap (λ x. record { operations = x; types = types; attributes = attributes }) a
    ∙ (ap (λ x. record { operations = f.operations; types = x; attributes = attributes }) b
    ∙ ap (λ x. record { operations = f.operations; types = f.types; attributes = x }) c)

-- what follows of a value where there is one
pub if_ok_along : {A E : Type 0} (r : Result A E) (P Q : A → Type 0) → ((x : A) → P x → Q x) → IfOk r P → IfOk r Q
if_ok_along (Ok x) P Q along h = along x h
if_ok_along (Err e) P Q along h = h
