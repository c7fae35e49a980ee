-- The characters of printed sections.
use Rattle.std.proofs.Common.{◌≡◌, inl, inr, ℕ, suc, zero, ◌<◌, ◌^◌, Bool, true, false, List, [], ◌∷◌, ◌++◌, Option, Some, None, get_or, length, arith, refl, sym, ◌∙◌, ap, subst, append_assoc, append-nil, chars, decimal}
use Rattle.std.specs.Prelude.{codes, flat_map, nat_lt, slice_index}
use Rattle.std.specs.List.{list_all}
use Rattle.std.specs.Str.{IsAscii}
use Rattle.std.proofs.lemmas.Bool.{and_parts, cases_lt, ltb-true}
use Rattle.std.proofs.lemmas.Fmt.{IsAscii-decimal}
use Rattle.std.proofs.lemmas.List.{get_or_past}
use Rattle.std.proofs.lemmas.Str.{chars-append, chars-IsAscii, IsAscii-append, IsUtf8-append, IsUtf8-from_ascii}
use Rattle.ir_names.specs.Text.{is_identifier}
use Rattle.ir_names.proofs.Identifiers.{identifier_small}
use Rattle.ir_outlines.specs.Section.{Entry, bracketed, single, Reference, here, at_mark, Section}
use Rattle.ir_print.specs.Layout.{mark_text}
use Rattle.text_sections.specs.Texts.{Token, sign, attribute, location, AddsTokens, entry_tokens, IsTokenText, line_tokens, location_tokens, members_from, reference_token, section_tokens, separator_before}
use Rattle.section_rereading.specs.Inverse.{CanReadEntry, CanReadMembers, CanReadPlace, CanReadReference, CanReadSection, IsUtf8Of}
use Rattle.section_rereading.specs.Printed.{characters_of, printed}

-- ---- ASCII

ascii_at : (cs : List ℕ) → list_all (λ c. nat_lt c 128) cs ≡ true → (i : ℕ) → slice_index cs i < 128
ascii_at [] h i = omega arith
ascii_at (c ∷ cs) h zero = ltb-true c 128 (and_parts (nat_lt c 128) (list_all (λ x. nat_lt x 128) cs) h).0
ascii_at (c ∷ cs) h (suc i) = ascii_at cs (and_parts (nat_lt c 128) (list_all (λ x. nat_lt x 128) cs) h).1 i

identifier_ascii : (key : List ℕ) → is_identifier key ≡ true → IsAscii key
identifier_ascii key h i = elim (cases_lt i (length key)) [
  | inl inside ↦ identifier_small key i 0 h inside
  | inr past ↦ let none : get_or key i 0 ≡ 0 = get_or_past key i 0 past in omega arith
]

mark_ascii : (n : ℕ) → n < 2 ^ 64 → IsAscii (mark_text n)
mark_ascii n small = IsAscii-append (codes "!") (decimal n) (ascii_at (codes "!") refl) (IsAscii-decimal n small)

ascii_text : (cs : List ℕ) → IsAscii cs → IsUtf8Of cs cs
ascii_text cs h = (IsUtf8-from_ascii cs h, chars-IsAscii cs h)

text_more : (text more bytes others : List ℕ) → IsUtf8Of text bytes → IsUtf8Of more others → IsUtf8Of (text ++ more) (bytes ++ others)
text_more text more bytes others h g = (
  IsUtf8-append bytes others h.0 g.0,
  chars-append bytes others h.0 ∙ ap (λ (xs : List ℕ). xs ++ chars others) h.1 ∙ ap (λ (xs : List ℕ). text ++ xs) g.1,
)

-- ---- tokens that can be read again

module _ {A L : Type 0} (is_readable : A → Bool) (is_readable_place : L → Bool) where
  abbrev pub IsPlain : Token A L → Type 0
  IsPlain (sign cs) = IsAscii cs
  IsPlain (attribute a) = is_readable a ≡ true
  IsPlain (location l) = is_readable_place l ≡ true

  abbrev pub ArePlain : List (Token A L) → Type 0
  ArePlain [] = Unit {0}
  ArePlain (t ∷ ts) = IsPlain t × ArePlain ts

  plain_more : (ts us : List (Token A L)) → ArePlain ts → ArePlain us → ArePlain (ts ++ us)
  plain_more [] us h g = g
  plain_more (t ∷ ts) us h g = (h.0, plain_more ts us h.1 g)

  plain_reference : (r : Reference A) → CanReadReference is_readable r → IsPlain (reference_token r)
  plain_reference (here a) good = good
  plain_reference (at_mark n) good = mark_ascii n good

  plain_members : (is_first : Bool) (ms : List (List ℕ × Reference A)) → CanReadMembers is_readable ms → ArePlain (members_from is_first ms)
  plain_members is_first [] good = tt
  plain_members is_first (m ∷ ms) good = (
    separator is_first,
    (identifier_ascii m.0 good.0, (ascii_at (codes " = ") refl, (plain_reference m.1 good.1, plain_members false ms good.2))),
  )
    where
      separator : (b : Bool) → IsAscii (separator_before b)
      separator true = ascii_at [] refl
      separator false = ascii_at (codes ", ") refl

  plain_place : (l : Option L) → CanReadPlace is_readable_place l → ArePlain (location_tokens l)
  plain_place None good = tt
  plain_place (Some l) good = (ascii_at (codes "@[") refl, (good, (ascii_at (codes "], ") refl, tt)))

  plain_entry : (e : Entry A L) → CanReadEntry is_readable is_readable_place e → ArePlain (entry_tokens e)
  plain_entry (bracketed l ms) good =
      plain_more (location_tokens l) (sign (codes "[") ∷ (members_from true ms ++ sign (codes "]") ∷ [])) (plain_place l good.0)
      (ascii_at (codes "[") refl, plain_more (members_from true ms) (sign (codes "]") ∷ []) (plain_members true ms good.1) (ascii_at (codes "]") refl, tt))
  plain_entry (single a) good = (good, tt)

  plain_lines : (es : Section A L) → CanReadSection is_readable is_readable_place es → ArePlain (flat_map line_tokens es)
  plain_lines [] good = tt
  plain_lines (e ∷ es) good = plain_more (line_tokens e) (flat_map line_tokens es)
      (mark_ascii e.0 good.0, (ascii_at (codes " = ") refl, plain_more (entry_tokens e.1) (sign (codes "\n") ∷ []) (plain_entry e.1 good.1) (ascii_at (codes "\n") refl, tt)))
      (plain_lines es good.2)

  plain_section : (s : Section A L) → CanReadSection is_readable is_readable_place s → ArePlain (section_tokens s)
  plain_section [] good = tt
  plain_section (e ∷ es) good = (ascii_at (codes "\noutlined_attributes:\n") refl, plain_lines (e ∷ es) good)

  -- ---- their characters

  module _ (prints_attribute : A → List ℕ → Type 0) (prints_location : L → List ℕ → Type 0) (attribute_text : A → List ℕ) (location_text : L → List ℕ)
      (attributes : (a : A) (bytes : List ℕ) → is_readable a ≡ true → prints_attribute a bytes → IsUtf8Of (attribute_text a) bytes)
      (locations : (l : L) (bytes : List ℕ) → is_readable_place l ≡ true → prints_location l bytes → IsUtf8Of (location_text l) bytes) where
    token_text : (t : Token A L) (bytes : List ℕ) → IsPlain t → IsTokenText prints_attribute prints_location t bytes
        → IsUtf8Of (characters_of attribute_text location_text t) bytes
    token_text (sign cs) bytes plain is = subst (λ (xs : List ℕ). IsUtf8Of cs xs) (sym is) (ascii_text cs plain)
    token_text (attribute a) bytes plain h = attributes a bytes plain h
    token_text (location l) bytes plain h = locations l bytes plain h

    tokens_text : (ts : List (Token A L)) (old new text : List ℕ) → ArePlain ts → IsUtf8Of text old → AddsTokens prints_attribute prints_location old ts new
        → IsUtf8Of (text ++ printed attribute_text location_text ts []) new
    tokens_text [] old new text plain h folds =
        subst (λ (xs : List ℕ). IsUtf8Of (text ++ []) xs) folds (subst (λ (xs : List ℕ). IsUtf8Of xs old) (sym (append-nil text)) h)
    tokens_text (t ∷ ts) old new text plain h (j, (bytes, holds, is), folds) =
        let characters : List ℕ = characters_of attribute_text location_text t in
        let here : IsUtf8Of (text ++ characters) j =
        subst (λ (xs : List ℕ). IsUtf8Of (text ++ characters) xs) (sym is) (text_more text characters old bytes h (token_text t bytes plain.0 holds)) in
        subst (λ (xs : List ℕ). IsUtf8Of xs new) (append_assoc text characters (printed attribute_text location_text ts []))
        (tokens_text ts j new (text ++ characters) plain.1 here folds)

    pub section_text : (s : Section A L) (bytes : List ℕ) → CanReadSection is_readable is_readable_place s
        → AddsTokens prints_attribute prints_location [] (section_tokens s) bytes
        → IsUtf8Of (printed attribute_text location_text (section_tokens s) []) bytes
    section_text s bytes good h = tokens_text (section_tokens s) [] bytes [] (plain_section s good) (ascii_text [] (ascii_at [] refl)) h

-- characters behind a printed section
pub printed_rest : {A L : Type 0} (attribute_text : A → List ℕ) (location_text : L → List ℕ) (ts : List (Token A L)) (rest : List ℕ)
    → printed attribute_text location_text ts [] ++ rest ≡ printed attribute_text location_text ts rest
printed_rest at lt [] rest = refl
printed_rest at lt (t ∷ ts) rest = append_assoc (characters_of at lt t) (printed at lt ts []) rest ∙ ap (λ (cs : List ℕ). characters_of at lt t ++ cs) (printed_rest at lt ts rest)
