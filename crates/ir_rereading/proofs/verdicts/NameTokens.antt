-- Tokens that the sign of names takes are identifiers.
use Rattle.std.proofs.Common.{◌≡◌, ℕ, zero, suc, ◌+◌, ◌-◌, ◌<◌, ◌≤◌, List, [], ◌∷◌, Option, Some, None, Bool, true, false, ◌&&◌, ◌||◌, ◌==◌, nat_lt, nat_le, if◌then◌else◌, map, length, drop, get_or, slice_get, slice_range, refl, sym, subst, ap, ◌∙◌, ◌⊎◌, inl, inr, arith}
use Rattle.std.specs.Prelude.{slice_index_or}
use Rattle.std.specs.Option.{option_map}
use Rattle.std.specs.List.{list_all}
use Rattle.std.specs.Str.{chars, IsAscii}
use Rattle.std.proofs.lemmas.Bool.{cases_lt}
use Rattle.std.proofs.lemmas.Bool.Decides.{nat_tests}
use Rattle.std.proofs.lemmas.List.{get_or-drop, get_or-take, get_or_past, length-take, length-drop}
use Rattle.std.proofs.lemmas.List.FromFn.{get_or-map-range_with_len, length-map-range_with_len}
use Rattle.std.proofs.lemmas.Option.{slice_get-map}
use Rattle.std.proofs.lemmas.Str.{chars-IsAscii}
use Rattle.ir_names.specs.Text.{is_first_code, is_later_code, is_identifier}
use Rattle.ir_grammar.specs.declared.grammar.Class.{Class}
use Rattle.ir_tokens.specs.declared.tokens.TokenKind.{TokenKind}
use Rattle.ir_tokens.specs.declared.tokens.TokenKind.TheVariants.{Name, Digits, Negative, Text}
use Rattle.ir_tokens.specs.declared.tokens.Token.{Token}
use Rattle.ir_tokens.specs.Tokens.{IsName, Spells, IsToken}
use Rattle.ir_formats.specs.Words.{text_of, is_quotation, shape_kind, is_spelled, word_kind, kind_of}
use Rattle.ir_grammar.specs.Grammar.{accepted}
use Rattle.ir_formats.specs.Rules.{number_of, is_name, may_be_name, takes, class_of, classes_of, plain_classes}
use Rattle.ir_formats.proofs.Spelled.{number_at}
use Rattle.ir_formats.proofs.Booleans.{both_hold}

and_true : (a b : Bool) → a ≡ true → b ≡ true → a && b ≡ true
and_true true b d e = e
and_true false b d e = cc

-- ---- identifiers

all_later : (cs : List ℕ) → ((k : ℕ) → k < length cs → is_later_code (get_or cs k 0) ≡ true) → list_all is_later_code cs ≡ true
all_later [] h = refl
all_later (c ∷ cs) h = and_true (is_later_code c) (list_all is_later_code cs) (h 0 (omega arith)) (all_later cs (λ k lt. h (suc k) (omega arith)))

-- a letter, and then what may stand in a name
identifier_by : (cs : List ℕ) → 0 < length cs → is_first_code (get_or cs 0 0) ≡ true → ((k : ℕ) → k < length cs → is_later_code (get_or cs k 0) ≡ true) → is_identifier cs ≡ true
identifier_by [] lt first later = absurd (omega arith)
identifier_by (c ∷ cs) lt first later = and_true (is_first_code c) (list_all is_later_code cs) first (all_later cs (λ k below. later (suc k) (omega arith)))

name_identifier : (cs : List ℕ) (i j : ℕ) → j ≤ length cs → IsName cs i j → is_identifier (slice_range cs i j) ≡ true
name_identifier cs i j inside name =
    let long : length (slice_range cs i j) ≡ j - i = omega (arith, length-take (j - i) (drop i cs), length-drop i cs, name.0) in
    let at : (k : ℕ) → k < j - i → get_or (slice_range cs i j) k 0 ≡ get_or cs (i + k) 0 = λ k lt. get_or-take (j - i) (drop i cs) k 0 lt ∙ get_or-drop i cs k 0 in
    let first : get_or (slice_range cs i j) 0 0 ≡ get_or cs i 0 = at 0 (omega (arith, name.0)) ∙ ap (λ m. get_or cs m 0) (omega arith) in
    identifier_by (slice_range cs i j) (omega (arith, long, name.0)) (rw first name.1)
    (λ k lt. rw (at k (omega (arith, long, lt))) (name.2 (i + k) (omega arith) (omega (arith, long, lt, name.0))))

ascii_first : (c : ℕ) → is_first_code c ≡ true → c < 128
ascii_first c h = grind (arith, nat_tests)

ascii_later : (c : ℕ) → is_later_code c ≡ true → c < 128
ascii_later c h = grind (arith, nat_tests)

later_ascii : (cs : List ℕ) → list_all is_later_code cs ≡ true → IsAscii cs
later_ascii [] h i = omega arith
later_ascii (c ∷ cs) h zero = ascii_later c (both_hold (is_later_code c) (list_all is_later_code cs) h).0
later_ascii (c ∷ cs) h (suc i) = later_ascii cs (both_hold (is_later_code c) (list_all is_later_code cs) h).1 i

-- an identifier is its own characters
identifier_ascii : (cs : List ℕ) → is_identifier cs ≡ true → IsAscii cs
identifier_ascii [] h i = cc
identifier_ascii (c ∷ cs) h zero = ascii_first c (both_hold (is_first_code c) (list_all is_later_code cs) h).0
identifier_ascii (c ∷ cs) h (suc i) = later_ascii cs (both_hold (is_first_code c) (list_all is_later_code cs) h).1 i

-- ---- tokens by their shape

module _ (ws : List (List ℕ)) where
  -- a text in quotes is no name
  pub quoted_no_name : (b : Bool) → may_be_name ws (if b then 4 else 6) ≡ true → ⊥
  quoted_no_name true h = let wrong : false ≡ true = h in cc
  quoted_no_name false h = let wrong : false ≡ true = h in cc

  shape_name : (k : TokenKind) (text : List ℕ) → may_be_name ws (shape_kind k text) ≡ true → k ≡ Name
  shape_name Name text h = refl
  shape_name Digits text h = cc
  shape_name Negative text h = cc
  shape_name Text text h = absurd (quoted_no_name (is_quotation text) h)
  shape_name _ text h = cc

  name_text : (cs : List ℕ) (t : Token) → IsToken cs t → t.kind ≡ Name → is_identifier (text_of cs t) ≡ true
  name_text cs t token e = go (nat_le t.start t.end && nat_le t.end (length cs)) inside
    where
      name : IsName cs t.start t.end
      name = subst (Spells cs t.start t.end) e token.spelled

      inside : nat_le t.start t.end && nat_le t.end (length cs) ≡ true
      inside = let a = name.0 in let b = token.inside in grind (arith, nat_tests)

      go : (b : Bool) → b ≡ true → is_identifier (if b then slice_range cs t.start t.end else []) ≡ true
      go true h = name_identifier cs t.start t.end token.inside name
      go false h = cc

  -- ---- tokens that are words

  word_text : (text : List ℕ) (o : Option (List ℕ)) → is_name o ≡ true → option_map chars o ≡ Some text → is_identifier text ≡ true
  word_text text None h e = cc
  word_text text (Some w) h e =
      let same : chars w ≡ text = cc in
      subst (λ (x : List ℕ). is_identifier x ≡ true) (sym (chars-IsAscii w (identifier_ascii w h)) ∙ same) h

  word_place : (n : ℕ) → may_be_name ws (n + 7) ≡ true → is_name (slice_get ws n) ≡ true
  word_place n h = go (nat_lt (n + 7) 7) (grind (arith, nat_tests)) h
    where
      go : (b : Bool) → b ≡ false → (if b then (n + 7) == 0 || (n + 7) == 1 else is_name (slice_get ws (n + 7 - 7))) ≡ true → is_name (slice_get ws n) ≡ true
      go true e h = cc
      go false e h = let same : n + 7 - 7 ≡ n = omega arith in rw same at h

  spelled_name : (cs : List ℕ) (t : Token) → IsToken cs t → may_be_name ws (word_kind (number_of (map chars ws) (text_of cs t)) (length (map chars ws)) (shape_kind t.kind (text_of cs t))) ≡ true
      → is_identifier (text_of cs t) ≡ true
  spelled_name cs t token h = go (nat_lt n (length (map chars ws)) && nat_lt n 4294967288) refl h
    where
      n : ℕ
      n = number_of (map chars ws) (text_of cs t)

      go : (b : Bool) → nat_lt n (length (map chars ws)) && nat_lt n 4294967288 ≡ b → may_be_name ws (if b then n + 7 else shape_kind t.kind (text_of cs t)) ≡ true → is_identifier (text_of cs t) ≡ true
      go true e h =
          let less : n < length (map chars ws) = let a = (both_hold (nat_lt n (length (map chars ws))) (nat_lt n 4294967288) e).0 in grind (arith, nat_tests) in
          word_text (text_of cs t) (slice_get ws n) (word_place n h) (sym (slice_get-map chars ws n) ∙ number_at (map chars ws) (text_of cs t) less)
      go false e h = name_text cs t token (shape_name t.kind (text_of cs t) h)

  pub name_token : (cs : List ℕ) (t : Token) → IsToken cs t → may_be_name ws (kind_of (map chars ws) cs t) ≡ true → is_identifier (text_of cs t) ≡ true
  name_token cs t token h = go (is_spelled t.kind) h
    where
      go : (b : Bool) → may_be_name ws (if b then word_kind (number_of (map chars ws) (text_of cs t)) (length (map chars ws)) (shape_kind t.kind (text_of cs t)) else shape_kind t.kind (text_of cs t)) ≡ true
          → is_identifier (text_of cs t) ≡ true
      go true h = spelled_name cs t token h
      go false h = name_text cs t token (shape_name t.kind (text_of cs t) h)

  -- ---- the sign of names

  class_name : (k : ℕ) → slice_index_or (class_of ws 0) k false ≡ true → may_be_name ws k ≡ true
  class_name k h = go (cases_lt k (length ws + 7))
    where
      go : (k < length ws + 7) ⊎ (length ws + 7 ≤ k) → may_be_name ws k ≡ true
      go (inl less) = sym (get_or-map-range_with_len (takes ws 0) 0 (length ws + 7) k k false less (omega arith)) ∙ h
      go (inr more) =
          let past : slice_index_or (class_of ws 0) k false ≡ false = get_or_past (class_of ws 0) k false (omega (arith, length-map-range_with_len (takes ws 0) 0 (length ws + 7))) in
          let wrong : false ≡ true = sym past ∙ h in cc

  pub accepted_name : (cs : List Class) (k : ℕ) → plain_classes cs ≡ classes_of ws → accepted (slice_get cs 0) k ≡ true → may_be_name ws k ≡ true
  accepted_name [] k e h = cc
  accepted_name (c ∷ cs) k e h =
      let row : c.kinds.items ≡ class_of ws 0 = ap (λ xs. get_or xs 0 []) e ∙ get_or-map-range_with_len (class_of ws) 0 (length ws + 6) 0 0 [] (omega arith) refl in
      class_name k (subst (λ (x : List Bool). slice_index_or x k false ≡ true) row h)
