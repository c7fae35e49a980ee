-- The kinds of a layout's tokens, and which signs take them.
use Rattle.std.proofs.Common.{◌≡◌, ℕ, suc, ◌++◌, ◌+◌, ◌-◌, ◌<◌, ◌≤◌, ◌^◌, List, [], ◌∷◌, Option, Some, None, Bool, true, false, ◌&&◌, ◌||◌, ◌==◌, if◌then◌else◌, nat_lt, length, slice_get, refl, sym, ap, ◌∙◌, ◌⊎◌, inl, inr, arith}
use Rattle.std.specs.Prelude.{slice_index_or}
use Rattle.std.specs.Char.{digit_value}
use Rattle.std.specs.Option.{option_map}
use Rattle.std.specs.List.{list_all}
use Rattle.std.specs.Fmt.{decimal}
use Rattle.std.specs.Str.Parse.{IsNumeral, AllDigits}
use Rattle.std.proofs.lemmas.Bool.{cases_lt, eq-eqb, lt-ltb, ltb-true}
use Rattle.std.proofs.lemmas.Bool.Decides.{nat_tests}
use Rattle.std.proofs.lemmas.Fmt.{decimal_is_IsNumeral}
use Rattle.std.proofs.lemmas.List.FromFn.{get_or-map-range_with_len, length-map-range_with_len}
use Rattle.std.proofs.lemmas.Option.{slice_get-map, slice_get_read}
use Rattle.ir_names.specs.declared.kinds.Signedness.{Signedness}
use Rattle.ir_names.specs.declared.kinds.Signedness.TheVariants.{Signless, Signed, Unsigned}
use Rattle.ir_names.specs.Text.{is_first_code, is_later_code, is_identifier}
use Rattle.ir_print.specs.Formats.{Formats}
use Rattle.ir_print.specs.Layout.{width_text, number_text, mark_text, escaped, in_quotes}
use Rattle.ir_grammar.specs.declared.grammar.Class.{Class}
use Rattle.ir_grammar.specs.declared.grammar.Grammar.{Grammar}
use Rattle.ir_tokens.specs.declared.tokens.TokenKind.{TokenKind}
use Rattle.ir_tokens.specs.declared.tokens.TokenKind.TheVariants as kinds
use Rattle.ir_grammar.specs.Grammar.{accepted, accepts}
use Rattle.ir_tokens.specs.Tokens.{is_letter, is_digit}
use Rattle.ir_formats.specs.Words.{is_width, are_digits, are_whole, is_quotation, is_spelled, word_kind, shape_kind}
use Rattle.ir_formats.specs.Rules.{number_of, up, is_name, takes, class_of, classes_of, words_of, plain_classes}
use Rattle.ir_rereading.proofs.layouts.Marks.{has_dot, behind_minus, other_kind, kind_of_text, kind_by}
use Rattle.ir_formats.proofs.Spelled.{number_at}
use Rattle.ir_rereading.proofs.layouts.Among.{IsAmong, number_below, among_below}
use Rattle.ir_rereading.proofs.layouts.PlainWords.{Tested, is_word_among, not_width, word_spelled}
use Rattle.ir_formats.proofs.Booleans.{both_hold, neither_holds}

and_true : (a b : Bool) → a ≡ true → b ≡ true → a && b ≡ true
and_true true b d e = e
and_true false b d e = cc

-- ---- the sort of an identifier

first_letter : (c : ℕ) → is_first_code c ≡ true → is_letter c ≡ true
first_letter c h = grind (arith, nat_tests)

later_no_dot : (c : ℕ) → is_later_code c ≡ true → (c == 46) ≡ false
later_no_dot c h = grind (arith, nat_tests)

or_false : (a b : Bool) → a ≡ false → b ≡ false → a || b ≡ false
or_false true b d e = cc
or_false false b d e = e

no_dots : (cs : List ℕ) → list_all is_later_code cs ≡ true → has_dot cs ≡ false
no_dots [] h = refl
no_dots (c ∷ cs) h = let t = both_hold (is_later_code c) (list_all is_later_code cs) h in or_false (c == 46) (has_dot cs) (later_no_dot c t.0) (no_dots cs t.1)

identifier_sort : (cs : List ℕ) → is_identifier cs ≡ true → kind_of_text cs ≡ kinds.Name
identifier_sort [] h = cc
identifier_sort (c ∷ cs) h =
    let t = both_hold (is_first_code c) (list_all is_later_code cs) h in
    go (is_letter c) (has_dot cs) (if is_digit c then kinds.Digits else (if c == 45 then behind_minus cs else other_kind c)) (first_letter c t.0) (no_dots cs t.1)
  where
    go : (a b : Bool) (k : TokenKind) → a ≡ true → b ≡ false → (if a then (if b then kinds.Dotted else kinds.Name) else k) ≡ kinds.Name
    go true true k d e = cc
    go true false k d e = refl
    go false b k d e = cc

-- ---- numbers

digit_is : (c : ℕ) → digit_value c < 10 → is_digit c ≡ true
digit_is c h = grind (arith, nat_tests)

digit_later : (c : ℕ) → is_digit c ≡ true → is_later_code c ≡ true
digit_later c h = grind (arith, nat_tests)

all_digits : (ds : List ℕ) → AllDigits 10 ds → list_all is_digit ds ≡ true
all_digits [] h = refl
all_digits (c ∷ cs) h = and_true (is_digit c) (list_all is_digit cs) (digit_is c h.0) (all_digits cs h.1)

all_later : (ds : List ℕ) → list_all is_digit ds ≡ true → list_all is_later_code ds ≡ true
all_later [] h = refl
all_later (c ∷ cs) h = let t = both_hold (is_digit c) (list_all is_digit cs) h in and_true (is_later_code c) (list_all is_later_code cs) (digit_later c t.0) (all_later cs t.1)

some_digits : (ds : List ℕ) → IsNumeral 10 ds → are_digits ds ≡ true
some_digits [] h = absurd (let z : 0 < 0 = h.0 in omega arith)
some_digits (c ∷ cs) h = and_true (list_all is_digit (c ∷ cs)) (nat_lt 0 (suc (length cs))) (all_digits (c ∷ cs) h.1) (lt-ltb 0 (suc (length cs)) (omega arith))

pub decimal_digits : (n : ℕ) → n < 2 ^ 64 → are_digits (decimal n) ≡ true
decimal_digits n h = some_digits (decimal n) (decimal_is_IsNumeral n h).0

digits_later : (ds : List ℕ) → are_digits ds ≡ true → list_all is_later_code ds ≡ true
digits_later ds h = all_later ds (both_hold (list_all is_digit ds) (nat_lt 0 (length ds)) h).0

digit_sort : (c : ℕ) (k : TokenKind) (l : TokenKind) → is_digit c ≡ true → (if is_letter c then k else (if is_digit c then kinds.Digits else l)) ≡ kinds.Digits
digit_sort c k l h = go (is_letter c) (is_digit c) (grind (arith, nat_tests)) h
  where
    go : (a b : Bool) → a ≡ false → b ≡ true → (if a then k else (if b then kinds.Digits else l)) ≡ kinds.Digits
    go false true d e = refl
    go true b d e = cc
    go false false d e = cc

digits_sort : (ds : List ℕ) → are_digits ds ≡ true → kind_of_text ds ≡ kinds.Digits
digits_sort [] h = cc
digits_sort (c ∷ cs) h =
    let t = both_hold (list_all is_digit (c ∷ cs)) (nat_lt 0 (suc (length cs))) h in
    let u = both_hold (is_digit c) (list_all is_digit cs) t.0 in
    digit_sort c (if has_dot cs then kinds.Dotted else kinds.Name) (if c == 45 then behind_minus cs else other_kind c) u.0

negative_sort : (ds : List ℕ) → are_digits ds ≡ true → kind_of_text (45 ∷ ds) ≡ kinds.Negative
negative_sort [] h = cc
negative_sort (c ∷ cs) h =
    let t = both_hold (list_all is_digit (c ∷ cs)) (nat_lt 0 (suc (length cs))) h in
    let u = both_hold (is_digit c) (list_all is_digit cs) t.0 in
    go (c == 62) (let d = u.0 in grind (arith, nat_tests))
  where
    go : (b : Bool) → b ≡ false → (if b then kinds.Arrow else kinds.Negative) ≡ kinds.Negative
    go true e = cc
    go false e = refl

-- ---- texts in quotes

-- the text between quotes is whole
escaped_whole : (cs : List ℕ) → are_whole (escaped cs ++ 34 ∷ []) ≡ true
escaped_whole [] = refl
escaped_whole (c ∷ cs) = go (c == 34 || c == 92) (c == 92) (c == 34) refl refl refl (escaped_whole cs)
  where
    go : (b d e : Bool) → (c == 34 || c == 92) ≡ b → (c == 92) ≡ d → (c == 34) ≡ e → are_whole (escaped cs ++ 34 ∷ []) ≡ true → are_whole ((if b then 92 ∷ c ∷ escaped cs else c ∷ escaped cs) ++ 34 ∷ []) ≡ true
    go true d e special back front h = rw (special, h) refl
    go false true e special back front h = let wrong : true ≡ false = (sym back ∙ (neither_holds (c == 34) (c == 92) special).1) in cc
    go false false true special back front h = let wrong : true ≡ false = (sym front ∙ (neither_holds (c == 34) (c == 92) special).0) in cc
    go false false false special back front h = rw (back, front) h

quotation_whole : (cs : List ℕ) → is_quotation (in_quotes cs) ≡ true
quotation_whole cs = escaped_whole cs

-- ---- widths

width_identifier : (s : Signedness) (n : ℕ) → n < 2 ^ 32 → is_identifier (width_text s n) ≡ true
width_identifier Signless n h = digits_later (decimal n) (decimal_digits n (omega arith))
width_identifier Signed n h = digits_later (decimal n) (decimal_digits n (omega arith))
width_identifier Unsigned n h = digits_later (decimal n) (decimal_digits n (omega arith))

width_is : (s : Signedness) (n : ℕ) → n < 2 ^ 32 → is_width (width_text s n) ≡ true
width_is Signless n h = decimal_digits n (omega arith)
width_is Signed n h = decimal_digits n (omega arith)
width_is Unsigned n h = decimal_digits n (omega arith)

-- ---- kinds

-- the kind of a token of this sort
abbrev kind_sort : List (List ℕ) → TokenKind → List ℕ → ℕ
kind_sort ws k cs = if is_spelled k then word_kind (number_of ws cs) (length ws) (shape_kind k cs) else shape_kind k cs

word_kind_in : (n len shape : ℕ) → n < len → n < 4294967288 → word_kind n len shape ≡ n + 7
word_kind_in n len shape h k = go (nat_lt n len && nat_lt n 4294967288) (and_true (nat_lt n len) (nat_lt n 4294967288) (lt-ltb n len h) (lt-ltb n 4294967288 k))
  where
    go : (b : Bool) → b ≡ true → (if b then n + 7 else shape) ≡ n + 7
    go true e = refl
    go false e = cc

word_kind_out : (n len shape : ℕ) → len ≤ n → word_kind n len shape ≡ shape
word_kind_out n len shape h = go (nat_lt n len && nat_lt n 4294967288) refl
  where
    go : (b : Bool) → nat_lt n len && nat_lt n 4294967288 ≡ b → (if b then n + 7 else shape) ≡ shape
    go true e = let lt = ltb-true n len (both_hold (nat_lt n len) (nat_lt n 4294967288) e).0 in absurd (omega arith)
    go false e = refl

spelled_kind : (ws : List (List ℕ)) (k : TokenKind) (cs : List ℕ) → is_spelled k ≡ true → kind_sort ws k cs ≡ word_kind (number_of ws cs) (length ws) (shape_kind k cs)
spelled_kind ws k cs h = go (is_spelled k) h
  where
    go : (b : Bool) → b ≡ true → (if b then word_kind (number_of ws cs) (length ws) (shape_kind k cs) else shape_kind k cs) ≡ word_kind (number_of ws cs) (length ws) (shape_kind k cs)
    go true e = refl
    go false e = cc

up_is : (n : ℕ) → n < 65536 → up n 6 ≡ suc (suc (suc (suc (suc (suc n)))))
up_is n h = omega arith

takes_word : (ws : List (List ℕ)) (n : ℕ) → takes ws (suc (suc (suc (suc (suc (suc n)))))) (n + 7) ≡ true
takes_word ws n = eq-eqb (n + 7) (n + 7) refl

takes_name : (ws : List (List ℕ)) (n : ℕ) (cs : List ℕ) → slice_get ws n ≡ Some cs → is_identifier cs ≡ true → takes ws 0 (n + 7) ≡ true
takes_name ws n cs at h = go (nat_lt (n + 7) 7) (grind (arith, nat_tests)) (let same : n + 7 - 7 ≡ n = omega arith in ap (slice_get ws) same ∙ at)
  where
    go : (b : Bool) → b ≡ false → slice_get ws (n + 7 - 7) ≡ Some cs → (if b then (n + 7) == 0 || (n + 7) == 1 else is_name (slice_get ws (n + 7 - 7))) ≡ true
    go true e o = cc
    go false e o = ap is_name o ∙ h

takes_shape : (ws : List (List ℕ)) (b : Bool) → takes ws 0 (if b then 1 else 0) ≡ true
takes_shape ws true = refl
takes_shape ws false = refl

shape_small : (n : ℕ) (b : Bool) → (if b then 1 else 0) < n + 7
shape_small n true = omega arith
shape_small n false = omega arith

-- ---- signs

row_takes : (o : Option Class) (row : List Bool) (k : ℕ) → option_map (λ (c : Class). c.kinds.items) o ≡ Some row → slice_index_or row k false ≡ true → accepted o k ≡ true
row_takes None row k e h = cc
row_takes (Some c) row k e h = let same : c.kinds.items ≡ row = let t : Some c.kinds.items ≡ Some row = e in cc in ap (λ r. slice_index_or r k false) same ∙ h

module _ (g : Grammar) (f : Formats) (signs : plain_classes g.signs.items ≡ classes_of (words_of f)) (t : Tested f) where
  accepts_takes : (s k : ℕ) → s < length (words_of f) + 6 → k < length (words_of f) + 7 → takes (words_of f) s k ≡ true → accepts g s k ≡ true
  accepts_takes s k ss kk h =
      let ws = words_of f in
      let row : slice_get (classes_of ws) s ≡ Some (class_of ws s) =
      slice_get_read (classes_of ws) (length ws + 6) s (class_of ws s) (sym (length-map-range_with_len (class_of ws) 0 (length ws + 6))) ss (sym (get_or-map-range_with_len (class_of ws) 0 (length ws + 6) s s (class_of ws s) ss (omega arith))) in
      row_takes (slice_get g.signs.items s) (class_of ws s) k (sym (slice_get-map (λ (c : Class). c.kinds.items) g.signs.items s) ∙ ap (λ cs. slice_get cs s) signs ∙ row)
      (get_or-map-range_with_len (takes ws s) 0 (length ws + 7) k k false kk (omega arith) ∙ h)

  -- a word of the formats is taken by its sign
  pub word_accepted : (w : List ℕ) → IsAmong w (words_of f) → accepts g (up (number_of (words_of f) w) 6) (kind_by (words_of f) w) ≡ true
  word_accepted w h =
      let ws = words_of f in
      let n = number_of ws w in
      let lt : n < length ws = number_below ws w h in
      let few = t.words in
      let kind : kind_by ws w ≡ n + 7 = spelled_kind ws (kind_of_text w) w (word_spelled w (is_word_among f t w h)) ∙ word_kind_in n (length ws) (shape_kind (kind_of_text w) w) lt (omega arith) in
      let sign : up n 6 ≡ suc (suc (suc (suc (suc (suc n))))) = up_is n (omega arith) in
      rw (sign, kind) (accepts_takes (suc (suc (suc (suc (suc (suc n)))))) (n + 7) (omega arith) (omega arith) (takes_word ws n))

  name_kind : (cs : List ℕ) → is_identifier cs ≡ true → kind_by (words_of f) cs ≡ word_kind (number_of (words_of f) cs) (length (words_of f)) (if is_width cs then 1 else 0)
  name_kind cs h = ap (λ k. kind_sort (words_of f) k cs) (identifier_sort cs h)

  -- an identifier is taken by the sign of names
  pub name_accepted : (cs : List ℕ) → is_identifier cs ≡ true → accepts g 0 (kind_by (words_of f) cs) ≡ true
  name_accepted cs h = go (cases_lt (number_of (words_of f) cs) (length (words_of f)))
    where
      ws : List (List ℕ)
      ws = words_of f

      n : ℕ
      n = number_of (words_of f) cs

      go : (number_of (words_of f) cs < length (words_of f)) ⊎ (length (words_of f) ≤ number_of (words_of f) cs) → accepts g 0 (kind_by (words_of f) cs) ≡ true
      go (inl lt) =
          let few = t.words in
          let kind : kind_by (words_of f) cs ≡ number_of (words_of f) cs + 7 = name_kind cs h ∙ word_kind_in (number_of (words_of f) cs) (length (words_of f)) (if is_width cs then 1 else 0) lt (omega arith) in
          rw kind (accepts_takes 0 (number_of (words_of f) cs + 7) (omega arith) (omega arith) (takes_name (words_of f) (number_of (words_of f) cs) cs (number_at (words_of f) cs lt) h))
      go (inr le) =
          let kind : kind_by (words_of f) cs ≡ (if is_width cs then 1 else 0) = name_kind cs h ∙ word_kind_out (number_of (words_of f) cs) (length (words_of f)) (if is_width cs then 1 else 0) le in
          rw kind (accepts_takes 0 (if is_width cs then 1 else 0) (omega arith) (shape_small (length (words_of f)) (is_width cs)) (takes_shape (words_of f) (is_width cs)))

  no_width_among : (cs : List ℕ) → is_width cs ≡ true → number_of (words_of f) cs < length (words_of f) → ⊥
  no_width_among cs h lt = let w = not_width cs (is_word_among f t cs (among_below (words_of f) cs lt)) in cc

  -- a width is taken by that of widths
  pub width_accepted : (s : Signedness) (n : ℕ) → n < 2 ^ 32 → accepts g 1 (kind_by (words_of f) (width_text s n)) ≡ true
  width_accepted s n h =
      let ws = words_of f in
      let cs = width_text s n in
      let out : length ws ≤ number_of ws cs = elim (cases_lt (number_of ws cs) (length ws)) [ inl lt ↦ absurd (no_width_among cs (width_is s n h) lt) | inr le ↦ le ] in
      let kind : kind_by ws cs ≡ 1 = name_kind cs (width_identifier s n h) ∙ word_kind_out (number_of ws cs) (length ws) (if is_width cs then 1 else 0) out ∙ ap (λ (b : Bool). if b then 1 else 0) (width_is s n h) in
      rw kind (accepts_takes 1 1 (omega arith) (omega arith) refl)

  -- and a number by that of numbers
  pub number_accepted : (negative : Bool) (n : ℕ) → n < 2 ^ 64 → accepts g 2 (kind_by (words_of f) (number_text negative n)) ≡ true
  number_accepted true n h =
      let kind : kind_by (words_of f) (45 ∷ decimal n) ≡ 3 = ap (λ k. kind_sort (words_of f) k (45 ∷ decimal n)) (negative_sort (decimal n) (decimal_digits n h)) in
      rw kind (accepts_takes 2 3 (omega arith) (omega arith) refl)
  number_accepted false n h =
      let kind : kind_by (words_of f) (decimal n) ≡ 2 = ap (λ k. kind_sort (words_of f) k (decimal n)) (digits_sort (decimal n) (decimal_digits n h)) in
      rw kind (accepts_takes 2 2 (omega arith) (omega arith) refl)

  -- a number without a sign by that of these
  pub digits_accepted : (n : ℕ) → n < 2 ^ 64 → accepts g 3 (kind_by (words_of f) (decimal n)) ≡ true
  digits_accepted n h =
      let kind : kind_by (words_of f) (decimal n) ≡ 2 = ap (λ k. kind_sort (words_of f) k (decimal n)) (digits_sort (decimal n) (decimal_digits n h)) in
      rw kind (accepts_takes 3 2 (omega arith) (omega arith) refl)

  -- and a text in quotes by that of these
  pub quotation_accepted : (cs : List ℕ) → accepts g 4 (kind_by (words_of f) (in_quotes cs)) ≡ true
  quotation_accepted cs =
      let kind : kind_by (words_of f) (in_quotes cs) ≡ 4 = ap (λ (b : Bool). if b then 4 else 6) (quotation_whole cs) in
      rw kind (accepts_takes 4 4 (omega arith) (omega arith) refl)

  -- and a mark by that of marks
  pub mark_accepted : (n : ℕ) → n < 2 ^ 64 → accepts g 5 (kind_by (words_of f) (mark_text n)) ≡ true
  mark_accepted n h = accepts_takes 5 5 (omega arith) (omega arith) refl
