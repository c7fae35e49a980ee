-- Places in a text without a name, and unknown ones, are read as they were printed.
use Rattle.std.proofs.Common.{◌≡◌, inl, inr, ℕ, ◌<◌, ◌^◌, Bool, true, false, List, [], ◌∷◌, ◌++◌, Some, Ok, arith, refl, sym, ◌∙◌, ap, subst, decimal}
use Rattle.std.specs.Prelude.{codes, encode_utf8_all, not}
use Rattle.std.specs.Char.{is_digit, is_whitespace}
use Rattle.std.specs.List.{list_all, take_while}
use Rattle.std.specs.Str.Parse.{IsNumeral}
use Rattle.std.specs.declared.num.ParseIntError.{ParseIntError}
use Rattle.std.proofs.lemmas.Bool.{lt-ltb}
use Rattle.std.proofs.lemmas.Bool.Decides.{nat_tests}
use Rattle.std.proofs.lemmas.Fmt.{decimal_is_IsNumeral, IsAscii-decimal, parse-decimal}
use Rattle.std.proofs.lemmas.List.{append_assoc, append_cancel_left}
use Rattle.std.proofs.lemmas.Str.{encodes-IsAscii}
use Rattle.ir_locations.specs.declared.location.Location.{Location}
use Rattle.ir_locations.specs.declared.location.Location.TheVariants as whole
use Rattle.ir_locations.specs.declared.source.Source.{Source}
use Rattle.ir_locations.specs.declared.source.Source.TheVariants as sources
use Rattle.text_locations.specs.Locations.{At, Parser, ReadsLocation}
use Rattle.text_locations.specs.Texts.{AnsweredTexts, IsForm, IsLabelled, IsLocationText, IsNumber, IsPlaceText, IsSource, IsSpaces, IsToken, LocationTexts, MetadataTexts}
use Rattle.text_locations.specs.Tokens.{has_token, token_text}
use Rattle.text_locations.specs.declared.tokens.Token.{Token}
use Rattle.text_locations.specs.declared.tokens.Token.TheVariants.{Unknown, InMemory, Colon, Comma, Opens, Closes, Less, Greater, Line, Column, Fused, Named, CallSite}
use Rattle.text_locations.proofs.TextLemmas.{text_is}
use Rattle.text_streams.specs.Numbers.{digits_text}
use Rattle.text_streams.specs.Positions.{left}
use Rattle.text_streams.specs.Quotes.{quoted_text, Said}
use Rattle.section_rereading.specs.Inverse.{begins_visibly}
use Rattle.section_rereading.specs.Places.{place_text}
use Rattle.section_rereading.proofs.MemberSteps.{not_so}
use Rattle.section_rereading.proofs.StreamSteps.{digits_pass, same_Ok, taken_up_to}

-- ---- tokens and numbers

behind_white : (cs here spaces text rest : List ℕ) → IsSpaces cs here → cs ≡ spaces ++ (text ++ rest) → list_all is_whitespace spaces ≡ true
    → begins_visibly text ≡ true → here ≡ text ++ rest
behind_white cs here spaces [] rest h is all visible = cc
behind_white cs here spaces (c ∷ text) rest h is all visible =
    let taken : take_while is_whitespace cs ≡ spaces = ap (take_while is_whitespace) is ∙ taken_up_to is_whitespace spaces c (text ++ rest) all (not_so (is_whitespace c) visible) in
    append_cancel_left spaces here ((c ∷ text) ++ rest) (ap (λ (xs : List ℕ). xs ++ here) (sym taken) ∙ sym h ∙ is)

token_visible : (t : Token) → begins_visibly (token_text t) ≡ true
token_visible Unknown = refl
token_visible InMemory = refl
token_visible Colon = refl
token_visible Comma = refl
token_visible Opens = refl
token_visible Closes = refl
token_visible Less = refl
token_visible Greater = refl
token_visible Line = refl
token_visible Column = refl
token_visible Fused = refl
token_visible Named = refl
token_visible CallSite = refl

token_read : (t : Token) (cs end spaces rest : List ℕ) → IsToken t cs end → cs ≡ spaces ++ (token_text t ++ rest) → list_all is_whitespace spaces ≡ true → end ≡ rest
token_read t cs end spaces rest (here, white, there) is all =
    append_cancel_left (token_text t) end rest (sym there.is ∙ behind_white cs here spaces (token_text t) rest white is all (token_visible t))

digit_visible : (c : ℕ) → is_digit c 10 ≡ true → is_whitespace c ≡ false
digit_visible c h = grind (arith, nat_tests)

number_visible : (ds : List ℕ) → IsNumeral 10 ds → begins_visibly ds ≡ true
number_visible [] h = absurd (omega (arith, h.0))
number_visible (d ∷ ds) h = ap not (digit_visible d (lt-ltb _ 10 h.1.0))

-- a space and a number
number_read : (cs end : List ℕ) (n m c : ℕ) (rest : List ℕ) → IsNumber cs m end → cs ≡ 32 ∷ (decimal n ++ c ∷ rest) → is_digit c 10 ≡ false → n < 2 ^ 64
    → (m ≡ n) × (end ≡ c ∷ rest)
number_read cs end n m c rest h is stop small =
    let numeral : IsNumeral 10 (decimal n) = (decimal_is_IsNumeral n small).0 in
    let here : h.here ≡ decimal n ++ c ∷ rest = behind_white cs h.here (32 ∷ []) (decimal n) (c ∷ rest) h.spaces is refl (number_visible (decimal n) numeral) in
    let digits : digits_text 10 h.here ≡ decimal n = ap (digits_text 10) here ∙ taken_up_to (λ x. is_digit x 10) (decimal n) c rest (digits_pass (decimal n) numeral.1) stop in
    let bytes : encode_utf8_all (digits_text 10 h.here) ≡ decimal n = ap encode_utf8_all digits ∙ encodes-IsAscii (decimal n) (IsAscii-decimal n small) in
    let number = parse-decimal {E = ParseIntError} 64 n (encode_utf8_all (digits_text 10 h.here)) (Ok m) small small bytes h.says in (
      same_Ok m n number,
      append_cancel_left (decimal n) end (c ∷ rest) (ap (λ (xs : List ℕ). xs ++ end) (sym digits) ∙ sym h.is ∙ here),
    )

-- `: line: 3`
labelled_read : (t label : Token) (cs end : List ℕ) (n m c : ℕ) (rest : List ℕ) → IsLabelled t label cs m end
    → cs ≡ token_text t ++ 32 ∷ (token_text label ++ 58 ∷ 32 ∷ (decimal n ++ c ∷ rest)) → is_digit c 10 ≡ false → n < 2 ^ 64 → (m ≡ n) × (end ≡ c ∷ rest)
labelled_read t label cs end n m c rest (a, first, b, second, d, third, number) is stop small =
    let one : a ≡ 32 ∷ (token_text label ++ 58 ∷ 32 ∷ (decimal n ++ c ∷ rest)) = token_read t cs a [] _ first is refl in
    let two : b ≡ 58 ∷ 32 ∷ (decimal n ++ c ∷ rest) = token_read label a b (32 ∷ []) _ second one refl in
    let three : d ≡ 32 ∷ (decimal n ++ c ∷ rest) = token_read Colon b d [] _ third two refl in
    number_read d end n m c rest number three stop small

-- ---- the forms

no_truth : false ≡ true → ⊥
no_truth e = cc

source_read : (s : Source) (cs more behind : List ℕ) → cs ≡ codes "<in-memory>" ++ more → IsSource cs s behind → (s ≡ sources.InMemory) × (behind ≡ more)
source_read sources.InMemory cs more behind is h = (refl, append_cancel_left (codes "<in-memory>") behind more (sym h.is ∙ is))
source_read (sources.File name) cs more behind is h = absurd (no_quotes more h.said (subst (λ (xs : List ℕ). quoted_text xs ≡ Some h.said) is h.there))
  where
    no_quotes : (more : List ℕ) (said : Said) → quoted_text (codes "<in-memory>" ++ more) ≡ Some said → ⊥
    no_quotes more said e = cc

-- the text of a place, with more behind it
place_rest : (line column c : ℕ) (rest : List ℕ) → List ℕ
place_rest line column c rest = codes "<in-memory>"
    ++ (token_text Colon ++ 32 ∷ (token_text Line ++ 58 ∷ 32 ∷ (decimal line ++ 44 ∷ 32 ∷ (token_text Column ++ 58 ∷ 32 ∷ (decimal column ++ c ∷ rest)))))

place_read : {A : Type 0} (cs : List ℕ) (l : Location A) (end : List ℕ) (line column c : ℕ) (rest : List ℕ) → IsPlaceText cs l end
    → cs ≡ place_rest line column c rest → is_digit c 10 ≡ false → line < 2 ^ 64 → column < 2 ^ 64
    → (l ≡ whole.SrcPos sources.InMemory line column) × (end ≡ c ∷ rest)
unfolding place_rest
place_read {A} cs l end line column c rest h is stop small narrow =
    let source = source_read h.source cs _ h.behind is h.source_text in
    let lines = labelled_read Colon Line h.behind h.between line h.line 44 _ h.line_text source.1 refl small in
    let columns = labelled_read Comma Column h.between end column h.column c rest h.column_text lines.1 stop narrow in
    let of_source : Source → Location A = λ s. whole.SrcPos s h.line h.column in
    let of_line : ℕ → Location A = λ n. whole.SrcPos sources.InMemory n h.column in
    let of_column : ℕ → Location A = λ n. whole.SrcPos sources.InMemory line n in
    (h.is ∙ ap of_source source.0 ∙ ap of_line lines.0 ∙ ap of_column columns.0, columns.1)

there_not : (t : Token) (cs ds : List ℕ) → cs ≡ ds → has_token t cs ≡ true → has_token t ds ≡ false → ⊥
there_not t cs ds is there none = no_truth (sym none ∙ sym (ap (has_token t) is) ∙ there)

form_read : {A : Type 0} (texts : MetadataTexts A) (room : Bool) (inner : LocationTexts A) (cs : List ℕ) (l : Location A) (end : List ℕ) (line column c : ℕ) (rest : List ℕ)
    → IsForm texts room inner cs l end → cs ≡ place_rest line column c rest → is_digit c 10 ≡ false → line < 2 ^ 64 → column < 2 ^ 64
    → (l ≡ whole.SrcPos sources.InMemory line column) × (end ≡ c ∷ rest)
unfolding place_rest
form_read texts room inner cs l end line column c rest h is stop small narrow = elim h [
  | inl unknown ↦ absurd (there_not Unknown cs _ is unknown.1.there refl)
  | inr (inl place) ↦ place_read cs l end line column c rest place is stop small narrow
  | inr (inr (inl fused)) ↦ absurd (there_not Fused cs _ is fused.word.there refl)
  | inr (inr (inr (inl named))) ↦ absurd (there_not Named cs _ is named.word.there refl)
  | inr (inr (inr (inr call))) ↦ absurd (there_not CallSite cs _ is call.word.there refl)
]

unknown_form : {A : Type 0} (texts : MetadataTexts A) (room : Bool) (inner : LocationTexts A) (cs : List ℕ) (l : Location A) (end rest : List ℕ)
    → IsForm texts room inner cs l end → cs ≡ 63 ∷ rest → (l ≡ whole.Unknown) × (end ≡ rest)
unknown_form texts room inner cs l end rest h is = elim h [
  | inl unknown ↦ (unknown.0, append_cancel_left (63 ∷ []) end rest (sym unknown.1.is ∙ is))
  | inr (inl place) ↦ absurd (no_source place.source place.behind (subst (λ (xs : List ℕ). IsSource xs place.source place.behind) is place.source_text))
  | inr (inr (inl fused)) ↦ absurd (there_not Fused cs _ is fused.word.there refl)
  | inr (inr (inr (inl named))) ↦ absurd (there_not Named cs _ is named.word.there refl)
  | inr (inr (inr (inr call))) ↦ absurd (there_not CallSite cs _ is call.word.there refl)
]
  where
    no_source : (s : Source) (behind : List ℕ) → IsSource (63 ∷ rest) s behind → ⊥
    no_source sources.InMemory behind h = no_truth h.there
    no_source (sources.File name) behind h = none h.said h.there
      where
        none : (said : Said) → quoted_text (63 ∷ rest) ≡ Some said → ⊥
        none said e = cc

-- ---- what is read

form_of : {F S A : Type 0} (parser : Parser F S A) (v w : At F S) (l : Location A) → ReadsLocation parser 64 v l w
    → IsForm (AnsweredTexts parser) true (IsLocationText (AnsweredTexts parser) 63) (left v.1.position) l (left w.1.position)
unfolding IsLocationText
form_of parser v w l h = text_is parser 64 v l w h

pub in_memory_read : {F S A : Type 0} (parser : Parser F S A) (v w : At F S) (l : Location A) (line column c : ℕ) (rest : List ℕ)
    → left v.1.position ≡ place_text line column ++ c ∷ rest → is_digit c 10 ≡ false → line < 2 ^ 64 → column < 2 ^ 64 → ReadsLocation parser 64 v l w
    → (l ≡ whole.SrcPos sources.InMemory line column) × (left w.1.position ≡ c ∷ rest)
unfolding place_rest
in_memory_read {F} {S} {A} parser v w l line column c rest is stop small narrow h =
    form_read (AnsweredTexts parser) true (IsLocationText (AnsweredTexts parser) 63) (left v.1.position) l (left w.1.position) line column c rest (form_of parser v w l h)
    (is ∙ simp append_assoc) stop small narrow

pub unknown_read : {F S A : Type 0} (parser : Parser F S A) (v w : At F S) (l : Location A) (rest : List ℕ) → left v.1.position ≡ 63 ∷ rest
    → ReadsLocation parser 64 v l w → (l ≡ whole.Unknown) × (left w.1.position ≡ rest)
unknown_read {F} {S} {A} parser v w l rest is h =
    unknown_form (AnsweredTexts parser) true (IsLocationText (AnsweredTexts parser) 63) (left v.1.position) l (left w.1.position) rest (form_of parser v w l h) is
