-- What is read from a stream at white space, signs, marks and names.
use Rattle.std.proofs.Common.{◌≡◌, ◌≢◌, ℕ, ◌<◌, ◌^◌, Bool, true, false, List, [], ◌∷◌, ◌++◌, Some, Ok, Result, cond, arith, refl, sym, ◌∙◌, ap, decimal}
use Rattle.std.specs.Prelude.{◌==◌, encode_utf8_all, if◌then◌else◌}
use Rattle.std.specs.Char.{is_digit, is_whitespace}
use Rattle.std.specs.List.{list_all, prefix_len, take_while}
use Rattle.std.specs.Str.Parse.{AllDigits, IsNumeral}
use Rattle.std.proofs.lemmas.Bool.{and_parts, eq-eqb, lt-ltb}
use Rattle.std.proofs.lemmas.Fmt.{decimal_is_IsNumeral, IsAscii-decimal, parse-decimal}
use Rattle.std.proofs.lemmas.List.{append_cancel_left, take-append-drop}
use Rattle.std.proofs.lemmas.List.Sums.{take_while-cons}
use Rattle.std.proofs.lemmas.Option.{same_Some}
use Rattle.std.proofs.lemmas.Bool.Decides.{nat_tests}
use Rattle.std.proofs.lemmas.Str.{encodes-IsAscii}
use Rattle.std.specs.declared.num.ParseIntError.{ParseIntError}
use Rattle.ir_names.specs.Identifier.{text_of}
use Rattle.ir_names.specs.Text.{is_first_code, is_identifier, is_later_code}
use Rattle.ir_names.specs.declared.identifier.Identifier.{Identifier}
use Rattle.text_streams.specs.declared.stream.StateStream.{StateStream}
use Rattle.text_streams.specs.Numbers.{as_they_are, number_text}
use Rattle.text_streams.specs.Positions.{left}
use Rattle.text_streams.specs.Quotes.{Said}
use Rattle.text_streams.specs.Spaces.{SkipsSpaces}
use Rattle.text_marks.specs.Marks.{mark_text, ReadsNumberOfMark}
use Rattle.text_parsables.specs.Names.{name_text}
use Rattle.text_outlines.specs.Names.{ReadsName}
use Rattle.text_outlines.specs.Signs.{begins_with, IsWithout, ReadsSign}
use Rattle.section_rereading.specs.Inverse.{behind_spaces}

-- ---- fronts of texts

-- what passes a test is taken, up to the first character that doesn't
pub taken_up_to : (test : ℕ → Bool) (front : List ℕ) (c : ℕ) (cs : List ℕ) → list_all test front ≡ true → test c ≡ false → take_while test (front ++ c ∷ cs) ≡ front
taken_up_to test [] c cs all stop = take_while-cons test c cs ∙ ap (λ b. cond b (c ∷ take_while test cs) []) stop
taken_up_to test (x ∷ front) c cs all stop =
    let parts = and_parts (test x) (list_all test front) all in
    take_while-cons test x (front ++ c ∷ cs)
    ∙ ap (λ b. cond b (x ∷ take_while test (front ++ c ∷ cs)) []) parts.0
    ∙ ap (λ (xs : List ℕ). x ∷ xs) (taken_up_to test front c cs parts.1 stop)

pub same_first : {c d : ℕ} {cs ds : List ℕ} → c ∷ cs ≡ d ∷ ds → c ≡ d
same_first e = cc

pub same_rest : {c d : ℕ} {cs ds : List ℕ} → c ∷ cs ≡ d ∷ ds → cs ≡ ds
same_rest e = cc

clash : (b : Bool) → b ≡ true → b ≡ false → ⊥
clash b holds fails = let t : true ≡ false = sym holds ∙ fails in cc

-- ---- white space

-- behind the white space is what comes behind it
pub skipped : {S : Type 0} (old new : StateStream S) (spaces : List ℕ) (c : ℕ) (cs : List ℕ) → SkipsSpaces old new → left old.position ≡ spaces ++ c ∷ cs
    → list_all is_whitespace spaces ≡ true → is_whitespace c ≡ false → left new.position ≡ c ∷ cs
skipped old new spaces c cs h is all stop =
    let taken : take_while is_whitespace (left old.position) ≡ spaces = ap (take_while is_whitespace) is ∙ taken_up_to is_whitespace spaces c cs all stop in
    append_cancel_left spaces (left new.position) (c ∷ cs) (ap (λ (xs : List ℕ). xs ++ left new.position) (sym taken) ∙ sym h.behind.taken ∙ is)

pub skipped_all : {S : Type 0} (old new : StateStream S) → SkipsSpaces old new → left new.position ≡ behind_spaces (left old.position)
skipped_all old new h = append_cancel_left (take_while is_whitespace (left old.position)) (left new.position) (behind_spaces (left old.position))
    (sym h.behind.taken ∙ sym (take-append-drop (prefix_len is_whitespace (left old.position)) (left old.position)))

-- ---- signs

-- a sign that was read is the first character behind the white space
pub sign_read : {S : Type 0} (sign : ℕ) (old new : StateStream S) (spaces : List ℕ) (c : ℕ) (cs : List ℕ) → ReadsSign sign old new
    → left old.position ≡ spaces ++ c ∷ cs → list_all is_whitespace spaces ≡ true → is_whitespace c ≡ false → (c ≡ sign) × (left new.position ≡ cs)
sign_read sign old new spaces c cs h is all stop =
    let there : c ∷ cs ≡ sign ∷ left new.position = sym (skipped old h.here spaces c cs h.spaces is all stop) ∙ h.sign_read.behind.taken in
    (same_first there, sym (same_rest there))

-- a sign that isn't there is not that character
pub sign_missing : {S : Type 0} (sign : ℕ) (old : StateStream S) (spaces : List ℕ) (c : ℕ) (cs : List ℕ) → IsWithout sign old → left old.position ≡ spaces ++ c ∷ cs
    → list_all is_whitespace spaces ≡ true → is_whitespace c ≡ false → c ≢ sign
sign_missing sign old spaces c cs h is all stop same =
    let there : left h.here.position ≡ c ∷ cs = skipped old h.here spaces c cs h.spaces is all stop in
    clash (c == sign) (eq-eqb c sign same) (sym (ap (begins_with sign) there) ∙ h.without)

-- ---- marks

pub digits_pass : (ds : List ℕ) → AllDigits 10 ds → list_all (λ c. is_digit c 10) ds ≡ true
digits_pass [] h = refl
digits_pass (d ∷ ds) h = rw (lt-ltb _ 10 h.0, digits_pass ds h.1) refl

if_second : {X : Type 0} (a b : Bool) (x y z : X) → a ≡ false → b ≡ true → (if a then x else (if b then y else z)) ≡ y
if_second a b x y z fails holds = rw (fails, holds) refl

-- the text of a number, where no digit is behind it
number_there : (ds : List ℕ) (c : ℕ) (cs : List ℕ) → IsNumeral 10 ds → is_digit c 10 ≡ false → number_text 10 (ds ++ c ∷ cs) ≡ Some (ds, ds)
number_there [] c cs h stop = absurd (omega (arith, h.0))
number_there (d ∷ ds) c cs h stop =
    let digit : is_digit d 10 ≡ true = lt-ltb _ 10 h.1.0 in
    let no_sign : (d == 45) ≡ false = not_minus d digit in
    let taken = taken_up_to (λ x. is_digit x 10) (d ∷ ds) c cs (digits_pass (d ∷ ds) h.1) stop in
    if_second (d == 45) (is_digit d 10) _ _ _ no_sign digit ∙ ap (λ (xs : List ℕ). Some (as_they_are xs)) taken
  where
    not_minus : (d : ℕ) → is_digit d 10 ≡ true → (d == 45) ≡ false
    not_minus d h = grind (arith, nat_tests)

pub same_Ok : {E : Type 0} (x y : ℕ) → ◌≡◌ {A = Result ℕ E} (Ok x) (Ok y) → x ≡ y
same_Ok x y e = cc

-- a mark that was read is the one that was printed
pub mark_read : {S : Type 0} (old new : StateStream S) (n m c : ℕ) (cs : List ℕ) → ReadsNumberOfMark old new m → left old.position ≡ 33 ∷ (decimal n ++ c ∷ cs)
    → is_digit c 10 ≡ false → n < 2 ^ 64 → (m ≡ n) × (left new.position ≡ c ∷ cs)
mark_read old new n m c cs h is stop small =
    let there : Some h.said ≡ Some (decimal n, decimal n) =
    sym h.there ∙ ap mark_text is ∙ number_there (decimal n) c cs (decimal_is_IsNumeral n small).0 stop in
    let said : h.said ≡ (decimal n, decimal n) = same_Some _ _ there in
    let digits : encode_utf8_all h.said.0 ≡ decimal n = ap (λ (s : Said). encode_utf8_all s.0) said ∙ encodes-IsAscii (decimal n) (IsAscii-decimal n small) in
    let number = parse-decimal {E = ParseIntError} 64 n (encode_utf8_all h.said.0) (Ok m) small small digits h.parses in
    let taken : 33 ∷ (decimal n ++ left new.position) ≡ 33 ∷ (decimal n ++ c ∷ cs) =
    ap (λ (s : Said). 33 ∷ (s.1 ++ left new.position)) (sym said) ∙ sym h.reads.behind.taken ∙ is in
    (same_Ok m n number, append_cancel_left (decimal n) (left new.position) (c ∷ cs) (same_rest taken))

-- ---- names

-- the text of a name, where nothing goes on with it
name_there : (key : List ℕ) (c : ℕ) (cs : List ℕ) → is_identifier key ≡ true → is_later_code c ≡ false → name_text (key ++ c ∷ cs) ≡ Some (key, key)
name_there [] c cs h stop = cc
name_there (k ∷ ks) c cs h stop =
    let parts = and_parts (is_first_code k) (list_all is_later_code ks) h in
    rw parts.0 (ap (λ (xs : List ℕ). Some (k ∷ xs, k ∷ xs)) (taken_up_to is_later_code ks c cs parts.1 stop))

-- a name that was read is the one that was printed
pub name_read : {S : Type 0} (old new : StateStream S) (name : Identifier) (key : List ℕ) (c : ℕ) (cs : List ℕ) → ReadsName old name new
    → left old.position ≡ key ++ c ∷ cs → is_identifier key ≡ true → is_later_code c ≡ false → (text_of name ≡ key) × (left new.position ≡ c ∷ cs)
name_read old new name key c cs h is good stop =
    let there : Some h.said ≡ Some (key, key) = sym h.there ∙ ap name_text is ∙ name_there key c cs good stop in
    let said : h.said ≡ (key, key) = same_Some _ _ there in
    let taken : key ++ left new.position ≡ key ++ c ∷ cs = ap (λ (s : Said). s.1 ++ left new.position) (sym said) ∙ sym h.reads.behind.taken ∙ is in
    (h.says ∙ ap (λ (s : Said). s.0) said, append_cancel_left key (left new.position) (c ∷ cs) taken)

-- a name begins with no white space
pub first_visible : (c : ℕ) → is_first_code c ≡ true → is_whitespace c ≡ false
first_visible c h = grind (arith, nat_tests)
