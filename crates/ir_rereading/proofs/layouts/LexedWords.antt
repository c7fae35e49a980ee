-- Names, numbers, widths and words of formats are tokens, before what stops them.
use Rattle.std.proofs.Common.{◌≡◌, ℕ, zero, suc, ◌<◌, ◌^◌, Bool, true, false, not, ◌&&◌, ◌||◌, ◌==◌, List, [], ◌∷◌, ◌++◌, refl, sym, ap, ◌∙◌, subst, arith, codes, replicate}
use Rattle.std.specs.Prelude.{if◌then◌else◌, bytes_eq}
use Rattle.std.specs.Char.{digit_value}
use Rattle.std.specs.List.{list_all}
use Rattle.std.specs.Str.{IsAscii}
use Rattle.std.specs.Fmt.{decimal}
use Rattle.std.specs.Str.Parse.{IsNumeral, AllDigits}
use Rattle.std.proofs.lemmas.Fmt.{decimal_is_IsNumeral}
use Rattle.std.proofs.lemmas.List.{append_assoc, append-nil}
use Rattle.std.proofs.lemmas.Bool.{eqb-true}
use Rattle.std.proofs.lemmas.Str.Ascii.{IsAscii-nil, IsAscii-cons}
use Rattle.std.proofs.lemmas.Slice.Eq.{bytes_eq-Decides}
use Rattle.std.proofs.lemmas.Bool.Decides.{nat_tests}
use Rattle.ir_names.specs.declared.kinds.Signedness.{Signedness}
use Rattle.ir_names.specs.declared.kinds.Signedness.TheVariants.{Signless, Signed, Unsigned}
use Rattle.ir_names.specs.Text.{is_identifier}
use Rattle.ir_print.specs.Layout.{width_text, number_text, mark_text, in_quotes}
use Rattle.ir_tokens.specs.Tokens.{is_letter, is_digit, is_name_char, is_sign}
use Rattle.ir_formats.specs.Words.{is_width}
use Rattle.ir_rereading.specs.Printable.{ends_name, is_word, less_spaces, is_before_spaces, begins_apart, ends_apart}
use Rattle.ir_rereading.proofs.layouts.Lexemes.{falls, clash, Lexeme, Word, Dotted, Digits, Negative, Marked, Sign, Arrow, Quoted, is_plain, lexeme_ascii, text_of, is_name, are_digits, is_spelled, begins, has_front, is_fresh, is_break, is_clean, stops, is_blank, Lexes, skipped, taken}
use Rattle.ir_formats.proofs.Booleans.{both_hold}

-- ---- characters and tokens, one after the other

-- The characters are these tokens, and aren't what follows a `<` in `<in-memory>`.
pub record Opens (cs : List ℕ) (xs : List (List ℕ)) : Type 0 where
  pub read : Lexes cs xs
  pub fresh : is_fresh cs ≡ true

-- The same, and they stop every token.
pub record Follows (cs : List ℕ) (xs : List (List ℕ)) : Type 0 where
  pub opens : Opens cs xs
  pub clean : is_clean cs ≡ true

-- ---- what a token is followed by

break_no_in : (c : ℕ) → is_break c ≡ true → (105 == c) ≡ false
break_no_in c h = grind (arith, nat_tests)

break_no_n : (c : ℕ) → is_break c ≡ true → (110 == c) ≡ false
break_no_n c h = grind (arith, nat_tests)

sign_no_in : (c : ℕ) → is_sign c ≡ true → (105 == c) ≡ false
sign_no_in c h = grind (arith, nat_tests)

-- the character isn't `-` (45)
abbrev no_minus : ℕ → Bool
no_minus c = not (45 == c)

fails_first : (a b : Bool) → a ≡ false → not (a && b) ≡ true
fails_first true b h = absurd (let t : true ≡ false = h in cc)
fails_first false b h = refl

fails_second : (a b c : Bool) → b ≡ false → not (a && (b && c)) ≡ true
fails_second true true c h = absurd (let t : true ≡ false = h in cc)
fails_second false true c h = refl
fails_second true false c h = refl
fails_second false false c h = refl

fails_third : (a b c d : Bool) → c ≡ false → not (a && (b && (c && d))) ≡ true
fails_third a b true d h = absurd (let t : true ≡ false = h in cc)
fails_third true true false d h = refl
fails_third true false false d h = refl
fails_third false true false d h = refl
fails_third false false false d h = refl

fails_fourth : (a b c d e : Bool) → not (c && d) ≡ true → not (a && (b && (c && (d && e)))) ≡ true
fails_fourth true true true true e h = absurd (let t : false ≡ true = h in cc)
fails_fourth true true true false e h = refl
fails_fourth true true false d e h = refl
fails_fourth true false c d e h = refl
fails_fourth false b c d e h = refl

-- `-memory>` doesn't come next where `-m` doesn't
minus_minus : (c : ℕ) (cs : List ℕ) (a b : Bool) → not (c == 45 && begins (λ d. 109 == d) cs) ≡ true → not (a && (b && has_front (codes "-memory>") (c ∷ cs))) ≡ true
minus_minus c [] a b h = third a b (45 == c)
  where
    third : (a b c : Bool) → not (a && (b && (c && false))) ≡ true
    third true true true = refl
    third true true false = refl
    third true false c = refl
    third false b c = refl
minus_minus c (d ∷ cs) a b h = fails_fourth a b (45 == c) (109 == d) (has_front (codes "emory>") cs) (ap (λ x. not (x && (109 == d))) (turned c) ∙ h)
  where
    turned : (c : ℕ) → (45 == c) ≡ (c == 45)
    turned c = grind (arith, nat_tests)

-- what has no `-` isn't `in-memory>`, whatever stops it
fresh_word : (x cs : List ℕ) → list_all no_minus x ≡ true → is_clean cs ≡ true → is_fresh (x ++ cs) ≡ true
fresh_word [] [] h k = refl
fresh_word [] (c ∷ cs) h k = fails_first (105 == c) _ (break_no_in c (both_hold (is_break c) (not (c == 45 && begins (λ d. 109 == d) cs)) k).0)
fresh_word (a ∷ []) [] h k = fails_second (105 == a) false false refl
fresh_word (a ∷ []) (c ∷ cs) h k = fails_second (105 == a) (110 == c) _ (break_no_n c (both_hold (is_break c) (not (c == 45 && begins (λ d. 109 == d) cs)) k).0)
fresh_word (a ∷ b ∷ []) [] h k = fails_third (105 == a) (110 == b) false false refl
fresh_word (a ∷ b ∷ []) (c ∷ cs) h k = minus_minus c cs (105 == a) (110 == b) (both_hold (is_break c) (not (c == 45 && begins (λ d. 109 == d) cs)) k).1
fresh_word (a ∷ b ∷ d ∷ x) cs h k = fails_third (105 == a) (110 == b) (45 == d) _
    (falls (45 == d) (both_hold (no_minus d) (list_all no_minus x) (both_hold (no_minus b) (list_all no_minus (d ∷ x)) (both_hold (no_minus a) (list_all no_minus (b ∷ d ∷ x)) h).1).1).0)

-- each character in a name or a number
all_from : (p q : ℕ → Bool) → ((c : ℕ) → p c ≡ true → q c ≡ true) → (cs : List ℕ) → list_all p cs ≡ true → list_all q cs ≡ true
all_from p q f [] h = refl
all_from p q f (c ∷ cs) h = let b = both_hold (p c) (list_all p cs) h in rw (f c b.0) (all_from p q f cs b.1)

letter_in_name : (c : ℕ) → is_letter c ≡ true → is_name_char c ≡ true
letter_in_name c h = grind (arith, nat_tests)

digit_in_name : (c : ℕ) → is_digit c ≡ true → is_name_char c ≡ true
digit_in_name c h = grind (arith, nat_tests)

name_without : (c : ℕ) → is_name_char c ≡ true → no_minus c ≡ true
name_without c h = grind (arith, nat_tests)

digit_without : (c : ℕ) → is_digit c ≡ true → no_minus c ≡ true
digit_without c h = grind (arith, nat_tests)

name_all : (x : List ℕ) → is_name x ≡ true → list_all no_minus x ≡ true
name_all [] h = refl
name_all (c ∷ cs) h = let b = both_hold (is_letter c) (list_all is_name_char cs) h in all_from is_name_char no_minus name_without (c ∷ cs) (rw (letter_in_name c b.0) b.1)

all_both : (p : ℕ → Bool) (xs ys : List ℕ) → list_all p xs ≡ true → list_all p ys ≡ true → list_all p (xs ++ ys) ≡ true
all_both p [] ys h k = k
all_both p (x ∷ xs) ys h k = let b = both_hold (p x) (list_all p xs) h in rw b.0 (all_both p xs ys b.1 k)

digits_all : (x : List ℕ) → are_digits x ≡ true → list_all no_minus x ≡ true
digits_all [] h = refl
digits_all (c ∷ cs) h = all_from is_digit no_minus digit_without (c ∷ cs) h

fresh_lexeme : (t : Lexeme) (cs : List ℕ) → is_spelled t ≡ true → is_clean cs ≡ true → is_fresh (text_of t ++ cs) ≡ true
fresh_lexeme (Word w) cs h k = fresh_word w cs (name_all w h) k
fresh_lexeme (Dotted f b) cs h k = let s = both_hold (is_name f) (is_name b) h in fresh_word (f ++ 46 ∷ b) cs (all_both no_minus f (46 ∷ b) (name_all f s.0) (name_all b s.1)) k
fresh_lexeme (Digits d) cs h k = fresh_word d cs (digits_all d h) k
fresh_lexeme (Negative d) cs h k = refl
fresh_lexeme (Marked d) cs h k = refl
fresh_lexeme (Sign c) cs h k = fails_first (105 == c) _ (sign_no_in c h)
fresh_lexeme Arrow cs h k = refl
fresh_lexeme (Quoted q) cs h k = refl

stops_next : (t : Lexeme) {cs : List ℕ} {xs : List (List ℕ)} → Follows cs xs → stops t cs ≡ true
stops_next (Word w) n = n.clean
stops_next (Dotted f b) n = n.clean
stops_next (Digits d) n = n.clean
stops_next (Negative d) n = n.clean
stops_next (Marked d) n = n.clean
stops_next (Sign c) n = n.opens.fresh
stops_next Arrow n = refl
stops_next (Quoted q) n = n.clean

-- The text is a token.
pub record IsLexeme (x : List ℕ) : Type 0 where
  pub form : Lexeme
  pub same : text_of form ≡ x
  pub spelled : is_spelled form ≡ true
  pub unquoted : is_plain form ≡ true

-- its characters are ASCII
pub lexeme_text : (x : List ℕ) → IsLexeme x → IsAscii x
lexeme_text x t = subst IsAscii t.same (lexeme_ascii t.form t.spelled t.unquoted)

-- a token, before what stops it
pub lexeme_opens : (x : List ℕ) {cs : List ℕ} {xs : List (List ℕ)} → IsLexeme x → Follows cs xs → Opens (x ++ cs) (x ∷ xs)
lexeme_opens x {cs} t n = record {
  read = taken t.form x t.same t.spelled (stops_next t.form n) n.opens.read;
  fresh = subst (λ z. is_fresh (z ++ cs) ≡ true) t.same (fresh_lexeme t.form cs t.spelled n.clean);
}

-- a text in quotes, before what stops every token
pub quoted_opens : (q : List ℕ) {cs : List ℕ} {xs : List (List ℕ)} → Follows cs xs → Opens (in_quotes q ++ cs) (in_quotes q ∷ xs)
quoted_opens q n = record { read = taken (Quoted q) (in_quotes q) refl refl n.clean n.opens.read; fresh = refl }

sign_break : (c : ℕ) → is_sign c ≡ true → is_break c ≡ true
sign_break c h = grind (arith, nat_tests)

sign_no_minus : (c : ℕ) → is_sign c ≡ true → (c == 45) ≡ false
sign_no_minus c h = grind (arith, nat_tests)

sign_clean : (c : ℕ) (cs : List ℕ) → is_sign c ≡ true → is_clean (c ∷ cs) ≡ true
sign_clean c cs h = rw (sign_break c h) (fails_first (c == 45) _ (sign_no_minus c h))

-- a sign
pub sign_opens : (c : ℕ) {cs : List ℕ} {xs : List (List ℕ)} → is_sign c ≡ true → Opens cs xs → Opens (c ∷ cs) ((c ∷ []) ∷ xs)
sign_opens c {cs} h o = record { read = taken (Sign c) (c ∷ []) refl h o.fresh o.read; fresh = fails_first (105 == c) _ (sign_no_in c h) }

pub sign_follows : (c : ℕ) {cs : List ℕ} {xs : List (List ℕ)} → is_sign c ≡ true → Opens cs xs → Follows (c ∷ cs) ((c ∷ []) ∷ xs)
sign_follows c {cs} h o = record { opens = sign_opens c h o; clean = sign_clean c cs h }

arrow_opens : {cs : List ℕ} {xs : List (List ℕ)} → Opens cs xs → Opens (45 ∷ 62 ∷ cs) ((45 ∷ 62 ∷ []) ∷ xs)
arrow_opens o = record { read = taken Arrow (45 ∷ 62 ∷ []) refl refl refl o.read; fresh = refl }

-- ---- white space

blank_no_in : (c : ℕ) → is_blank c ≡ true → (105 == c) ≡ false
blank_no_in c h = grind (arith, nat_tests)

blank_break : (c : ℕ) → is_blank c ≡ true → is_break c ≡ true
blank_break c h = grind (arith, nat_tests)

blank_no_minus : (c : ℕ) → is_blank c ≡ true → (c == 45) ≡ false
blank_no_minus c h = grind (arith, nat_tests)

pub blank_follows : (c : ℕ) {cs : List ℕ} {xs : List (List ℕ)} → is_blank c ≡ true → Opens cs xs → Follows (c ∷ cs) xs
blank_follows c {cs} h o = record {
  opens = record { read = skipped c h o.read; fresh = fails_first (105 == c) _ (blank_no_in c h) };
  clean = rw (blank_break c h) (fails_first (c == 45) _ (blank_no_minus c h));
}

pub spaces_open : (n : ℕ) {cs : List ℕ} {xs : List (List ℕ)} → Opens cs xs → Opens (replicate n 32 ++ cs) xs
spaces_open zero o = o
spaces_open (suc n) o = (blank_follows 32 refl (spaces_open n o)).opens

-- ---- names and numbers

-- identifiers are names
pub identifier_is : (x : List ℕ) → is_identifier x ≡ true → IsLexeme x
identifier_is [] h = absurd (let t : false ≡ true = h in cc)
identifier_is (c ∷ cs) h = record { form = Word (c ∷ cs); same = refl; spelled = h; unquoted = refl }

digit_is : (c : ℕ) → digit_value c < 10 → is_digit c ≡ true
digit_is c h = grind (arith, nat_tests)

all_digits : (ds : List ℕ) → AllDigits 10 ds → list_all is_digit ds ≡ true
all_digits [] h = refl
all_digits (c ∷ cs) h = rw (digit_is c h.0) (all_digits cs h.1)

some_digits : (ds : List ℕ) → IsNumeral 10 ds → are_digits ds ≡ true
some_digits [] h = absurd (let z : 0 < 0 = h.0 in omega arith)
some_digits (c ∷ cs) h = all_digits (c ∷ cs) h.1

decimal_digits : (n : ℕ) → n < 2 ^ 64 → are_digits (decimal n) ≡ true
decimal_digits n h = some_digits (decimal n) (decimal_is_IsNumeral n h).0

decimal_name : (n : ℕ) → n < 2 ^ 64 → list_all is_name_char (decimal n) ≡ true
decimal_name n h = all_from is_digit is_name_char digit_in_name (decimal n) (all_digits (decimal n) (decimal_is_IsNumeral n h).0.1)

-- numbers are tokens
pub number_is : (negative : Bool) (n : ℕ) → n < 2 ^ 64 → IsLexeme (number_text negative n)
number_is true n h = record { form = Negative (decimal n); same = refl; spelled = decimal_digits n h; unquoted = refl }
number_is false n h = record { form = Digits (decimal n); same = refl; spelled = decimal_digits n h; unquoted = refl }

-- and so are marks
pub mark_is : (n : ℕ) → n < 2 ^ 64 → IsLexeme (mark_text n)
mark_is n h = record { form = Marked (decimal n); same = refl; spelled = decimal_digits n h; unquoted = refl }

-- widths are names
pub width_is : (sign : Signedness) (n : ℕ) → n < 2 ^ 32 → IsLexeme (width_text sign n)
width_is Signless n h = record { form = Word (width_text Signless n); same = refl; spelled = decimal_name n (omega arith); unquoted = refl }
width_is Signed n h = record { form = Word (width_text Signed n); same = refl; spelled = decimal_name n (omega arith); unquoted = refl }
width_is Unsigned n h = record { form = Word (width_text Unsigned n); same = refl; spelled = decimal_name n (omega arith); unquoted = refl }

-- ---- words of formats

-- what a word is: a name, or two with a dot between them, a sign, or `->`
pub data Form (c : ℕ) (cs : List ℕ) : Type 0 where
  named : IsLexeme (c ∷ cs) → is_letter c ≡ true → ends_apart (c ∷ cs) ≡ false → Form c cs
  sign : cs ≡ [] → is_sign c ≡ true → Form c cs
  arrow : c ≡ 45 → cs ≡ 62 ∷ [] → Form c cs

-- a name goes on so: as characters of it, or with a dot and another name
pub data Tail (cs : List ℕ) : Type 0 where
  plain : list_all is_name_char cs ≡ true → Tail cs
  dotted : (f b : List ℕ) → cs ≡ f ++ 46 ∷ b → list_all is_name_char f ≡ true → is_name b ≡ true → Tail cs

eq_is : (a b : ℕ) → (a == b) ≡ true → a ≡ b
eq_is a b h = eqb-true a b h

-- behind a dot there are characters of a name alone
no_more_dots : (cs : List ℕ) → ends_name true cs ≡ true → list_all is_name_char cs ≡ true
no_more_dots [] h = refl
no_more_dots (c ∷ []) h = rw h refl
no_more_dots (c ∷ d ∷ cs) h = go (c == 46) h (no_more_dots (d ∷ cs))
  where
    go : (x : Bool) → (if x then not true && is_letter d && ends_name true cs else is_name_char c && ends_name true (d ∷ cs)) ≡ true
        → (ends_name true (d ∷ cs) ≡ true → list_all is_name_char (d ∷ cs) ≡ true) → list_all is_name_char (c ∷ d ∷ cs) ≡ true
    go true e more = absurd (let t : false ≡ true = e in cc)
    go false e more = let b = both_hold (is_name_char c) (ends_name true (d ∷ cs)) e in rw b.0 (more b.1)

more_plain : (c : ℕ) (cs : List ℕ) → is_name_char c ≡ true → Tail cs → Tail (c ∷ cs)
more_plain c cs h (plain k) = plain (rw h k)
more_plain c cs h (dotted f b e k g) = dotted (c ∷ f) b (ap (λ z. c ∷ z) e) (rw h k) g

tail_of : (cs : List ℕ) → ends_name false cs ≡ true → Tail cs
tail_of [] h = plain refl
tail_of (c ∷ []) h = plain (rw h refl)
tail_of (c ∷ d ∷ cs) h = go (c == 46) refl h (tail_of (d ∷ cs))
  where
    go : (x : Bool) → (c == 46) ≡ x → (if x then not false && is_letter d && ends_name true cs else is_name_char c && ends_name false (d ∷ cs)) ≡ true
        → (ends_name false (d ∷ cs) ≡ true → Tail (d ∷ cs)) → Tail (c ∷ d ∷ cs)
    go true s e more = let b = both_hold (is_letter d) (ends_name true cs) e in dotted [] (d ∷ cs) (ap (λ z. z ∷ d ∷ cs) (eq_is c 46 s)) refl (rw b.0 (no_more_dots cs b.1))
    go false s e more = let b = both_hold (is_name_char c) (ends_name false (d ∷ cs)) e in more_plain c (d ∷ cs) b.0 (more b.1)

-- names end with a character of names
names_run_on : (dot : Bool) (c : ℕ) (cs : List ℕ) → is_name_char c ≡ true → ends_name dot cs ≡ true → ends_apart (c ∷ cs) ≡ false
names_run_on dot c [] n h = rw n refl
names_run_on dot c (d ∷ []) n h = rw h refl
names_run_on dot c (d ∷ e ∷ cs) n h = go (d == 46) h (names_run_on true e cs) (names_run_on dot d (e ∷ cs))
  where
    go : (x : Bool) → (if x then not dot && is_letter e && ends_name true cs else is_name_char d && ends_name dot (e ∷ cs)) ≡ true
        → (is_name_char e ≡ true → ends_name true cs ≡ true → ends_apart (e ∷ cs) ≡ false)
        → (is_name_char d ≡ true → ends_name dot (e ∷ cs) ≡ true → ends_apart (e ∷ cs) ≡ false) → ends_apart (e ∷ cs) ≡ false
    go true g first second = let b = both_hold (not dot && is_letter e) (ends_name true cs) g in first (letter_in_name e (both_hold (not dot) (is_letter e) b.0).1) b.1
    go false g first second = let b = both_hold (is_name_char d) (ends_name dot (e ∷ cs)) g in second b.0 b.1

named_form : (c : ℕ) (cs : List ℕ) → is_letter c ≡ true → Tail cs → IsLexeme (c ∷ cs)
named_form c cs l (plain h) = record { form = Word (c ∷ cs); same = refl; spelled = rw l h; unquoted = refl }
named_form c cs l (dotted f b e h g) = record { form = Dotted (c ∷ f) b; same = ap (λ z. c ∷ z) (sym e); spelled = rw (l, h) g; unquoted = refl }

same_text : (a b : List ℕ) → bytes_eq a b ≡ true → a ≡ b
same_text a b e = (bytes_eq-Decides a b).0 e

form_of : (c : ℕ) (cs : List ℕ) → is_word (c ∷ cs) ≡ true → Form c cs
form_of c cs h = go (is_letter c && ends_name false cs) (is_sign c && bytes_eq cs []) (bytes_eq (c ∷ cs) (codes "->")) refl refl refl (both_hold (not (is_width (c ∷ cs))) _ h).1
  where
    arrowed : c ∷ cs ≡ 45 ∷ 62 ∷ [] → Form c cs
    arrowed e = arrow (let t = e in cc) (let t = e in cc)

    go : (x y z : Bool) → (is_letter c && ends_name false cs) ≡ x → (is_sign c && bytes_eq cs []) ≡ y → bytes_eq (c ∷ cs) (codes "->") ≡ z → (x || y || z) ≡ true → Form c cs
    go true y z e f g k = let b = both_hold (is_letter c) (ends_name false cs) e in named (named_form c cs b.0 (tail_of cs b.1)) b.0 (names_run_on false c cs (letter_in_name c b.0) b.1)
    go false true z e f g k = let b = both_hold (is_sign c) (bytes_eq cs []) f in sign (same_text cs [] b.1) b.0
    go false false true e f g k = arrowed (same_text (c ∷ cs) (codes "->") g)
    go false false false e f g k = absurd (let t : false ≡ true = k in cc)

-- a word is a token
pub word_is : (text : List ℕ) → is_word text ≡ true → IsLexeme text
word_is [] h = absurd (let t : false ≡ true = h in cc)
word_is (c ∷ cs) h = go (form_of c cs h)
  where
    go : Form c cs → IsLexeme (c ∷ cs)
    go (named l n a) = l
    go (sign e s) = record { form = Sign c; same = ap (λ z. c ∷ z) (sym e); spelled = s; unquoted = refl }
    go (arrow e f) = record { form = Arrow; same = ap (λ z. z ∷ 62 ∷ []) (sym e) ∙ ap (λ z. c ∷ z) (sym f); spelled = refl; unquoted = refl }

-- what has to follow a word: where its end is none of a name, whatever can follow a sign
abbrev pub Behind : Bool → List ℕ → List (List ℕ) → Type 0
Behind true cs xs = Opens cs xs
Behind false cs xs = Follows cs xs

behind_opens : (b : Bool) (cs : List ℕ) (xs : List (List ℕ)) → Behind b cs xs → Opens cs xs
behind_opens true cs xs o = o
behind_opens false cs xs n = n.opens

-- the text and some spaces
pub record IsSpaced (text printed : List ℕ) : Type 0 where
  pub spaces : ℕ
  pub spaced : text ++ replicate spaces 32 ≡ printed

spaces_only : (printed : List ℕ) → is_before_spaces [] printed ≡ true → IsSpaced [] printed
spaces_only [] h = record { spaces = 0; spaced = refl }
spaces_only (c ∷ cs) h =
    let b = both_hold (c == 32) (is_before_spaces [] cs) h in
    let r = spaces_only cs b.1 in
    record { spaces = suc r.spaces; spaced = ap (λ z. 32 ∷ z) r.spaced ∙ ap (λ z. z ∷ cs) (sym (eq_is c 32 b.0)) }

spaces_behind : (text printed : List ℕ) → is_before_spaces text printed ≡ true → IsSpaced text printed
spaces_behind [] printed h = spaces_only printed h
spaces_behind (x ∷ xs) [] h = absurd (let t : false ≡ true = h in cc)
spaces_behind (x ∷ xs) (c ∷ cs) h =
    let b = both_hold (x == c) (is_before_spaces xs cs) h in
    let r = spaces_behind xs cs b.1 in
    record { spaces = r.spaces; spaced = ap (λ z. x ∷ z) r.spaced ∙ ap (λ z. z ∷ cs) (eq_is x c b.0) }

-- a word with no spaces behind it
lone_opens : (c : ℕ) (w : List ℕ) (cs : List ℕ) (xs : List (List ℕ)) → Form c w → Behind (ends_apart (c ∷ w)) cs xs → Opens ((c ∷ w) ++ cs) ((c ∷ w) ∷ xs)
lone_opens c w cs xs (named l n a) k = lexeme_opens (c ∷ w) l (subst (λ b. Behind b cs xs) a k)
lone_opens c w cs xs (sign e s) k = subst (λ z. Opens ((c ∷ z) ++ cs) ((c ∷ z) ∷ xs)) (sym e) (sign_opens c s (behind_opens (ends_apart (c ∷ w)) cs xs k))
lone_opens c w cs xs (arrow e f) k =
    subst (λ y. Opens ((y ∷ w) ++ cs) ((y ∷ w) ∷ xs)) (sym e) (subst (λ z. Opens ((45 ∷ z) ++ cs) ((45 ∷ z) ∷ xs)) (sym f) (arrow_opens (behind_opens (ends_apart (c ∷ w)) cs xs k)))

-- a word with spaces behind it
spaced_opens : (c : ℕ) (w : List ℕ) (n : ℕ) (cs : List ℕ) (xs : List (List ℕ)) → is_word (c ∷ w) ≡ true → Behind (ends_apart ((c ∷ w) ++ replicate n 32)) cs xs
    → Opens (((c ∷ w) ++ replicate n 32) ++ cs) ((c ∷ w) ∷ xs)
spaced_opens c w zero cs xs h k =
    let e = append-nil (c ∷ w) in
    subst (λ z. Opens (z ++ cs) ((c ∷ w) ∷ xs)) (sym e) (lone_opens c w cs xs (form_of c w h) (subst (λ z. Behind (ends_apart z) cs xs) e k))
spaced_opens c w (suc n) cs xs h k =
    subst (λ z. Opens z ((c ∷ w) ∷ xs)) (sym (append_assoc (c ∷ w) (32 ∷ replicate n 32) cs))
    (lexeme_opens (c ∷ w) (word_is (c ∷ w) h) (blank_follows 32 refl (spaces_open n (behind_opens _ cs xs k))))

unspaced_opens : (text printed : List ℕ) (cs : List ℕ) (xs : List (List ℕ)) → is_word text ≡ true → IsSpaced text printed → Behind (ends_apart printed) cs xs → Opens (printed ++ cs) (text ∷ xs)
unspaced_opens [] printed cs xs h s k = absurd (let t : false ≡ true = h in cc)
unspaced_opens (c ∷ w) printed cs xs h s k =
    subst (λ z. Opens (z ++ cs) ((c ∷ w) ∷ xs)) s.spaced (spaced_opens c w s.spaces cs xs h (subst (λ z. Behind (ends_apart z) cs xs) (sym s.spaced) k))

no_text : (text : List ℕ) → is_word text ≡ true → is_before_spaces text [] ≡ true → ⊥
no_text [] h k = let t : false ≡ true = h in cc
no_text (c ∷ cs) h k = let t : false ≡ true = k in cc

ends_later : (c : ℕ) (ps : List ℕ) (cs : List ℕ) (xs : List (List ℕ)) (text : List ℕ) → is_word text ≡ true → is_before_spaces text (less_spaces ps) ≡ true
    → Behind (ends_apart (c ∷ ps)) cs xs → Behind (ends_apart ps) cs xs
ends_later c [] cs xs text h g k = absurd (no_text text h g)
ends_later c (p ∷ ps) cs xs text h g k = k

-- a word of a format as it is printed
pub word_opens : (printed text : List ℕ) (cs : List ℕ) (xs : List (List ℕ)) → is_word text ≡ true → is_before_spaces text (less_spaces printed) ≡ true
    → Behind (ends_apart printed) cs xs → Opens (printed ++ cs) (text ∷ xs)
word_opens [] text cs xs h g k = absurd (no_text text h g)
word_opens (c ∷ ps) text cs xs h g k = go (c == 32) refl g (λ e. word_opens ps text cs xs h e (ends_later c ps cs xs text h e k))
  where
    go : (b : Bool) → (c == 32) ≡ b → is_before_spaces text (if b then less_spaces ps else c ∷ ps) ≡ true
        → (is_before_spaces text (less_spaces ps) ≡ true → Opens (ps ++ cs) (text ∷ xs)) → Opens (c ∷ (ps ++ cs)) (text ∷ xs)
    go true s e more = (blank_follows c (rw s refl) (more e)).opens
    go false s e more = unspaced_opens text (c ∷ ps) cs xs h (spaces_behind text (c ∷ ps) e) k

-- what is printed of it is ASCII
pub before_ascii : (text printed : List ℕ) → IsAscii text → is_before_spaces text printed ≡ true → IsAscii printed
before_ascii [] [] h g = IsAscii-nil
before_ascii [] (c ∷ cs) h g =
    let b = both_hold (c == 32) (is_before_spaces [] cs) g in
    IsAscii-cons c cs (let same = eq_is c 32 b.0 in omega arith) (before_ascii [] cs h b.1)
before_ascii (x ∷ xs) [] h g = absurd (let t : false ≡ true = g in cc)
before_ascii (x ∷ xs) (c ∷ cs) h g =
    let b = both_hold (x == c) (is_before_spaces xs cs) g in
    IsAscii-cons c cs (let same = eq_is x c b.0 in let low = h 0 in omega arith) (before_ascii xs cs (λ i. h (suc i)) b.1)

pub printed_ascii : (text printed : List ℕ) → IsAscii text → is_before_spaces text (less_spaces printed) ≡ true → IsAscii printed
printed_ascii text [] h g = IsAscii-nil
printed_ascii text (c ∷ cs) h g = go (c == 32) refl g (printed_ascii text cs h)
  where
    go : (b : Bool) → (c == 32) ≡ b → is_before_spaces text (if b then less_spaces cs else c ∷ cs) ≡ true → (is_before_spaces text (less_spaces cs) ≡ true → IsAscii cs) → IsAscii (c ∷ cs)
    go true e g more = IsAscii-cons c cs (let same = eq_is c 32 e in omega arith) (more g)
    go false e g more = before_ascii text (c ∷ cs) h g

-- ---- what a word begins with

letter_apart : (c : ℕ) → is_letter c ≡ true → not (is_name_char c) ≡ false
letter_apart c h = rw (letter_in_name c h) refl

form_clean : (c : ℕ) (w cs : List ℕ) → Form c w → not (is_name_char c) ≡ true → is_clean (c ∷ (w ++ cs)) ≡ true
form_clean c w cs (named l n a) h = absurd (clash (not (is_name_char c)) h (letter_apart c n))
form_clean c w cs (sign e s) h = sign_clean c (w ++ cs) s
form_clean c w cs (arrow e f) h = subst (λ y. is_clean (y ∷ (w ++ cs)) ≡ true) (sym e) (subst (λ z. is_clean (45 ∷ (z ++ cs)) ≡ true) (sym f) refl)

spaced_clean : (text printed cs : List ℕ) → is_word text ≡ true → IsSpaced text printed → begins_apart printed ≡ true → is_clean (printed ++ cs) ≡ true
spaced_clean [] printed cs h s b = absurd (let t : false ≡ true = h in cc)
spaced_clean (c ∷ w) printed cs h s b =
    let first : not (is_name_char c) ≡ true = subst (λ z. begins_apart z ≡ true) (sym s.spaced) b in
    subst (λ z. is_clean (z ++ cs) ≡ true) s.spaced
    (subst (λ z. is_clean (c ∷ z) ≡ true) (sym (append_assoc w (replicate s.spaces 32) cs)) (form_clean c w (replicate s.spaces 32 ++ cs) (form_of c w h) first))

pub word_clean : (printed text cs : List ℕ) → is_word text ≡ true → is_before_spaces text (less_spaces printed) ≡ true → begins_apart printed ≡ true → is_clean (printed ++ cs) ≡ true
word_clean [] text cs h g b = absurd (no_text text h g)
word_clean (c ∷ ps) text cs h g b = go (c == 32) refl g
  where
    go : (x : Bool) → (c == 32) ≡ x → is_before_spaces text (if x then less_spaces ps else c ∷ ps) ≡ true → is_clean (c ∷ (ps ++ cs)) ≡ true
    go true s e = rw (blank_break c (rw s refl)) (fails_first (c == 45) _ (blank_no_minus c (rw s refl)))
    go false s e = spaced_clean text (c ∷ ps) cs h (spaces_behind text (c ∷ ps) e) b
