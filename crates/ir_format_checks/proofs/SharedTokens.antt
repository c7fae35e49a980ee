-- Two classes overlap exactly where a token is of both.
use Rattle.std.proofs.Common.{◌≡◌, ℕ, ◌+◌, Bool, true, false, List, [], ◌∷◌, length, Some, None, refl, sym, ap, subst, ◌∙◌, arith}
use Rattle.std.specs.Prelude.{slice_index, bytes_eq}
use Rattle.std.proofs.lemmas.Slice.Eq.{bytes_eq-Decides}
use Rattle.ir_names.specs.Text.{is_identifier}
use Rattle.ir_tokens.specs.declared.tokens.TokenKind.{TokenKind}
use Rattle.ir_tokens.specs.declared.tokens.TokenKind.TheVariants.{Name, Dotted, Digits, Negative, Mark, Text, Sign, Arrow, InMemory, Bad}
use Rattle.ir_tokens.specs.Tokens.{is_digit, is_name_char, AreAllOfKind, closing, Spells}
use Rattle.ir_formats.specs.Words.{is_width, is_quotation}
use Rattle.ir_format_checks.specs.Tokens.{WrittenToken, Column, TokenClass, given, a_name, dotted, digits, number, width, quotation, mark, is_name, is_sign_or_name, is_dotted, is_digits, is_number, is_text, is_mark, is_of, takes, IsWord}
use Rattle.ir_format_checks.specs.Test.{overlap}
use Rattle.ir_format_checks.proofs.Booleans.{and_both, and_first, and_second, true_false}
use Rattle.ir_format_checks.proofs.Words.{identifier_is, identifier_was, width_name}

-- a class with a token: what is given is a word
abbrev pub IsClass : TokenClass → Type 0
IsClass (given w) = IsWord w
IsClass _ = Unit {0}

-- ---- a token of both

-- a token that is of two classes
pub record IsOfBoth (c d : TokenClass) : Type 0 where
  pub column : Column
  pub left : takes column c ≡ true
  pub right : takes column d ≡ true

swapped : (c d : TokenClass) → IsOfBoth c d → IsOfBoth d c
swapped c d h = record { column = h.column; left = h.right; right = h.left }

same_text : (w : List ℕ) → bytes_eq w w ≡ true
same_text w = (bytes_eq-Decides w w).1 refl

-- a word that is given
word_of : (w : List ℕ) → IsWord w → (v : List ℕ) → bytes_eq v w ≡ true → IsOfBoth (given v) (given w)
word_of w h v e = record {
  column = Some (record { kind = h.kind; text = w; spelled = h.spelled });
  left = and_both (is_sign_or_name h.kind) (bytes_eq v w) h.sort e;
  right = and_both (is_sign_or_name h.kind) (bytes_eq w w) h.sort (same_text w);
}

-- a name
abbrev name_of : (w : List ℕ) → is_identifier w ≡ true → WrittenToken
name_of w h = record { kind = Name; text = w; spelled = identifier_is w h }

given_name : (w : List ℕ) → is_identifier w ≡ true → IsOfBoth (given w) a_name
given_name w h = record { column = Some (name_of w h); left = same_text w; right = refl }

given_width : (w : List ℕ) → is_width w ≡ true → IsOfBoth (given w) width
given_width w h = record { column = Some (name_of w (width_name w h)); left = same_text w; right = h }

at_one : (p : ℕ → Bool) (cs : List ℕ) (i : ℕ) → p (slice_index cs i) ≡ true → AreAllOfKind p cs i (i + 1)
at_one p cs i h k lo hi = subst (λ n. p (slice_index cs n) ≡ true) (let e : i ≡ k = omega arith in e) h

-- `i8`
abbrev a_width : Column
a_width = Some (name_of (105 ∷ 56 ∷ []) refl)

-- `0`
abbrev a_digit : Column
a_digit = Some (record { kind = Digits; text = 48 ∷ []; spelled = (omega arith, at_one is_digit (48 ∷ []) 0 refl) })

-- `a.a`
abbrev two_names : Column
two_names = Some (record {
  kind = Dotted;
  text = 97 ∷ 46 ∷ 97 ∷ [];
  spelled =
      (1, (omega arith, refl, at_one is_name_char (97 ∷ 46 ∷ 97 ∷ []) 0 refl), refl, (omega arith, refl, at_one is_name_char (97 ∷ 46 ∷ 97 ∷ []) 2 refl));
})

-- `""`
abbrev no_text : Column
no_text = Some (record { kind = Text; text = 34 ∷ 34 ∷ []; spelled = (refl, closing refl refl) })

-- `!0`
abbrev a_mark : Column
a_mark = Some (record { kind = Mark; text = 33 ∷ 48 ∷ []; spelled = (refl, (omega arith, at_one is_digit (33 ∷ 48 ∷ []) 1 refl)) })

none : {c d : TokenClass} → false ≡ true → IsOfBoth c d
none h = absurd (cc)

pub shared : (c d : TokenClass) → IsClass c → IsClass d → overlap c d ≡ true → IsOfBoth c d
shared (given v) (given w) i j h = word_of w j v h
shared (given v) a_name i j h = given_name v h
shared (given v) width i j h = given_width v h
shared a_name (given w) i j h = swapped (given w) a_name (given_name w h)
shared a_name a_name i j h = record { column = a_width; left = refl; right = refl }
shared a_name width i j h = record { column = a_width; left = refl; right = refl }
shared width (given w) i j h = swapped (given w) width (given_width w h)
shared width a_name i j h = record { column = a_width; left = refl; right = refl }
shared width width i j h = record { column = a_width; left = refl; right = refl }
shared digits digits i j h = record { column = a_digit; left = refl; right = refl }
shared digits number i j h = record { column = a_digit; left = refl; right = refl }
shared number digits i j h = record { column = a_digit; left = refl; right = refl }
shared number number i j h = record { column = a_digit; left = refl; right = refl }
shared dotted dotted i j h = record { column = two_names; left = refl; right = refl }
shared quotation quotation i j h = record { column = no_text; left = refl; right = refl }
shared mark mark i j h = record { column = a_mark; left = refl; right = refl }
shared _ _ i j h = none h

-- ---- no token of both

-- classes that may overlap
abbrev family : TokenClass → ℕ
family (given w) = 0
family a_name = 0
family width = 0
family dotted = 1
family digits = 2
family number = 2
family quotation = 3
family mark = 4

-- the classes of tokens of a kind
abbrev family_of : TokenKind → ℕ
family_of Name = 0
family_of (Sign c) = 0
family_of Arrow = 0
family_of Dotted = 1
family_of Digits = 2
family_of Negative = 2
family_of Text = 3
family_of Mark = 4
family_of InMemory = 5
family_of Bad = 5

words_family : (k : TokenKind) → is_sign_or_name k ≡ true → family_of k ≡ 0
words_family Name h = refl
words_family (Sign c) h = refl
words_family Arrow h = refl
words_family _ h = cc

names_family : (k : TokenKind) → is_name k ≡ true → family_of k ≡ 0
names_family Name h = refl
names_family _ h = cc

dotted_family : (k : TokenKind) → is_dotted k ≡ true → family_of k ≡ 1
dotted_family Dotted h = refl
dotted_family _ h = cc

digits_family : (k : TokenKind) → is_digits k ≡ true → family_of k ≡ 2
digits_family Digits h = refl
digits_family _ h = cc

numbers_family : (k : TokenKind) → is_number k ≡ true → family_of k ≡ 2
numbers_family Digits h = refl
numbers_family Negative h = refl
numbers_family _ h = cc

texts_family : (k : TokenKind) → is_text k ≡ true → family_of k ≡ 3
texts_family Text h = refl
texts_family _ h = cc

marks_family : (k : TokenKind) → is_mark k ≡ true → family_of k ≡ 4
marks_family Mark h = refl
marks_family _ h = cc

class_family : (c : TokenClass) (t : WrittenToken) → is_of c t ≡ true → family_of t.kind ≡ family c
class_family (given w) t h = words_family t.kind (and_first (is_sign_or_name t.kind) (bytes_eq w t.text) h)
class_family a_name t h = names_family t.kind h
class_family width t h = names_family t.kind (and_first (is_name t.kind) (is_width t.text) h)
class_family dotted t h = dotted_family t.kind h
class_family digits t h = digits_family t.kind h
class_family number t h = numbers_family t.kind h
class_family quotation t h = texts_family t.kind (and_first (is_text t.kind) (is_quotation t.text) h)
class_family mark t h = marks_family t.kind h

same_family : (c d : TokenClass) (t : WrittenToken) → is_of c t ≡ true → is_of d t ≡ true → family c ≡ family d
same_family c d t a b = sym (class_family c t a) ∙ class_family d t b

-- the token of a word that is given
text_is : (w : List ℕ) (t : WrittenToken) → is_of (given w) t ≡ true → w ≡ t.text
text_is w t h = (bytes_eq-Decides w t.text).0 (and_second (is_sign_or_name t.kind) (bytes_eq w t.text) h)

named : (text : List ℕ) (k : TokenKind) → is_name k ≡ true → Spells text 0 (length text) k → is_identifier text ≡ true
named text Name h s = identifier_was text s
named text _ h s = cc

given_apart : (v w : List ℕ) (t : WrittenToken) → bytes_eq v w ≡ false → is_of (given v) t ≡ true → is_of (given w) t ≡ true → ⊥
given_apart v w t h a b = true_false _ ((bytes_eq-Decides v w).1 (text_is v t a ∙ sym (text_is w t b))) h

name_apart : (v : List ℕ) (t : WrittenToken) → is_identifier v ≡ false → is_of (given v) t ≡ true → is_of a_name t ≡ true → ⊥
name_apart v t h a b = true_false _ (ap is_identifier (text_is v t a) ∙ named t.text t.kind b t.spelled) h

width_apart : (v : List ℕ) (t : WrittenToken) → is_width v ≡ false → is_of (given v) t ≡ true → is_of width t ≡ true → ⊥
width_apart v t h a b = true_false _ (ap is_width (text_is v t a) ∙ and_second (is_name t.kind) (is_width t.text) b) h

token_apart : (c d : TokenClass) (t : WrittenToken) → overlap c d ≡ false → is_of c t ≡ true → is_of d t ≡ true → ⊥
token_apart (given v) (given w) t h a b = given_apart v w t h a b
token_apart (given v) a_name t h a b = name_apart v t h a b
token_apart (given v) width t h a b = width_apart v t h a b
token_apart a_name (given w) t h a b = name_apart w t h b a
token_apart width (given w) t h a b = width_apart w t h b a
token_apart a_name a_name t h a b = cc
token_apart a_name width t h a b = cc
token_apart width a_name t h a b = cc
token_apart width width t h a b = cc
token_apart digits digits t h a b = cc
token_apart digits number t h a b = cc
token_apart number digits t h a b = cc
token_apart number number t h a b = cc
token_apart dotted dotted t h a b = cc
token_apart quotation quotation t h a b = cc
token_apart mark mark t h a b = cc
token_apart c d t h a b = let e : family c ≡ family d = same_family c d t a b in omega (arith, e)

pub apart : (c d : TokenClass) (x : Column) → overlap c d ≡ false → takes x c ≡ true → takes x d ≡ true → ⊥
apart c d None h a b = cc
apart c d (Some t) h a b = token_apart c d t h a b
