-- What texts in quotes say is read character by character.
use Rattle.std.proofs.Common.{◌≡◌, ℕ, ◌+◌, ◌<◌, Bool, true, false, cond, ◌==◌, if◌then◌else◌, List, [], ◌∷◌, ◌++◌, Result, OnOk, is_ok, Ok, Err, IsUtf8, encode_utf8, chars, length, drop, get_or, refl, sym, ap, ◌∙◌, eq-eqb, ne_eqb}
use Rattle.std.specs.Char.{IsScalar}
use Rattle.std.proofs.lemmas.List.{append_assoc, append-nil, drop_more}
use Rattle.std.proofs.lemmas.Str.{chars-append, chars-encodes, chars_from_encodes, IsUtf8-encode}
use Rattle.ir_forest.specs.Meaning.{unescaped, as_it_is}

-- a character is put behind a text
pushed : (now new : List ℕ) (c : ℕ) → IsUtf8 now → IsScalar c → new ≡ now ++ encode_utf8 c → chars new ≡ chars now ++ c ∷ []
pushed now new c u s e =
    ap chars e ∙ (chars-append now (encode_utf8 c) u ∙ ap (λ xs. chars now ++ xs) (sym (chars_from_encodes (c ∷ []) (encode_utf8 c) (IsUtf8-encode c s) (append-nil (encode_utf8 c)))))

pub pushed_where_ok : {X E : Type 0} (r : Result X E) (now new : List ℕ) (c : ℕ) → IsUtf8 now → IsScalar c → new ≡ (if is_ok r then now ++ encode_utf8 c else now) → OnOk r (chars new ≡ chars now ++ c ∷ [])
pushed_where_ok (Ok x) now new c u s e = pushed now new c u s e
pushed_where_ok (Err x) now new c u s e = tt

-- what is left from a place on, behind a `\` or not
abbrev pub left_from : Bool → List ℕ → List ℕ
left_from is_escape cs = cond is_escape (as_it_is cs) (unescaped cs)

-- nothing was taken
pub none_taken : (bs cs : List ℕ) → bs ≡ [] → chars bs ++ unescaped cs ≡ unescaped cs
none_taken bs cs e = ap (λ xs. chars xs ++ unescaped cs) e ∙ ap (λ xs. xs ++ unescaped cs) (chars-encodes [] refl)

-- by what is the same
pub left_as : (now new cs all : List ℕ) (b d : Bool) → new ≡ now → d ≡ b → now ++ left_from b cs ≡ all → new ++ left_from d cs ≡ all
left_as now new cs all b d n e h = ap (λ xs. xs ++ left_from d cs) n ∙ (ap (λ x. now ++ left_from x cs) e ∙ h)

next_left : (cs : List ℕ) (i d c : ℕ) → i < length cs → get_or cs i d ≡ c → drop i cs ≡ c ∷ drop (i + 1) cs
next_left cs i d c lt e = drop_more cs i d lt ∙ ap (λ (x : ℕ). x ∷ drop (i + 1) cs) e

-- a character behind a `\`, and one that is none
pub taken_as_it_is : (cs now new all : List ℕ) (i d c : ℕ) → i < length cs → get_or cs i d ≡ c → now ++ as_it_is (drop i cs) ≡ all → new ≡ now ++ c ∷ [] → new ++ unescaped (drop (i + 1) cs) ≡ all
taken_as_it_is cs now new all i d c lt e h n =
    ap (λ xs. xs ++ unescaped (drop (i + 1) cs)) n ∙ (append_assoc now (c ∷ []) (unescaped (drop (i + 1) cs)) ∙ (ap (λ xs. now ++ as_it_is xs) (sym (next_left cs i d c lt e)) ∙ h))

plain_left : (c : ℕ) (cs : List ℕ) → (c == 92) ≡ false → (c == 34) ≡ false → unescaped (c ∷ cs) ≡ c ∷ unescaped cs
plain_left c cs back quote = rw (back, quote) refl

pub taken_plain : (cs now new all : List ℕ) (i d c : ℕ) → i < length cs → get_or cs i d ≡ c → (c ≡ 92 → ⊥) → (c ≡ 34 → ⊥) → now ++ unescaped (drop i cs) ≡ all → new ≡ now ++ c ∷ []
    → new ++ unescaped (drop (i + 1) cs) ≡ all
taken_plain cs now new all i d c lt e back quote h n =
    ap (λ xs. xs ++ unescaped (drop (i + 1) cs)) n
    ∙ (append_assoc now (c ∷ []) (unescaped (drop (i + 1) cs))
    ∙ (ap (λ xs. now ++ xs) (sym (plain_left c (drop (i + 1) cs) (ne_eqb c 92 back) (ne_eqb c 34 quote)))
    ∙ (ap (λ xs. now ++ unescaped xs) (sym (next_left cs i d c lt e)) ∙ h)))

escaping : (c : ℕ) (cs : List ℕ) → (c == 92) ≡ true → unescaped (c ∷ cs) ≡ as_it_is cs
escaping c cs back = rw back refl

-- a `\`
pub escape_left : (cs now all : List ℕ) (i d c : ℕ) → i < length cs → get_or cs i d ≡ c → c ≡ 92 → now ++ unescaped (drop i cs) ≡ all → now ++ as_it_is (drop (i + 1) cs) ≡ all
escape_left cs now all i d c lt e back h =
    ap (λ xs. now ++ xs) (sym (escaping c (drop (i + 1) cs) (eq-eqb c 92 back))) ∙ (ap (λ xs. now ++ unescaped xs) (sym (next_left cs i d c lt e)) ∙ h)
