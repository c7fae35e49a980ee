-- What is written in quotes is these characters, in UTF-8.
use Rattle.std.proofs.Common.{◌≡◌, ◌∙◌, refl, ap, ℕ, ◌==◌, ◌||◌, ◌&&◌, Bool, true, false, cond, List, [], ◌∷◌, ◌++◌, chars, encode_utf8_all}
use Rattle.std.proofs.lemmas.Str.{chars-append, chars-encodes, scalars-chars}
use Rattle.std.proofs.Math.Utf8.{scalars, scalar}
use Rattle.std.specs.Str.{IsUtf8}
use Rattle.ir_print.specs.Layout.{escaped, in_quotes}

and_left : (a b : Bool) → (a && b) ≡ true → a ≡ true
and_left true b e = refl
and_left false b e = cc

and_right : (a b : Bool) → (a && b) ≡ true → b ≡ true
and_right true b e = e
and_right false b e = cc

scalars-escaped : (cs : List ℕ) → scalars cs ≡ true → scalars (escaped cs ++ 34 ∷ []) ≡ true
scalars-escaped [] h = refl
scalars-escaped (c ∷ cs) h =
    let here = and_left (scalar c) (scalars cs) h in
    let again = scalars-escaped cs (and_right (scalar c) (scalars cs) h) in
    elim (c == 34 || c == 92) as (λ b. scalars (cond b (92 ∷ c ∷ escaped cs) (c ∷ escaped cs) ++ 34 ∷ []) ≡ true) [
      | true ↦ rw here (rw again refl)
      | false ↦ rw here (rw again refl)
    ]

-- the characters of a text in quotes, with what follows
pub chars-in_quotes : (text rest all : List ℕ) → IsUtf8 text → all ≡ encode_utf8_all (in_quotes (chars text)) ++ rest →
    chars all ≡ in_quotes (chars text) ++ chars rest
chars-in_quotes text rest all utf8 e =
    let cs = in_quotes (chars text) in
    let each : scalars cs ≡ true = scalars-escaped (chars text) (scalars-chars text utf8) in
    ap chars e
    ∙ chars-append (encode_utf8_all cs) rest (cs, (each, refl))
    ∙ ap (λ xs. xs ++ chars rest) (chars-encodes cs each)

-- the same of what was printed into an empty string, with what was put behind it
pub chars-printed : (text rest empty bytes printed all shown : List ℕ) → IsUtf8 text → empty ≡ [] → bytes ≡ encode_utf8_all (in_quotes (chars text)) →
    printed ≡ empty ++ bytes → all ≡ printed ++ rest → shown ≡ all → chars shown ≡ in_quotes (chars text) ++ chars rest
chars-printed text rest empty bytes printed all shown utf8 none said e k s =
    chars-in_quotes text rest shown utf8 (s ∙ k ∙ ap (λ xs. xs ++ rest) (e ∙ ap (λ xs. xs ++ bytes) none ∙ said))
