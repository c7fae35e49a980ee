-- A text in quotes is written character by character.
use Rattle.std.proofs.Common.{◌≡◌, ℕ, Bool, true, false, ◌==◌, ◌||◌, if◌then◌else◌, List, [], ◌∷◌, ◌++◌, codes, encode_utf8_all, refl, sym, ap, ◌∙◌}
use Rattle.std.proofs.lemmas.List.{append_assoc}
use Rattle.std.proofs.lemmas.Str.{encodes-append}
use Rattle.ir_print.specs.Layout.{escaped, in_quotes}

escaped_append : (xs ys : List ℕ) → escaped (xs ++ ys) ≡ escaped xs ++ escaped ys
escaped_append [] ys = refl
escaped_append (c ∷ xs) ys = go (escaped_append xs ys) (c == 34 || c == 92)
  where
    go : escaped (xs ++ ys) ≡ escaped xs ++ escaped ys → (b : Bool) → (if b then 92 ∷ c ∷ escaped (xs ++ ys) else c ∷ escaped (xs ++ ys)) ≡ (if b then 92 ∷ c ∷ escaped xs else c ∷ escaped xs) ++ escaped ys
    go h true = ap (λ cs. 92 ∷ c ∷ cs) h
    go h false = ap (λ cs. c ∷ cs) h

-- one more character is written
pub escaped_more : (old now new xs : List ℕ) (c : ℕ) → now ≡ old ++ encode_utf8_all (escaped xs) → new ≡ now ++ encode_utf8_all (escaped (c ∷ []))
    → new ≡ old ++ encode_utf8_all (escaped (xs ++ c ∷ []))
escaped_more old now new xs c h e =
    e
    ∙ (ap (λ bs. bs ++ encode_utf8_all (escaped (c ∷ []))) h
    ∙ (append_assoc old (encode_utf8_all (escaped xs)) (encode_utf8_all (escaped (c ∷ [])))
    ∙ ap (λ bs. old ++ bs) (sym (encodes-append (escaped xs) (escaped (c ∷ []))) ∙ ap encode_utf8_all (sym (escaped_append xs (c ∷ []))))))

-- all characters are written, and the quotes around them
pub quoted_bytes : (old now new cs : List ℕ) → now ≡ (old ++ codes "\"") ++ encode_utf8_all (escaped cs) → new ≡ now ++ codes "\"" → new ≡ old ++ encode_utf8_all (in_quotes cs)
unfolding lib.Utf8.encode
quoted_bytes old now new cs h e =
    e
    ∙ (ap (λ bs. bs ++ codes "\"") h
    ∙ (ap (λ bs. bs ++ codes "\"") (append_assoc old (codes "\"") (encode_utf8_all (escaped cs)))
    ∙ (append_assoc old (codes "\"" ++ encode_utf8_all (escaped cs)) (codes "\"")
    ∙ ap (λ bs. old ++ (34 ∷ bs)) (sym (encodes-append (escaped cs) (34 ∷ []))))))
