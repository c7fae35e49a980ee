-- Lemmas on what is written in quotes, and on lines.
use Rattle.std.proofs.Common.{◌≡◌, ◌∙◌, sym, ap, append-nil, append_assoc, encode_utf8, encode_utf8_all, ℕ, ◌+◌, List, [], ◌∷◌, ◌++◌}
use Rattle.std.proofs.lemmas.List.{replicate-append-replicate}
use Rattle.std.proofs.lemmas.Str.{encodes-append}
use Rattle.ir_print.specs.Layout.{escaped, in_quotes, line}

-- one more character at the end of a text, in UTF-8
encode-push : (cs : List ℕ) (c : ℕ) → encode_utf8_all (cs ++ c ∷ []) ≡ encode_utf8_all cs ++ encode_utf8 c
encode-push cs c = encodes-append cs (c ∷ []) ∙ ap (λ bytes. encode_utf8_all cs ++ bytes) (append-nil (encode_utf8 c))

-- what was written behind a text, up to the closing quote
pub written-in_quotes : (before begun all rest cs : List ℕ) → rest ≡ [] →
    begun ++ encode_utf8_all (escaped rest) ≡ before ++ encode_utf8_all (34 ∷ escaped cs) →
    all ≡ begun ++ encode_utf8 34 → all ≡ before ++ encode_utf8_all (in_quotes cs)
written-in_quotes before begun all rest cs none e closed =
    let opened : begun ≡ before ++ encode_utf8_all (34 ∷ escaped cs) =
    sym (append-nil begun) ∙ ap (λ rest. begun ++ encode_utf8_all (escaped rest)) (sym none) ∙ e in
    closed
    ∙ ap (λ bytes. bytes ++ encode_utf8 34) opened
    ∙ append_assoc before (encode_utf8_all (34 ∷ escaped cs)) (encode_utf8 34)
    ∙ ap (λ bytes. before ++ bytes) (sym (encode-push (34 ∷ escaped cs) 34))

-- one more space
pub line-space : (before now new : List ℕ) (n : ℕ) → now ≡ before ++ line n → new ≡ now ++ 32 ∷ [] → new ≡ before ++ line (n + 1)
line-space before now new n e k =
    k
    ∙ ap (λ bytes. bytes ++ 32 ∷ []) e
    ∙ append_assoc before (line n) (32 ∷ [])
    ∙ ap (λ bytes. before ++ 10 ∷ bytes) (replicate-append-replicate n 1 32)
