-- Tokens that are ids.
use Rattle.std.proofs.Common.{◌≡◌, ◌≢◌, ◌∙◌, ℕ, Bool, true, false, List, sym, bytes_eq}
use Rattle.std.proofs.lemmas.Slice.Eq.{bytes_eq-Decides}

pub is_spelled : (id text : List ℕ) (found : Bool) → found ≡ bytes_eq id text → found ≡ true → text ≡ id
is_spelled id text found e h = sym ((bytes_eq-Decides id text).0 (sym e ∙ h))

pub not_spelled : (id text : List ℕ) (found : Bool) → found ≡ bytes_eq id text → found ≡ false → text ≢ id
not_spelled id text found e h = λ same. let both : bytes_eq id text ≡ true = (bytes_eq-Decides id text).1 (sym same) in
    let no : true ≡ false = sym both ∙ (sym e ∙ h) in cc
