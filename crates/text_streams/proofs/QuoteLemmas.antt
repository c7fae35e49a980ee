-- What is written in quotes is read again.
use Rattle.std.proofs.Common.{◌≡◌, refl, ℕ, ◌==◌, true, false, List, [], ◌∷◌, ◌++◌, Some}
use Rattle.ir_print.specs.Layout.{escaped, in_quotes}
use Rattle.text_streams.specs.Quotes.{said_in, quoted_text}

-- what is behind the first quote says the characters, whatever follows
said_in-escaped : (cs rest : List ℕ) → said_in ((escaped cs ++ 34 ∷ []) ++ rest) ≡ Some (cs, escaped cs ++ 34 ∷ [])
said_in-escaped [] rest = refl
said_in-escaped (c ∷ cs) rest =
    let again = said_in-escaped cs rest in
    elim (c == 34) as (λ b. (c == 34) ≡ b → said_in ((escaped (c ∷ cs) ++ 34 ∷ []) ++ rest) ≡ Some (c ∷ cs, escaped (c ∷ cs) ++ 34 ∷ [])) [
      | true ↦ λ e. rw e (rw e (rw again refl))
      | false ↦ λ e. elim (c == 92) as (λ b. (c == 92) ≡ b → said_in ((escaped (c ∷ cs) ++ 34 ∷ []) ++ rest) ≡ Some (c ∷ cs, escaped (c ∷ cs) ++ 34 ∷ [])) [
        | true ↦ λ k. rw e (rw k (rw e (rw k (rw again refl))))
        | false ↦ λ k. rw e (rw k (rw e (rw k (rw again refl))))
      ] refl
    ] refl

pub quoted_text-in_quotes : (cs rest : List ℕ) → quoted_text (in_quotes cs ++ rest) ≡ Some (cs, in_quotes cs)
quoted_text-in_quotes cs rest = rw (said_in-escaped cs rest) refl
