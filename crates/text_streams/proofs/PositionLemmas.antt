-- Lemmas on places that lie behind one another.
use Rattle.std.proofs.Common.{◌≡◌, ◌∙◌, refl, ap, ℕ, Bool, true, false, List, [], ◌∷◌, ◌++◌, cond}
use Rattle.std.proofs.Common.{append-nil, encode_utf8, encode_utf8_all}
use Rattle.std.proofs.lemmas.Str.{encodes-append}
use Rattle.std.specs.List.{take_while}
use Rattle.std.proofs.lemmas.List.Sums.{take_while-cons}
use Rattle.text_streams.specs.Positions.{left, behind_all, LiesBehind}
use Rattle.text_streams.specs.declared.position.Position.{Position}

pub behind_itself : (from : Position) → LiesBehind from from []
behind_itself from = record { taken = refl; counted = refl }

-- a character, and then characters
pub behind_more : (from mid to : Position) (c : ℕ) (cs : List ℕ) → LiesBehind from mid (c ∷ []) → LiesBehind mid to cs → LiesBehind from to (c ∷ cs)
behind_more from mid to c cs h k = record {
  taken = h.taken ∙ ap (λ xs. c ∷ xs) k.taken;
  counted = k.counted ∙ ap (λ at. behind_all at cs) h.counted;
}

take_while-take : (test : ℕ → Bool) (c : ℕ) (cs : List ℕ) → test c ≡ true → take_while test (c ∷ cs) ≡ c ∷ take_while test cs
take_while-take test c cs e = take_while-cons test c cs ∙ ap (λ b. cond b (c ∷ take_while test cs) []) e

take_while-stop : (test : ℕ → Bool) (c : ℕ) (cs : List ℕ) → test c ≡ false → take_while test (c ∷ cs) ≡ []
take_while-stop test c cs e = take_while-cons test c cs ∙ ap (λ b. cond b (c ∷ take_while test cs) []) e

-- the characters from a place on that pass a test, if the first passes
pub while_step : (test : ℕ → Bool) (from mid to : Position) (c : ℕ) → LiesBehind from mid (c ∷ []) → test c ≡ true →
    LiesBehind mid to (take_while test (left mid)) → LiesBehind from to (take_while test (left from))
while_step test from mid to c h e k =
    let all : take_while test (left from) ≡ c ∷ take_while test (left mid) = ap (take_while test) h.taken ∙ take_while-take test c (left mid) e in
    rw all (behind_more from mid to c _ h k)

-- the same if it doesn't
pub while_stop : (test : ℕ → Bool) (from mid : Position) (c : ℕ) → LiesBehind from mid (c ∷ []) → test c ≡ false →
    LiesBehind from from (take_while test (left from))
while_stop test from mid c h e =
    let none : take_while test (left from) ≡ [] = ap (take_while test) h.taken ∙ take_while-stop test c (left mid) e in
    rw none (behind_itself from)

-- and if there is none
pub while_end : (test : ℕ → Bool) (from : Position) → left from ≡ [] → LiesBehind from from (take_while test (left from))
while_end test from e =
    let none : take_while test (left from) ≡ [] = ap (take_while test) e in
    rw none (behind_itself from)

-- one more character at the end of a text, in UTF-8
pub encode-push : (cs : List ℕ) (c : ℕ) → encode_utf8_all (cs ++ c ∷ []) ≡ encode_utf8_all cs ++ encode_utf8 c
encode-push cs c = encodes-append cs (c ∷ []) ∙ ap (λ bytes. encode_utf8_all cs ++ bytes) (append-nil (encode_utf8 c))
