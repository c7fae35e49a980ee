-- Signs that were met before.
use Rattle.std.proofs.Common.{◌≡◌, ℕ, zero, suc, ◌+◌, ◌-◌, ◌<◌, ◌⊎◌, inl, inr, Bool, true, false, if◌then◌else◌}
use Rattle.std.proofs.Common.{List, [], ◌∷◌, ◌++◌, length, Option, Some, None, slice_get, slice_set, slice_index, slice_range, replicate, arith, refl, sym, ap, ◌∙◌}
use Rattle.std.specs.Prelude.{◌==◌}
use Rattle.std.proofs.lemmas.Bool.{le-leb, eqb-true}
use Rattle.std.proofs.lemmas.List.Edits.{between_more}
use Rattle.ir_tokens.specs.declared.tokens.TokenKind.{TokenKind}
use Rattle.ir_tokens.specs.declared.tokens.TokenKind.TheVariants.{Name, Dotted, Digits, Negative, Mark, Text, Sign, Arrow, InMemory, Bad}
use Rattle.ir_tokens.specs.declared.tokens.Token.{Token}
use Rattle.ir_tokens.specs.Tokens.{IsToken}
use Rattle.ir_formats.specs.Rules.{number_of, with_word}
use Rattle.ir_formats.specs.Spelling.{IsKnownSign, AreSigns, signs_with}
use Rattle.ir_formats.specs.Words.{text_of, is_spelled, word_kind, kind_of, name_number, known_with}
use Rattle.ir_formats.proofs.Spelled.{numbered_all, numbered_with}

-- in a list of nothing there is nothing
none_there : (n c : ℕ) (found : ℕ × ℕ) → slice_get (replicate {A = Option (ℕ × ℕ)} n None) c ≡ Some (Some found) → ⊥
none_there zero c found e = cc
none_there (suc n) zero found e = cc
none_there (suc n) (suc c) found e = none_there n c found e

-- at first nothing is kept
pub none_kept : (words known : List (List ℕ)) (n : ℕ) → AreSigns words known (replicate n None)
none_kept words known n c found e = absurd (none_there n c found e)

-- a text more that is known changes nothing of a sign
sign_stays : (words known : List (List ℕ)) (text : List ℕ) (c : ℕ) (found : ℕ × ℕ) (b : Bool) → IsKnownSign words known c found
    → IsKnownSign words (if b then with_word known text else known) c found
sign_stays words known text c found true h =
    let more = numbered_all known (text ∷ []) (c ∷ []) found.1 (record { is = h.number; among = h.among }) in
    record { sign = h.sign; kind = h.kind; number = more.is; among = more.among }
sign_stays words known text c found false h = h

-- what is kept of signs stays right where the text of a token is known too
pub signs_stay : (words known known' : List (List ℕ)) (cs : List ℕ) (t : Token) (signs : List (Option (ℕ × ℕ)))
    → known' ≡ known_with known cs t → AreSigns words known signs → AreSigns words known' signs
signs_stay words known known' cs t signs same h = λ c found e.
    rw same (sign_stays words known (text_of cs t) c found (is_spelled t.kind) (h c found e))

-- what stands in a list with one item set is this item, or stood there before
set_item : (signs : List (Option (ℕ × ℕ))) (k c : ℕ) (x : Option (ℕ × ℕ)) (found : ℕ × ℕ)
    → slice_get (slice_set signs k x) c ≡ Some (Some found) → ((k ≡ c) × (x ≡ Some found)) ⊎ (slice_get signs c ≡ Some (Some found))
set_item [] k c x found e = inr e
set_item (s ∷ ss) zero zero x found e = inl (refl, cc)
set_item (s ∷ ss) zero (suc c) x found e = inr e
set_item (s ∷ ss) (suc k) zero x found e = inr e
set_item (s ∷ ss) (suc k) (suc c) x found e = elim (set_item ss k c x found e) [ inl h ↦ inl (ap suc h.0, h.1) | inr h ↦ inr h ]

-- the text of a sign is this character alone
sign_text : (cs : List ℕ) (k : TokenKind) (i j : ℕ) → i < length cs → j ≡ i + 1
    → text_of cs (record { kind = k; start = i; end = j }) ≡ slice_index cs i ∷ []
sign_text cs k i j lt next =
    let before : i - i ≡ 0 = omega arith in
    let none : slice_range cs i i ≡ [] = rw before refl in
    let one : slice_range cs i (i + 1) ≡ slice_index cs i ∷ [] = between_more cs i i 0 (omega arith) (omega arith) ∙ ap (λ (xs : List ℕ). xs ++ slice_index cs i ∷ []) none in
    rw (next, le-leb i (i + 1) (omega arith), le-leb (i + 1) (length cs) (omega arith)) one

-- a sign's kind and number are right, where they are those of the token that it is
kept_sign : (words known : List (List ℕ)) (cs : List ℕ) (c i j : ℕ) (kind name : ℕ)
    → IsToken cs (record { kind = Sign c; start = i; end = j })
    → kind ≡ kind_of words cs (record { kind = Sign c; start = i; end = j })
    → name ≡ name_number known 0 cs (record { kind = Sign c; start = i; end = j })
    → IsKnownSign words (known_with known cs (record { kind = Sign c; start = i; end = j })) c (kind, name)
kept_sign words known cs c i j kind name token is_kind is_name =
    let text : text_of cs (record { kind = Sign c; start = i; end = j }) ≡ c ∷ []
    = sign_text cs (Sign c) i j token.begins token.spelled.2 ∙ ap (λ (x : ℕ). x ∷ []) token.spelled.1 in
    let is : name ≡ number_of known (c ∷ []) = is_name ∙ ap (number_of known) text in
    let numbered = numbered_with known (c ∷ []) in
    record {
      sign = token.spelled.0;
      kind = is_kind ∙ ap (λ (x : List ℕ). word_kind (number_of words x) (length words) 6) text;
      number = rw text (numbered.is ∙ sym is);
      among = rw (text, is) numbered.among;
    }

-- the kind and number of a token are kept, if it is a sign
signs_kept_by : (words known : List (List ℕ)) (cs : List ℕ) (signs : List (Option (ℕ × ℕ))) (k : TokenKind) (i j : ℕ) (kind name : ℕ)
    → IsToken cs (record { kind = k; start = i; end = j })
    → kind ≡ kind_of words cs (record { kind = k; start = i; end = j })
    → name ≡ name_number known 0 cs (record { kind = k; start = i; end = j })
    → AreSigns words (known_with known cs (record { kind = k; start = i; end = j })) signs
    → AreSigns words (known_with known cs (record { kind = k; start = i; end = j })) (signs_with signs k (kind, name))
signs_kept_by words known cs signs (Sign s) i j kind name token is_kind is_name h = λ c found e.
    elim (set_item signs s c (Some (kind, name)) found e) [
      | inl here ↦ let same : (kind, name) ≡ found = cc in rw (← here.0, ← same) (kept_sign words known cs s i j kind name token is_kind is_name)
      | inr there ↦ h c found there
    ]
signs_kept_by words known cs signs Name i j kind name token is_kind is_name h = h
signs_kept_by words known cs signs Dotted i j kind name token is_kind is_name h = h
signs_kept_by words known cs signs Digits i j kind name token is_kind is_name h = h
signs_kept_by words known cs signs Negative i j kind name token is_kind is_name h = h
signs_kept_by words known cs signs Mark i j kind name token is_kind is_name h = h
signs_kept_by words known cs signs Text i j kind name token is_kind is_name h = h
signs_kept_by words known cs signs Arrow i j kind name token is_kind is_name h = h
signs_kept_by words known cs signs InMemory i j kind name token is_kind is_name h = h
signs_kept_by words known cs signs Bad i j kind name token is_kind is_name h = h

-- what is kept of signs stays right with what is kept of a token
pub signs_kept : (words known known' : List (List ℕ)) (cs : List ℕ) (signs same_signs signs' : List (Option (ℕ × ℕ))) (t : Token)
    (kind name : ℕ)
    → AreSigns words known signs → same_signs ≡ signs → IsToken cs t → known' ≡ known_with known cs t → kind ≡ kind_of words cs t
    → name ≡ name_number known 0 cs t → signs' ≡ signs_with same_signs t.kind (kind, name) → AreSigns words known' signs'
signs_kept words known known' cs signs same_signs signs' t kind name h stays token same is_kind is_name is_signs =
    rw (same, is_signs, stays) (signs_kept_by words known cs signs t.kind t.start t.end kind name token is_kind is_name
    (signs_stay words known (known_with known cs t) cs t signs refl h))

-- a text that is known stays so
with_known : (known : List (List ℕ)) (text : List ℕ) → number_of known text < length known → known ≡ with_word known text
with_known known text lt = go (number_of known text == length known) refl
  where
    go : (b : Bool) → (number_of known text == length known) ≡ b → known ≡ (if b then known ++ text ∷ [] else known)
    go true e = let same = eqb-true (number_of known text) (length known) e in absurd (omega arith)
    go false e = refl

-- the text of the token that one character is
abbrev pub text_here : List ℕ → TokenKind → ℕ → List ℕ
text_here cs k at = text_of cs (record { kind = k; start = at; end = at + 1 })

-- what is kept of the sign that stands here is said of its token: its kind, its number, and that its text is known
module _ (words known : List (List ℕ)) (cs : List ℕ) (signs : List (Option (ℕ × ℕ))) (k : TokenKind) (at kind name : ℕ)
    (inside : at < length cs) (are : AreSigns words known signs)
    (kept : slice_get signs (slice_index cs at) ≡ Some (Some (kind, name))) where
  met : IsKnownSign words known (slice_index cs at) (kind, name)
  met = are (slice_index cs at) (kind, name) kept

  alone : text_here cs k at ≡ slice_index cs at ∷ []
  alone = sign_text cs k at (at + 1) inside refl

  pub met_kind : kind ≡ word_kind (number_of words (text_here cs k at)) (length words) 6
  met_kind = rw alone met.kind

  pub met_name : name ≡ number_of known (text_here cs k at)
  met_name = rw alone (sym met.number)

  pub met_known : known ≡ with_word known (text_here cs k at)
  met_known =
      let number = met.number in
      let among = met.among in
      rw alone (with_known known (slice_index cs at ∷ []) (omega (arith, number, among)))
