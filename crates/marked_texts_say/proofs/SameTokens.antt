-- What is known of tokens by their kinds and characters alone.
use Rattle.std.proofs.Common.{◌≡◌, ℕ, ◌≤◌, inl, inr, List, [], ◌∷◌, Option, Some, None, length, map, refl, sym, ◌∙◌, ap}
use Rattle.std.specs.Prelude.{slice_get, if◌then◌else◌}
use Rattle.std.specs.Option.{option_map, option_map_or}
use Rattle.std.proofs.Math.Path.{fun_ext}
use Rattle.std.proofs.lemmas.List.{length-map}
use Rattle.std.proofs.lemmas.Bool.{le-leb}
use Rattle.std.proofs.lemmas.Option.{none-some, same_Some, slice_get-map}
use Rattle.std.proofs.lemmas.Simd.{map-map}
use Rattle.ir_tokens.specs.declared.tokens.TokenKind.{TokenKind}
use Rattle.ir_tokens.specs.declared.tokens.Token.{Token}
use Rattle.ir_tokens.specs.Tokens.{ReadsAs}
use Rattle.ir_formats.specs.Rules.{number_of}
use Rattle.ir_formats.specs.Words.{AlikeInNumber, is_spelled, kind_of, shape_kind, text_of, token_text, word_kind}
use Rattle.text_marking.specs.Marks.{token_characters}
use Rattle.text_marking.specs.PutAndTaken.{kind_and_characters}
use Rattle.text_marking.proofs.Moved.{spells_from}
use Rattle.text_marking.proofs.Separated.{last_or_more}
use Rattle.marked_texts_say.specs.Alike.{AreAlike}

-- the kind of a token and its characters, as a reader of formats takes them
abbrev pub kind_and_text : List ℕ → Token → TokenKind × List ℕ
kind_and_text cs t = (t.kind, text_of cs t)

text_is : (cs : List ℕ) (t : Token) → t.start ≤ t.end → t.end ≤ length cs → text_of cs t ≡ token_characters cs t
text_is cs t lo hi = rw (le-leb t.start t.end lo, le-leb t.end (length cs) hi) refl

-- these are the characters from where it begins to where it ends
texts_are : (cs : List ℕ) (from : ℕ) (ts : List Token) → ReadsAs cs from ts → map (kind_and_text cs) ts ≡ map (kind_and_characters cs) ts
texts_are cs from [] r = refl
texts_are cs from (t ∷ ts) r =
    let lo = spells_from cs t.start t.end t.kind r.2.spelled in
    let rest : map (kind_and_text cs) ts ≡ map (kind_and_characters cs) ts =
    elim (last_or_more t.kind r.3) [
      | inl none ↦ rw none refl
      | inr more ↦ texts_are cs t.end ts more
    ] in
    ap (λ (text : List ℕ). (t.kind, text) ∷ map (kind_and_text cs) ts) (text_is cs t lo r.2.inside)
    ∙ ap (λ (xs : List (TokenKind × List ℕ)). kind_and_characters cs t ∷ xs) rest

-- so alike texts have the same
pub same_texts : (cs ds : List ℕ) (ts us : List Token) → AreAlike cs ts ds us → map (kind_and_text ds) us ≡ map (kind_and_text cs) ts
same_texts cs ds ts us h = texts_are ds 0 us h.second ∙ h.same ∙ sym (texts_are cs 0 ts h.first)

-- the other way round
pub alike_back : (cs ds : List ℕ) (ts us : List Token) → AreAlike cs ts ds us → AreAlike ds us cs ts
alike_back cs ds ts us h = record { first = h.second; second = h.first; same = sym h.same }

pub same_length : (cs ds : List ℕ) (ts us : List Token) → AreAlike cs ts ds us → length us ≡ length ts
same_length cs ds ts us h = sym (length-map us (kind_and_characters ds)) ∙ ap length h.same ∙ length-map ts (kind_and_characters cs)

-- ---- kinds

-- the kind by these
kind_by : List (List ℕ) → TokenKind × List ℕ → ℕ
kind_by words x = if is_spelled x.0 then word_kind (number_of words x.1) (length words) (shape_kind x.0 x.1) else shape_kind x.0 x.1

kinds_by : (words : List (List ℕ)) (cs : List ℕ) (ts : List Token) → map (kind_of words cs) ts ≡ map (kind_by words) (map (kind_and_text cs) ts)
unfolding kind_by
kinds_by words cs ts = sym (map-map (kind_by words) (kind_and_text cs) ts)

pub same_kinds : (words : List (List ℕ)) (cs ds : List ℕ) (ts us : List Token) → AreAlike cs ts ds us → map (kind_of words ds) us ≡ map (kind_of words cs) ts
same_kinds words cs ds ts us h = kinds_by words ds us ∙ ap (map (kind_by words)) (same_texts cs ds ts us h) ∙ sym (kinds_by words cs ts)

-- ---- characters

text_by : (cs : List ℕ) (ts : List Token) (k : ℕ) → token_text cs ts k ≡ option_map_or (λ (x : TokenKind × List ℕ). x.1) (slice_get (map (kind_and_text cs) ts) k) []
text_by cs ts k = by (slice_get ts k) ∙ ap (λ (o : Option (TokenKind × List ℕ)). option_map_or (λ (x : TokenKind × List ℕ). x.1) o []) (sym (slice_get-map (kind_and_text cs) ts k))
  where
    by : (o : Option Token) → option_map_or (text_of cs) o [] ≡ option_map_or (λ (x : TokenKind × List ℕ). x.1) (option_map (kind_and_text cs) o) []
    by None = refl
    by (Some t) = refl

pub same_token_texts : (cs ds : List ℕ) (ts us : List Token) → AreAlike cs ts ds us → token_text cs ts ≡ token_text ds us
same_token_texts cs ds ts us h = fun_ext (λ k.
    text_by cs ts k
    ∙ ap (λ (xs : List (TokenKind × List ℕ)). option_map_or (λ (x : TokenKind × List ℕ). x.1) (slice_get xs k) []) (sym (same_texts cs ds ts us h))
    ∙ sym (text_by ds us k))

-- ---- numbers of names

-- a token of one text has a token of the other at its number
pub record IsTokenLike (cs : List ℕ) (ts : List Token) (ds : List ℕ) (k : ℕ) (u : Token) : Type 0 where
  pub token : Token
  pub at : slice_get ts k ≡ Some token
  pub like : kind_and_text cs token ≡ kind_and_text ds u

token_like : (cs ds : List ℕ) (ts us : List Token) → AreAlike cs ts ds us → (k : ℕ) (u : Token) → slice_get us k ≡ Some u → IsTokenLike cs ts ds k u
token_like cs ds ts us h k u at = by (slice_get ts k) refl
  where
    both : option_map (kind_and_text ds) (slice_get us k) ≡ option_map (kind_and_text cs) (slice_get ts k)
    both = sym (slice_get-map (kind_and_text ds) us k)
        ∙ ap (λ (xs : List (TokenKind × List ℕ)). slice_get xs k) (same_texts cs ds ts us h)
        ∙ slice_get-map (kind_and_text cs) ts k

    is : Some (kind_and_text ds u) ≡ option_map (kind_and_text cs) (slice_get ts k)
    is = ap (option_map (kind_and_text ds)) (sym at) ∙ both

    by : (o : Option Token) → slice_get ts k ≡ o → IsTokenLike cs ts ds k u
    by None e = absurd (none-some (kind_and_text ds u) (sym (is ∙ ap (option_map (kind_and_text cs)) e)))
    by (Some t) e = record { token = t; at = e; like = sym (same_Some _ _ (is ∙ ap (option_map (kind_and_text cs)) e)) }

pub same_numbers : (cs ds : List ℕ) (ts us : List Token) (names : List ℕ) → AreAlike cs ts ds us → AlikeInNumber cs ts names → AlikeInNumber ds us names
same_numbers cs ds ts us names h alike i j s t at_i at_j spelled_s spelled_t =
    let first = token_like cs ds ts us h i s at_i in
    let second = token_like cs ds ts us h j t at_j in
    let kind_s : first.token.kind ≡ s.kind = ap (λ (x : TokenKind × List ℕ). x.0) first.like in
    let kind_t : second.token.kind ≡ t.kind = ap (λ (x : TokenKind × List ℕ). x.0) second.like in
    let text_s : text_of cs first.token ≡ text_of ds s = ap (λ (x : TokenKind × List ℕ). x.1) first.like in
    let text_t : text_of cs second.token ≡ text_of ds t = ap (λ (x : TokenKind × List ℕ). x.1) second.like in
    let both = alike i j first.token second.token first.at second.at (ap is_spelled kind_s ∙ spelled_s) (ap is_spelled kind_t ∙ spelled_t) in
    ((λ e. sym text_s ∙ both.0 e ∙ text_t), (λ e. both.1 (text_s ∙ e ∙ sym text_t)))
