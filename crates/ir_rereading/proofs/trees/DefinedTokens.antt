-- The tokens of the names of a text, as they are met and as they are collected.
use Rattle.std.proofs.Common.{◌≡◌, ℕ, zero, suc, ◌+◌, ◌<◌, ◌-◌, Bool, true, false, List, [], ◌∷◌, ◌++◌, map, length, Some, None, slice_get, refl, sym, ap, ◌∙◌, arith, inl, inr}
use Rattle.std.specs.Bool.{MatchBool}
use Rattle.ir_grammar.specs.declared.grammar.Action.TheVariants.{Result, Argument, Operand}
use Rattle.ir_grammar.specs.declared.grammar.Event.{Event}
use Rattle.ir_grammar.specs.declared.grammar.Event.TheVariants.{Took, Did}
use Rattle.ir_scopes.specs.declared.sites.Site.{Site}
use Rattle.ir_grammar.specs.Reading.{tooks}
use Rattle.ir_scopes.specs.Naming.{defined_from, mentioned_from}
use Rattle.ir_scopes.specs.Scopes.{EventPlace, beginning, behind, defined, mentioned, each, definitions, mentions}
use Rattle.ir_grammar.specs.Nesting.{names_value_or_block, OwnTokens}
use Rattle.ir_scopes.proofs.Apart.{get_append}

-- the tokens at sites
abbrev pub tokens_at : List Site → List ℕ
tokens_at ss = map (λ s. s.token) ss

tokens_append : (xs ys : List Site) → tokens_at (xs ++ ys) ≡ tokens_at xs ++ tokens_at ys
tokens_append [] ys = refl
tokens_append (x ∷ xs) ys = ap (λ zs. x.token ∷ zs) (tokens_append xs ys)

module _ (isolated : ℕ → Bool) where
  defined_tokens_from : (at : EventPlace) (es : List Event) → tokens_at (each isolated defined at es) ≡ defined_from at.tokens es
  defined_tokens_from at [] = refl
  defined_tokens_from at (Took ∷ es) = defined_tokens_from (behind isolated at Took) es
  defined_tokens_from at (Did Result ∷ es) = ap (λ zs. (at.tokens - 1) ∷ zs) (defined_tokens_from (behind isolated at (Did Result)) es)
  defined_tokens_from at (Did Argument ∷ es) = ap (λ zs. (at.tokens - 1) ∷ zs) (defined_tokens_from (behind isolated at (Did Argument)) es)
  defined_tokens_from at (Did a ∷ es) = defined_tokens_from (behind isolated at (Did a)) es

  mentioned_tokens_from : (at : EventPlace) (es : List Event) → tokens_at (each isolated mentioned at es) ≡ mentioned_from at.tokens es
  mentioned_tokens_from at [] = refl
  mentioned_tokens_from at (Took ∷ es) = mentioned_tokens_from (behind isolated at Took) es
  mentioned_tokens_from at (Did Operand ∷ es) = ap (λ zs. (at.tokens - 1) ∷ zs) (mentioned_tokens_from (behind isolated at (Did Operand)) es)
  mentioned_tokens_from at (Did a ∷ es) = mentioned_tokens_from (behind isolated at (Did a)) es

  -- the definitions of a text name what is defined in it, in the same order
  pub defined_tokens : (es : List Event) → map (λ s. s.token) (definitions isolated es) ≡ defined_from 0 es
  defined_tokens es = defined_tokens_from beginning es

  -- the same of the mentions
  pub mentioned_tokens : (es : List Event) → map (λ s. s.token) (mentions isolated es) ≡ mentioned_from 0 es
  mentioned_tokens es = mentioned_tokens_from beginning es

-- ---- where the tokens are

pub length_map : {X Y : Type 0} (f : X → Y) (xs : List X) → length (map f xs) ≡ length xs
length_map f [] = refl
length_map f (x ∷ xs) = ap suc (length_map f xs)

-- so many definitions are named
pub many_defined : (isolated : ℕ → Bool) (es : List Event) → length (defined_from 0 es) ≡ length (definitions isolated es)
many_defined isolated es = ap (λ (xs : List ℕ). length xs) (sym (defined_tokens isolated es)) ∙ length_map (λ s. s.token) (definitions isolated es)

pub site_of : (ss : List Site) (i k : ℕ) → slice_get (map (λ s. s.token) ss) i ≡ Some k → (s : Site) × (slice_get ss i ≡ Some s) × (s.token ≡ k)
site_of [] i k h = let wrong : None ≡ Some k = h in cc
site_of (s ∷ ss) zero k h = (s, refl, (let same : Some s.token ≡ Some k = h in cc))
site_of (s ∷ ss) (suc i) k h = site_of ss i k h

-- each token that names a definition is that of its site
pub defined_site : (isolated : ℕ → Bool) (es : List Event) (i k : ℕ) → slice_get (defined_from 0 es) i ≡ Some k → (s : Site) × (slice_get (definitions isolated es) i ≡ Some s) × (s.token ≡ k)
defined_site isolated es i k h = site_of (definitions isolated es) i k (ap (λ (xs : List ℕ). slice_get xs i) (defined_tokens isolated es) ∙ h)

-- each token that mentions a value is that of its site
pub mentioned_site : (isolated : ℕ → Bool) (es : List Event) (i k : ℕ) → slice_get (mentioned_from 0 es) i ≡ Some k → (s : Site) × (slice_get (mentions isolated es) i ≡ Some s) × (s.token ≡ k)
mentioned_site isolated es i k h = site_of (mentions isolated es) i k (ap (λ (xs : List ℕ). slice_get xs i) (mentioned_tokens isolated es) ∙ h)

-- ---- tokens are taken before they name something

pub nowhere : {A : Type 0} (s : Site) → None ≡ Some s → A
nowhere s h = cc

pub one : (x s : Site) (i : ℕ) → slice_get (x ∷ []) i ≡ Some s → x ≡ s
one x s zero h = cc
one x s (suc i) h = nowhere s h

abbrev pub Taken : Bool → EventPlace → Type 0
Taken true at = 0 < at.tokens
Taken false at = Unit {0}

-- what an event makes names the last token, which has been taken
abbrev pub IsTaken : (EventPlace → Event → List Site) → Type 0
IsTaken f = (at : EventPlace) (e : Event) (fresh : Bool) (es : List Event) (i : ℕ) (s : Site) → slice_get (f at e) i ≡ Some s → Taken fresh at → OwnTokens fresh (e ∷ es) → s.token < at.tokens

pub last_taken : (at : EventPlace) (fresh : Bool) (s : Site) → s.token ≡ at.tokens - 1 → fresh ≡ true → Taken fresh at → s.token < at.tokens
last_taken at true s e f t = omega arith
last_taken at false s e f t = let wrong : false ≡ true = f in cc

pub defined_taken : IsTaken defined
defined_taken at Took fresh es i s h t own = nowhere s h
defined_taken at (Did Result) fresh es i s h t own = last_taken at fresh s (sym (ap (λ x. x.token) (one _ s i h))) own.0 t
defined_taken at (Did Argument) fresh es i s h t own = last_taken at fresh s (sym (ap (λ x. x.token) (one _ s i h))) own.0 t
defined_taken at (Did _) fresh es i s h t own = nowhere s h

pub mentioned_taken : IsTaken mentioned
mentioned_taken at Took fresh es i s h t own = nowhere s h
mentioned_taken at (Did Operand) fresh es i s h t own = last_taken at fresh s (sym (ap (λ x. x.token) (one _ s i h))) own.0 t
mentioned_taken at (Did _) fresh es i s h t own = nowhere s h

module _ (isolated : ℕ → Bool) (f : EventPlace → Event → List Site) (taken : IsTaken f) where
  pub each_taken : (fresh : Bool) (at : EventPlace) (es : List Event) → Taken fresh at → OwnTokens fresh es → (i : ℕ) (s : Site) → slice_get (each isolated f at es) i ≡ Some s → s.token < at.tokens + tooks es
  each_taken fresh at [] t own i s h = nowhere s h
  each_taken fresh at (Took ∷ es) t own i s h = elim (get_append (f at Took) (each isolated f (behind isolated at Took) es) i s h) [
    | inl x ↦ (let lt = taken at Took fresh es i s x t own in omega arith)
    | inr x ↦ (let lt = each_taken true (behind isolated at Took) es (omega arith) own x.0 s x.2 in let lt' : s.token < at.tokens + 1 + tooks es = lt in omega arith)
  ]
  each_taken fresh at (Did a ∷ es) t own i s h = elim (get_append (f at (Did a)) (each isolated f (behind isolated at (Did a)) es) i s h) [
    | inl x ↦ (let lt = taken at (Did a) fresh es i s x t own in omega arith)
    | inr x ↦ go (names_value_or_block a) own (λ next n o. each_taken next (behind isolated at (Did a)) es n o x.0 s x.2)
  ]
    where
      still : (b : Bool) → Taken b at → Taken b (behind isolated at (Did a))
      still true n = n
      still false n = tt

      go : (b : Bool) → MatchBool b ((fresh ≡ true) × OwnTokens false es) (OwnTokens fresh es)
          → ((next : Bool) → Taken next (behind isolated at (Did a)) → OwnTokens next es → s.token < at.tokens + tooks es) → s.token < at.tokens + tooks es
      go true o again = again false tt o.1
      go false o again = again fresh (still fresh t) o

-- each name of a value is a token that was taken
pub definitions_taken : (isolated : ℕ → Bool) (es : List Event) → OwnTokens false es → (i : ℕ) (s : Site) → slice_get (definitions isolated es) i ≡ Some s → s.token < tooks es
definitions_taken isolated es own i s h = let lt = each_taken isolated defined defined_taken false beginning es tt own i s h in omega arith

pub mentions_taken : (isolated : ℕ → Bool) (es : List Event) → OwnTokens false es → (i : ℕ) (s : Site) → slice_get (mentions isolated es) i ≡ Some s → s.token < tooks es
mentions_taken isolated es own i s h = let lt = each_taken isolated mentioned mentioned_taken false beginning es tt own i s h in omega arith
