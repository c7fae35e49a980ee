-- The tokens of the labels of a text, as they are met and as they are collected.
use Rattle.std.proofs.Common.{◌≡◌, ℕ, ◌-◌, ◌<◌, Bool, false, List, [], ◌∷◌, map, length, Some, slice_get, refl, sym, ap, ◌∙◌, arith}
use Rattle.ir_grammar.specs.declared.grammar.Action.TheVariants.{Label, BeginSuccessor}
use Rattle.ir_grammar.specs.declared.grammar.Event.{Event}
use Rattle.ir_grammar.specs.declared.grammar.Event.TheVariants.{Took, Did}
use Rattle.ir_scopes.specs.declared.sites.Site.{Site}
use Rattle.ir_grammar.specs.Nesting.{OwnTokens}
use Rattle.ir_grammar.specs.Reading.{tooks}
use Rattle.ir_scopes.specs.Naming.{labelled_from, label_mentioned_from}
use Rattle.ir_scopes.specs.Scopes.{EventPlace, beginning, behind, each, labelled, labels, label_mentioned, label_mentions}
use Rattle.ir_rereading.proofs.trees.DefinedTokens.{tokens_at, length_map, site_of, nowhere, one, IsTaken, last_taken, each_taken}

module _ (isolated : ℕ → Bool) where
  label_tokens_from : (at : EventPlace) (es : List Event) → tokens_at (each isolated labelled at es) ≡ labelled_from at.tokens es
  label_tokens_from at [] = refl
  label_tokens_from at (Took ∷ es) = label_tokens_from (behind isolated at Took) es
  label_tokens_from at (Did Label ∷ es) = ap (λ zs. (at.tokens - 1) ∷ zs) (label_tokens_from (behind isolated at (Did Label)) es)
  label_tokens_from at (Did a ∷ es) = label_tokens_from (behind isolated at (Did a)) es

  -- the labels of a text name its blocks, in the same order
  pub label_tokens : (es : List Event) → map (λ s. s.token) (labels isolated es) ≡ labelled_from 0 es
  label_tokens es = label_tokens_from beginning es

  -- so many blocks are named
  pub many_labels : (es : List Event) → length (labelled_from 0 es) ≡ length (labels isolated es)
  many_labels es = ap (λ (xs : List ℕ). length xs) (sym (label_tokens es)) ∙ length_map (λ s. s.token) (labels isolated es)

  -- each token that names a block is that of its site
  pub label_site : (es : List Event) (i k : ℕ) → slice_get (labelled_from 0 es) i ≡ Some k → (s : Site) × (slice_get (labels isolated es) i ≡ Some s) × (s.token ≡ k)
  label_site es i k h = site_of (labels isolated es) i k (ap (λ (xs : List ℕ). slice_get xs i) (label_tokens es) ∙ h)

-- ---- mentions of blocks

module _ (isolated : ℕ → Bool) where
  label_mention_tokens_from : (at : EventPlace) (es : List Event)
      → tokens_at (each isolated label_mentioned at es) ≡ label_mentioned_from at.tokens es
  label_mention_tokens_from at [] = refl
  label_mention_tokens_from at (Took ∷ es) = label_mention_tokens_from (behind isolated at Took) es
  label_mention_tokens_from at (Did BeginSuccessor ∷ es) = ap (λ zs. (at.tokens - 1) ∷ zs) (label_mention_tokens_from (behind isolated at (Did BeginSuccessor)) es)
  label_mention_tokens_from at (Did a ∷ es) = label_mention_tokens_from (behind isolated at (Did a)) es

  -- the mentions of blocks are the edges of a text, in the same order
  pub label_mention_tokens : (es : List Event) → map (λ s. s.token) (label_mentions isolated es) ≡ label_mentioned_from 0 es
  label_mention_tokens es = label_mention_tokens_from beginning es

  -- so many edges are named
  pub many_label_mentions : (es : List Event) → length (label_mentioned_from 0 es) ≡ length (label_mentions isolated es)
  many_label_mentions es = ap (λ (xs : List ℕ). length xs) (sym (label_mention_tokens es)) ∙ length_map (λ s. s.token) (label_mentions isolated es)

  -- each token that mentions a block is that of its site
  pub label_mention_site : (es : List Event) (i k : ℕ) → slice_get (label_mentioned_from 0 es) i ≡ Some k
      → (s : Site) × (slice_get (label_mentions isolated es) i ≡ Some s) × (s.token ≡ k)
  label_mention_site es i k h = site_of (label_mentions isolated es) i k (ap (λ (xs : List ℕ). slice_get xs i) (label_mention_tokens es) ∙ h)

-- ---- where the tokens are

labelled_taken : IsTaken labelled
labelled_taken at Took fresh es i s h t own = nowhere s h
labelled_taken at (Did Label) fresh es i s h t own = last_taken at fresh s (sym (ap (λ x. x.token) (one _ s i h))) own.0 t
labelled_taken at (Did _) fresh es i s h t own = nowhere s h

-- each label is a token that was taken
pub labels_taken : (isolated : ℕ → Bool) (es : List Event) → OwnTokens false es → (i : ℕ) (s : Site) → slice_get (labels isolated es) i ≡ Some s → s.token < tooks es
labels_taken isolated es own i s h = let lt = each_taken isolated labelled labelled_taken false beginning es tt own i s h in omega arith

label_mentioned_taken : IsTaken label_mentioned
label_mentioned_taken at Took fresh es i s h t own = nowhere s h
label_mentioned_taken at (Did BeginSuccessor) fresh es i s h t own = last_taken at fresh s (sym (ap (λ x. x.token) (one _ s i h))) own.0 t
label_mentioned_taken at (Did _) fresh es i s h t own = nowhere s h

-- and so is each mention of a block
pub label_mentions_taken : (isolated : ℕ → Bool) (es : List Event) → OwnTokens false es → (i : ℕ) (s : Site) → slice_get (label_mentions isolated es) i ≡ Some s → s.token < tooks es
label_mentions_taken isolated es own i s h = let lt = each_taken isolated label_mentioned label_mentioned_taken false beginning es tt own i s h in omega arith
