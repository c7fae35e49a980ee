-- Where names are looked up, blocks have the numbers of their labels.
use Rattle.std.proofs.Common.{◌≡◌, ℕ, ◌≤◌, Bool, false, List, [], length, Some, slice_get, slice_index, sym, ap, ◌∙◌, arith}
use Rattle.ir_grammar.specs.declared.grammar.Event.{Event}
use Rattle.ir_grammar.specs.Nesting.{at_root, at_end, OwnTokens}
use Rattle.ir_grammar.specs.Reading.{tooks}
use Rattle.ir_scopes.specs.declared.scopes.Resolution.{Resolution}
use Rattle.ir_scopes.specs.declared.sites.Site.{Site}
use Rattle.ir_forest.specs.Progress.{Leads}
use Rattle.ir_scopes.specs.Naming.{labelled_from}
use Rattle.ir_scopes.specs.Scopes.{labels, label_mentions, Means, IsResolved}
use Rattle.ir_rereading.proofs.trees.Closings.{label_mentions_end}
use Rattle.ir_rereading.proofs.trees.LabelTokens.{label_site, labels_taken, label_mentions_taken}

module _ (isolated : ℕ → Bool) (names : List ℕ) (es : List Event) (r : Resolution) (resolved : IsResolved isolated names es r) (own : OwnTokens false es) (enough : tooks es ≤ length names) where
  -- at the token of each label is its number
  pub label_number : (i k : ℕ) → slice_get (labelled_from 0 es) i ≡ Some k → slice_index r.definitions k ≡ i
  label_number i k h =
      let s = label_site isolated es i k h in
      let lt = labels_taken isolated es own i s.0 s.1 in
      sym (ap (slice_index r.definitions) s.2) ∙ resolved.labels.defined i s.0 s.1 (omega arith)

  -- at the token of each mention of a block is the number of a label of this name in its scope
  pub label_meant : Leads at_root [] es at_end [] → (i : ℕ) (m : Site) → slice_get (label_mentions isolated es) i ≡ Some m
      → (j : ℕ) × Means names (labels isolated es) m j × (slice_index r.definitions m.token ≡ j)
  label_meant leads i m at =
      let c = label_mentions_end isolated es leads i m at in
      let j = resolved.labels.resolved i c.0 m c.1 at c.2 c.3 in
      let lt = label_mentions_taken isolated es own i m at in
      (j.0, j.1, resolved.labels.mentioned i j.0 m at j.1 (omega arith))
