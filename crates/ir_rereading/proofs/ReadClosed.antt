-- The tree of a text is closed.
use Rattle.std.proofs.Common.{◌≡◌, ℕ, true, List, [], slice_index, sym, subst, inr}
use Rattle.ir_print.specs.Layout.{AreFlat, IsShallow}
use Rattle.ir_print.specs.Pieces.{Pieces, Entity}
use Rattle.ir_forest.specs.Bare.{IsBareTree, KeepsBare}
use Rattle.ir_forest.specs.Closed.{IsOperation, IsScopedRoot, HasEdges, IsIsolatedRoot, IsNumbered}
use Rattle.ir_formats.specs.Ordered as ordered
use Rattle.ir_formats.specs.Ordered.{is_ordered}
use Rattle.ir_formats.specs.Rules.{rules_of}
use Rattle.ir_rereading.specs.Texts.{Says}
use Rattle.ir_formats.specs.Words.{token_text}
use Rattle.ir_forest.specs.Language.{Language}
use Rattle.ir_rereading.proofs.layouts.LayoutPlain.{read_bare, bare_renamed}
use Rattle.ir_rereading.proofs.ReadDepths.{says_shallow}
use Rattle.ir_rereading.proofs.ReadTrees.{says_operation}
use Rattle.ir_rereading.proofs.TreeTexts.{text_scoped}
use Rattle.ir_rereading.proofs.trees.RootOpenings.{root_isolated, renamed_isolated}
use Rattle.ir_rereading.proofs.verdicts.TextReadings.{read_whole}

module _ (l : Language) (lead : ordered.PartPositions) (ok : is_ordered lead (rules_of l.formats) ≡ true) (flat : (n d : ℕ) (ps : Pieces) → AreFlat d ps → AreFlat d (l.values.canonical n ps)) (keeps : KeepsBare l.values)
    (cs : List ℕ) (tree : Entity ℕ) (says : Says l cs tree) where
  -- what is known of the tree of a text, but for what its operations say
  pub record IsReadTree : Type 0 where
    pub operation : IsOperation l.values tree
    pub shallow : IsShallow 64 tree
    pub scoped : IsScopedRoot l.isolated tree
    pub edges : HasEdges [] tree
    pub isolated : IsIsolatedRoot l.isolated tree
    pub numbered : IsNumbered tree
    pub bare : IsBareTree tree

  pub read_closed : IsReadTree
  read_closed =
      let ts = says.0 in
      let names = says.1 in
      let stop = says.2 in
      let n = says.3 in
      let es = says.4 in
      let forest = says.5 in
      let t = says.6 in
      let r = says.7 in
      let reading = says.8 in
      let none = says.9 in
      let is = says.10 in
      let built = says.11 in
      let resolved = says.12 in
      let same = says.13 in
      let scopes = text_scoped l cs ts names stop n es reading lead ok reading.numbered none forest t r is built resolved in
      record {
        operation = says_operation l lead ok cs tree says;
        shallow = says_shallow l flat cs tree says;
        scoped = subst (λ u. IsScopedRoot l.isolated u) (sym same) scopes.0;
        edges = subst (λ (u : Entity ℕ). HasEdges [] u) (sym same) scopes.1;
        isolated = subst (λ u. IsIsolatedRoot l.isolated u) (sym same)
            (renamed_isolated l.isolated (slice_index r.definitions) (slice_index r.definitions) t
            (root_isolated l.isolated l.values (token_text cs ts) es forest t (read_whole l lead ok cs ts names n es stop reading none) is built (λ f h. none f (inr (inr (inr (inr (inr (inr h)))))))));
        numbered = subst IsNumbered (sym same) scopes.2;
        bare = subst (λ (u : Entity ℕ). IsBareTree u) (sym same) (bare_renamed (slice_index r.definitions) (slice_index r.definitions) t (read_bare l.values (token_text cs ts) keeps forest t built));
      }
