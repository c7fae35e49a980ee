-- What a tree means has the names of the tree, and under other names means the same.
use Rattle.std.proofs.Common.{◌≡◌, List, [], ◌∷◌, ◌++◌, map, sym, refl, ap, ◌∙◌, subst}
use Rattle.std.proofs.lemmas.List.{map-append}
use Rattle.ir_trees.specs.Names.{Names, Contents}
use Rattle.ir_trees.specs.Renames.{Maps, IsOneToOne, IsSameUpToNames, blocks_in, blocks_of, rename, rename_defined}
use Rattle.ir_trees.specs.Renames.{rename_head, rename_label, rename_root, values_in, values_of}
use Rattle.ir_trees.specs.Searched.{heads_in, operation_names, Lists}
use Rattle.ir_trees.specs.Trees.{Defined, Head, Label, Sort, Tree, end, operation, block, region, Root}
use Rattle.ir_trees.proofs.Same.{same_renamed}
use Rattle.opt_meanings.specs.Meanings.{Meanings, mean, mean_defined, mean_head, mean_label, mean_root}
use Rattle.opt_meanings.proofs.Said.{names-mean}

-- definitions under other names mean what they meant
defined_renamed : {V W T U : Type 0} (f : T → U) (g : V → W) (vs : List (Defined V T)) →
    map (mean_defined f) (map (rename_defined g) vs) ≡ map (rename_defined g) (map (mean_defined f) vs)
defined_renamed f g [] = refl
defined_renamed f g (v ∷ vs) = ap (λ l. record { name = g v.name; holds = f v.holds } ∷ l) (defined_renamed f g vs)

module _ {N : Names} {S R : Contents} (m : Meanings S R) where
  -- operations have their names
  heads_named : {s : Sort} (t : Tree N S s) →
      map (λ (h : Head N R). h.name) (heads_in (mean m t)) ≡ map (λ (h : Head N S). h.name) (heads_in t)
  heads_named end = refl
  heads_named (operation h rs rest) = ap (λ l. h.name ∷ l)
      (map-append (λ (h : Head N R). h.name) (heads_in (mean m rs)) (heads_in (mean m rest))
      ∙ (λ i. heads_named rs i ++ heads_named rest i) ∙ sym (map-append (λ (h : Head N S). h.name) (heads_in rs) (heads_in rest)))
  heads_named (block l ops rest) =
      map-append (λ (h : Head N R). h.name) (heads_in (mean m ops)) (heads_in (mean m rest))
      ∙ (λ i. heads_named ops i ++ heads_named rest i) ∙ sym (map-append (λ (h : Head N S). h.name) (heads_in ops) (heads_in rest))
  heads_named (region bs rest) =
      map-append (λ (h : Head N R). h.name) (heads_in (mean m bs)) (heads_in (mean m rest))
      ∙ (λ i. heads_named bs i ++ heads_named rest i) ∙ sym (map-append (λ (h : Head N S). h.name) (heads_in bs) (heads_in rest))

  operations_named : (t : Root N S) → operation_names (mean_root m t) ≡ operation_names t
  operations_named t = ap (λ l. t.head.name ∷ l) (heads_named t.regions)

  -- blocks have theirs
  blocks_in_named : {s : Sort} (t : Tree N S s) → blocks_in (mean m t) ≡ blocks_in t
  blocks_in_named end = refl
  blocks_in_named (operation h rs rest) = λ i. h.successors ++ (blocks_in_named rs i ++ blocks_in_named rest i)
  blocks_in_named (block l ops rest) = λ i. l.name ∷ (blocks_in_named ops i ++ blocks_in_named rest i)
  blocks_in_named (region bs rest) = λ i. blocks_in_named bs i ++ blocks_in_named rest i

  blocks_named : (t : Root N S) → blocks_of (mean_root m t) ≡ blocks_of t
  blocks_named t = ap (λ l. t.head.successors ++ l) (blocks_in_named t.regions)

  -- values have theirs
  values_in_named : {s : Sort} (t : Tree N S s) → values_in (mean m t) ≡ values_in t
  values_in_named end = refl
  values_in_named (operation h rs rest) =
      λ i. (names-mean m.value h.results i ++ h.operands) ++ (values_in_named rs i ++ values_in_named rest i)
  values_in_named (block l ops rest) = λ i. names-mean m.value l.arguments i ++ (values_in_named ops i ++ values_in_named rest i)
  values_in_named (region bs rest) = λ i. values_in_named bs i ++ values_in_named rest i

  values_named : (t : Root N S) → values_of (mean_root m t) ≡ values_of t
  values_named t = λ i. (names-mean m.value t.head.results i ++ t.head.operands) ++ values_in_named t.regions i

module _ {N M : Names} {S R : Contents} (m : Meanings S R) (n : Maps N M) where
  head_renamed : (h : Head N S) → mean_head m (rename_head n h) ≡ rename_head n (mean_head m h)
  head_renamed h = λ i. record {
    name = n.operation h.name;
    content = m.operation h.content;
    results = defined_renamed m.value n.value h.results i;
    operands = map n.value h.operands;
    successors = map n.block h.successors;
  }

  label_renamed : (l : Label N S) → mean_label m (rename_label n l) ≡ rename_label n (mean_label m l)
  label_renamed l = λ i. record {
    name = n.block l.name;
    content = m.block l.content;
    arguments = defined_renamed m.value n.value l.arguments i;
  }

  tree_renamed : {s : Sort} (t : Tree N S s) → mean m (rename n t) ≡ rename n (mean m t)
  tree_renamed end = refl
  tree_renamed (operation h rs rest) = λ i. operation (head_renamed h i) (tree_renamed rs i) (tree_renamed rest i)
  tree_renamed (block l ops rest) = λ i. block (label_renamed l i) (tree_renamed ops i) (tree_renamed rest i)
  tree_renamed (region bs rest) = λ i. region (tree_renamed bs i) (tree_renamed rest i)

  -- a tree under other names means what it meant, under those names
  pub root_renamed : (t : Root N S) → mean_root m (rename_root n t) ≡ rename_root n (mean_root m t)
  root_renamed t = λ i. record { head = head_renamed t.head i; regions = tree_renamed t.regions i }

  -- names that are kept apart in a tree are kept apart in what it means
  pub one_to_one_meant : (t : Root N S) → IsOneToOne n t → IsOneToOne n (mean_root m t)
  one_to_one_meant t o = record {
    operations = λ x y a b e. o.operations x y
        (subst (λ l. Lists l x) (operations_named m t) a) (subst (λ l. Lists l y) (operations_named m t) b) e;
    blocks = λ x y a b e. o.blocks x y
        (subst (λ l. Lists l x) (blocks_named m t) a) (subst (λ l. Lists l y) (blocks_named m t) b) e;
    values = λ x y a b e. o.values x y
        (subst (λ l. Lists l x) (values_named m t) a) (subst (λ l. Lists l y) (values_named m t) b) e;
  }

  -- a tree under names that are kept apart means the same up to names
  pub renamed_means_same : (t : Root N S) → IsOneToOne n t → IsSameUpToNames (mean_root m t) (mean_root m (rename_root n t))
  renamed_means_same t o =
      subst (IsSameUpToNames (mean_root m t)) (sym (root_renamed t)) (same_renamed n (mean_root m t) (one_to_one_meant t o))
