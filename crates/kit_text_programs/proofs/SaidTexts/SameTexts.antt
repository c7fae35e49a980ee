-- What stands in two contexts for one text says the same.
use Rattle.std.proofs.Common.{◌≡◌, ℕ, List, ◌∷◌, ◌++◌, map, refl, sym, ap, ◌∙◌, subst}
use Rattle.std.proofs.lemmas.List.{map-append}
use Rattle.ir_base.specs.declared.types.TypeHandle.{TypeHandle}
use Rattle.ir_forest.specs.Closed.{unlabelled_head, unlabelled, all_unlabelled}
use Rattle.ir_print.specs.Pieces.{ValueTree, a_region, Entity, entity, Entities, no_entity, an_entity}
use Rattle.ir_print.specs.Pieces as texts
use Rattle.ir_print.specs.Shown.{Pairs}
use Rattle.ir_program.specs.declared.handles.BasicBlock.{BasicBlock}
use Rattle.ir_program.specs.declared.handles.Operation.{Operation}
use Rattle.ir_program.specs.declared.handles.Ptr.{Ptr}
use Rattle.ir_program.specs.declared.handles.Value.{Value}
use Rattle.ir_trees.specs.Renames.{forget, rename_root, values_of, blocks_of, RepeatAlike}
use Rattle.ir_trees.specs.Searched.{AreDistinct, heads_in, operation_names}
use Rattle.ir_trees.specs.Stands.{by_handle}
use Rattle.ir_trees.specs.Trees.{Head, Sort, Tree, end, operation, block, region, Root}
use Rattle.ir_trees.proofs.Alike.{alike_back, alike_on}
use Rattle.ir_trees.proofs.Renamed.{operation_names_renamed}
use Rattle.kit.specs.Context.{KitContext, KitTree}
use Rattle.opt_meanings.specs.Meanings.{mean, mean_root}
use Rattle.opt_trees.specs.Occurrences.{Has}
use Rattle.text_dialect.specs.Seen.{seen}
use Rattle.text_rereading.specs.Rereading.{Named}
use Rattle.kit_ruled_views.specs.Ruled.{HasOwnNames}
use Rattle.kit.specs.Says.{says}
use Rattle.kit_views.specs.Reading.{kit_contents}
use Rattle.kit_text_programs.proofs.SaidFunctions.{KitPart}
use Rattle.kit_text_programs.proofs.Unlabelled.{unlabelled_tree}
use Rattle.kit_text_programs.specs.SameLaws.{types_of_head, types_in_text, types_in_texts, StandsAs, HaveTextNumbers}
use Rattle.kit_text_programs.specs.SameLaws.{OneTextSaysTheSame}
use Rattle.kit_text_programs.specs.Meanings.{sayings, meanings}
use Rattle.kit_text_programs.proofs.SaidTexts.MeantTrees.{IsSaidRoot, root_means}
use Rattle.kit_text_programs.proofs.SaidTexts.SaidMeanings.{root_said, root_values, root_blocks}
use Rattle.kit_text_programs.proofs.SaidTexts.SameLists.{distinct_alike, values_alike, blocks_alike}

-- ---- types of texts without labels

head_types : (h : texts.EntityHead ℕ) → types_of_head (unlabelled_head h) ≡ types_of_head h
head_types (texts.operation kind results used successors pieces) = refl
head_types a_region = refl
head_types (texts.block named label arguments) = refl

mutual
  -- a text says the types that it says without its labels
  pub unlabelled_types : (t : Entity ℕ) → types_in_text (unlabelled t) ≡ types_in_text t
  unlabelled_types (entity h ts) = λ i. head_types h i ++ all_unlabelled_types ts i

  all_unlabelled_types : (ts : Entities ℕ) → types_in_texts (all_unlabelled ts) ≡ types_in_texts ts
  all_unlabelled_types no_entity = refl
  all_unlabelled_types (an_entity t ts) = λ i. unlabelled_types t i ++ all_unlabelled_types ts i

-- ---- names of operations

abbrev meant_name : Head by_handle sayings → Ptr Operation
meant_name h = h.name

abbrev head_name : Head by_handle kit_contents → Ptr Operation
head_name h = h.name

both_named : {X Y Z : Type 0} (f : X → Z) (g : Y → Z) (us vs : List X) (cs ds : List Y) → map f us ≡ map g cs
    → map f vs ≡ map g ds → map f (us ++ vs) ≡ map g (cs ++ ds)
both_named f g us vs cs ds e d = map-append f us vs ∙ (λ i. e i ++ d i) ∙ sym (map-append g cs ds)

module _ (code : TypeHandle → ℕ) where
  abbrev meant : {k : Sort} → KitPart k → Tree by_handle sayings k
  meant x = mean (meanings code) x

  -- operations have their names in what is meant
  names_meant : {k : Sort} (x : KitPart k) → map meant_name (heads_in (meant x)) ≡ map head_name (heads_in x)
  names_meant end = refl
  names_meant (operation h rs rest) =
      let both = both_named meant_name head_name (heads_in (meant rs)) (heads_in (meant rest)) (heads_in rs)
      (heads_in rest) (names_meant rs) (names_meant rest) in
      λ i. h.name ∷ both i
  names_meant (block l os rest) = both_named meant_name head_name (heads_in (meant os)) (heads_in (meant rest))
      (heads_in os) (heads_in rest) (names_meant os) (names_meant rest)
  names_meant (region bs rest) = both_named meant_name head_name (heads_in (meant bs)) (heads_in (meant rest))
      (heads_in bs) (heads_in rest) (names_meant bs) (names_meant rest)

  root_names : (t : KitTree) → operation_names (mean_root (meanings code) t) ≡ operation_names t
  root_names t = let inside = names_meant t.regions in λ i. t.head.name ∷ inside i

-- ---- the law

module _ (number : ValueTree → ℕ) where
  -- what stands for a text means what the text says without its labels
  stands_said : (code : TypeHandle → ℕ) (text : Entity ℕ) (s : KitContext) (root : Ptr Operation) (t : KitTree)
      (a : StandsAs text s root t) → HaveTextNumbers number code s text
      → IsSaidRoot number code s a.numbering a.distinct t (unlabelled text)
  stands_said code text s root t a n =
      root_means number code s a.numbering a.distinct (unlabelled text) root t
      (unlabelled_tree says (Named a.numbering) (seen s) text root a.stands) a.is_tree
      (λ h r shown has. n h r shown (subst (Has r) (unlabelled_types text) has))

  module _ (code other_code : TypeHandle → ℕ) (t u : KitTree) where
    abbrev here : Root by_handle sayings
    here = mean_root (meanings code) t

    abbrev there : Root by_handle sayings
    there = mean_root (meanings other_code) u

    operations_alike : rename_root forget here ≡ rename_root forget there → HasOwnNames t → HasOwnNames u
        → RepeatAlike (operation_names here) (operation_names there)
    operations_alike shape a b = distinct_alike (operation_names here) (operation_names there)
        (subst AreDistinct (sym (root_names code t)) a.operations)
        (subst AreDistinct (sym (root_names other_code u)) b.operations)
        (sym (operation_names_renamed forget here) ∙ ap operation_names shape ∙ operation_names_renamed forget there)

pub one_text : OneTextSaysTheSame
one_text number code other_code text other s z root there t u same a b n m =
    let x = stands_said number code text s root t a n in
    let y = stands_said number other_code other z there u b m in
    let ns : List ℕ = root_values (unlabelled text) in
    let here : List Value = values_of (mean_root (meanings code) t) in
    let too : List Value = values_of (mean_root (meanings other_code) u) in
    let bs : List ℕ = root_blocks (unlabelled text) in
    let blocks : List (Ptr BasicBlock) = blocks_of (mean_root (meanings code) t) in
    let blocks_too : List (Ptr BasicBlock) = blocks_of (mean_root (meanings other_code) u) in
    let shape : rename_root forget (mean_root (meanings code) t) ≡ rename_root forget (mean_root (meanings other_code) u) =
    x.shape ∙ ap (root_said number) same ∙ sym y.shape in
    record {
      shape = shape;
      operations = operations_alike number code other_code t u shape a.names b.names;
      blocks = alike_on blocks bs blocks_too (blocks_alike a.numbering a.distinct blocks bs x.blocks)
          (alike_back blocks_too bs (blocks_alike b.numbering b.distinct blocks_too bs
          (subst (λ (ks : List ℕ). Pairs (Named b.numbering).block blocks_too ks) (sym (ap root_blocks same)) y.blocks)));
      values = alike_on here ns too (values_alike a.numbering a.distinct here ns x.named)
          (alike_back too ns (values_alike b.numbering b.distinct too ns
          (subst (λ (ks : List ℕ). Pairs (Named b.numbering).value too ks) (sym (ap root_values same)) y.named)));
    }
