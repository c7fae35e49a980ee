-- What a text says is an operation: it has results of the types that its pieces give, and the regions and edges that they say, and so
-- have those in it.
use Rattle.std.proofs.Common.{◌≡◌, ℕ, suc, true, List, [], ◌∷◌, ◌++◌, map, length, None, refl, sym, subst, ap, ◌∙◌, arith, inl, inr}
use Rattle.std.proofs.lemmas.List.{length-map}
use Rattle.ir_names.specs.Tree.{Trees, node, no_tree, a_tree}
use Rattle.ir_print.specs.Pieces.{ValueTree, Values, operation, a_region, block, Entity, entity, Entities, no_entity, an_entity}
use Rattle.ir_print.specs.Shown.{successors_said}
use Rattle.ir_grammar.specs.declared.grammar.Action.{Action}
use Rattle.ir_grammar.specs.declared.grammar.Action.TheVariants as act
use Rattle.ir_grammar.specs.declared.grammar.Event.{Event}
use Rattle.ir_grammar.specs.declared.grammar.Stop.{Stop}
use Rattle.ir_tokens.specs.declared.tokens.Token.{Token}
use Rattle.ir_forest.specs.Building.{with_name}
use Rattle.ir_forest.specs.Closed.{regions_said, number_in as entities_in, IsOperation, AreRegions, IsRegion, AreBlocks, IsBlock, AreOperations}
use Rattle.ir_tokens.specs.Faults.{IsNamed}
use Rattle.ir_forest.specs.Forest.{ActionSpan, IsForestOf}
use Rattle.ir_forest.specs.Meaning.{pieces_in, typed, successors_in, operations_in, regions_in, blocks_in, renamed, all_renamed}
use Rattle.ir_grammar.specs.Nesting.{Position, at_root, behind_root_results, at_end, in_operation, in_operands, in_successor, in_region, in_header, in_argument, in_block, behind_results, in_value, in_list, in_item, in_choice, move}
use Rattle.ir_formats.specs.Ordered.{is_ordered}
use Rattle.ir_formats.specs.Ordered as ordered
use Rattle.ir_formats.specs.Rules.{rules_of}
use Rattle.ir_rereading.specs.Texts.{IsReading, HasFault, Says}
use Rattle.ir_formats.specs.Words.{token_text}
use Rattle.ir_forest.specs.Language.{Language}
use Rattle.ir_rereading.proofs.verdicts.TextReadings.{read_whole}
use Rattle.ir_rereading.proofs.trees.TreeCounts.{CountsAt, Counts, forest_counts}
use Rattle.ir_print.specs.declared.format.ValueSort.TheVariants as sorts
use Rattle.ir_rereading.proofs.trees.TreePlaces.{PlacedBy, Placed, forest_placed}

-- ---- names beside types

-- as many names as types leave no type out
pub types_typed : (ks : List ℕ) (ts : List ValueTree) → length ks ≡ length ts → map (λ x. x.1) (typed ks ts) ≡ ts
types_typed [] [] e = refl
types_typed [] (t ∷ ts) e = let wrong : 0 ≡ suc (length ts) = e in absurd (omega arith)
types_typed (k ∷ ks) [] e = let wrong : suc (length ks) ≡ 0 = e in absurd (omega arith)
types_typed (k ∷ ks) (t ∷ ts) e = let same : suc (length ks) ≡ suc (length ts) = e in ap (λ z. t ∷ z) (types_typed ks ts (omega arith))

types_renamed : {M N : Type 0} (f : M → N) (xs : List (M × ValueTree)) → map (λ (x : N × ValueTree). x.1) (map (λ (r : M × ValueTree). (f r.0, r.1)) xs) ≡ map (λ (x : M × ValueTree). x.1) xs
types_renamed f [] = refl
types_renamed f (x ∷ xs) = ap (λ z. x.1 ∷ z) (types_renamed f xs)

-- ---- the shape of what is read

-- a step of an action, with the tokens where it begins and ends
abbrev pub step_of : Action → ℕ → ℕ → ActionSpan
step_of a f l = record { action = a; first = f; last = l }

module _ (v : Values) (text : ℕ → List ℕ) where
  -- an operation's pieces say as many regions and edges as it has
  abbrev HasParts : Trees ActionSpan → Type 0
  HasParts ts = (regions_said (pieces_in v text ts) ≡ entities_in (regions_in v text ts)) × (successors_said (pieces_in v text ts) ≡ length (successors_in ts)) × AreRegions v (regions_in v text ts)

  abbrev HasOperations : List ℕ → Trees ActionSpan → Type 0
  HasOperations names ts = AreOperations v (operations_in v text names ts)

  -- what steps are at each position, these names of results standing before them
  abbrev Shaped : Position → List ℕ → Trees ActionSpan → Type 0
  Shaped at_root names ts = HasOperations names ts
  Shaped behind_root_results names ts = HasOperations names ts
  Shaped at_end names ts = HasOperations names ts
  Shaped in_operation names ts = HasParts ts
  Shaped in_operands names ts = Unit {0}
  Shaped in_successor names ts = Unit {0}
  Shaped in_region names ts = AreBlocks v (blocks_in v text ts)
  Shaped in_header names ts = HasOperations [] ts
  Shaped in_argument names ts = HasOperations [] ts
  Shaped in_block names ts = HasOperations names ts
  Shaped behind_results names ts = HasOperations names ts
  Shaped (in_value sort) names ts = Unit {0}
  Shaped in_list names ts = Unit {0}
  Shaped in_item names ts = Unit {0}
  Shaped in_choice names ts = Unit {0}

  none : (p : Position) (names : List ℕ) → Shaped p names no_tree
  none at_root names = tt
  none behind_root_results names = tt
  none at_end names = tt
  none in_operation names = (refl, refl, tt)
  none in_operands names = tt
  none in_successor names = tt
  none in_region names = tt
  none in_header names = tt
  none in_argument names = tt
  none in_block names = tt
  none behind_results names = tt
  none (in_value sort) names = tt
  none in_list names = tt
  none in_item names = tt
  none in_choice names = tt

  -- what is known of the trees in a step
  abbrev Inner : Trees ActionSpan → Type 0
  Inner ts = (q : Position) → Placed q ts → Shaped q [] ts

  -- and of those behind it
  abbrev After : Trees ActionSpan → Type 0
  After ts = (q : Position) (names : List ℕ) → Placed q ts → Counts v text names ts → Shaped q names ts

  module _ (names : List ℕ) (f l : ℕ) (ts rest : Trees ActionSpan) (inner : Inner ts) (more : After rest) where
    -- an operation, and those behind it
    an_operation : (kind : ℕ) → length names ≡ length (v.result_types kind (pieces_in v text ts)) → Placed in_operation ts → HasOperations [] rest
        → HasOperations names (a_tree (node (step_of (act.Operation kind) f l) ts) rest)
    an_operation kind many pl others =
        let r = inner in_operation pl in
        ((types_typed names (v.result_types kind (pieces_in v text ts)) many, r.0, r.1, r.2), others)

    shape : (p : Position) (a : Action) → PlacedBy (move p a) (λ q. Placed q ts) (λ q. Placed q rest) → CountsAt v text a names ts → Counts v text (with_name names a f) rest
        → Shaped p names (a_tree (node (step_of a f l) ts) rest)
    shape at_root act.Result pl many c = more behind_root_results (names ++ f ∷ []) pl c
    shape at_root (act.Operation kind) pl many c = an_operation kind many pl.0 (more at_end [] pl.1 c)
    shape at_root _ pl many c = absurd pl
    shape behind_root_results act.Result pl many c = more behind_root_results (names ++ f ∷ []) pl c
    shape behind_root_results (act.Operation kind) pl many c = an_operation kind many pl.0 (more at_end [] pl.1 c)
    shape behind_root_results _ pl many c = absurd pl
    shape at_end a pl many c = absurd pl
    shape in_operation (act.Leaf sort) pl many c = more in_operation [] pl c
    shape in_operation (act.Begin sort kind) pl many c = more in_operation [] pl.1 c
    shape in_operation act.BeginList pl many c = more in_operation [] pl.1 c
    shape in_operation (act.BeginChoice n) pl many c = more in_operation [] pl.1 c
    shape in_operation act.BeginOperands pl many c = more in_operation [] pl.1 c
    shape in_operation act.BeginSuccessor pl many c =
        let r = more in_operation [] pl.1 c in
        (r.0, ap suc r.1, r.2)
    shape in_operation act.BeginRegion pl many c =
        let r = more in_operation [] pl.1 c in
        (ap suc r.0, r.1, (inner in_region pl.0, r.2))
    shape in_operation _ pl many c = absurd pl
    shape in_operands a pl many c = tt
    shape in_successor a pl many c = tt
    shape in_region act.Label pl many c = (inner in_header pl.0, more in_region [] pl.1 c)
    shape in_region _ pl many c = absurd pl
    shape in_header act.Argument pl many c = more in_argument [] pl c
    shape in_header act.Header pl many c = more in_block [] pl c
    shape in_header _ pl many c = absurd pl
    shape in_argument (act.Begin sorts.«Type» kind) pl many c = more in_header [] pl.1 c
    shape in_argument _ pl many c = absurd pl
    shape in_block act.Result pl many c = more behind_results (names ++ f ∷ []) pl c
    shape in_block (act.Operation kind) pl many c = an_operation kind many pl.0 (more in_block [] pl.1 c)
    shape in_block _ pl many c = absurd pl
    shape behind_results act.Result pl many c = more behind_results (names ++ f ∷ []) pl c
    shape behind_results (act.Operation kind) pl many c = an_operation kind many pl.0 (more in_block [] pl.1 c)
    shape behind_results _ pl many c = absurd pl
    shape (in_value sort) a pl many c = tt
    shape in_list a pl many c = tt
    shape in_item a pl many c = tt
    shape in_choice a pl many c = tt

  -- steps that have their places, with as many names before operations as these have results
  pub shaped : (ts : Trees ActionSpan) (p : Position) (names : List ℕ) → Placed p ts → Counts v text names ts → Shaped p names ts
  shaped no_tree p names pl c = none p names
  shaped (a_tree (node s ts) rest) p names pl c =
      shape names s.first s.last ts rest (λ q h. shaped ts q [] h c.1) (λ q ns h d. shaped rest q ns h d) p s.action pl c.0 c.2

-- ---- other names

module _ {M N : Type 0} (v : Values) (f g : M → N) where
  number_renamed : (ts : Entities M) → entities_in (all_renamed f g ts) ≡ entities_in ts
  number_renamed no_entity = refl
  number_renamed (an_entity t ts) = ap suc (number_renamed ts)

  mutual
    -- an operation is one whatever values and blocks are named by
    pub operation_renamed : (t : Entity M) → IsOperation v t → IsOperation v (renamed f g t)
    operation_renamed (entity (operation kind results used successors pieces) ts) h = (types_renamed f results ∙ h.0, h.1 ∙ sym (number_renamed ts), h.2 ∙ sym (length-map successors g), regions_renamed ts h.3)
    operation_renamed (entity a_region ts) h = absurd h
    operation_renamed (entity (block named label arguments) ts) h = absurd h

    regions_renamed : (ts : Entities M) → AreRegions v ts → AreRegions v (all_renamed f g ts)
    regions_renamed no_entity h = tt
    regions_renamed (an_entity t ts) h = (region_renamed t h.0, regions_renamed ts h.1)

    region_renamed : (t : Entity M) → IsRegion v t → IsRegion v (renamed f g t)
    region_renamed (entity a_region ts) h = blocks_renamed ts h
    region_renamed (entity (operation kind results used successors pieces) ts) h = absurd h
    region_renamed (entity (block named label arguments) ts) h = absurd h

    blocks_renamed : (ts : Entities M) → AreBlocks v ts → AreBlocks v (all_renamed f g ts)
    blocks_renamed no_entity h = tt
    blocks_renamed (an_entity t ts) h = (block_renamed t h.0, blocks_renamed ts h.1)

    block_renamed : (t : Entity M) → IsBlock v t → IsBlock v (renamed f g t)
    block_renamed (entity (block named label arguments) ts) h = operations_renamed ts h
    block_renamed (entity a_region ts) h = absurd h
    block_renamed (entity (operation kind results used successors pieces) ts) h = absurd h

    operations_renamed : (ts : Entities M) → AreOperations v ts → AreOperations v (all_renamed f g ts)
    operations_renamed no_entity h = tt
    operations_renamed (an_entity t ts) h = (operation_renamed t h.0, operations_renamed ts h.1)

-- ---- a text

module _ (l : Language) (leads : ordered.PartPositions) (ok : is_ordered leads (rules_of l.formats) ≡ true) (cs : List ℕ) (ts : List Token) (names : List ℕ) (stop : Stop) (n : ℕ) (es : List Event) where
  -- the steps of a text without faults have their places
  pub steps_placed : (forest : Trees ActionSpan) → IsReading l cs ts names stop n es → IsNamed (HasFault l cs ts names stop n es) None → IsForestOf es forest → Placed at_root forest
  steps_placed forest r none f = forest_placed es forest f (read_whole l leads ok cs ts names n es stop r none)

-- what a text says is an operation
pub says_operation : (l : Language) (leads : ordered.PartPositions) → is_ordered leads (rules_of l.formats) ≡ true → (cs : List ℕ) (tree : Entity ℕ) → Says l cs tree → IsOperation l.values tree
says_operation l leads ok cs tree (ts, names, stop, n, es, forest, t, r, reading, fine, whole, said, resolved, same) =
    let text = token_text cs ts in
    let placed = steps_placed l leads ok cs ts names stop n es forest reading fine whole in
    let counted = forest_counts l.values text es (λ f h. fine f (inr (inr (inl h)))) forest whole in
    let one : AreOperations l.values (an_entity t no_entity) = subst (AreOperations l.values) said (shaped l.values text forest at_root [] placed counted) in
    subst (IsOperation l.values) (sym same) (operation_renamed l.values _ _ t one.0)
