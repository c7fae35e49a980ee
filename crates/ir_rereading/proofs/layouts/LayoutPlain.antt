-- Which trees are printed whole.
use Rattle.std.proofs.Common.{◌≡◌, ℕ, List, [], ◌∷◌, ◌++◌, true, false, map, refl, ap, sym, subst, ◌∙◌}
use Rattle.ir_names.specs.Tree.{Trees, node, no_tree, a_tree, count}
use Rattle.ir_print.specs.Formats as step
use Rattle.ir_print.specs.Formats.{Formats, alternative}
use Rattle.ir_print.specs.Pieces.{value_of_kind, list, item, chosen, operands, successor, region, leaf, ValueTree, Pieces, Values, canonical_value, operation, a_region, block, Entity, entity, Entities, no_entity, an_entity}
use Rattle.ir_print.specs.Shapes.{parts_in, IsListOf, IsChoiceOf, Fits, FitAll, FitMembers, FitsMember, FitArguments}
use Rattle.ir_grammar.specs.declared.grammar.Action.{Action}
use Rattle.ir_grammar.specs.declared.grammar.Action.TheVariants as act
use Rattle.ir_forest.specs.Bare.{IsBare, AreBare, AreBareArguments, IsBareTree, AreBareTrees, KeepsBare}
use Rattle.ir_forest.specs.Closed.{FitsTree, FitTrees, unlabelled, all_unlabelled}
use Rattle.ir_forest.specs.Forest.{ActionSpan}
use Rattle.ir_forest.specs.Meaning.{head_of, with_piece, pieces_in, by_operation, by_region, by_label, by_argument, arguments_in, operations_in, regions_in, blocks_in, renamed, all_renamed}
use Rattle.ir_rereading.specs.Outer.{is_value_step, is_plain_step, has_outer_operands}
use Rattle.ir_rereading.proofs.Alternatives.{known_format, value_alternative}
use Rattle.ir_rereading.proofs.layouts.LayoutValues.{IsPlain, ArePlain}
use Rattle.ir_rereading.proofs.layouts.LayoutOperations.{IsPlainPart, ArePlainParts, ArePlainArguments, IsPlainTree, ArePlainTrees}
use Rattle.ir_print.specs.declared.format.ValueSort.{ValueSort}
use Rattle.ir_print.specs.declared.format.ValueSort.TheVariants as sorts
use Rattle.ir_rereading.proofs.layouts.ValuesDerive.{AllPass, values_in, values_alone, Outer, outer}

-- ---- from formats

module _ (f : Formats) (v : Values) (o : Outer f) where
  -- a list, given its members
  list_plain : (s : step.Step) (ts : Pieces) → is_value_step s ≡ true → IsListOf s (λ ss. FitMembers f v ss ts) → AreBare ts
      → ((ss : List step.Step) → AllPass is_value_step ss → FitMembers f v ss ts → AreBare ts → ArePlain ts) → ArePlain ts
  list_plain (step.list_of member printed cs) ts p fit bare inner = inner (parts_in member) (values_in member p) fit bare
  list_plain _ ts p fit bare inner = absurd fit

  -- one of several formats, given its parts
  choice_plain : (s : step.Step) (n : ℕ) (ts : Pieces) → is_value_step s ≡ true → IsChoiceOf s n (λ ss. FitAll f v ss ts)
      → ((ss : List step.Step) → AllPass is_value_step ss → FitAll f v ss ts → ArePlain ts) → ArePlain ts
  choice_plain (step.choice_of cs) n ts p fit inner =
      let k = known_format (alternative cs n) (λ ss. FitAll f v ss ts) fit in
      inner (parts_in k.0) (values_in k.0 (value_alternative cs n k.0 p k.1)) k.2
  choice_plain _ n ts p fit inner = absurd fit

  mutual
    value_plain : (t : ValueTree) (s : step.Step) → is_value_step s ≡ true → Fits f v s t → IsBare t → IsPlain t
    value_plain (node (value_of_kind sort n) ts) s p fit bare = values_plain ts (parts_in fit.1.format) (o.values sort n fit.1 fit.2) fit.3 bare
    value_plain (node list ts) s p fit bare = list_plain s ts p fit bare (λ ss q fits b. members_plain ts ss q fits b)
    value_plain (node item ts) s p fit bare = absurd fit
    value_plain (node (chosen n) ts) s p fit bare = choice_plain s n ts p fit (λ ss q fits. values_plain ts ss q fits bare)
    value_plain (node (operands n) ts) s p fit bare = absurd (values_alone s n fit p)
    value_plain (node (successor n) ts) s p fit bare = let wrong : false ≡ true = ap is_value_step (sym fit) ∙ p in cc
    value_plain (node region ts) s p fit bare = let wrong : false ≡ true = ap is_value_step (sym fit) ∙ p in cc
    value_plain (node (leaf x) ts) s p fit bare = bare

    values_plain : (ts : Pieces) (ss : List step.Step) → AllPass is_value_step ss → FitAll f v ss ts → AreBare ts → ArePlain ts
    values_plain no_tree ss p fit bare = tt
    values_plain (a_tree t ts) [] p fit bare = absurd fit
    values_plain (a_tree t ts) (s ∷ ss) p fit bare = (value_plain t s p.0 fit.0 bare.0, values_plain ts ss p.1 fit.1 bare.1)

    members_plain : (ts : Pieces) (ss : List step.Step) → AllPass is_value_step ss → FitMembers f v ss ts → AreBare ts → ArePlain ts
    members_plain no_tree ss p fit bare = tt
    members_plain (a_tree t ts) ss p fit bare = (member_plain t ss p fit.0 bare.0, members_plain ts ss p fit.1 bare.1)

    member_plain : (t : ValueTree) (ss : List step.Step) → AllPass is_value_step ss → FitsMember f v ss t → IsBare t → IsPlain t
    member_plain (node item ts) ss p fit bare = values_plain ts ss p fit bare
    member_plain (node _ ts) ss p fit bare = absurd fit

  list_part : (s : step.Step) (ts : Pieces) → is_plain_step s ≡ true → IsListOf s (λ ss. FitMembers f v ss ts) → AreBare ts → ArePlain ts
  list_part (step.list_of member printed cs) ts p fit bare = members_plain ts (parts_in member) (values_in member p) fit bare
  list_part _ ts p fit bare = absurd fit

  choice_part : (s : step.Step) (n : ℕ) (ts : Pieces) → is_plain_step s ≡ true → IsChoiceOf s n (λ ss. FitAll f v ss ts) → AreBare ts → ArePlain ts
  choice_part (step.choice_of cs) n ts p fit bare =
      let k = known_format (alternative cs n) (λ ss. FitAll f v ss ts) fit in
      values_plain ts (parts_in k.0) (values_in k.0 (value_alternative cs n k.0 p k.1)) k.2 bare
  choice_part _ n ts p fit bare = absurd fit

  part_plain : (t : ValueTree) (s : step.Step) → is_plain_step s ≡ true → Fits f v s t → IsBare t → IsPlainPart t
  part_plain (node (value_of_kind sort n) ts) s p fit bare = value_plain (node (value_of_kind sort n) ts) s (ap is_value_step fit.0) fit bare
  part_plain (node list ts) s p fit bare = list_part s ts p fit bare
  part_plain (node item ts) s p fit bare = absurd fit
  part_plain (node (chosen n) ts) s p fit bare = choice_part s n ts p fit bare
  part_plain (node (operands n) ts) s p fit bare = bare
  part_plain (node (successor n) ts) s p fit bare = bare
  part_plain (node region ts) s p fit bare = bare
  part_plain (node (leaf x) ts) s p fit bare = bare

  parts_plain : (ts : Pieces) (ss : List step.Step) → AllPass is_plain_step ss → FitAll f v ss ts → AreBare ts → ArePlainParts ts
  parts_plain no_tree ss p fit bare = tt
  parts_plain (a_tree t ts) [] p fit bare = absurd fit
  parts_plain (a_tree t ts) (s ∷ ss) p fit bare = (part_plain t s p.0 fit.0 bare.0, parts_plain ts ss p.1 fit.1 bare.1)

  module _ {N : Type 0} where
    arguments_plain : (xs : List (N × ValueTree)) → FitArguments f v xs → AreBareArguments xs → ArePlainArguments xs
    arguments_plain [] fit bare = tt
    arguments_plain (x ∷ xs) fit bare = (value_plain x.1 (step.a_value sorts.«Type») refl fit.0 bare.0, arguments_plain xs fit.1 bare.1)

    mutual
      tree_plain : (t : Entity N) → FitsTree f v t → IsBareTree t → IsPlainTree t
      tree_plain (entity (operation kind results used successors pieces) ts) fit bare = (parts_plain pieces (parts_in fit.0.0.format) (o.operations kind fit.0.0 fit.0.1) fit.0.2 bare.0, trees_plain ts fit.1 bare.1)
      tree_plain (entity a_region ts) fit bare = (tt, trees_plain ts fit.1 bare.1)
      tree_plain (entity (block named label arguments) ts) fit bare = (arguments_plain arguments fit.0 bare.0, trees_plain ts fit.1 bare.1)

      trees_plain : (ts : Entities N) → FitTrees f v ts → AreBareTrees ts → ArePlainTrees ts
      trees_plain no_entity fit bare = tt
      trees_plain (an_entity t ts) fit bare = (tree_plain t fit.0 bare.0, trees_plain ts fit.1 bare.1)

pub plain_tree : {N : Type 0} (f : Formats) (v : Values) (t : Entity N) → has_outer_operands f ≡ true → FitsTree f v t → IsBareTree t → IsPlainTree t
plain_tree f v t h fit bare = tree_plain f v (outer f h) t fit bare

-- ---- what is read is bare

module _ (v : Values) (text : ℕ → List ℕ) (keeps : KeepsBare v) where
  canonical_bare : (sort : ValueSort) (n : ℕ) (ps : Pieces) → AreBare ps → AreBare (canonical_value v sort n ps)
  canonical_bare sorts.«Type» n ps h = h
  canonical_bare sorts.Attribute n ps h = keeps n ps h

  piece_bare : (a : Action) (cs : List ℕ) (many : ℕ) (ts rest : Pieces) → AreBare ts → AreBare rest → AreBare (with_piece v a cs many ts rest)
  piece_bare (act.Begin sort kind) cs many ts rest h r = (canonical_bare sort kind ts h, r)
  piece_bare act.BeginList cs many ts rest h r = (h, r)
  piece_bare act.BeginItem cs many ts rest h r = (h, r)
  piece_bare (act.BeginChoice n) cs many ts rest h r = (h, r)
  piece_bare act.BeginOperands cs many ts rest h r = (refl, r)
  piece_bare act.BeginSuccessor cs many ts rest h r = (refl, r)
  piece_bare act.BeginRegion cs many ts rest h r = (refl, r)
  piece_bare (act.Leaf sort) cs many ts rest h r = (refl, r)
  piece_bare _ cs many ts rest h r = r

  pieces_bare : (ts : Trees ActionSpan) → AreBare (pieces_in v text ts)
  pieces_bare no_tree = tt
  pieces_bare (a_tree (node s ts) rest) = piece_bare s.action (text s.first) (count ts) (pieces_in v text ts) (pieces_in v text rest) (pieces_bare ts) (pieces_bare rest)

  by_argument_bare : (a : Action) (x y z : List (ℕ × ValueTree)) (g : ℕ → List (ℕ × ValueTree)) → AreBareArguments x → ((n : ℕ) → AreBareArguments (g n)) → AreBareArguments y → AreBareArguments z
      → AreBareArguments (by_argument a x g y z)
  by_argument_bare act.Argument x y z g hx hg hy hz = hx
  by_argument_bare (act.Begin sorts.«Type» kind) x y z g hx hg hy hz = hg kind
  by_argument_bare act.Header x y z g hx hg hy hz = hy
  by_argument_bare _ x y z g hx hg hy hz = hz

  arguments_bare : (ts : Trees ActionSpan) (named : ℕ) → AreBareArguments (arguments_in v text named ts)
  arguments_bare no_tree named = tt
  arguments_bare (a_tree (node s ts) rest) named =
      by_argument_bare s.action (arguments_in v text s.first rest) [] (arguments_in v text named rest) (λ kind. (named, node (value_of_kind sorts.«Type» kind) (pieces_in v text ts)) ∷ arguments_in v text named rest)
      (arguments_bare rest s.first) (λ kind. (pieces_bare ts, arguments_bare rest named)) tt (arguments_bare rest named)

  by_operation_bare : (a : Action) (x y : Entities ℕ) (g : ℕ → Entities ℕ) → AreBareTrees x → ((n : ℕ) → AreBareTrees (g n)) → AreBareTrees y → AreBareTrees (by_operation a x g y)
  by_operation_bare act.Result x y g hx hg hy = hx
  by_operation_bare (act.Operation kind) x y g hx hg hy = hg kind
  by_operation_bare _ x y g hx hg hy = hy

  by_region_bare : (a : Action) (x y : Entities ℕ) → AreBareTrees x → AreBareTrees y → AreBareTrees (by_region a x y)
  by_region_bare act.BeginRegion x y hx hy = hx
  by_region_bare _ x y hx hy = hy

  by_label_bare : (a : Action) (x y : Entities ℕ) → AreBareTrees x → AreBareTrees y → AreBareTrees (by_label a x y)
  by_label_bare act.Label x y hx hy = hx
  by_label_bare _ x y hx hy = hy

  -- what steps say, however they are read
  record AllBare (ts : Trees ActionSpan) : Type 0 where
    operations : (names : List ℕ) → AreBareTrees (operations_in v text names ts)
    regions : AreBareTrees (regions_in v text ts)
    blocks : AreBareTrees (blocks_in v text ts)

  all_bare : (ts : Trees ActionSpan) → AllBare ts
  all_bare no_tree = record { operations = λ names. tt; regions = tt; blocks = tt }
  all_bare (a_tree (node s ts) rest) =
      let inner = all_bare ts in
      let later = all_bare rest in record {
        operations = λ names. by_operation_bare s.action (operations_in v text (names ++ s.first ∷ []) rest) (operations_in v text names rest)
            (λ kind. an_entity (entity (head_of v text names ts kind) (regions_in v text ts)) (operations_in v text [] rest))
            (later.operations (names ++ s.first ∷ [])) (λ kind. ((pieces_bare ts, inner.regions), later.operations [])) (later.operations names);
        regions = by_region_bare s.action (an_entity (entity a_region (blocks_in v text ts)) (regions_in v text rest)) (regions_in v text rest) ((tt, inner.blocks), later.regions) later.regions;
        blocks = by_label_bare s.action (an_entity (entity (block s.first (text s.first) (arguments_in v text 0 ts)) (operations_in v text [] ts)) (blocks_in v text rest)) (blocks_in v text rest)
            ((arguments_bare ts 0, inner.operations []), later.blocks) later.blocks;
      }

-- an operation that was read
pub read_bare : (v : Values) (text : ℕ → List ℕ) → KeepsBare v → (forest : Trees ActionSpan) (tree : Entity ℕ) → operations_in v text [] forest ≡ an_entity tree no_entity → IsBareTree tree
read_bare v text keeps forest tree e = (subst AreBareTrees e ((all_bare v text keeps forest).operations [])).0

-- ---- other names and labels

module _ {M N : Type 0} (g b : M → N) where
  renamed_arguments : (xs : List (M × ValueTree)) → AreBareArguments xs → AreBareArguments (map (λ r. (g r.0, r.1)) xs)
  renamed_arguments [] h = tt
  renamed_arguments (x ∷ xs) h = (h.0, renamed_arguments xs h.1)

  arguments_renamed : (xs : List (M × ValueTree)) → AreBareArguments (map (λ r. (g r.0, r.1)) xs) → AreBareArguments xs
  arguments_renamed [] h = tt
  arguments_renamed (x ∷ xs) h = (h.0, arguments_renamed xs h.1)

  mutual
    -- bare with other names
    pub bare_renamed : (t : Entity M) → IsBareTree t → IsBareTree (renamed g b t)
    bare_renamed (entity (operation kind results used successors pieces) ts) h = (h.0, all_bare_renamed ts h.1)
    bare_renamed (entity a_region ts) h = (tt, all_bare_renamed ts h.1)
    bare_renamed (entity (block named label arguments) ts) h = (renamed_arguments arguments h.0, all_bare_renamed ts h.1)

    all_bare_renamed : (ts : Entities M) → AreBareTrees ts → AreBareTrees (all_renamed g b ts)
    all_bare_renamed no_entity h = tt
    all_bare_renamed (an_entity t ts) h = (bare_renamed t h.0, all_bare_renamed ts h.1)

  mutual
    pub renamed_bare : (t : Entity M) → IsBareTree (renamed g b t) → IsBareTree t
    renamed_bare (entity (operation kind results used successors pieces) ts) h = (h.0, all_renamed_bare ts h.1)
    renamed_bare (entity a_region ts) h = (tt, all_renamed_bare ts h.1)
    renamed_bare (entity (block named label arguments) ts) h = (arguments_renamed arguments h.0, all_renamed_bare ts h.1)

    all_renamed_bare : (ts : Entities M) → AreBareTrees (all_renamed g b ts) → AreBareTrees ts
    all_renamed_bare no_entity h = tt
    all_renamed_bare (an_entity t ts) h = (renamed_bare t h.0, all_renamed_bare ts h.1)

module _ {N : Type 0} where
  mutual
    -- bare without labels
    pub bare_unlabelled : (t : Entity N) → IsBareTree t → IsBareTree (unlabelled t)
    bare_unlabelled (entity (operation kind results used successors pieces) ts) h = (h.0, all_bare_unlabelled ts h.1)
    bare_unlabelled (entity a_region ts) h = (tt, all_bare_unlabelled ts h.1)
    bare_unlabelled (entity (block named label arguments) ts) h = (h.0, all_bare_unlabelled ts h.1)

    all_bare_unlabelled : (ts : Entities N) → AreBareTrees ts → AreBareTrees (all_unlabelled ts)
    all_bare_unlabelled no_entity h = tt
    all_bare_unlabelled (an_entity t ts) h = (bare_unlabelled t h.0, all_bare_unlabelled ts h.1)

  mutual
    pub unlabelled_bare : (t : Entity N) → IsBareTree (unlabelled t) → IsBareTree t
    unlabelled_bare (entity (operation kind results used successors pieces) ts) h = (h.0, all_unlabelled_bare ts h.1)
    unlabelled_bare (entity a_region ts) h = (tt, all_unlabelled_bare ts h.1)
    unlabelled_bare (entity (block named label arguments) ts) h = (h.0, all_unlabelled_bare ts h.1)

    all_unlabelled_bare : (ts : Entities N) → AreBareTrees (all_unlabelled ts) → AreBareTrees ts
    all_unlabelled_bare no_entity h = tt
    all_unlabelled_bare (an_entity t ts) h = (unlabelled_bare t h.0, all_unlabelled_bare ts h.1)

-- the printed tree is bare where the tree is that it prints
pub printed_bare : (g b : ℕ → List ℕ) (printed : Entity (List ℕ)) (t : Entity ℕ) → unlabelled printed ≡ unlabelled (renamed g b t) → IsBareTree t → IsBareTree printed
printed_bare g b printed t same h = unlabelled_bare printed (subst IsBareTree (sym same) (bare_unlabelled (renamed g b t) (bare_renamed g b t h)))
