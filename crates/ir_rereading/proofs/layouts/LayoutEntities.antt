-- Reading a layout builds its operations, regions and blocks.
use Rattle.std.proofs.Common.{◌≡◌, ℕ, ◌+◌, List, [], ◌∷◌, ◌++◌, map, length, None, codes, refl, ap, sym, subst, ◌∙◌}
use Rattle.std.proofs.lemmas.List.{append-nil, append_assoc, length-map}
use Rattle.ir_names.specs.Tree.{Trees, node, no_tree, a_tree, join}
use Rattle.ir_print.specs.Layout.{AreFlat, AreFlatArguments, AreShallow}
use Rattle.ir_print.specs.Pieces.{value_of_kind, region, ValueTree, Pieces, Values, operation, a_region, block, Entity, entity, Entities, no_entity, an_entity}
use Rattle.ir_grammar.specs.declared.grammar.Action.TheVariants as act
use Rattle.ir_forest.specs.Forest.{ActionSpan}
use Rattle.ir_forest.specs.Meaning.{pieces_in, operands_in, successors_in, arguments_in, typed, operations_in, regions_in, blocks_in, all_renamed}
use Rattle.ir_forest.proofs.BuiltTrees.{join_assoc}
use Rattle.ir_rereading.proofs.layouts.LayoutParts.{joined, joined_none, AreLow, AreFine, Reads, then, worded, nothing, IsNode, IsLeaf, Says}
use Rattle.ir_rereading.proofs.layouts.LayoutValues.{join_none, deeper, say_all}
use Rattle.ir_rereading.proofs.layouts.LayoutOperations.{leaves, AreNames, names_read}
use Rattle.ir_print.specs.declared.format.ValueSort.TheVariants as sorts
use Rattle.ir_rereading.proofs.layouts.Marks.{word, names_on, results_on}

module _ (v : Values) (text : ℕ → List ℕ) where
  -- names as they are in the text
  abbrev pub spelt : List (ℕ × ValueTree) → List (List ℕ × ValueTree)
  spelt xs = map (λ r. (text r.0, r.1)) xs

  -- ---- arguments

  -- these trees say these arguments, before whatever trees come next
  pub record SaysArguments (xs : List (List ℕ × ValueTree)) (ts : Trees ActionSpan) : Type 0 where
    pub fine : (rest : Trees ActionSpan) → AreFine v text [] rest → AreFine v text [] (join ts rest)
    pub arguments : (rest : Trees ActionSpan) (ys : List (List ℕ × ValueTree)) → ((i : ℕ) → spelt (arguments_in v text i rest) ≡ ys) → (i : ℕ) → spelt (arguments_in v text i (join ts rest)) ≡ xs ++ ys
    pub operations : (rest : Trees ActionSpan) → operations_in v text [] (join ts rest) ≡ operations_in v text [] rest
    pub low : (d e : ℕ) → d + e ≡ 64 → AreFlatArguments e xs → (rest : Trees ActionSpan) → AreLow d rest → AreLow d (join ts rest)

  pub no_arguments : SaysArguments [] no_tree
  no_arguments = record { fine = λ rest h. h; arguments = λ rest ys h i. h i; operations = λ rest. refl; low = λ d e s f rest h. h }

  pub more_arguments : (x : List ℕ × ValueTree) (xs : List (List ℕ × ValueTree)) (ts us : Trees ActionSpan) → SaysArguments (x ∷ []) ts → SaysArguments xs us → SaysArguments (x ∷ xs) (join ts us)
  more_arguments x xs ts us a b = record {
    fine = λ rest h. subst (AreFine v text []) (sym (join_assoc ts us rest)) (a.fine (join us rest) (b.fine rest h));
    arguments = λ rest ys h i. ap (λ z. spelt (arguments_in v text i z)) (join_assoc ts us rest) ∙ a.arguments (join us rest) (xs ++ ys) (b.arguments rest ys h) i;
    operations = λ rest. ap (operations_in v text []) (join_assoc ts us rest) ∙ (a.operations (join us rest) ∙ b.operations rest);
    low = λ d e s f rest h. subst (AreLow d) (sym (join_assoc ts us rest)) (a.low d e s (f.0, tt) (join us rest) (b.low d e s f.1 rest h));
  }

  -- an argument, and its type
  pub argument_says : (x : List ℕ) (n i j : ℕ) (ts : Pieces) (ys zs : Trees ActionSpan) → text i ≡ x → v.refused_type n ts ≡ None → IsLeaf act.Argument i ys → IsNode (act.Begin sorts.«Type» n) j (Says v text ts [] [] no_entity) zs
      → SaysArguments ((x, node (value_of_kind sorts.«Type» n) ts) ∷ []) (join ys zs)
  argument_says x n i j ts ys zs named fit l q =
      let t = node (value_of_kind sorts.«Type» n) ts in
      let a = say_all v text ts [] [] no_entity q.1 q.3 in
      let s : ActionSpan = record { action = act.Argument; first = i; last = i } in
      let tree : Trees ActionSpan = a_tree (node s no_tree) (a_tree (node (record { action = act.Begin sorts.«Type» n; first = j; last = q.0 }) q.1) no_tree) in
      let same : join ys zs ≡ tree = ap (λ z. join z zs) l ∙ ap (a_tree (node s no_tree)) q.2 in
      subst (SaysArguments ((x, t) ∷ [])) (sym same) (record {
        fine = λ rest h. ((refl, refl, refl), refl, tt, tt, (tt, ap (v.refused_type n) a.pieces ∙ fit, tt, a.fine, h));
        arguments = λ rest ys h k. ap (λ z. (text i, node (value_of_kind sorts.«Type» n) z) ∷ spelt (arguments_in v text i rest)) a.pieces
            ∙ (ap (λ z. (z, t) ∷ spelt (arguments_in v text i rest)) named ∙ ap (λ z. (x, t) ∷ z) (h i));
        operations = λ rest. refl;
        low = λ d e s f rest h. let r = deeper (λ e. AreFlat e ts) (λ d. AreLow d q.1) d e s f.0 (λ d e s f. a.low d e s f tt) in (λ w. cc, tt, (λ w. r.0, r.1, h));
      })

  -- ---- operations and blocks

  -- These trees, from the first on, say these entities before whatever trees come next.
  pub record SaysEntities (read : Trees ActionSpan → Entities ℕ) (es : Entities (List ℕ)) (xs : Trees ActionSpan) : Type 0 where
    pub fine : (rest : Trees ActionSpan) → AreFine v text [] rest → AreFine v text [] (join xs rest)
    pub entities : (rest : Trees ActionSpan) → all_renamed text text (read (join xs rest)) ≡ joined es (all_renamed text text (read rest))
    pub low : (d e : ℕ) → d + e ≡ 64 → AreShallow e es → (rest : Trees ActionSpan) → AreLow d rest → AreLow d (join xs rest)

  pub none_said : (read : Trees ActionSpan → Entities ℕ) → SaysEntities read no_entity no_tree
  none_said read = record { fine = λ rest h. h; entities = λ rest. refl; low = λ d e s f rest h. h }

  pub more_said : (read : Trees ActionSpan → Entities ℕ) (t : Entity (List ℕ)) (ts : Entities (List ℕ)) (xs ys : Trees ActionSpan) → SaysEntities read (an_entity t no_entity) xs → SaysEntities read ts ys
      → SaysEntities read (an_entity t ts) (join xs ys)
  more_said read t ts xs ys a b = record {
    fine = λ rest h. subst (AreFine v text []) (sym (join_assoc xs ys rest)) (a.fine (join ys rest) (b.fine rest h));
    entities = λ rest. ap (λ z. all_renamed text text (read z)) (join_assoc xs ys rest) ∙ (a.entities (join ys rest) ∙ ap (an_entity t) (b.entities rest));
    low = λ d e s f rest h. subst (AreLow d) (sym (join_assoc xs ys rest)) (a.low d e s (f.0, tt) (join ys rest) (b.low d e s f.1 rest h));
  }

  -- the same of all trees
  pub record SaysAllEntities (read : Trees ActionSpan → Entities ℕ) (es : Entities (List ℕ)) (xs : Trees ActionSpan) : Type 0 where
    pub fine : AreFine v text [] xs
    pub entities : all_renamed text text (read xs) ≡ es
    pub low : (d e : ℕ) → d + e ≡ 64 → AreShallow e es → AreLow d xs

  pub say_all_entities : (read : Trees ActionSpan → Entities ℕ) (es : Entities (List ℕ)) (xs : Trees ActionSpan) → read no_tree ≡ no_entity → SaysEntities read es xs → SaysAllEntities read es xs
  say_all_entities read es xs none s =
      let same = join_none xs in record {
        fine = subst (AreFine v text []) same (s.fine no_tree tt);
        entities = ap (λ z. all_renamed text text (read z)) (sym same) ∙ (s.entities no_tree ∙ (ap (λ z. joined es (all_renamed text text z)) none ∙ joined_none es));
        low = λ d e h f. subst (AreLow d) same (s.low d e h f no_tree tt);
      }

  -- ---- blocks

  -- what stands in a block: arguments, the end of the header, and operations
  pub record SaysBody (args : List (List ℕ × ValueTree)) (es : Entities (List ℕ)) (xs : Trees ActionSpan) : Type 0 where
    pub fine : AreFine v text [] xs
    pub arguments : spelt (arguments_in v text 0 xs) ≡ args
    pub operations : all_renamed text text (operations_in v text [] xs) ≡ es
    pub low : (d e : ℕ) → d + e ≡ 64 → AreFlatArguments e args → AreShallow e es → AreLow d xs

  pub body_says : (args : List (List ℕ × ValueTree)) (es : Entities (List ℕ)) (i : ℕ) (xs ys zs : Trees ActionSpan) → SaysArguments args xs → IsLeaf act.Header i ys → SaysEntities (operations_in v text []) es zs
      → SaysBody args es (join xs (join ys zs))
  body_says args es i xs ys zs a l b =
      let c = say_all_entities (operations_in v text []) es zs refl b in
      let header : Trees ActionSpan = a_tree (node (record { action = act.Header; first = i; last = i }) no_tree) zs in
      subst (λ z. SaysBody args es (join xs (join z zs))) (sym l) (record {
        fine = a.fine header ((refl, refl, refl), refl, tt, tt, c.fine);
        arguments = a.arguments header [] (λ i. refl) 0 ∙ append-nil args;
        operations = ap (all_renamed text text) (a.operations header) ∙ c.entities;
        low = λ d e s f g. a.low d e s f header (λ w. cc, tt, c.low d e s g);
      })

  -- a block that has its name as its label
  pub block_says : (own label : List ℕ) (args : List (List ℕ × ValueTree)) (es : Entities (List ℕ)) (i : ℕ) (xs : Trees ActionSpan) → label ≡ own → text i ≡ label → IsNode act.Label i (SaysBody args es) xs
      → SaysEntities (blocks_in v text) (an_entity (entity (block own label args) es) no_entity) xs
  block_says own label args es i xs same h q =
      let a = q.3 in
      subst (λ z. SaysEntities (blocks_in v text) (an_entity (entity (block z label args) es) no_entity) xs) same
      (subst (SaysEntities (blocks_in v text) (an_entity (entity (block label label args) es) no_entity)) (sym q.2) (record {
        fine = λ rest h. (tt, refl, tt, a.fine, h);
        entities = λ rest. ap (λ z. an_entity (entity (block z z (spelt (arguments_in v text 0 q.1))) (all_renamed text text (operations_in v text [] q.1))) (all_renamed text text (blocks_in v text rest))) h
            ∙ (ap (λ z. an_entity (entity (block label label z) (all_renamed text text (operations_in v text [] q.1))) (all_renamed text text (blocks_in v text rest))) a.arguments
            ∙ ap (λ z. an_entity (entity (block label label args) z) (all_renamed text text (blocks_in v text rest))) a.operations);
        low = λ d e s f rest h. (λ w. cc, a.low d e s f.0.0 f.0.1, h);
      }))

  -- ---- regions

  pub region_says : (es : Entities (List ℕ)) (i : ℕ) (xs : Trees ActionSpan) → IsNode act.BeginRegion i (SaysEntities (blocks_in v text) es) xs
      → Says v text (a_tree (node region no_tree) no_tree) [] [] (an_entity (entity a_region es) no_entity) xs
  region_says es i xs q =
      let a = say_all_entities (blocks_in v text) es q.1 refl q.3 in
      subst (Says v text (a_tree (node region no_tree) no_tree) [] [] (an_entity (entity a_region es) no_entity)) (sym q.2) (record {
        fine = λ rest h. (tt, refl, tt, a.fine, h);
        pieces = λ rest. refl;
        operands = λ rest. refl;
        successors = λ rest. refl;
        regions = λ rest. ap (λ z. an_entity (entity a_region z) (all_renamed text text (regions_in v text rest))) a.entities;
        low = λ d e s f g rest h. let r = deeper (λ e. AreShallow e es) (λ d. AreLow d q.1) d e s g.0.1 (λ d e s f. a.low d e s f) in (λ w. r.0, r.1, h);
      })

  -- ---- operations

  results_fine : (names ks : List ℕ) (rest : Trees ActionSpan) → AreFine v text (names ++ ks) rest → AreFine v text names (join (leaves act.Result ks) rest)
  results_fine names [] rest h = subst (λ z. AreFine v text z rest) (append-nil names) h
  results_fine names (k ∷ ks) rest h = ((refl, refl, refl), refl, tt, tt, results_fine (names ++ k ∷ []) ks rest (subst (λ z. AreFine v text z rest) (sym (append_assoc names (k ∷ []) ks)) h))

  results_named : (names ks : List ℕ) (rest : Trees ActionSpan) → operations_in v text names (join (leaves act.Result ks) rest) ≡ operations_in v text (names ++ ks) rest
  results_named names [] rest = ap (λ z. operations_in v text z rest) (sym (append-nil names))
  results_named names (k ∷ ks) rest = results_named (names ++ k ∷ []) ks rest ∙ ap (λ z. operations_in v text z rest) (append_assoc names (k ∷ []) ks)

  results_low : (d : ℕ) (ks : List ℕ) (rest : Trees ActionSpan) → AreLow d rest → AreLow d (join (leaves act.Result ks) rest)
  results_low d [] rest h = h
  results_low d (k ∷ ks) rest h = (λ w. cc, tt, results_low d ks rest h)

  typed_again : (ks : List ℕ) (rs : List (List ℕ × ValueTree)) → map text ks ≡ map (λ x. x.0) rs → spelt (typed ks (map (λ x. x.1) rs)) ≡ rs
  typed_again [] [] h = refl
  typed_again [] (r ∷ rs) h = cc
  typed_again (k ∷ ks) [] h = cc
  typed_again (k ∷ ks) (r ∷ rs) h =
      let first : text k ≡ r.0 = cc in
      let others : map text ks ≡ map (λ x. x.0) rs = cc in
      ap (λ z. (z, r.1) ∷ spelt (typed ks (map (λ x. x.1) rs))) first ∙ ap (λ z. r ∷ z) (typed_again ks rs others)

  pub operation_says : (kind i : ℕ) (results : List (List ℕ × ValueTree)) (used successors : List (List ℕ)) (pieces : Pieces) (es : Entities (List ℕ)) (xs ys : Trees ActionSpan)
      → v.refused_operation kind pieces ≡ None → map (λ x. x.1) results ≡ v.result_types kind pieces → AreNames v text act.Result (map (λ x. x.0) results) xs
      → IsNode (act.Operation kind) i (Says v text pieces used successors es) ys
      → SaysEntities (operations_in v text []) (an_entity (entity (operation kind results used successors pieces) es) no_entity) (join xs ys)
  operation_says kind i results used successors pieces es xs ys fit types n q =
      let ks = n.0 in
      let us = q.1 in
      let a = say_all v text pieces used successors es us q.3 in
      let op : ActionSpan = record { action = act.Operation kind; first = i; last = q.0 } in
      let tree : Trees ActionSpan = join (leaves act.Result ks) (a_tree (node op us) no_tree) in
      let same : join xs ys ≡ tree = ap (λ z. join z ys) n.1 ∙ ap (join (leaves act.Result ks)) q.2 in
      let whole : Trees ActionSpan → Trees ActionSpan = λ rest. join (leaves act.Result ks) (a_tree (node op us) rest) in
      let split : (rest : Trees ActionSpan) → join tree rest ≡ whole rest = λ rest. join_assoc (leaves act.Result ks) (a_tree (node op us) no_tree) rest in
      let many : length ks ≡ length (v.result_types kind (pieces_in v text us)) =
      sym (length-map ks text) ∙ (ap length n.2 ∙ (length-map results (λ x. x.0) ∙ (sym (length-map results (λ x. x.1)) ∙ (ap length types ∙ ap (λ z. length (v.result_types kind z)) (sym a.pieces))))) in
      let named : spelt (typed ks (v.result_types kind pieces)) ≡ results = ap (λ z. spelt (typed ks z)) (sym types) ∙ typed_again ks results n.2 in
      subst (SaysEntities (operations_in v text []) (an_entity (entity (operation kind results used successors pieces) es) no_entity)) (sym same) (record {
        fine = λ rest h. subst (AreFine v text []) (sym (split rest)) (results_fine [] ks (a_tree (node op us) rest) (tt, ap (v.refused_operation kind) a.pieces ∙ fit, many, a.fine, h));
        entities = λ rest.
            let after = all_renamed text text (operations_in v text [] rest) in
            ap (λ z. all_renamed text text (operations_in v text [] z)) (split rest)
            ∙ (ap (all_renamed text text) (results_named [] ks (a_tree (node op us) rest))
            ∙ (ap (λ z. an_entity (entity (operation kind (spelt (typed ks (v.result_types kind z))) (map text (operands_in us)) (map text (successors_in us)) z) (all_renamed text text (regions_in v text us))) after) a.pieces
            ∙ (ap (λ z. an_entity (entity (operation kind z (map text (operands_in us)) (map text (successors_in us)) pieces) (all_renamed text text (regions_in v text us))) after) named
            ∙ (ap (λ z. an_entity (entity (operation kind results z (map text (successors_in us)) pieces) (all_renamed text text (regions_in v text us))) after) a.operands
            ∙ (ap (λ z. an_entity (entity (operation kind results used z pieces) (all_renamed text text (regions_in v text us))) after) a.successors
            ∙ ap (λ z. an_entity (entity (operation kind results used successors pieces) z) after) a.regions)))));
        low = λ d e s f rest h. subst (AreLow d) (sym (split rest)) (results_low d ks (a_tree (node op us) rest) (λ w. cc, a.low d e s f.0.0 f.0.1, h));
      })

  pub results_read : (results : List (List ℕ × ValueTree)) → Reads text (AreNames v text act.Result (map (λ x. x.0) results)) (results_on results)
  results_read [] k rest h = nothing text (AreNames v text act.Result []) k rest ([], refl, refl) h
  results_read (r ∷ rs) k rest h =
      let xs = map (λ x. x.0) (r ∷ rs) in
      let mid = word (codes " = ") (codes "=") ∷ rest in
      then text k (names_on act.Result xs mid) mid rest
      (λ ys zs a b. subst (λ z. AreNames v text act.Result xs (join ys z)) (sym b) (subst (AreNames v text act.Result xs) (sym (join_none ys)) a))
      (names_read v text act.Result refl xs k mid h)
      (λ n g. worded text n rest rest (codes " = ") (codes "=") (nothing text (λ z. z ≡ no_tree) (n + 1) rest refl g.1))
