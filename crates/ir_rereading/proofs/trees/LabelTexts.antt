-- The labels and blocks of a tree are those of its text, in the same order.
use Rattle.std.proofs.Common.{◌≡◌, ℕ, Bool, List, [], ◌∷◌, ◌++◌, map, refl, sym, ap, ◌∙◌}
use Rattle.std.proofs.lemmas.List.{append-nil}
use Rattle.ir_names.specs.Tree.{Trees}
use Rattle.ir_print.specs.Pieces.{Values, operation, a_region, block, Entity, entity, Entities, no_entity, an_entity}
use Rattle.ir_grammar.specs.declared.grammar.Event.{Event}
use Rattle.ir_scopes.specs.declared.sites.Site.{Site}
use Rattle.ir_forest.specs.Closed.{label_in, blocks_of, all_blocks_of}
use Rattle.ir_forest.specs.Forest.{ActionSpan, IsForestOf}
use Rattle.ir_forest.specs.Meaning.{operations_in}
use Rattle.ir_grammar.specs.Nesting.{Nests, at_root}
use Rattle.ir_scopes.specs.Scopes.{labels, label_mentions}
use Rattle.ir_rereading.proofs.trees.TreeRegions.{OfOperations, OfRegions, OfBlocks, labels_of_tree}

-- the labels of all blocks in entities, in the order of the text
abbrev pub all_labels : Entities ℕ → List (List ℕ)
all_labels no_entity = []
all_labels (an_entity (entity h us) ts) = label_in h ++ (all_labels us ++ all_labels ts)

map_append : {X Y : Type 0} (f : X → Y) (xs ys : List X) → map f (xs ++ ys) ≡ map f xs ++ map f ys
map_append f [] ys = refl
map_append f (x ∷ xs) ys = ap (λ zs. f x ∷ zs) (map_append f xs ys)

module _ (text : ℕ → List ℕ) where
  -- what is spelled at sites
  abbrev spelled : List Site → List (List ℕ)
  spelled ss = map (λ s. text s.token) ss

  both : (ls ms : List (List ℕ)) (first more ss : List Site) → ss ≡ first ++ more → ls ≡ spelled first → ms ≡ spelled more → ls ++ ms ≡ spelled ss
  both ls ms first more ss e a b =
      ap (λ xs. xs ++ ms) a ∙ (ap (λ xs. spelled first ++ xs) b ∙ (sym (map_append (λ s. text s.token) first more) ∙ ap spelled (sym e)))

  mutual
    operation_labels : (scope low high : ℕ) (ts : Entities ℕ) (ss ms : List Site) → OfOperations text scope low high ts ss ms
        → all_labels ts ≡ spelled ss
    operation_labels scope low high no_entity ss ms h = ap spelled (sym h.1)
    operation_labels scope low high (an_entity (entity (operation kind results used successors pieces) us) ts) ss ms
        (a, b, c, first, more, held, past, e, uses, le, between, here, later) =
        both (all_labels us) (all_labels ts) first more ss e (region_labels a b us first held here) (operation_labels scope c high ts more past later)
    operation_labels scope low high (an_entity (entity a_region us) ts) ss ms h = absurd h
    operation_labels scope low high (an_entity (entity (block named label arguments) us) ts) ss ms h = absurd h

    region_labels : (low high : ℕ) (ts : Entities ℕ) (ss ms : List Site) → OfRegions text low high ts ss ms → all_labels ts ≡ spelled ss
    region_labels low high no_entity ss ms h = ap spelled (sym h.1)
    region_labels low high (an_entity (entity a_region us) ts) ss ms (scope, b, c, first, more, held, past, e, uses, lt, between, here, later) =
        both (all_labels us) (all_labels ts) first more ss e (block_labels scope scope b us first held here) (region_labels c high ts more past later)
    region_labels low high (an_entity (entity (operation kind results used successors pieces) us) ts) ss ms h = absurd h
    region_labels low high (an_entity (entity (block named label arguments) us) ts) ss ms h = absurd h

    block_labels : (scope low high : ℕ) (ts : Entities ℕ) (ss ms : List Site) → OfBlocks text scope low high ts ss ms → all_labels ts ≡ spelled ss
    block_labels scope low high no_entity ss ms h = ap spelled (sym h.1)
    block_labels scope low high (an_entity (entity (block named label arguments) us) ts) ss ms
        (a, b, c, first, more, held, past, at, e, uses, lt, between, here, later) =
        ap (λ (x : List ℕ). x ∷ (all_labels us ++ all_labels ts)) at
        ∙ (ap (λ (xs : List (List ℕ)). text named ∷ xs)
        (both (all_labels us) (all_labels ts) first more (first ++ more) refl (operation_labels scope a b us first held here) (block_labels scope c high ts more past later))
        ∙ ap spelled (sym e))
    block_labels scope low high (an_entity (entity a_region us) ts) ss ms h = absurd h
    block_labels scope low high (an_entity (entity (operation kind results used successors pieces) us) ts) ss ms h = absurd h

  -- ---- tokens

  abbrev tokens : List Site → List ℕ
  tokens ss = map (λ s. s.token) ss

  in_order : (ls ks : List ℕ) (first more ss : List Site) → ss ≡ first ++ more → ls ≡ tokens first → ks ≡ tokens more → ls ++ ks ≡ tokens ss
  in_order ls ks first more ss e a b =
      ap (λ xs. xs ++ ks) a ∙ (ap (λ xs. tokens first ++ xs) b ∙ (sym (map_append (λ (s : Site). s.token) first more) ∙ ap tokens (sym e)))

  mutual
    operation_blocks : (scope low high : ℕ) (ts : Entities ℕ) (ss ms : List Site) → OfOperations text scope low high ts ss ms
        → all_blocks_of ts ≡ tokens ss
    operation_blocks scope low high no_entity ss ms h = ap tokens (sym h.1)
    operation_blocks scope low high (an_entity (entity (operation kind results used successors pieces) us) ts) ss ms
        (a, b, c, first, more, held, past, e, uses, le, between, here, later) =
        in_order (all_blocks_of us) (all_blocks_of ts) first more ss e (region_blocks a b us first held here) (operation_blocks scope c high ts more past later)
    operation_blocks scope low high (an_entity (entity a_region us) ts) ss ms h = absurd h
    operation_blocks scope low high (an_entity (entity (block named label arguments) us) ts) ss ms h = absurd h

    region_blocks : (low high : ℕ) (ts : Entities ℕ) (ss ms : List Site) → OfRegions text low high ts ss ms → all_blocks_of ts ≡ tokens ss
    region_blocks low high no_entity ss ms h = ap tokens (sym h.1)
    region_blocks low high (an_entity (entity a_region us) ts) ss ms (scope, b, c, first, more, held, past, e, uses, lt, between, here, later) =
        in_order (all_blocks_of us) (all_blocks_of ts) first more ss e (block_blocks scope scope b us first held here) (region_blocks c high ts more past later)
    region_blocks low high (an_entity (entity (operation kind results used successors pieces) us) ts) ss ms h = absurd h
    region_blocks low high (an_entity (entity (block named label arguments) us) ts) ss ms h = absurd h

    block_blocks : (scope low high : ℕ) (ts : Entities ℕ) (ss ms : List Site) → OfBlocks text scope low high ts ss ms → all_blocks_of ts ≡ tokens ss
    block_blocks scope low high no_entity ss ms h = ap tokens (sym h.1)
    block_blocks scope low high (an_entity (entity (block named label arguments) us) ts) ss ms
        (a, b, c, first, more, held, past, at, e, uses, lt, between, here, later) =
        ap (λ (xs : List ℕ). named ∷ xs)
        (in_order (all_blocks_of us) (all_blocks_of ts) first more (first ++ more) refl (operation_blocks scope a b us first held here) (block_blocks scope c high ts more past later))
        ∙ ap tokens (sym e)
    block_blocks scope low high (an_entity (entity a_region us) ts) ss ms h = absurd h
    block_blocks scope low high (an_entity (entity (operation kind results used successors pieces) us) ts) ss ms h = absurd h

module _ (isolated : ℕ → Bool) (v : Values) (text : ℕ → List ℕ) (es : List Event) (forest : Trees ActionSpan) (tree : Entity ℕ)
    (nests : Nests at_root [] es) (is : IsForestOf es forest) (says : operations_in v text [] forest ≡ an_entity tree no_entity) where
  -- The labels of a tree are spelled at those of its text, in the same order.
  pub tree_labels : all_labels (an_entity tree no_entity) ≡ map (λ s. text s.token) (labels isolated es)
  tree_labels =
      let r = labels_of_tree isolated v text es forest tree nests is says in
      operation_labels text 0 0 r.0 (an_entity tree no_entity) (labels isolated es) (label_mentions isolated es) r.1

  -- Its blocks are named by the tokens of the labels, in the same order.
  pub tree_blocks : blocks_of tree ≡ map (λ s. s.token) (labels isolated es)
  tree_blocks =
      let r = labels_of_tree isolated v text es forest tree nests is says in
      sym (append-nil (blocks_of tree)) ∙ operation_blocks text 0 0 r.0 (an_entity tree no_entity) (labels isolated es) (label_mentions isolated es) r.1
