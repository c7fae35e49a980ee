-- The names in a printed tree are identifiers.
use Rattle.std.proofs.Common.{◌≡◌, ℕ, zero, suc, ◌<◌, ◌^◌, true, List, [], ◌∷◌, ◌++◌, map, Some, slice_get, refl, sym, ap, subst, ◌∙◌}
use Rattle.ir_names.specs.Text.{is_identifier}
use Rattle.ir_print.specs.Pieces.{ValueTree, EntityHead, operation, a_region, block, Entity, entity, Entities, no_entity, an_entity}
use Rattle.ir_print.specs.Printed.{value_name}
use Rattle.ir_forest.specs.Meaning.{renamed, all_renamed, renamed_head}
use Rattle.ir_rereading.specs.Printable.{HasBlockName, HasLabelName, HasBlockNames, HaveBlockNames}
use Rattle.ir_forest.specs.Closed.{AreIn, names_of, unlabelled_head, unlabelled, all_unlabelled, named_in, blocks_among, head_goes_on, blocks_within, HasEdges, HaveEdges}
use Rattle.ir_rereading.proofs.layouts.Marks.{AreIdentifiers, IsSpeltHead, IsSpelt, AreSpelt}
use Rattle.ir_rereading.proofs.layouts.PrintedNames.{value_name_identifier, block_name_identifier}

firsts : {M N : Type 0} (f : M → N) (rs : List (M × ValueTree)) → names_of (map (λ r. (f r.0, r.1)) rs) ≡ map f (names_of rs)
firsts f [] = refl
firsts f (r ∷ rs) = ap (λ xs. f r.0 ∷ xs) (firsts f rs)

-- ---- names of blocks

name_spelt : (label name : List ℕ) → HasBlockName label name → is_identifier name ≡ true
name_spelt label name h = subst (λ cs. is_identifier cs ≡ true) (sym h.spelt) (block_name_identifier h.given h.slot h.version h.small.0 h.small.1)

identifier_at : (xs : List (List ℕ)) → AreIdentifiers xs → (i : ℕ) (x : List ℕ) → slice_get xs i ≡ Some x → is_identifier x ≡ true
identifier_at [] h i x e = cc
identifier_at (y ∷ ys) h zero x e = let same : y ≡ x = let t : Some y ≡ Some x = e in cc in subst (λ z. is_identifier z ≡ true) same h.0
identifier_at (y ∷ ys) h (suc i) x e = identifier_at ys h.1 i x e

-- what stands among identifiers is one
found_spelt : (bs : List (List ℕ)) → AreIdentifiers bs → (xs : List (List ℕ)) → AreIn xs bs → AreIdentifiers xs
found_spelt bs h [] e = tt
found_spelt bs h (x ∷ xs) e = (let found = e 0 x refl in identifier_at bs h found.0 x found.1, found_spelt bs h xs (λ i y at. e (suc i) y at))

both_spelt : (xs ys : List (List ℕ)) → AreIdentifiers xs → AreIdentifiers ys → AreIdentifiers (xs ++ ys)
both_spelt [] ys h k = k
both_spelt (x ∷ xs) ys h k = (h.0, both_spelt xs ys h.1 k)

named_spelt : (k : EntityHead ℕ) (h : EntityHead (List ℕ)) → HasLabelName k h → AreIdentifiers (named_in h)
named_spelt k (operation kind results used successors pieces) n = tt
named_spelt k a_region n = tt
named_spelt (block at own typed) (block named label arguments) n = (name_spelt own named n.1, tt)
named_spelt (operation kind results used successors pieces) (block named label arguments) n = absurd n
named_spelt a_region (block named label arguments) n = absurd n

blocks_spelt : (us : Entities ℕ) (ts : Entities (List ℕ)) → HaveBlockNames us ts → AreIdentifiers (blocks_among ts)
blocks_spelt us no_entity n = tt
blocks_spelt no_entity (an_entity t ts) n = absurd n
blocks_spelt (an_entity (entity k vs) us) (an_entity (entity h ws) ts) n = both_spelt (named_in h) (blocks_among ts) (named_spelt k h n.0.0) (blocks_spelt us ts n.1)

within_spelt : (h : EntityHead (List ℕ)) (us : Entities ℕ) (ts : Entities (List ℕ)) (bs : List (List ℕ)) → HaveBlockNames us ts → AreIdentifiers bs → AreIdentifiers (blocks_within h ts bs)
within_spelt (operation kind results used successors pieces) us ts bs n b = b
within_spelt a_region us ts bs n b = blocks_spelt us ts n
within_spelt (block named label arguments) us ts bs n b = b

module _ (number : ℕ → ℕ) (small : (n : ℕ) → number n < 2 ^ 64) (label_of : ℕ → List ℕ) where
  abbrev ν : ℕ → List ℕ
  ν n = value_name (number n)

  are_names : (ns : List ℕ) → AreIdentifiers (map ν ns)
  are_names [] = tt
  are_names (n ∷ ns) = (value_name_identifier (number n) (small n), are_names ns)

  head_spelt : (h : EntityHead (List ℕ)) (k : EntityHead ℕ) (bs : List (List ℕ)) → unlabelled_head h ≡ unlabelled_head (renamed_head ν label_of k) → HasLabelName k h
      → AreIdentifiers bs → AreIn (head_goes_on h) bs → IsSpeltHead h
  head_spelt (operation kind results used successors pieces) (operation kind2 results2 used2 successors2 pieces2) bs e n b edges =
      let rs : results ≡ map (λ r. (ν r.0, r.1)) results2 = cc in
      let us : used ≡ map ν used2 = cc in (
        subst AreIdentifiers (sym (ap names_of rs ∙ firsts ν results2)) (are_names (names_of results2)),
        subst AreIdentifiers (sym us) (are_names used2),
        found_spelt bs b successors edges,
      )
  head_spelt (operation kind results used successors pieces) a_region bs e n b edges = absurd (cc)
  head_spelt (operation kind results used successors pieces) (block named label arguments) bs e n b edges = absurd (cc)
  head_spelt a_region k bs e n b edges = tt
  head_spelt (block named label arguments) (block named2 label2 arguments2) bs e n b edges =
      let rs : arguments ≡ map (λ r. (ν r.0, r.1)) arguments2 = cc in
      (n.0, subst (λ cs. is_identifier cs ≡ true) (sym n.0) (name_spelt label2 named n.1), subst AreIdentifiers (sym (ap names_of rs ∙ firsts ν arguments2)) (are_names (names_of arguments2)))
  head_spelt (block named label arguments) a_region bs e n b edges = absurd (cc)
  head_spelt (block named label arguments) (operation kind results used successors pieces) bs e n b edges = absurd (cc)

  mutual
    tree_spelt : (t : Entity (List ℕ)) (u : Entity ℕ) (bs : List (List ℕ)) → unlabelled t ≡ unlabelled (renamed ν label_of u) → HasBlockNames u t → AreIdentifiers bs → HasEdges bs t → IsSpelt t
    tree_spelt (entity h ts) (entity k us) bs e n b edges =
        let heads : unlabelled_head h ≡ unlabelled_head (renamed_head ν label_of k) = cc in
        let rest : all_unlabelled ts ≡ all_unlabelled (all_renamed ν label_of us) = cc in
        (head_spelt h k bs heads n.0 b edges.0, trees_spelt ts us (blocks_within h ts bs) rest n.1 (within_spelt h us ts bs n.1 b) edges.1)

    trees_spelt : (ts : Entities (List ℕ)) (us : Entities ℕ) (bs : List (List ℕ)) → all_unlabelled ts ≡ all_unlabelled (all_renamed ν label_of us) → HaveBlockNames us ts → AreIdentifiers bs → HaveEdges bs ts
        → AreSpelt ts
    trees_spelt no_entity us bs e n b edges = tt
    trees_spelt (an_entity t ts) no_entity bs e n b edges = absurd (cc)
    trees_spelt (an_entity t ts) (an_entity u us) bs e n b edges =
        let first : unlabelled t ≡ unlabelled (renamed ν label_of u) = cc in
        let rest : all_unlabelled ts ≡ all_unlabelled (all_renamed ν label_of us) = cc in
        (tree_spelt t u bs first n.0 b edges.0, trees_spelt ts us bs rest n.1 b edges.1)

  -- The label of an edge is the name of a block: it is looked up in the region.
  pub printed_spelt : (t : Entity (List ℕ)) (u : Entity ℕ) → unlabelled t ≡ unlabelled (renamed ν label_of u) → HasBlockNames u t → HasEdges [] t → IsSpelt t
  printed_spelt t u e n edges = tree_spelt t u [] e n tt edges
