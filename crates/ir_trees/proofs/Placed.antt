-- Each operation and each block of a tree has a place, and one alone where names are distinct.
use Rattle.std.proofs.Common.{◌≡◌, ℕ, zero, suc, List, [], ◌∷◌, ◌++◌, map, Some, option_map, slice_get, refl, sym, ap, ◌∙◌, subst, inl, inr, ⊎_elim}
use Rattle.std.proofs.lemmas.List.{map-append, append-nil}
use Rattle.std.proofs.lemmas.Simd.{map-map}
use Rattle.std.proofs.lemmas.Option.{slice_get-map}
use Rattle.ir_trees.specs.Names.{Names, Contents}
use Rattle.ir_trees.specs.Trees.{Head, Label, Sort, Operations, Tree, end, operation, block, region, Root}
use Rattle.ir_trees.specs.Searched.{Lists, AreDistinct, heads_in, labels_in, heads_of, labels_of, operation_names, block_names}
use Rattle.ir_trees.specs.Renames.{Maps, rename, rename_root}
use Rattle.ir_trees.specs.Places.{AnOperation, ABlock, PathFromRoot, reached, at_place, IsOperationAt, IsBlockAt, rename_item}
use Rattle.ir_trees.proofs.Members.{Has, at_has, has_at, has_front, has_back, has_either, has_map}

module _ {N M : Names} {S : Contents} (m : Maps N M) where
  reached_renamed : {s : Sort} (t : Tree N S s) (k : ℕ) (p : List ℕ) → reached (rename m t) k p ≡ option_map (rename_item m) (reached t k p)
  reached_renamed end k p = refl
  reached_renamed (operation h rs rest) zero [] = refl
  reached_renamed (operation h rs rest) zero (k ∷ p) = reached_renamed rs k p
  reached_renamed (operation h rs rest) (suc n) p = reached_renamed rest n p
  reached_renamed (block l ops rest) zero [] = refl
  reached_renamed (block l ops rest) zero (k ∷ p) = reached_renamed ops k p
  reached_renamed (block l ops rest) (suc n) p = reached_renamed rest n p
  reached_renamed (region bs rest) zero [] = refl
  reached_renamed (region bs rest) zero (k ∷ p) = reached_renamed bs k p
  reached_renamed (region bs rest) (suc n) p = reached_renamed rest n p

  pub place_renamed : (t : Root N S) (p : PathFromRoot) → at_place (rename_root m t) p ≡ option_map (rename_item m) (at_place t p)
  place_renamed t [] = refl
  place_renamed t (k ∷ p) = reached_renamed t.regions k p

-- something with the indices by which it is reached from a list
record Entry (X : Type 0) : Type 0 where
  first : ℕ
  path : List ℕ
  is : X

abbrev thing : {X : Type 0} → Entry X → X
thing e = e.is

abbrev inside : {X : Type 0} → Entry X → Entry X
inside e = record { first = zero; path = e.first ∷ e.path; is = e.is }

abbrev onward : {X : Type 0} → Entry X → Entry X
onward e = record { first = suc e.first; path = e.path; is = e.is }

both_are : {X : Type 0} (es fs : List (Entry X)) (xs ys : List X) → map thing es ≡ xs → map thing fs ≡ ys → map thing (map inside es ++ map onward fs) ≡ xs ++ ys
both_are es fs xs ys a b = map-append thing (map inside es) (map onward fs) ∙ (λ i. map-map thing inside es i ++ map-map thing onward fs i) ∙ (λ i. a i ++ b i)

-- one entry alone has a name
one_entry : {X W : Type 0} (name : X → W) (es : List (Entry X)) (e f : Entry X) → AreDistinct (map name (map thing es)) → Has e es → Has f es → name e.is ≡ name f.is → e ≡ f
one_entry name es e f distinct a b same =
    let j = has_at es e a in
    let k = has_at es f b in
    let at : (i : ℕ) (d : Entry _) → slice_get es i ≡ Some d → slice_get (map name (map thing es)) i ≡ Some (name d.is) = λ i d h. slice_get-map name (map thing es) i ∙ ap (option_map name) (slice_get-map thing es i ∙ ap (option_map thing) h) in
    let index : j.0 ≡ k.0 = distinct j.0 k.0 (name e.is) (at j.0 e j.1) (at k.0 f k.1 ∙ ap Some (sym same)) in
    let both : Some e ≡ Some f = sym j.1 ∙ ap (slice_get es) index ∙ k.1 in
    cc

front : {X : Type 0} (es fs : List (Entry X)) (e : Entry X) → Has e es → Has (inside e) (map inside es ++ map onward fs)
front es fs e h = has_front (map inside es) (map onward fs) (inside e) (has_map inside es e h)

back : {X : Type 0} (es fs : List (Entry X)) (e : Entry X) → Has e fs → Has (onward e) (map inside es ++ map onward fs)
back es fs e h = has_back (map inside es) (map onward fs) (onward e) (has_map onward fs e h)

module _ {N : Names} {S : Contents} where
  abbrev operations_placed : {s : Sort} → Tree N S s → List (Entry (Head N S))
  operations_placed end = []
  operations_placed (operation h rs rest) = record { first = zero; path = []; is = h } ∷ (map inside (operations_placed rs) ++ map onward (operations_placed rest))
  operations_placed (block l ops rest) = map inside (operations_placed ops) ++ map onward (operations_placed rest)
  operations_placed (region bs rest) = map inside (operations_placed bs) ++ map onward (operations_placed rest)

  abbrev blocks_placed : {s : Sort} → Tree N S s → List (Entry (Label N S))
  blocks_placed end = []
  blocks_placed (operation h rs rest) = map inside (blocks_placed rs) ++ map onward (blocks_placed rest)
  blocks_placed (block l ops rest) = record { first = zero; path = []; is = l } ∷ (map inside (blocks_placed ops) ++ map onward (blocks_placed rest))
  blocks_placed (region bs rest) = map inside (blocks_placed bs) ++ map onward (blocks_placed rest)

  operations_are : {s : Sort} (t : Tree N S s) → map thing (operations_placed t) ≡ heads_in t
  operations_are end = refl
  operations_are (operation h rs rest) = ap (λ l. h ∷ l) (both_are (operations_placed rs) (operations_placed rest) _ _ (operations_are rs) (operations_are rest))
  operations_are (block l ops rest) = both_are (operations_placed ops) (operations_placed rest) _ _ (operations_are ops) (operations_are rest)
  operations_are (region bs rest) = both_are (operations_placed bs) (operations_placed rest) _ _ (operations_are bs) (operations_are rest)

  blocks_are : {s : Sort} (t : Tree N S s) → map thing (blocks_placed t) ≡ labels_in t
  blocks_are end = refl
  blocks_are (operation h rs rest) = both_are (blocks_placed rs) (blocks_placed rest) _ _ (blocks_are rs) (blocks_are rest)
  blocks_are (block l ops rest) = ap (λ x. l ∷ x) (both_are (blocks_placed ops) (blocks_placed rest) _ _ (blocks_are ops) (blocks_are rest))
  blocks_are (region bs rest) = both_are (blocks_placed bs) (blocks_placed rest) _ _ (blocks_are bs) (blocks_are rest)

  -- what is reached is one of the entries
  operation_placed : {s : Sort} (t : Tree N S s) (k : ℕ) (p : List ℕ) (u : Root N S) → reached t k p ≡ Some (AnOperation u) → Has (record { first = k; path = p; is = u.head }) (operations_placed t)
  operation_placed end k p u e = cc
  operation_placed (operation h rs rest) zero [] u e =
      let root : Root N S = record { head = h; regions = rs } in
      let same : root ≡ u = cc in
      inl (ap (λ (x : Root N S). record { first = zero; path = []; is = x.head }) (sym same))
  operation_placed (operation h rs rest) zero (k ∷ p) u e = inr (front (operations_placed rs) (operations_placed rest) _ (operation_placed rs k p u e))
  operation_placed (operation h rs rest) (suc n) p u e = inr (back (operations_placed rs) (operations_placed rest) _ (operation_placed rest n p u e))
  operation_placed (block l ops rest) zero [] u e = cc
  operation_placed (block l ops rest) zero (k ∷ p) u e = front (operations_placed ops) (operations_placed rest) _ (operation_placed ops k p u e)
  operation_placed (block l ops rest) (suc n) p u e = back (operations_placed ops) (operations_placed rest) _ (operation_placed rest n p u e)
  operation_placed (region bs rest) zero [] u e = cc
  operation_placed (region bs rest) zero (k ∷ p) u e = front (operations_placed bs) (operations_placed rest) _ (operation_placed bs k p u e)
  operation_placed (region bs rest) (suc n) p u e = back (operations_placed bs) (operations_placed rest) _ (operation_placed rest n p u e)

  block_placed : {s : Sort} (t : Tree N S s) (k : ℕ) (p : List ℕ) (l : Label N S) (ops : Tree N S Operations) → reached t k p ≡ Some (ABlock l ops) → Has (record { first = k; path = p; is = l }) (blocks_placed t)
  block_placed end k p u o e = cc
  block_placed (operation h rs rest) zero [] u o e = cc
  block_placed (operation h rs rest) zero (k ∷ p) u o e = front (blocks_placed rs) (blocks_placed rest) _ (block_placed rs k p u o e)
  block_placed (operation h rs rest) (suc n) p u o e = back (blocks_placed rs) (blocks_placed rest) _ (block_placed rest n p u o e)
  block_placed (block l ops rest) zero [] u o e =
      let same : u ≡ l = cc in
      inl (ap (λ (x : Label N S). record { first = zero; path = []; is = x }) same)
  block_placed (block l ops rest) zero (k ∷ p) u o e = inr (front (blocks_placed ops) (blocks_placed rest) _ (block_placed ops k p u o e))
  block_placed (block l ops rest) (suc n) p u o e = inr (back (blocks_placed ops) (blocks_placed rest) _ (block_placed rest n p u o e))
  block_placed (region bs rest) zero [] u o e = cc
  block_placed (region bs rest) zero (k ∷ p) u o e = front (blocks_placed bs) (blocks_placed rest) _ (block_placed bs k p u o e)
  block_placed (region bs rest) (suc n) p u o e = back (blocks_placed bs) (blocks_placed rest) _ (block_placed rest n p u o e)

  -- what is found by search is reached
  abbrev OperationReached : {s : Sort} → Tree N S s → Head N S → Type 0
  OperationReached t h = (k : ℕ) × (p : List ℕ) × (u : Root N S) × (reached t k p ≡ Some (AnOperation u)) × (u.head ≡ h)

  operation_reached : {s : Sort} (t : Tree N S s) (h : Head N S) → Has h (heads_in t) → OperationReached t h
  operation_reached end h has = absurd has
  operation_reached (operation g rs rest) h has = ⊎_elim
      (λ same. (zero, [], record { head = g; regions = rs }, refl, sym same))
      (λ r. ⊎_elim (λ a. let i = operation_reached rs h a in (zero, i.0 ∷ i.1, i.2, i.3, i.4)) (λ b. let i = operation_reached rest h b in (suc i.0, i.1, i.2, i.3, i.4)) (has_either (heads_in rs) (heads_in rest) h r))
      has
  operation_reached (block l ops rest) h has =
      ⊎_elim (λ a. let i = operation_reached ops h a in (zero, i.0 ∷ i.1, i.2, i.3, i.4)) (λ b. let i = operation_reached rest h b in (suc i.0, i.1, i.2, i.3, i.4)) (has_either (heads_in ops) (heads_in rest) h has)
  operation_reached (region bs rest) h has =
      ⊎_elim (λ a. let i = operation_reached bs h a in (zero, i.0 ∷ i.1, i.2, i.3, i.4)) (λ b. let i = operation_reached rest h b in (suc i.0, i.1, i.2, i.3, i.4)) (has_either (heads_in bs) (heads_in rest) h has)

  abbrev BlockReached : {s : Sort} → Tree N S s → Label N S → Type 0
  BlockReached t l = (k : ℕ) × (p : List ℕ) × (ops : Tree N S Operations) × (reached t k p ≡ Some (ABlock l ops))

  block_reached : {s : Sort} (t : Tree N S s) (l : Label N S) → Has l (labels_in t) → BlockReached t l
  block_reached end l has = absurd has
  block_reached (operation g rs rest) l has =
      ⊎_elim (λ a. let i = block_reached rs l a in (zero, i.0 ∷ i.1, i.2, i.3)) (λ b. let i = block_reached rest l b in (suc i.0, i.1, i.2, i.3)) (has_either (labels_in rs) (labels_in rest) l has)
  block_reached (block k ops rest) l has = ⊎_elim
      (λ same. (zero, [], ops, ap (λ x. Some (ABlock x ops)) (sym same)))
      (λ r. ⊎_elim (λ a. let i = block_reached ops l a in (zero, i.0 ∷ i.1, i.2, i.3)) (λ b. let i = block_reached rest l b in (suc i.0, i.1, i.2, i.3)) (has_either (labels_in ops) (labels_in rest) l r))
      has
  block_reached (region bs rest) l has =
      ⊎_elim (λ a. let i = block_reached bs l a in (zero, i.0 ∷ i.1, i.2, i.3)) (λ b. let i = block_reached rest l b in (suc i.0, i.1, i.2, i.3)) (has_either (labels_in bs) (labels_in rest) l has)

  -- the root as a list of one operation
  abbrev alone : Root N S → Tree N S Operations
  alone t = operation t.head t.regions end

  from_root : (t : Root N S) (p : PathFromRoot) → reached (alone t) zero p ≡ at_place t p
  from_root t [] = refl
  from_root t (k ∷ p) = refl

  heads_alone : (t : Root N S) → map thing (operations_placed (alone t)) ≡ heads_of t
  heads_alone t = operations_are (alone t) ∙ ap (λ l. t.head ∷ l) (append-nil (heads_in t.regions))

  labels_alone : (t : Root N S) → map thing (blocks_placed (alone t)) ≡ labels_of t
  labels_alone t = blocks_are (alone t) ∙ append-nil (labels_in t.regions)

  pub operation_has_place : (t : Root N S) (h : Head N S) → Lists (heads_of t) h → (p : PathFromRoot) × IsOperationAt t p h
  operation_has_place t h l = ⊎_elim
      (λ same. ([], (t, refl, sym same)))
      (λ r. let i = operation_reached t.regions h r in (i.0 ∷ i.1, (i.2, i.3, i.4)))
      (at_has (heads_of t) l.0 h l.1)

  pub operation_at_place : (t : Root N S) (p : PathFromRoot) (u : Root N S) → at_place t p ≡ Some (AnOperation u) → Lists (heads_of t) u.head
  operation_at_place t p u e =
      let has = has_map thing (operations_placed (alone t)) (record { first = zero; path = p; is = u.head }) (operation_placed (alone t) zero p u (from_root t p ∙ e)) in
      has_at (heads_of t) u.head (subst (Has u.head) (heads_alone t) has)

  pub block_has_place : (t : Root N S) (l : Label N S) → Lists (labels_of t) l → (p : PathFromRoot) × IsBlockAt t p l
  block_has_place t l h = let i = block_reached t.regions l (at_has (labels_of t) h.0 l h.1) in (i.0 ∷ i.1, (i.2, i.3))

  pub block_at_place : (t : Root N S) (p : PathFromRoot) (l : Label N S) (ops : Tree N S Operations) → at_place t p ≡ Some (ABlock l ops) → Lists (labels_of t) l
  block_at_place t p l ops e =
      let has = has_map thing (blocks_placed (alone t)) (record { first = zero; path = p; is = l }) (block_placed (alone t) zero p l ops (from_root t p ∙ e)) in
      has_at (labels_of t) l (subst (Has l) (labels_alone t) has)

  pub one_place : (t : Root N S) → AreDistinct (operation_names t) → (p q : PathFromRoot) (u v : Root N S) → at_place t p ≡ Some (AnOperation u) → at_place t q ≡ Some (AnOperation v) → u.head.name ≡ v.head.name → p ≡ q
  one_place t distinct p q u v a b same =
      let e = one_entry (λ (h : Head N S). h.name) (operations_placed (alone t)) (record { first = zero; path = p; is = u.head }) (record { first = zero; path = q; is = v.head })
      (subst (λ l. AreDistinct (map (λ (h : Head N S). h.name) l)) (sym (heads_alone t)) distinct)
      (operation_placed (alone t) zero p u (from_root t p ∙ a)) (operation_placed (alone t) zero q v (from_root t q ∙ b)) same in
      ap (λ (x : Entry (Head N S)). x.path) e

  pub one_block_place : (t : Root N S) → AreDistinct (block_names t) → (p q : PathFromRoot) (l k : Label N S) (ops others : Tree N S Operations) → at_place t p ≡ Some (ABlock l ops) → at_place t q ≡ Some (ABlock k others) → l.name ≡ k.name → p ≡ q
  one_block_place t distinct p q l k ops others a b same =
      let e = one_entry (λ (h : Label N S). h.name) (blocks_placed (alone t)) (record { first = zero; path = p; is = l }) (record { first = zero; path = q; is = k })
      (subst (λ x. AreDistinct (map (λ (h : Label N S). h.name) x)) (sym (labels_alone t)) distinct)
      (block_placed (alone t) zero p l ops (from_root t p ∙ a)) (block_placed (alone t) zero q k others (from_root t q ∙ b)) same in
      ap (λ (x : Entry (Label N S)). x.path) e
