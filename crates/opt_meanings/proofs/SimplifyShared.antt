-- simplify of trees that are the same up to names.
use Rattle.std.proofs.Common.{◌≡◌, ⊎_elim, inl, inr, ℕ, zero, suc, Bool, true, false, not, List, [], ◌∷◌, ◌++◌, Option}
use Rattle.std.proofs.Common.{Some, refl, sym, ap, ◌∙◌, subst}
use Rattle.std.specs.Prelude.{map, option_map, if◌then◌else◌, ◌&&◌}
use Rattle.std.specs.Prelude.{slice_get}
use Rattle.ir_trees.specs.Names.{Names, Contents}
use Rattle.ir_trees.specs.Renames.{rename_root, HaveTests, IsSameUpToNames}
use Rattle.ir_trees.specs.Trees.{Head, Sort, Regions, Tree, end, operation, block, region, Root}
use Rattle.opt_trees.specs.Occurrences.{Has, Occurrence, Inside, inner, next_block, next_region, occurrences_in}
use Rattle.opt_trees.specs.Occurrences.{occurrences_of, at_root, rename_occurrence, Renaming, maps}
use Rattle.opt_trees.specs.Dialect.{Dialect}
use Rattle.opt_trees.specs.Dce.{TreeSurroundings}
use Rattle.opt_trees.specs.Simplify.{all_of, is_empty, is_end, along_edge, decide_head, decide, decided, IsCut}
use Rattle.opt_trees.specs.Simplify.{IsSimplify, IsOrderly}
use Rattle.opt_trees.proofs.Lists.{at-map}
use Rattle.opt_trees.proofs.Trees.{operations_renamed}
use Rattle.opt_trees.proofs.SimplifyRenamed.{simplify_renamed}
use Rattle.opt_trees.proofs.One.{simplify_unique}
use Rattle.opt_trees.proofs.Orderly.{phases_orderly, phases_apart}
use Rattle.opt_meanings.specs.Laws.{KnowAlike}
use Rattle.opt_meanings.proofs.Permuted.{permuted}
use Rattle.opt_meanings.proofs.RenamedSame.{renamed_same}

-- what a list has stands at some index
has_index : {X : Type 0} (x : X) (xs : List X) → Has x xs → (i : ℕ) × (slice_get xs i ≡ Some x)
has_index x [] h = absurd h
has_index x (y ∷ ys) h =
    ⊎_elim (λ e. (zero, ap Some (sym e))) (λ t. let p = has_index x ys t in (suc p.0, p.1)) h

-- what the first list has, and the second
has_first : {X : Type 0} (x : X) (xs ys : List X) → Has x xs → Has x (xs ++ ys)
has_first x [] ys h = absurd h
has_first x (y ∷ xs) ys h = ⊎_elim (λ e. inl e) (λ t. inr (has_first x xs ys t)) h

has_second : {X : Type 0} (x : X) (xs ys : List X) → Has x ys → Has x (xs ++ ys)
has_second x [] ys h = h
has_second x (y ∷ xs) ys h = inr (has_second x xs ys h)

-- functions that agree on a list map it to the same
map_alike : {X Y : Type 0} (f g : X → Y) (xs : List X) → ((x : X) → Has x xs → f x ≡ g x) → map f xs ≡ map g xs
map_alike f g [] same = refl
map_alike f g (x ∷ xs) same = λ i. same x (inl refl) i ∷ map_alike f g xs (λ y h. same y (inr h)) i

module _ {N : Names} {S : Contents} {A : Type 0} (d : Dialect S A) (f g : N.value → Option A) where
  -- the same is known of the operands of branches
  abbrev BranchesAlike : List (Occurrence N S) → Type 0
  BranchesAlike os = (o : Occurrence N S) → Has o os → d.is_branch o.head.content ≡ true →
      (v : N.value) → Has v o.head.operands → f v ≡ g v

  -- an operation is decided by what is known of the operands of a branch
  decide_head_alike : (h : Head N S) (rs : Tree N S Regions) →
      (d.is_branch h.content ≡ true → (v : N.value) → Has v h.operands → f v ≡ g v) →
      decide_head d f h rs ≡ decide_head d g h rs
  decide_head_alike h rs same = by_case (d.is_branch h.content) refl
    where
      head_at : Bool → List (Option A) → Head N S
      head_at b known =
          if (b && (is_empty h.results && is_end rs)) && not (d.is_plain h.content)
          then along_edge d h (d.edge h.content known) d.plain
          else h

      by_case : (b : Bool) → d.is_branch h.content ≡ b → decide_head d f h rs ≡ decide_head d g h rs
      by_case true e = λ i. head_at (d.is_branch h.content) (map_alike f g h.operands (same e) i)
      by_case false e = (λ i. head_at (e i) (map f h.operands)) ∙ sym (λ i. head_at (e i) (map g h.operands))

  -- a list is decided by what is known of the operands of its branches
  decide_alike : {s : Sort} (x : Tree N S s) (c : Inside N S s) → BranchesAlike (occurrences_in x c) →
      decide d f x ≡ decide d g x
  decide_alike end c same = refl
  decide_alike (operation h rs rest) c same =
      let first = decide_head_alike h rs (λ e v k. same (record { site = c; head = h; regions = rs }) (inl refl) e v k) in
      let below = decide_alike rs (inner h c)
      (λ o k. same o (inr (has_first o (occurrences_in rs (inner h c)) (occurrences_in rest c) k))) in
      let after = decide_alike rest c
      (λ o k. same o (inr (has_second o (occurrences_in rs (inner h c)) (occurrences_in rest c) k))) in
      λ i. operation (first i) (below i) (after i)
  decide_alike (block l ops rest) c same =
      let below = decide_alike ops (record { spot = c; label = l })
      (λ o k. same o (has_first o (occurrences_in ops (record { spot = c; label = l })) (occurrences_in rest (next_block c)) k)) in
      let after = decide_alike rest (next_block c)
      (λ o k. same o (has_second o (occurrences_in ops (record { spot = c; label = l })) (occurrences_in rest (next_block c)) k)) in
      λ i. block l (below i) (after i)
  decide_alike (region bs rest) c same =
      let below = decide_alike bs c (λ o k. same o (has_first o (occurrences_in bs c) (occurrences_in rest (next_region c)) k)) in
      let after = decide_alike rest (next_region c)
      (λ o k. same o (has_second o (occurrences_in bs c) (occurrences_in rest (next_region c)) k)) in
      λ i. region (below i) (after i)

module _ {N : Names} {S : Contents} {A : Type 0} (d : Dialect S A) (r : Renaming N N) (t : Root N S) (w z : TreeSurroundings N A) where
  -- what is known of the operands of branches of the tree under other names is known of those of the tree
  known_alike : KnowAlike d w z t (rename_root (maps r) t) →
      BranchesAlike d w.alone (λ v. z.alone (r.value.to v)) (occurrences_of t)
  known_alike alike o h e v k =
      let p = has_index o (occurrences_of t) h in
      let q = has_index v o.head.operands k in
      alike p.0 q.0 o (rename_occurrence (maps r) o) v (r.value.to v) p.1
      (ap (λ os. slice_get os p.0) (operations_renamed (maps r) t)
      ∙ at-map (rename_occurrence (maps r)) (occurrences_of t) p.0 ∙ ap (option_map (rename_occurrence (maps r))) p.1)
      e q.1
      (at-map r.value.to o.head.operands q.0 ∙ ap (option_map r.value.to) q.1)

  -- what the other context says of names of the tree
  abbrev pulled : TreeSurroundings N A
  pulled = record { alone = λ v. z.alone (r.value.to v); is_pinned = λ v. z.is_pinned (r.value.to v) }

  -- where it says the same the same is made
  simplify_alike : (a : Root N S) → KnowAlike d w z t (rename_root (maps r) t) → IsSimplify d w t a → IsSimplify d pulled t a
  simplify_alike a alike x = record {
    cut = x.cut;
    is_cut = subst (λ q. IsCut d (all_of t) q x.cut) same x.is_cut;
    is_joined = x.is_joined;
  }
    where
      same : decided d w t ≡ decided d pulled t
      same = λ i. record {
        head = t.head;
        regions = decide_alike d w.alone (λ v. z.alone (r.value.to v)) t.regions (at_root t) (known_alike alike) i;
      }

module _ {N : Names} {S : Contents} {A : Type 0} (d : Dialect S A) where
  -- of a tree and of it under other names the same up to names is made
  pub simplify_shared : (r : Renaming N N) (t u : Root N S) → rename_root (maps r) t ≡ u → (w z : TreeSurroundings N A) →
      KnowAlike d w z t u → IsOrderly t → IsOrderly u → (a b : Root N S) → IsSimplify d w t a → IsSimplify d z u b → IsSameUpToNames a b
  simplify_shared r t u is w z alike o p a b x y = subst (IsSameUpToNames a) made (renamed_same r a)
    where
      -- of the tree by what the other context says
      here : IsSimplify d (pulled d r t w z) t a
      here = simplify_alike d r t w z a (subst (λ q. KnowAlike d w z t q) (sym is) alike) x

      -- of the tree under other names
      there : IsSimplify d z u (rename_root (maps r) a)
      there =
          subst (λ q. IsSimplify d z q (rename_root (maps r) a)) is
          (simplify_renamed d r t a (pulled d r t w z) z (record { knows = λ v. refl; pins = λ v. refl })
          (λ q cut. phases_apart d (all_of t) (pulled d r t w z) t q cut o.operations) here)

      made : rename_root (maps r) a ≡ b
      made = simplify_unique d z u (rename_root (maps r) a) b (λ q cut. phases_orderly d (all_of u) z u q cut p) there y

-- trees that are the same up to names
module _ {N : Names} {S : Contents} where
  -- of trees that are the same up to names the same up to names is made
  pub same_simplifies : {A : Type 0} (d : Dialect S A) → HaveTests N → (t u : Root N S) → IsSameUpToNames t u → (w z : TreeSurroundings N A) →
      KnowAlike d w z t u → IsOrderly t → IsOrderly u → (a b : Root N S) → IsSimplify d w t a → IsSimplify d z u b → IsSameUpToNames a b
  same_simplifies d tests t u same = let p = permuted t u tests same in simplify_shared d p.0 t u p.1
