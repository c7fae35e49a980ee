-- In the order of a tree a block comes behind the blocks that it is in.
use Rattle.std.proofs.Common.{◌≡◌, ◌⊎◌, inl, inr, ⊎_elim, ℕ, zero, suc, ◌<◌, List, [], ◌∷◌, ◌++◌, map, Some, slice_get, sym, ap, subst, arith}
use Rattle.std.proofs.lemmas.Option.{none-some, same_Some}
use Rattle.ir_trees.specs.Names.{Names, Contents}
use Rattle.ir_trees.specs.Trees.{Sort, Operations, Blocks, Regions, Tree, end, operation, block, region, Root}
use Rattle.opt_trees.specs.Occurrences.{Has, BlockOccurrence, Inside, inner, next_block, next_region, at_root, block_occurrences_in, block_occurrences_of}

-- the blocks around a list
abbrev pub Around : (N : Names) (S : Contents) (s : Sort) → Inside N S s → List N.block
Around N S Operations c = c.label.name ∷ c.spot.within
Around N S Blocks c = c.within
Around N S Regions c = c.within

module _ {N : Names} {S : Contents} where
  abbrev pub block_name : BlockOccurrence N S → N.block
  block_name x = x.label.name

  -- the blocks that each is in are such, or come before it
  abbrev InOrder : (N.block → Type 0) → List (BlockOccurrence N S) → Type 0
  InOrder P [] = Unit {0}
  InOrder P (x ∷ xs) = ((w : N.block) → Has w x.spot.within → P w) × InOrder (λ w. P w ⊎ (w ≡ x.label.name)) xs

  order_more : (P Q : N.block → Type 0) → ((w : N.block) → P w → Q w) → (xs : List (BlockOccurrence N S)) → InOrder P xs → InOrder Q xs
  order_more P Q more [] h = tt
  order_more P Q more (x ∷ xs) h = (
    λ w m. more w (h.0 w m),
    order_more (λ w. P w ⊎ (w ≡ x.label.name)) (λ w. Q w ⊎ (w ≡ x.label.name)) (λ w. ⊎_elim (λ p. inl (more w p)) (λ e. inr e)) xs h.1,
  )

  order_both : (P : N.block → Type 0) (xs ys : List (BlockOccurrence N S)) → InOrder P xs → InOrder P ys → InOrder P (xs ++ ys)
  order_both P [] ys h k = k
  order_both P (x ∷ xs) ys h k = (h.0, order_both (λ w. P w ⊎ (w ≡ x.label.name)) xs ys h.1 (order_more P (λ w. P w ⊎ (w ≡ x.label.name)) (λ w p. inl p) ys k))

  in_order : (s : Sort) (t : Tree N S s) (c : Inside N S s) (P : N.block → Type 0) → ((w : N.block) → Has w (Around N S s c) → P w) → InOrder P (block_occurrences_in t c)
  in_order _ end c P around = tt
  in_order _ (operation h rs rest) c P around =
      order_both P (block_occurrences_in rs (inner h c)) (block_occurrences_in rest c) (in_order Regions rs (inner h c) P around) (in_order Operations rest c P around)
  in_order _ (block l ops rest) c P around = (
    around,
    order_both (λ w. P w ⊎ (w ≡ l.name)) (block_occurrences_in ops (record { spot = c; label = l })) (block_occurrences_in rest (next_block c))
        (in_order Operations ops (record { spot = c; label = l }) (λ w. P w ⊎ (w ≡ l.name)) (λ w. ⊎_elim (λ e. inr e) (λ m. inl (around w m))))
        (in_order Blocks rest (next_block c) (λ w. P w ⊎ (w ≡ l.name)) (λ w m. inl (around w m))),
  )
  in_order _ (region bs rest) c P around =
      order_both P (block_occurrences_in bs c) (block_occurrences_in rest (next_region c)) (in_order Blocks bs c P around) (in_order Regions rest (next_region c) P around)

  before : (P : N.block → Type 0) (xs : List (BlockOccurrence N S)) → InOrder P xs → (k : ℕ) (x : BlockOccurrence N S) → slice_get xs k ≡ Some x → (w : N.block) → Has w x.spot.within
      → P w ⊎ ((j : ℕ) × (j < k) × (slice_get (map block_name xs) j ≡ Some w))
  before P [] h k x e w m = absurd (none-some x e)
  before P (y ∷ ys) h zero x e w m = inl (h.0 w (subst (λ (z : BlockOccurrence N S). Has w z.spot.within) (sym (same_Some y x e)) m))
  before P (y ∷ ys) h (suc k) x e w m = ⊎_elim
      (λ (p : P w ⊎ (w ≡ y.label.name)). ⊎_elim (λ q. inl q) (λ (s : w ≡ y.label.name). inr (zero, omega arith, ap Some (sym s))) p)
      (λ (r : (j : ℕ) × (j < k) × (slice_get (map block_name ys) j ≡ Some w)). let l = r.1 in inr (suc r.0, omega (arith, l), r.2))
      (before (λ v. P v ⊎ (v ≡ y.label.name)) ys h.1 k x e w m)

  pub comes_before : (t : Root N S) (k : ℕ) (x : BlockOccurrence N S) → slice_get (block_occurrences_of t) k ≡ Some x → (w : N.block) → Has w x.spot.within
      → (j : ℕ) × (j < k) × (slice_get (map block_name (block_occurrences_of t)) j ≡ Some w)
  comes_before t k x e w m = ⊎_elim
      (λ (none : ⊥). absurd none)
      (λ r. r)
      (before (λ v. ⊥) (block_occurrences_of t) (in_order Regions t.regions (at_root t) (λ v. ⊥) (λ v h. h)) k x e w m)
