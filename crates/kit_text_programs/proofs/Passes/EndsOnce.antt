-- In a function whose flat view ends well one operation of a block at most names successors.
use Rattle.std.proofs.Common.{◌≡◌, ⊎_elim, ℕ, suc, ◌<◌, false, List, [], ◌∷◌, map, length, Some, sym, ap, ◌∙◌, subst, arith}
use Rattle.std.specs.Prelude.{slice_get}
use Rattle.ir_trees.specs.Names.{Names, Contents}
use Rattle.ir_trees.specs.Trees.{Head, Operations, Blocks, Tree, end, operation, block}
use Rattle.opt_trees.specs.Occurrences.{Has, Occurrence, OperationSite, Spot, inner, next_block, occurrences_in}
use Rattle.opt_trees.proofs.NoneDead.{has-append}
use Rattle.kit_behaviour.specs.Machine.{Edge, Op, Fun, left_in}
use Rattle.kit_behaviour.specs.Rules.{is_terminator, EndsWell}
use Rattle.kit_behaviour.proofs.ControlFlow.NamedChains.{no_edges}
use Rattle.kit_views.specs.Reading.{Reading}
use Rattle.kit_views.specs.FlatView.{IsOp, AreOps, AreFlatBlocks, names_in}
use Rattle.kit_views.proofs.Lists.{Distinct, has_get}
use Rattle.kit_views.proofs.Pairs.{op_pairs, pairs}
use Rattle.kit_views.proofs.ReachedBoth.{successors_are}

-- nothing is in a list that is mapped to the empty one
none_mapped : {X Y : Type 0} (f : X → Y) (xs : List X) (x : X) → map f xs ≡ [] → Has x xs → ⊥
none_mapped f [] x e h = h
none_mapped f (y ∷ xs) x e h = cc e

module _ {N : Names} {S : Contents} (r : Reading S) (names : List N.block) where
  -- what is no terminator names no successors
  no_leads : (o : Head N S) (p : Op N.value) → IsOp r names o p → is_terminator p ≡ false → (n : N.block) →
      Has n o.successors → ⊥
  no_leads o p is e n i =
      none_mapped Some o.successors n
      (successors_are r names o p is ∙ ap (map (λ (x : Edge N.value). slice_get names x.target)) (no_edges p e)) i

  -- of the operations of a block one names successors
  one_end_ops : (os : Tree N S Operations) (ps : List (Op N.value)) (c : OperationSite N S) → AreOps r names os ps →
      EndsWell ps → (o z : Occurrence N S) → Has o (occurrences_in os c) → Has z (occurrences_in os c) →
      (n m : N.block) → Has n o.head.successors → Has m z.head.successors → o ≡ z
  one_end_ops end ps c a w o z i k n m lo lz = absurd i
  one_end_ops (operation h rs more) [] c a w o z i k n m lo lz = absurd a
  one_end_ops (operation h rs end) (p ∷ []) c a w o z i k n m lo lz = it o i ∙ sym (it z k)
    where
      it : (o : Occurrence N S) → Has o (occurrences_in (operation h rs end) c) →
          o ≡ record { site = c; head = h; regions = rs }
      it o i = ⊎_elim (λ e. e) (λ x. ⊎_elim (λ y. absurd (subst (λ z. Has o (occurrences_in z (inner h c))) a.0 y))
          (λ y. absurd y) (has-append o (occurrences_in rs (inner h c)) [] x)) i
  one_end_ops (operation h rs end) (p ∷ q ∷ ps) c a w o z i k n m lo lz = absurd a.2
  one_end_ops (operation h rs (operation g qs more)) (p ∷ []) c a w o z i k n m lo lz = absurd a.2
  one_end_ops (operation h rs (operation g qs more)) (p ∷ q ∷ ps) c a w o z i k n m lo lz =
      one_end_ops (operation g qs more) (q ∷ ps) c a.2 w.1 o z (later o n i lo) (later z m k lz) n m lo lz
    where
      later : (o : Occurrence N S) (n : N.block) → Has o (occurrences_in (operation h rs (operation g qs more)) c) →
          Has n o.head.successors → Has o (occurrences_in (operation g qs more) c)
      later o n i l =
          ⊎_elim (λ e. absurd (no_leads h p a.1 w.0 n (subst
          (λ (x : Occurrence N S). Has n x.head.successors) e l)))
          (λ x. ⊎_elim (λ y. absurd (subst (λ z. Has o (occurrences_in z (inner h c))) a.0 y)) (λ y. y)
          (has-append o (occurrences_in rs (inner h c)) (occurrences_in (operation g qs more) c) x)) i

  -- of the operations of blocks of one name one names successors
  pub one_end : (ts : Tree N S Blocks) (ks : Fun N.value) (c : Spot N S) → AreFlatBlocks r names ts ks →
      Distinct (names_in ts) → ((b : ℕ) → b < length ks → EndsWell (left_in (Some ks) b 0)) → (o z : Occurrence N S) →
      Has o (occurrences_in ts c) → Has z (occurrences_in ts c) → o.site.label.name ≡ z.site.label.name →
      (n m : N.block) → Has n o.head.successors → Has m z.head.successors → o ≡ z
  one_end end ks c a dn w o z i k e n m lo lz = absurd i
  one_end (block l os more) [] c a dn w o z i k e n m lo lz = absurd a
  one_end (block l os more) (j ∷ ks) c a dn w o z i k e n m lo lz =
      ⊎_elim
      (λ x. ⊎_elim
      (λ y. one_end_ops os j.ops (record { spot = c; label = l }) a.1 (w 0 (omega arith)) o z x y n m lo lz)
      (λ y. absurd (apart z o y x (sym e)))
      (has-append z (occurrences_in os (record { spot = c; label = l })) (occurrences_in more (next_block c)) k))
      (λ x. ⊎_elim
      (λ y. absurd (apart o z x y e))
      (λ y. one_end more ks (next_block c) a.2 dn.1 (λ b lt. w (suc b) (omega (arith, lt))) o z x y e n m lo lz)
      (has-append z (occurrences_in os (record { spot = c; label = l })) (occurrences_in more (next_block c)) k))
      (has-append o (occurrences_in os (record { spot = c; label = l })) (occurrences_in more (next_block c)) i)
    where
      apart : (o z : Occurrence N S) → Has o (occurrences_in more (next_block c)) →
          Has z (occurrences_in os (record { spot = c; label = l })) → o.site.label.name ≡ z.site.label.name → ⊥
      apart o z x y e =
          let p = pairs r names more ks (next_block c) a.2 o x in
          let q = op_pairs r names os j.ops (record { spot = c; label = l }) a.1 z y in
          dn.0 (has_get (names_in more) p.place l.name (p.name
          ∙ ap Some (e ∙ ap (λ (s : OperationSite N S). s.label.name) q.where_it_is)))
