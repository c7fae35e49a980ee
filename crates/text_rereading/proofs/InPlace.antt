-- Things that are in one place each have nothing in common, unless one is inside the other.
use Rattle.std.proofs.Common.{◌≡◌, ◌⊎◌, inl, inr, ⊎_elim, ℕ, refl, sym, subst}
use Rattle.ir_program.specs.declared.handles.IRNode.{IRNode}
use Rattle.text_dialect.specs.Seen.{Seen}
use Rattle.text_rereading.specs.Places.{IsDirectlyIn, IsAnywhereIn, itself, within, HasOwnPlaces}

module _ {K A T : Type 0} (s : Seen K A T) where
  -- what holds a thing directly is inside x too
  abbrev HolderInside : IRNode → IRNode → Type 0
  HolderInside x e = (h : IRNode) × (k : ℕ) × IsDirectlyIn s e h k × IsAnywhereIn s x h

  itself_or_held : (x e : IRNode) → IsAnywhereIn s x e → (x ≡ e) ⊎ HolderInside x e
  itself_or_held x _ itself = inl refl
  itself_or_held x _ (within e h k at i) = inr (h, k, at, i)

  module _ (places : HasOwnPlaces s) where
    -- of two things around a third one is inside the other
    in_line : (x y e : IRNode) → IsAnywhereIn s x e → IsAnywhereIn s y e → IsAnywhereIn s x y ⊎ IsAnywhereIn s y x
    in_line x y _ itself j = inr j
    in_line x y _ (within e h k at i) j = ⊎_elim
        (λ (same : y ≡ e). inl (subst (IsAnywhereIn s x) (sym same) (within e h k at i)))
        (λ (g : HolderInside y e).
        let q : g.0 ≡ h = (places.once e g.0 h g.1 k g.2 at).0 in in_line x y h i (subst (IsAnywhereIn s y) q g.3))
        (itself_or_held y e j)

    one_inside : (x y z : IRNode) (j k : ℕ) → IsDirectlyIn s x z j → IsDirectlyIn s y z k → IsAnywhereIn s x y → j ≡ k
    one_inside x y z j k a b i = ⊎_elim
        (λ (same : x ≡ y). (places.once y z z j k (subst (λ w. IsDirectlyIn s w z j) same a) b).1)
        (λ (g : HolderInside x y).
        let q : g.0 ≡ z = (places.once y g.0 z g.1 k g.2 b).0 in
        absurd (places.apart x z j a (subst (IsAnywhereIn s x) q g.3)))
        (itself_or_held x y i)

    -- two things that are directly in one have nothing inside both
    pub one_place : (x y z e : IRNode) (j k : ℕ) → IsDirectlyIn s x z j → IsDirectlyIn s y z k → IsAnywhereIn s x e → IsAnywhereIn s y e
        → j ≡ k
    one_place x y z e j k a b i h = ⊎_elim
        (λ (l : IsAnywhereIn s x y). one_inside x y z j k a b l)
        (λ (l : IsAnywhereIn s y x). sym (one_inside y x z k j b a l))
        (in_line x y e i h)
