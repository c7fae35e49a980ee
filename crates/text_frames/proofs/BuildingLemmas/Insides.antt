-- What is inside what, in what is seen of a context.
use Rattle.std.proofs.Common.{◌≡◌, ◌⊎◌, inl, inr, ⊎_elim, ℕ, zero, suc, ◌<◌, List, [], ◌∷◌, ◌++◌, Some, option_map, slice_get, take, refl, sym, ap, ◌∙◌, subst, arith}
use Rattle.ir_program.specs.declared.handles.IRNode.{IRNode}
use Rattle.ir_program.specs.declared.handles.IRNode.TheVariants.{Operation as OperationNode, Region as RegionNode, BasicBlock as BlockNode}
use Rattle.ir_program.specs.declared.handles.Ptr.{Ptr}
use Rattle.ir_program.specs.declared.handles.Operation.{Operation}
use Rattle.ir_program.specs.declared.handles.Region.{Region}
use Rattle.ir_program.specs.declared.handles.BasicBlock.{BasicBlock}
use Rattle.text_dialect.specs.Seen.{SeenOperation, SeenBlock, Seen}
use Rattle.text_frames.specs.building.Loose.{IsLooseOperation, IsLooseBlock}
use Rattle.text_frames.specs.building.Inside.{IsThere, IsNodeInside, itself, in_block, in_region, in_operation, IsLoose, AreLoose, IsInsideSome, IsSeenForest}
use Rattle.text_frames.proofs.BuildingLemmas.Members.{in_append, in_front, at_take}
use Rattle.text_frames.proofs.BuildingLemmas.Options.{no_some, same_some, mapped}

module _ {K A T : Type 0} (s : Seen K A T) where
  -- what holds an entity directly is inside x too
  abbrev pub HolderInside : IRNode → IRNode → Type 0
  HolderInside x (OperationNode p) = (b : Ptr BasicBlock) × (v : SeenBlock) × (k : ℕ) × (s.block b ≡ Some v) × (slice_get v.operations k ≡ Some p) × IsNodeInside s x (BlockNode b)
  HolderInside x (BlockNode b) = (r : Ptr Region) × (bs : List (Ptr BasicBlock)) × (k : ℕ) × (s.region r ≡ Some bs) × (slice_get bs k ≡ Some b) × IsNodeInside s x (RegionNode r)
  HolderInside x (RegionNode r) = (p : Ptr Operation) × (o : SeenOperation K A) × (k : ℕ) × (s.operation p ≡ Some o) × (slice_get o.regions k ≡ Some r) × IsNodeInside s x (OperationNode p)

  pub itself_or_held : (x e : IRNode) → IsNodeInside s x e → (x ≡ e) ⊎ HolderInside x e
  itself_or_held x _ itself = inl refl
  itself_or_held x _ (in_block p b v k e listed i) = inr (b, v, k, e, listed, i)
  itself_or_held x _ (in_region b r bs k e listed i) = inr (r, bs, k, e, listed, i)
  itself_or_held x _ (in_operation r p o k e listed i) = inr (p, o, k, e, listed, i)

  -- nothing else is around a loose thing
  pub around_loose : (x y : IRNode) → IsLoose s y → IsNodeInside s x y → x ≡ y
  around_loose x (OperationNode p) h i = ⊎_elim (λ (e : x ≡ OperationNode p). e) (λ (g : HolderInside x (OperationNode p)). absurd (h.loose g.0 g.1 g.2 g.3 g.4)) (itself_or_held x (OperationNode p) i)
  around_loose x (RegionNode r) h i = absurd h
  around_loose x (BlockNode b) h i = ⊎_elim (λ (e : x ≡ BlockNode b). e) (λ (g : HolderInside x (BlockNode b)). absurd (h.loose g.0 g.1 g.2 g.3 g.4)) (itself_or_held x (BlockNode b) i)

  pub loose_there : (x : IRNode) → IsLoose s x → IsThere s x
  loose_there (OperationNode p) h = h.there
  loose_there (RegionNode r) h = absurd h
  loose_there (BlockNode b) h = h.there

  module _ (f : IsSeenForest s) where
    -- what is inside something that is there is there
    pub inside_there : (x : IRNode) → IsThere s x → (e : IRNode) → IsNodeInside s x e → IsThere s e
    inside_there x h _ itself = h
    inside_there x h _ (in_block p b v k e listed i) = f.operation_there b v k p e listed
    inside_there x h _ (in_region b r bs k e listed i) = f.block_there r bs k b e listed
    inside_there x h _ (in_operation r p o k e listed i) = f.region_there p o k r e listed

    -- nothing is inside two loose things
    pub only_one : (x y : IRNode) → IsLoose s x → IsLoose s y → (e : IRNode) → IsNodeInside s x e → IsNodeInside s y e → x ≡ y
    only_one x y hx hy _ itself j = sym (around_loose y x hx j)
    only_one x y hx hy _ (in_block p b v k e listed i) j = ⊎_elim
        (λ (same : y ≡ OperationNode p). let h : IsLooseOperation s p = subst (IsLoose s) same hy in absurd (h.loose b v k e listed))
        (λ (g : HolderInside y (OperationNode p)). let q : g.0 ≡ b = f.operation_once g.0 b g.1 v g.2 k p g.3 e g.4 listed in only_one x y hx hy (BlockNode b) i (subst (λ z. IsNodeInside s y (BlockNode z)) q g.5))
        (itself_or_held y (OperationNode p) j)
    only_one x y hx hy _ (in_region b r bs k e listed i) j = ⊎_elim
        (λ (same : y ≡ BlockNode b). let h : IsLooseBlock s b = subst (IsLoose s) same hy in absurd (h.loose r bs k e listed))
        (λ (g : HolderInside y (BlockNode b)). let q : g.0 ≡ r = f.block_once g.0 r g.1 bs g.2 k b g.3 e g.4 listed in only_one x y hx hy (RegionNode r) i (subst (λ z. IsNodeInside s y (RegionNode z)) q g.5))
        (itself_or_held y (BlockNode b) j)
    only_one x y hx hy _ (in_operation r p o k e listed i) j = ⊎_elim
        (λ (same : y ≡ RegionNode r). let h : ⊥ = subst (IsLoose s) same hy in absurd h)
        (λ (g : HolderInside y (RegionNode r)). let q : g.0 ≡ p = f.region_once g.0 p g.1 o g.2 k r g.3 e g.4 listed in only_one x y hx hy (OperationNode p) i (subst (λ z. IsNodeInside s y (OperationNode z)) q g.5))
        (itself_or_held y (RegionNode r) j)

    -- what is inside some of the things before one isn't inside that one
    pub apart_before : (xs : List IRNode) → AreLoose s xs → (i : ℕ) (x : IRNode) → slice_get xs i ≡ Some x → (e : IRNode) → IsInsideSome s (take i xs) e → IsInsideSome s (x ∷ []) e → ⊥
    apart_before xs loose i x here e a b =
        let f : (a.index < i) × (slice_get xs a.index ≡ Some a.thing) = at_take xs i a.index a.thing a.here in
        let same : b.thing ≡ x = of_one x b.index b.thing b.here in
        let q : a.thing ≡ x = only_one a.thing x (loose.loose a.index a.thing f.1) (loose.loose i x here) e a.inside (subst (λ z. IsNodeInside s z e) same b.inside) in
        let n : a.index ≡ i = loose.once a.index i x (f.1 ∙ ap Some q) here in
        let l : a.index < i = f.0 in
        absurd (omega arith)
      where
        of_one : (x : IRNode) (k : ℕ) (y : IRNode) → slice_get (x ∷ []) k ≡ Some y → y ≡ x
        of_one x zero y e = sym (same_some x y e)
        of_one x (suc k) y e = no_some y e

  -- what is inside some of two lists
  pub some_front : (xs ys : List IRNode) (e : IRNode) → IsInsideSome s xs e → IsInsideSome s (xs ++ ys) e
  some_front xs ys e h = record { index = h.index; thing = h.thing; here = in_front xs ys h.index h.thing h.here; inside = h.inside }

  pub some_back : (xs ys : List IRNode) (e : IRNode) → IsInsideSome s ys e → IsInsideSome s (xs ++ ys) e
  some_back [] ys e h = h
  some_back (x ∷ xs) ys e h = let r = some_back xs ys e h in record { index = suc r.index; thing = r.thing; here = r.here; inside = r.inside }

  pub some_either : (xs ys : List IRNode) (e : IRNode) → IsInsideSome s (xs ++ ys) e → IsInsideSome s xs e ⊎ IsInsideSome s ys e
  some_either xs ys e h = ⊎_elim
      (λ (a : slice_get xs h.index ≡ Some h.thing). inl (record { index = h.index; thing = h.thing; here = a; inside = h.inside }))
      (λ (a : (j : ℕ) × (slice_get ys j ≡ Some h.thing)). inr (record { index = a.0; thing = h.thing; here = a.1; inside = h.inside }))
      (in_append xs ys h.index h.thing h.here)

  pub some_one : (x e : IRNode) → IsNodeInside s x e → IsInsideSome s (x ∷ []) e
  some_one x e i = record { index = zero; thing = x; here = refl; inside = i }

  pub one_some : (x e : IRNode) → IsInsideSome s (x ∷ []) e → IsNodeInside s x e
  one_some x e h = subst (λ z. IsNodeInside s z e) (sym (at_one h.index h.thing h.here)) h.inside where
    at_one : (k : ℕ) (y : IRNode) → slice_get (x ∷ []) k ≡ Some y → x ≡ y
    at_one zero y e = same_some x y e
    at_one (suc k) y e = no_some y e

  pub none_inside : (e : IRNode) → IsInsideSome s [] e → ⊥
  none_inside e h = no_some h.thing h.here

-- where what is inside y leads to what it led to, up to what operations name, the same is inside y
module _ {K A T : Type 0} (s t : Seen K A T) (y : IRNode)
    (operations : (p : Ptr Operation) → IsNodeInside s y (OperationNode p) → option_map (λ (o : SeenOperation K A). o.regions) (t.operation p) ≡ option_map (λ (o : SeenOperation K A). o.regions) (s.operation p))
    (blocks : (b : Ptr BasicBlock) → IsNodeInside s y (BlockNode b) → t.block b ≡ s.block b)
    (regions : (r : Ptr Region) → IsNodeInside s y (RegionNode r) → t.region r ≡ s.region r) where
  pub inside_now : (e : IRNode) → IsNodeInside s y e → IsNodeInside t y e
  inside_now _ itself = itself
  inside_now _ (in_block p b v k e listed i) = in_block p b v k (blocks b i ∙ e) listed (inside_now (BlockNode b) i)
  inside_now _ (in_region b r bs k e listed i) = in_region b r bs k (regions r i ∙ e) listed (inside_now (RegionNode r) i)
  inside_now _ (in_operation r p o k e listed i) =
      let m = mapped (λ (u : SeenOperation K A). u.regions) (t.operation p) o.regions (operations p i ∙ ap (option_map (λ (u : SeenOperation K A). u.regions)) e) in
      in_operation r p m.0 k m.1 (ap (λ rs. slice_get rs k) m.2 ∙ listed) (inside_now (OperationNode p) i)

  pub inside_then : (e : IRNode) → IsNodeInside t y e → IsNodeInside s y e
  inside_then _ itself = itself
  inside_then _ (in_block p b v k e listed i) = let j = inside_then (BlockNode b) i in in_block p b v k (sym (blocks b j) ∙ e) listed j
  inside_then _ (in_region b r bs k e listed i) = let j = inside_then (RegionNode r) i in in_region b r bs k (sym (regions r j) ∙ e) listed j
  inside_then _ (in_operation r p o k e listed i) =
      let j = inside_then (OperationNode p) i in
      let m = mapped (λ (u : SeenOperation K A). u.regions) (s.operation p) o.regions (sym (operations p j) ∙ ap (option_map (λ (u : SeenOperation K A). u.regions)) e) in
      in_operation r p m.0 k m.1 (ap (λ rs. slice_get rs k) m.2 ∙ listed) j
