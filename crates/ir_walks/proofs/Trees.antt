-- Nodes stand in one another as in a tree.
use Rattle.std.proofs.Common.{◌≡◌, ◌⊎◌, inl, inr, ⊎_elim, ℕ, List, ◌∷◌, ◌++◌, length, slice_get, Some, refl, sym, ap, ◌∙◌, subst}
use Rattle.ir_program.specs.Lists.{operations_in, blocks_in, regions_in, StandsInside, itself, in_block, in_region, in_operation}
use Rattle.ir_program.specs.Preorder.{nodes_in}
use Rattle.ir_program.specs.Program.{Program}
use Rattle.ir_program.specs.declared.handles.BasicBlock.{BasicBlock}
use Rattle.ir_program.specs.declared.handles.IRNode.{IRNode}
use Rattle.ir_program.specs.declared.handles.IRNode.TheVariants.{Operation as OperationNode, Region as RegionNode, BasicBlock as BlockNode}
use Rattle.ir_program.specs.declared.handles.Operation.{Operation}
use Rattle.ir_program.specs.declared.handles.Ptr.{Ptr}
use Rattle.ir_program.specs.declared.handles.Region.{Region}
use Rattle.ir_walks.specs.declared.config.WalkConfig.{WalkConfig}
use Rattle.ir_walks.specs.Levels.{level_of, members}
use Rattle.ir_walks.specs.Turns.{IsKnown}
use Rattle.ir_walks.proofs.Sequences.{SplitAt, split, got_from, at_node, unsplit, place_in, undirected, unsplit_at, same_unsplit}

-- e is x, or stands in it: a step at a time
pub data Within {O B : Type 0} (c : Program O B) (x : IRNode) : IRNode → Type 0 where
  it : Within c x x
  deeper : (d e : IRNode) (k : ℕ) → slice_get (nodes_in c d) k ≡ Some e → Within c x d → Within c x e

-- each node stands at one place, and in nothing that is inside it
pub record IsTree {O B : Type 0} (c : Program O B) : Type 0 where
  pub once : (a b : IRNode) (j k : ℕ) (e : IRNode) → slice_get (nodes_in c a) j ≡ Some e → slice_get (nodes_in c b) k ≡ Some e → (a ≡ b) × (j ≡ k)
  pub apart : (d e : IRNode) (k : ℕ) → slice_get (nodes_in c d) k ≡ Some e → Within c e d → ⊥
  pub outside : (x e : IRNode) → Within c x e → StandsInside c x e

module _ {O B : Type 0} (c : Program O B) where
  pub inside : (x e : IRNode) → StandsInside c x e → Within c x e
  inside x _ itself = it
  inside x _ (in_block p b s h) = deeper (BlockNode b) (OperationNode p) s.index (at_node OperationNode (operations_in c b) s.index p s.here) (inside x (BlockNode b) h)
  inside x _ (in_region b r s h) = deeper (RegionNode r) (BlockNode b) s.index (at_node BlockNode (blocks_in c r) s.index b s.here) (inside x (RegionNode r) h)
  inside x _ (in_operation r p s h) = deeper (OperationNode p) (RegionNode r) s.index (at_node RegionNode (regions_in c p) s.index r s.here) (inside x (OperationNode p) h)

  module _ (top : IRNode) (l : IsKnown c top) where
    outwards : (x e : IRNode) → Within c x e → StandsInside c x e
    outwards x _ it = itself
    outwards x _ (deeper (BlockNode b) e k h w) =
        let g : (p : Ptr Operation) × (slice_get (operations_in c b) k ≡ Some p) × (e ≡ OperationNode p) = got_from OperationNode (operations_in c b) k e h in
        subst (StandsInside c x) (sym g.2) (in_block g.0 b (l.operations b k g.0 g.1) (outwards x (BlockNode b) w))
    outwards x _ (deeper (RegionNode r) e k h w) =
        let g : (p : Ptr BasicBlock) × (slice_get (blocks_in c r) k ≡ Some p) × (e ≡ BlockNode p) = got_from BlockNode (blocks_in c r) k e h in
        subst (StandsInside c x) (sym g.2) (in_region g.0 r (l.blocks r k g.0 g.1) (outwards x (RegionNode r) w))
    outwards x _ (deeper (OperationNode p) e k h w) =
        let g : (r : Ptr Region) × (slice_get (regions_in c p) k ≡ Some r) × (e ≡ RegionNode r) = got_from RegionNode (regions_in c p) k e h in
        subst (StandsInside c x) (sym g.2) (in_operation g.0 p (l.regions p k g.0 g.1) (outwards x (OperationNode p) w))

    once_each : (a b : IRNode) (j k : ℕ) (e : IRNode) → slice_get (nodes_in c a) j ≡ Some e → slice_get (nodes_in c b) k ≡ Some e → (a ≡ b) × (j ≡ k)
    once_each (BlockNode a) (BlockNode b) j k e h i =
        let g = got_from OperationNode (operations_in c a) j e h in
        let f = got_from OperationNode (operations_in c b) k e i in
        let both : OperationNode g.0 ≡ OperationNode f.0 = sym g.2 ∙ f.2 in
        let same : g.0 ≡ f.0 = cc in
        let o : (a ≡ b) × (j ≡ k) = l.operations_once f.0 a b j k (g.1 ∙ ap Some same) f.1 in (ap BlockNode o.0, o.1)
    once_each (RegionNode a) (RegionNode b) j k e h i =
        let g = got_from BlockNode (blocks_in c a) j e h in
        let f = got_from BlockNode (blocks_in c b) k e i in
        let both : BlockNode g.0 ≡ BlockNode f.0 = sym g.2 ∙ f.2 in
        let same : g.0 ≡ f.0 = cc in
        let o : (a ≡ b) × (j ≡ k) = l.blocks_once f.0 a b j k (g.1 ∙ ap Some same) f.1 in (ap RegionNode o.0, o.1)
    once_each (OperationNode a) (OperationNode b) j k e h i =
        let g = got_from RegionNode (regions_in c a) j e h in
        let f = got_from RegionNode (regions_in c b) k e i in
        let both : RegionNode g.0 ≡ RegionNode f.0 = sym g.2 ∙ f.2 in
        let same : g.0 ≡ f.0 = cc in
        let o : (a ≡ b) × (j ≡ k) = l.regions_once f.0 a b j k (g.1 ∙ ap Some same) f.1 in (ap OperationNode o.0, o.1)
    once_each (BlockNode a) (RegionNode b) j k e h i = let x : OperationNode (got_from OperationNode (operations_in c a) j e h).0 ≡ BlockNode (got_from BlockNode (blocks_in c b) k e i).0 = sym (got_from OperationNode (operations_in c a) j e h).2 ∙ (got_from BlockNode (blocks_in c b) k e i).2 in cc
    once_each (BlockNode a) (OperationNode b) j k e h i = let x : OperationNode (got_from OperationNode (operations_in c a) j e h).0 ≡ RegionNode (got_from RegionNode (regions_in c b) k e i).0 = sym (got_from OperationNode (operations_in c a) j e h).2 ∙ (got_from RegionNode (regions_in c b) k e i).2 in cc
    once_each (RegionNode a) (BlockNode b) j k e h i = let x : BlockNode (got_from BlockNode (blocks_in c a) j e h).0 ≡ OperationNode (got_from OperationNode (operations_in c b) k e i).0 = sym (got_from BlockNode (blocks_in c a) j e h).2 ∙ (got_from OperationNode (operations_in c b) k e i).2 in cc
    once_each (RegionNode a) (OperationNode b) j k e h i = let x : BlockNode (got_from BlockNode (blocks_in c a) j e h).0 ≡ RegionNode (got_from RegionNode (regions_in c b) k e i).0 = sym (got_from BlockNode (blocks_in c a) j e h).2 ∙ (got_from RegionNode (regions_in c b) k e i).2 in cc
    once_each (OperationNode a) (BlockNode b) j k e h i = let x : RegionNode (got_from RegionNode (regions_in c a) j e h).0 ≡ OperationNode (got_from OperationNode (operations_in c b) k e i).0 = sym (got_from RegionNode (regions_in c a) j e h).2 ∙ (got_from OperationNode (operations_in c b) k e i).2 in cc
    once_each (OperationNode a) (RegionNode b) j k e h i = let x : RegionNode (got_from RegionNode (regions_in c a) j e h).0 ≡ BlockNode (got_from BlockNode (blocks_in c b) k e i).0 = sym (got_from RegionNode (regions_in c a) j e h).2 ∙ (got_from BlockNode (blocks_in c b) k e i).2 in cc

    apart_from : (d e : IRNode) (k : ℕ) → slice_get (nodes_in c d) k ≡ Some e → StandsInside c e d → ⊥
    apart_from (BlockNode b) e k h w =
        let g = got_from OperationNode (operations_in c b) k e h in
        l.operation_apart g.0 b (l.operations b k g.0 g.1) (subst (λ z. StandsInside c z (BlockNode b)) g.2 w)
    apart_from (RegionNode r) e k h w =
        let g = got_from BlockNode (blocks_in c r) k e h in
        l.block_apart g.0 r (l.blocks r k g.0 g.1) (subst (λ z. StandsInside c z (RegionNode r)) g.2 w)
    apart_from (OperationNode p) e k h w =
        let g = got_from RegionNode (regions_in c p) k e h in
        l.region_apart g.0 p (l.regions p k g.0 g.1) (subst (λ z. StandsInside c z (OperationNode p)) g.2 w)

    pub tree_of : IsTree c
    tree_of = record {
      once = once_each;
      apart = λ d e k h w. apart_from d e k h (outwards e d w);
      outside = outwards;
    }

  pub through : (a b e : IRNode) → Within c a b → Within c b e → Within c a e
  through a b _ v it = v
  through a b _ v (deeper d e k h w) = deeper d e k h (through a b d v w)

  module _ (config : WalkConfig) where
    -- a place among the members of a node is one among what stands in it
    pub stands_in : (d e : IRNode) (before after : List IRNode) → members c config d ≡ before ++ e ∷ after → (k : ℕ) × (slice_get (nodes_in c d) k ≡ Some e)
    stands_in d e before after h =
        let way = (level_of config d).direction in
        (place_in way before after, ap (λ es. slice_get es (place_in way before after)) (undirected way (nodes_in c d) before e after h) ∙ unsplit_at way before e after)

    pub member_in : (d e : IRNode) (k : ℕ) → slice_get (members c config d) k ≡ Some e → (j : ℕ) × (slice_get (nodes_in c d) j ≡ Some e)
    member_in d e k h = let s : SplitAt (members c config d) k e = split (members c config d) k e h in stands_in d e s.before s.after s.parts

    pub member_within : (x d e : IRNode) (before after : List IRNode) → members c config d ≡ before ++ e ∷ after → Within c x d → Within c x e
    member_within x d e before after h w = let s = stands_in d e before after h in deeper d e s.0 s.1 w

    module _ (tree : IsTree c) where
      -- a node is in one node, with the same before and after it
      pub one_split : (a b e : IRNode) (b1 b2 a1 a2 : List IRNode) → members c config a ≡ b1 ++ e ∷ a1 → members c config b ≡ b2 ++ e ∷ a2 → (a ≡ b) × (b1 ≡ b2) × (a1 ≡ a2)
      unfolding stands_in
      one_split a b e b1 b2 a1 a2 h i =
          let s = stands_in a e b1 a1 h in
          let t = stands_in b e b2 a2 i in
          let o : (a ≡ b) × (s.0 ≡ t.0) = tree.once a b s.0 t.0 e s.1 t.1 in
          let j : members c config a ≡ b2 ++ e ∷ a2 = ap (members c config) o.0 ∙ i in
          let way = (level_of config a).direction in
          let u = stands_in a e b2 a2 j in
          let places : place_in way b1 a1 ≡ place_in way b2 a2 = (tree.once a a s.0 u.0 e s.1 u.1).1 in
          let both : unsplit way b1 e a1 ≡ unsplit way b2 e a2 = sym (undirected way (nodes_in c a) b1 e a1 h) ∙ undirected way (nodes_in c a) b2 e a2 j in
          let r : (b1 ≡ b2) × (a1 ≡ a2) = same_unsplit way b1 b2 a1 a2 e both places in
          (o.0, r.0, r.1)

      pub one_place : (d e : IRNode) (j k : ℕ) → slice_get (members c config d) j ≡ Some e → slice_get (members c config d) k ≡ Some e → j ≡ k
      one_place d e j k h i =
          let s : SplitAt (members c config d) j e = split (members c config d) j e h in
          let t : SplitAt (members c config d) k e = split (members c config d) k e i in
          let o = one_split d d e s.before t.before s.after t.after s.parts t.parts in
          sym s.many ∙ ap length o.1 ∙ t.many

      pub no_member_of_itself : (d e : IRNode) (k : ℕ) → slice_get (members c config d) k ≡ Some e → Within c e d → ⊥
      no_member_of_itself d e k h w = let m = member_in d e k h in tree.apart d e m.0 m.1 w

      -- of two nodes that hold a third, one holds the other
      pub in_line : (u v e : IRNode) → Within c u e → Within c v e → Within c u v ⊎ Within c v u
      in_line u v _ it w = inr w
      in_line u v _ (deeper d e k h s) w = from (λ t. in_line u v d s t) e w refl h where
        from : (Within c v d → Within c u v ⊎ Within c v u) → (f : IRNode) → Within c v f → f ≡ e → slice_get (nodes_in c d) k ≡ Some e → Within c u v ⊎ Within c v u
        from higher _ it same at = inl (subst (Within c u) (sym same) (deeper d e k at s))
        from higher _ (deeper b f j i t) same at =
            let o : (d ≡ b) × (k ≡ j) = tree.once d b k j e at (i ∙ ap Some same) in
            higher (subst (Within c v) (sym o.0) t)

      -- two of the members of a node hold nothing together
      pub disjoint : (d u v e : IRNode) (j k : ℕ) → slice_get (members c config d) j ≡ Some u → slice_get (members c config d) k ≡ Some v → (j ≡ k → ⊥) → Within c u e → Within c v e → ⊥
      disjoint d u v e j k h i ne a b = ⊎_elim (λ w. one u v j k h i ne w) (λ w. one v u k j i h (λ s. ne (sym s)) w) (in_line u v e a b) where
        one : (p q : IRNode) (m n : ℕ) → slice_get (members c config d) m ≡ Some p → slice_get (members c config d) n ≡ Some q → (m ≡ n → ⊥) → Within c p q → ⊥
        one p q m n at there apart w = from q w refl where
          from : (r : IRNode) → Within c p r → r ≡ q → ⊥
          from _ it same = apart (one_place d q m n (at ∙ ap Some same) there)
          from _ (deeper b r f g t) same =
              let z = member_in d q n there in
              let o : (b ≡ d) × (f ≡ z.0) = tree.once b d f z.0 q (g ∙ ap Some same) z.1 in
              no_member_of_itself d p m at (subst (Within c p) o.0 t)

      -- one that is held by a member of another doesn't hold it
      pub below_apart : (a u e : IRNode) (k : ℕ) → slice_get (members c config a) k ≡ Some u → Within c u e → Within c e a → ⊥
      below_apart a u e k h w v = no_member_of_itself a u k h (through u e a w v)
