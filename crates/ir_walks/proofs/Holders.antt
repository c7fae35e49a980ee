-- What the lists of a program tell of nodes: what comes first in a node, what comes next beside one, and what it stands in.
use Rattle.std.proofs.Common.{◌≡◌, ℕ, ◌<◌, ◌+◌, ◌-◌, List, [], ◌∷◌, ◌++◌, map, length, reverse, slice_get, Option, Some, None, refl, sym, ap, ◌∙◌, subst, arith}
use Rattle.std.specs.Prelude.{option_map}
use Rattle.std.proofs.lemmas.List.{map-append, reverse-append}
use Rattle.std.proofs.lemmas.Option.{slice_get-map, slice_get_within}
use Rattle.ir_program.specs.Lists.{operations_in, blocks_in, regions_in, StandsInBlock, StandsInRegion, StandsInOperation, StandsInside}
use Rattle.ir_program.specs.Preorder.{nodes_in}
use Rattle.ir_program.specs.Program.{Program}
use Rattle.ir_program.specs.declared.handles.BasicBlock.{BasicBlock}
use Rattle.ir_program.specs.declared.handles.IRNode.{IRNode}
use Rattle.ir_program.specs.declared.handles.IRNode.TheVariants.{Operation as OperationNode, Region as RegionNode, BasicBlock as BlockNode}
use Rattle.ir_program.specs.declared.handles.Operation.{Operation}
use Rattle.ir_program.specs.declared.handles.Ptr.{Ptr}
use Rattle.ir_program.specs.declared.handles.Region.{Region}
use Rattle.ir_walks.specs.declared.config.Direction.{Direction}
use Rattle.ir_walks.specs.declared.config.Direction.TheVariants.{Forward, Reverse}
use Rattle.ir_walks.specs.declared.config.WalkConfig.{WalkConfig}
use Rattle.ir_walks.specs.declared.turns.Cursor.TheVariants.{Arriving, Leaving}
use Rattle.ir_walks.specs.Levels.{directed, level_of, members}
use Rattle.ir_walks.specs.Turns.{Exits, to_next, to_holder}
use Rattle.ir_walks.proofs.Sequences.{SplitAt, split, got_from, directed_at, after_forward, after_reverse, starts, is_empty}
use Rattle.ir_walks.proofs.Trees.{Within, it, deeper, inside, stands_in}

reverse_map : {X Y : Type 0} (f : X → Y) (xs : List X) → reverse (map f xs) ≡ map f (reverse xs)
reverse_map f [] = refl
reverse_map f (x ∷ xs) =
    reverse-append (f x ∷ []) (map f xs) ∙ ap (λ ys. ys ++ f x ∷ []) (reverse_map f xs) ∙ sym (map-append f (reverse xs) (x ∷ [])) ∙ ap (map f) (sym (reverse-append (x ∷ []) xs))

directed_map : {X Y : Type 0} (f : X → Y) (direction : Direction) (xs : List X) → directed direction (map f xs) ≡ map f (directed direction xs)
directed_map f Forward xs = refl
directed_map f Reverse xs = reverse_map f xs

pub first_map : {X Y : Type 0} (f : X → Y) (direction : Direction) (xs : List X) (r : Option X) → r ≡ slice_get (directed direction xs) 0 → option_map f r ≡ slice_get (directed direction (map f xs)) 0
first_map f direction xs r h = ap (option_map f) h ∙ sym (slice_get-map f (directed direction xs) 0) ∙ ap (λ ys. slice_get ys 0) (sym (directed_map f direction xs))

-- one between others in a list that was made of another
record Unmapped {X Y : Type 0} (f : X → Y) (xs : List X) (y : Y) (after : List Y) : Type 0 where
  pub early : List X
  pub one : X
  pub late : List X
  pub parts : xs ≡ early ++ one ∷ late
  pub same : f one ≡ y
  pub rest : map f late ≡ after

unmapped : {X Y : Type 0} (f : X → Y) (xs : List X) (before : List Y) (y : Y) (after : List Y) → map f xs ≡ before ++ y ∷ after → Unmapped f xs y after
unmapped f [] [] y after h = cc
unmapped f [] (b ∷ bs) y after h = cc
unmapped f (x ∷ xs) [] y after h = record { early = []; one = x; late = xs; parts = refl; same = cc; rest = cc }
unmapped f (x ∷ xs) (b ∷ bs) y after h =
    let left : map f xs ≡ bs ++ y ∷ after = cc in
    let u : Unmapped f xs y after = unmapped f xs bs y after left in
    record { early = x ∷ u.early; one = u.one; late = u.late; parts = ap (λ zs. x ∷ zs) u.parts; same = u.same; rest = u.rest }

beside_map : {X Y : Type 0} (f : X → Y) (injective : (x z : X) → f x ≡ f z → x ≡ z) (direction : Direction) (xs : List X) (x : X) (r : Option X) → ((early late : List X) → directed direction xs ≡ early ++ x ∷ late → r ≡ slice_get late 0)
    → (before after : List Y) → directed direction (map f xs) ≡ before ++ f x ∷ after → option_map f r ≡ slice_get after 0
beside_map f injective direction xs x r next before after h =
    let u : Unmapped f (directed direction xs) (f x) after = unmapped f (directed direction xs) before (f x) after (sym (directed_map f direction xs) ∙ h) in
    let same : u.one ≡ x = injective u.one x u.same in
    ap (option_map f) (next u.early u.late (u.parts ∙ ap (λ z. u.early ++ z ∷ u.late) same)) ∙ sym (slice_get-map f u.late 0) ∙ ap (λ ys. slice_get ys 0) u.rest

module _ {O B : Type 0} (c : Program O B) (config : WalkConfig) where
  pub operation_next : (op : Ptr Operation) (r : Option (Ptr Operation)) → ((block : Ptr BasicBlock) (early late : List (Ptr Operation)) → directed config.block.direction (operations_in c block) ≡ early ++ op ∷ late → r ≡ slice_get late 0)
      → (holder : IRNode) (before after : List IRNode) → members c config holder ≡ before ++ OperationNode op ∷ after → option_map OperationNode r ≡ slice_get after 0
  operation_next op r next (BlockNode b) before after h = beside_map OperationNode (λ x z e. cc) config.block.direction (operations_in c b) op r (next b) before after h
  operation_next op r next (RegionNode q) before after h =
      let s = stands_in c config (RegionNode q) (OperationNode op) before after h in
      let g = got_from BlockNode (blocks_in c q) s.0 (OperationNode op) s.1 in let no : OperationNode op ≡ BlockNode g.0 = g.2 in cc
  operation_next op r next (OperationNode p) before after h =
      let s = stands_in c config (OperationNode p) (OperationNode op) before after h in
      let g = got_from RegionNode (regions_in c p) s.0 (OperationNode op) s.1 in let no : OperationNode op ≡ RegionNode g.0 = g.2 in cc

  pub block_next : (block : Ptr BasicBlock) (r : Option (Ptr BasicBlock)) → ((region : Ptr Region) (early late : List (Ptr BasicBlock)) → directed config.region.direction (blocks_in c region) ≡ early ++ block ∷ late → r ≡ slice_get late 0)
      → (holder : IRNode) (before after : List IRNode) → members c config holder ≡ before ++ BlockNode block ∷ after → option_map BlockNode r ≡ slice_get after 0
  block_next block r next (RegionNode q) before after h = beside_map BlockNode (λ x z e. cc) config.region.direction (blocks_in c q) block r (next q) before after h
  block_next block r next (BlockNode b) before after h =
      let s = stands_in c config (BlockNode b) (BlockNode block) before after h in
      let g = got_from OperationNode (operations_in c b) s.0 (BlockNode block) s.1 in let no : BlockNode block ≡ OperationNode g.0 = g.2 in cc
  block_next block r next (OperationNode p) before after h =
      let s = stands_in c config (OperationNode p) (BlockNode block) before after h in
      let g = got_from RegionNode (regions_in c p) s.0 (BlockNode block) s.1 in let no : BlockNode block ≡ RegionNode g.0 = g.2 in cc

  pub region_next : (region : Ptr Region) (r : Option (Ptr Region)) → ((op : Ptr Operation) (early late : List (Ptr Region)) → directed config.operation.direction (regions_in c op) ≡ early ++ region ∷ late → r ≡ slice_get late 0)
      → (holder : IRNode) (before after : List IRNode) → members c config holder ≡ before ++ RegionNode region ∷ after → option_map RegionNode r ≡ slice_get after 0
  region_next region r next (OperationNode p) before after h = beside_map RegionNode (λ x z e. cc) config.operation.direction (regions_in c p) region r (next p) before after h
  region_next region r next (BlockNode b) before after h =
      let s = stands_in c config (BlockNode b) (RegionNode region) before after h in
      let g = got_from OperationNode (operations_in c b) s.0 (RegionNode region) s.1 in let no : RegionNode region ≡ OperationNode g.0 = g.2 in cc
  region_next region r next (RegionNode q) before after h =
      let s = stands_in c config (RegionNode q) (RegionNode region) before after h in
      let g = got_from BlockNode (blocks_in c q) s.0 (RegionNode region) s.1 in let no : RegionNode region ≡ BlockNode g.0 = g.2 in cc

  -- what a node stands in, other than the root of a walk
  pub held : (x e : IRNode) → StandsInside c x e → (e ≡ x → ⊥) → (d : IRNode) × (k : ℕ) × (slice_get (nodes_in c d) k ≡ Some e)
  held x e w ne = from e (inside c x e w) refl where
    from : (f : IRNode) → Within c x f → f ≡ e → (d : IRNode) × (k : ℕ) × (slice_get (nodes_in c d) k ≡ Some e)
    from _ it same = absurd (ne (sym same))
    from _ (deeper d f k q w) same = (d, k, q ∙ ap Some same)

  -- where it stands there
  pub spot : (d e : IRNode) (k : ℕ) → slice_get (nodes_in c d) k ≡ Some e → (before : List IRNode) × (after : List IRNode) × (members c config d ≡ before ++ e ∷ after)
  spot d e k h =
      let j = directed_at (level_of config d).direction (nodes_in c d) k e h in
      let s : SplitAt (members c config d) j.0 e = split (members c config d) j.0 e j.1 in
      (s.before, s.after, s.parts)

  module _ (x e : IRNode) (w : StandsInside c x e) (ne : e ≡ x → ⊥) (r : Option IRNode) (beside : (holder : IRNode) (before after : List IRNode) → members c config holder ≡ before ++ e ∷ after → r ≡ slice_get after 0) where
    pub exits_beside : (k : IRNode) → r ≡ Some k → Exits c config x e (Some (Arriving k))
    exits_beside k is =
        let d = held x e w ne in
        let s = spot d.0 e d.1 d.2 in
        let t = starts s.1 k (sym (beside d.0 s.0 s.1 s.2) ∙ is) in
        to_next d.0 k s.0 t.0 ne (s.2 ∙ ap (λ ks. s.0 ++ e ∷ ks) t.1)

    pub exits_out : r ≡ None → (h : Option IRNode) → ((holder : IRNode) (k : ℕ) → slice_get (nodes_in c holder) k ≡ Some e → h ≡ Some holder) → Exits c config x e (option_map Leaving h)
    exits_out is h only =
        let d = held x e w ne in
        let s = spot d.0 e d.1 d.2 in
        let none : s.1 ≡ [] = is_empty s.1 (sym (beside d.0 s.0 s.1 s.2) ∙ is) in
        subst (λ z. Exits c config x e (option_map Leaving z)) (sym (only d.0 d.1 d.2)) (to_holder d.0 s.0 ne (s.2 ∙ ap (λ ks. s.0 ++ e ∷ ks) none))

module _ {O B : Type 0} (c : Program O B) where
  -- what a node stands in
  pub operation_holder : ((block : Ptr BasicBlock) (k : ℕ) (op : Ptr Operation) → slice_get (operations_in c block) k ≡ Some op → StandsInBlock c op block) → (op : Ptr Operation) (r : Option (Ptr BasicBlock)) → ((block : Ptr BasicBlock) → StandsInBlock c op block → r ≡ Some block)
      → (holder : IRNode) (k : ℕ) → slice_get (nodes_in c holder) k ≡ Some (OperationNode op) → option_map BlockNode r ≡ Some holder
  operation_holder listed op r only (BlockNode b) k h =
      let g = got_from OperationNode (operations_in c b) k (OperationNode op) h in
      let same : g.0 ≡ op = let e : OperationNode op ≡ OperationNode g.0 = g.2 in cc in
      ap (option_map BlockNode) (only b (listed b k op (g.1 ∙ ap Some same)))
  operation_holder listed op r only (RegionNode q) k h = let g = got_from BlockNode (blocks_in c q) k (OperationNode op) h in let no : OperationNode op ≡ BlockNode g.0 = g.2 in cc
  operation_holder listed op r only (OperationNode p) k h = let g = got_from RegionNode (regions_in c p) k (OperationNode op) h in let no : OperationNode op ≡ RegionNode g.0 = g.2 in cc

  pub block_holder : ((region : Ptr Region) (k : ℕ) (block : Ptr BasicBlock) → slice_get (blocks_in c region) k ≡ Some block → StandsInRegion c block region) → (block : Ptr BasicBlock) (r : Option (Ptr Region)) → ((region : Ptr Region) → StandsInRegion c block region → r ≡ Some region)
      → (holder : IRNode) (k : ℕ) → slice_get (nodes_in c holder) k ≡ Some (BlockNode block) → option_map RegionNode r ≡ Some holder
  block_holder listed block r only (RegionNode q) k h =
      let g = got_from BlockNode (blocks_in c q) k (BlockNode block) h in
      let same : g.0 ≡ block = let e : BlockNode block ≡ BlockNode g.0 = g.2 in cc in
      ap (option_map RegionNode) (only q (listed q k block (g.1 ∙ ap Some same)))
  block_holder listed block r only (BlockNode b) k h = let g = got_from OperationNode (operations_in c b) k (BlockNode block) h in let no : BlockNode block ≡ OperationNode g.0 = g.2 in cc
  block_holder listed block r only (OperationNode p) k h = let g = got_from RegionNode (regions_in c p) k (BlockNode block) h in let no : BlockNode block ≡ RegionNode g.0 = g.2 in cc

  pub region_holder : ((op : Ptr Operation) (k : ℕ) (region : Ptr Region) → slice_get (regions_in c op) k ≡ Some region → StandsInOperation c region op) → (region : Ptr Region) (r : Ptr Operation) → ((op : Ptr Operation) → StandsInOperation c region op → r ≡ op)
      → (holder : IRNode) (k : ℕ) → slice_get (nodes_in c holder) k ≡ Some (RegionNode region) → Some (OperationNode r) ≡ Some holder
  region_holder listed region r only (OperationNode p) k h =
      let g = got_from RegionNode (regions_in c p) k (RegionNode region) h in
      let same : g.0 ≡ region = let e : RegionNode region ≡ RegionNode g.0 = g.2 in cc in
      ap (λ q. Some (OperationNode q)) (only p (listed p k region (g.1 ∙ ap Some same)))
  region_holder listed region r only (BlockNode b) k h = let g = got_from OperationNode (operations_in c b) k (RegionNode region) h in let no : RegionNode region ≡ OperationNode g.0 = g.2 in cc
  region_holder listed region r only (RegionNode q) k h = let g = got_from BlockNode (blocks_in c q) k (RegionNode region) h in let no : RegionNode region ≡ BlockNode g.0 = g.2 in cc

  -- the region after or before the one at an index
  module _ (listed : (op : Ptr Operation) (k : ℕ) (region : Ptr Region) → slice_get (regions_in c op) k ≡ Some region → StandsInOperation c region op) (region : Ptr Region) (op : Ptr Operation) (index : ℕ)
      (only : (other : Ptr Operation) → StandsInOperation c region other → op ≡ other) (at : (other : Ptr Operation) (k : ℕ) → slice_get (regions_in c other) k ≡ Some region → index ≡ k) where
    pub index_below : StandsInOperation c region op → index < length (regions_in c op)
    index_below s = let l : s.index < length (regions_in c op) = slice_get_within (regions_in c op) s.index region s.here in let e : index ≡ s.index = at op s.index s.here in omega (arith, l, e)

    pub region_after : (way : Direction) → way ≡ Forward → (r : Option (Ptr Region)) → r ≡ slice_get (regions_in c op) (index + 1) → (other : Ptr Operation) (before after : List (Ptr Region)) → directed way (regions_in c other) ≡ before ++ region ∷ after → r ≡ slice_get after 0
    region_after way is r next other before after h = after_forward (regions_in c other) before region after r
        (λ k q. let same : op ≡ other = only other (listed other k region q) in let place : index ≡ k = at other k q in next ∙ (λ i. slice_get (regions_in c (same i)) (place i + 1)))
        (subst (λ z. directed z (regions_in c other) ≡ before ++ region ∷ after) is h)

    pub region_before : (way : Direction) → way ≡ Reverse → (r : Option (Ptr Region)) → (index ≡ 0 → r ≡ None) → ((index ≡ 0 → ⊥) → r ≡ slice_get (regions_in c op) (index - 1)) → (other : Ptr Operation) (before after : List (Ptr Region)) → directed way (regions_in c other) ≡ before ++ region ∷ after → r ≡ slice_get after 0
    region_before way is r first previous other before after h = after_reverse (regions_in c other) before region after r
        (λ k q. let same : op ≡ other = only other (listed other (k + 1) region q) in let place : index ≡ k + 1 = at other (k + 1) q in let back : index - 1 ≡ k = omega (arith, place) in
        previous (λ z. absurd (omega (arith, place, z))) ∙ (λ i. slice_get (regions_in c (same i)) (back i)))
        (λ q. first (at other 0 q))
        (subst (λ z. directed z (regions_in c other) ≡ before ++ region ∷ after) is h)
