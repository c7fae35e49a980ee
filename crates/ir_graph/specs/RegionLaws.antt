-- The laws of the graph that the blocks of a region are.
use Rattle.std.specs.Prelude.{◌≡◌, ◌↔◌, ℕ, Bool, true, false, cond, ◌&&◌, eqb, List, [], ◌∷◌, map, Option, Some, None, option_map, option_and_then, unwrap_or, slice_get, Contains, IfSome}
use Rattle.std.specs.List.{find, list_any}
use Rattle.std.specs.Option.{option_map_or}
use Rattle.std.proofs.Common.{zero, suc, refl, sym, ap, ◌∙◌, subst, arith}
use Rattle.std.proofs.lemmas.Bool.{eqb-true, eq-eqb}
use Rattle.std.proofs.lemmas.List.Folds.{list_any_at}
use Rattle.std.proofs.lemmas.Map.Views.{Contains-from_any}
use Rattle.std.proofs.lemmas.Option.{none-some, same_Some, slice_get-get_or, slice_get-map, slice_get_within, get_or_from_slice_get}
use Rattle.ir_names.specs.declared.interfaces.OpInterface.{OpInterface}
use Rattle.ir_program.specs.Program.{Program}
use Rattle.ir_program.specs.Lists.{operations_in, blocks_in}
use Rattle.ir_program.specs.Order.{edges_listed}
use Rattle.ir_program.specs.Rows.{successors_at}
use Rattle.ir_program.specs.Uses.{IsBlockUse}
use Rattle.ir_program.specs.declared.handles.Ptr.{Ptr}
use Rattle.ir_program.specs.declared.handles.Operation.{Operation}
use Rattle.ir_program.specs.declared.handles.Region.{Region}
use Rattle.ir_program.specs.declared.handles.BasicBlock.{BasicBlock}
use Rattle.ir_program.specs.declared.handles.Use.{Use}
use Rattle.ir_context.specs.declared.notes.OperationData.{OperationData}
use Rattle.ir_queries.specs.Edges.{ends_block, terminator_of, edges_of}
use Rattle.ir_graph.specs.Graphs.{AreDistinctNodes}
use Rattle.ir_graph.specs.Regions.{same, origin_in, predecessors_in, IsBlockGraph}

both_left : (a b : Bool) → (a && b) ≡ true → a ≡ true
both_left true b e = refl
both_left false b e = e

both_right : (a b : Bool) → (a && b) ≡ true → b ≡ true
both_right true b e = e
both_right false b e = cc

both : (a b : Bool) → a ≡ true → b ≡ true → (a && b) ≡ true
both true b e f = f
both false b e f = e

handles_alike : {E : Type 0} (p q : Ptr E) → p.key.slot ≡ q.key.slot → p.key.version ≡ q.key.version → p ≡ q
handles_alike p q s v = rw (s, v) refl

-- handles that are found the same are the same
pub same_handles : {E : Type 0} (p q : Ptr E) → same p q ≡ true → p ≡ q
same_handles p q e = handles_alike p q
    (eqb-true p.key.slot q.key.slot (both_left (eqb p.key.slot q.key.slot) (eqb p.key.version q.key.version) e))
    (eqb-true p.key.version q.key.version (both_right (eqb p.key.slot q.key.slot) (eqb p.key.version q.key.version) e))

itself : {E : Type 0} (p : Ptr E) → same p p ≡ true
itself p = both (eqb p.key.slot p.key.slot) (eqb p.key.version p.key.version) (eq-eqb p.key.slot p.key.slot refl) (eq-eqb p.key.version p.key.version refl)

pub same_block : (n m : Ptr BasicBlock) → same n m ≡ true → n ≡ m
same_block n m e = same_handles n m e

module _ {X : Type 0} where
  -- what a list contains is at an index, and the other way round
  pub place_in : (xs : List X) (x : X) → Contains xs x → (k : ℕ) × (slice_get xs k ≡ Some x)
  place_in xs x c = (c.0, slice_get-get_or xs c.0 x c.1 ∙ ap Some c.2)

  pub in_place : (xs : List X) (k : ℕ) (x : X) → slice_get xs k ≡ Some x → Contains xs x
  in_place xs k x e = (k, slice_get_within xs k x e, get_or_from_slice_get xs k x x e)

  -- the first is among the list, if there is one
  pub first_in : (xs : List X) → IfSome (slice_get xs 0) (λ x. Contains xs x)
  first_in [] = tt
  first_in (x ∷ xs) = in_place (x ∷ xs) 0 x refl

  -- where a test holds of an item, it holds of the one that is found
  found : (test : X → Bool) (xs : List X) (k : ℕ) (b : X) → slice_get xs k ≡ Some b → test b ≡ true
      → (x : X) × (j : ℕ) × (slice_get xs j ≡ Some x) × (test x ≡ true) × (find test xs ≡ Some x)
  found test [] k b e t = absurd (none-some b e)
  found test (x ∷ xs) zero b e t = let is : x ≡ b = cc in let h : test x ≡ true = ap test is ∙ t in (x, 0, refl, h, rw h refl)
  found test (x ∷ xs) (suc k) b e t = first (test x) refl (found test xs k b e t)
    where
      first : (r : Bool) → test x ≡ r → ((y : X) × (j : ℕ) × (slice_get xs j ≡ Some y) × (test y ≡ true) × (find test xs ≡ Some y))
          → (y : X) × (j : ℕ) × (slice_get (x ∷ xs) j ≡ Some y) × (test y ≡ true) × (find test (x ∷ xs) ≡ Some y)
      first true h r = (x, 0, refl, h, rw h refl)
      first false h r = (r.0, suc r.1, r.2, r.3, rw h r.4)

-- an item of a mapped list is that of an item
mapped : {X Y : Type 0} (f : X → Y) (xs : List X) (k : ℕ) (y : Y) → slice_get (map f xs) k ≡ Some y → (x : X) × (slice_get xs k ≡ Some x) × (f x ≡ y)
mapped {X} {Y} f xs k y e = by (slice_get xs k) refl (sym (slice_get-map f xs k) ∙ e)
  where
    by : (o : Option X) → slice_get xs k ≡ o → option_map f o ≡ Some y → (x : X) × (slice_get xs k ≡ Some x) × (f x ≡ y)
    by None h g = absurd (none-some y g)
    by (Some x) h g = (x, h, same_Some (f x) y g)

-- a handle is among these
is_any : {E : Type 0} (ps : List (Ptr E)) (q : Ptr E) → Contains ps q → list_any (λ (p : Ptr E). same q p) ps ≡ true
is_any {E} ps q c = list_any_at (λ (p : Ptr E). same q p) ps c.0 q c.1 (ap (λ (p : Ptr E). same q p) c.2 ∙ itself q)

any_is : {E : Type 0} (ps : List (Ptr E)) (q : Ptr E) → list_any (λ (p : Ptr E). same q p) ps ≡ true → Contains ps q
any_is {E} ps q e = Contains-from_any {eq = same} same_handles q ps e

module _ {D TypeKind AttrKind TypeBody Saved Location OpKind Attr TypeKey B : Type 0} (has : OpKind → OpInterface → Bool) (c : Program (OperationData D TypeKind AttrKind TypeBody Saved Location OpKind Attr TypeKey) B) where
  -- the edges of a block are the successors of its terminator
  leads : (o : Option (Ptr Operation)) (m : Ptr BasicBlock) → Contains (option_map_or (successors_at c) o []) m → (p : Ptr Operation) × (o ≡ Some p) × Contains (successors_at c p) m
  leads None m k = absurd (omega (arith, k.1))
  leads (Some p) m k = (p, refl, k)

  ender : (o : Option (Ptr Operation)) (p : Ptr Operation) → option_and_then (λ q. cond (ends_block has c q) (Some q) None) o ≡ Some p → o ≡ Some p
  ender None p e = absurd (none-some p e)
  ender (Some q) p e = chosen (ends_block has c q) e
    where
      chosen : (t : Bool) → cond t (Some q) None ≡ Some p → Some q ≡ Some p
      chosen true e = e
      chosen false e = absurd (none-some p e)

  -- the terminator of a block is one of its operations
  terminator_in : (b : Ptr BasicBlock) (p : Ptr Operation) → terminator_of has c b ≡ Some p → Contains (operations_in c b) p
  terminator_in b p e = in_place (operations_in c b) _ p (ender (slice_get (operations_in c b) _) p e)

  edge_in : (b : Ptr BasicBlock) (p : Ptr Operation) (m : Ptr BasicBlock) → terminator_of has c b ≡ Some p → Contains (successors_at c p) m → Contains (edges_of has c b) m
  edge_in b p m e k = subst (λ t. Contains (option_map_or (successors_at c) t []) m) (sym e) k

  module _ (region : Ptr Region) (h : IsBlockGraph has c region) where
    -- no block is there twice
    pub blocks_distinct : AreDistinctNodes (blocks_in c region)
    blocks_distinct i j b d e = (h.blocks_once b region region i j d e).1

    -- the operation of an edge to a block of the region is in the block from which the edge leads, one of the region
    pub origin_is : (u : Use (Ptr BasicBlock)) → IsBlockUse c u → Contains (blocks_in c region) u.def
        → (b : Ptr BasicBlock) × (origin_in c region u ≡ b) × Contains (blocks_in c region) b × Contains (operations_in c b) u.user_op
    origin_is u is there =
        let from = h.local.entering u.def there u.user_op (in_place (successors_at c u.user_op) u.index u.def is) in
        let at = place_in (blocks_in c region) from.block from.in_region in
        let f = found (λ (b : Ptr BasicBlock). list_any (λ (p : Ptr Operation). same u.user_op p) (operations_in c b)) (blocks_in c region) at.0 from.block at.1 (is_any (operations_in c from.block) u.user_op from.in_block) in
        (f.0, ap (λ o. unwrap_or o u.def) f.4, in_place (blocks_in c region) f.1 f.0 f.2, any_is (operations_in c f.0) u.user_op f.3)

    -- successors are blocks of the region
    pub onward_in : (n m : Ptr BasicBlock) → Contains (blocks_in c region) n → Contains (edges_of has c n) m → Contains (blocks_in c region) m
    onward_in n m k e =
        let l = leads (terminator_of has c n) m e in
        h.local.leaving l.0 (record { block = n; in_region = k; in_block = terminator_in n l.0 l.1 }) m l.2

    -- a predecessor is the block from which a listed edge leads
    edge_at : (n m : Ptr BasicBlock) (u : Use (Ptr BasicBlock)) → IsBlockUse c u → u.def ≡ m → origin_in c region u ≡ n → Contains (blocks_in c region) m
        → Contains (blocks_in c region) n × Contains (operations_in c n) u.user_op
    edge_at n m u is to from k =
        let o = origin_is u is (subst (Contains (blocks_in c region)) (sym to) k) in
        let here : o.0 ≡ n = sym o.1 ∙ from in
        (subst (Contains (blocks_in c region)) here o.2, subst (λ b. Contains (operations_in c b) u.user_op) here o.3)

    edge_of : (n m : Ptr BasicBlock) → Contains (blocks_in c region) m → Contains (predecessors_in c region m) n
        → (u : Use (Ptr BasicBlock)) × IsBlockUse c u × (u.def ≡ m) × Contains (blocks_in c region) n × Contains (operations_in c n) u.user_op
    edge_of n m k e =
        let at = place_in (predecessors_in c region m) n e in
        let u = mapped (origin_in c region) (edges_listed c m) at.0 n at.1 in
        let s = (h.listed m k).sound at.0 u.0 u.1 in
        let there = edge_at n m u.0 s.0 s.1 u.2 k in
        (u.0, s.0, s.1, there.0, there.1)

    -- predecessors are blocks of the region
    pub backward_in : (n m : Ptr BasicBlock) → Contains (blocks_in c region) n → Contains (predecessors_in c region n) m → Contains (blocks_in c region) m
    backward_in n m k e = (edge_of m n k e).3

    successor_at : (n m : Ptr BasicBlock) (u : Use (Ptr BasicBlock)) → IsBlockUse c u → u.def ≡ m → Contains (blocks_in c region) n → Contains (operations_in c n) u.user_op → Contains (edges_of has c n) m
    successor_at n m u is to k l =
        let leads_there = in_place (successors_at c u.user_op) u.index m (subst (λ b. slice_get (successors_at c u.user_op) u.index ≡ Some b) to is) in
        edge_in n u.user_op m (h.local.terminators n u.user_op k l m leads_there) leads_there

    successor_of : (n m : Ptr BasicBlock) → Contains (blocks_in c region) m → Contains (predecessors_in c region m) n → Contains (edges_of has c n) m
    successor_of n m k e = let u = edge_of n m k e in successor_at n m u.0 u.1 u.2 u.3 u.4

    predecessor_of : (n m : Ptr BasicBlock) → Contains (blocks_in c region) m → Contains (edges_of has c n) m → Contains (predecessors_in c region m) n
    predecessor_of n m k e =
        let l = leads (terminator_of has c n) m e in
        let at = place_in (successors_at c l.0) m l.2 in
        let u : Use (Ptr BasicBlock) = record { user_op = l.0; index = at.0; def = m } in
        let listed = (h.listed m k).all u at.1 refl in
        let o = origin_is u at.1 k in
        let here = place_in (operations_in c n) l.0 (terminator_in n l.0 l.1) in
        let there = place_in (operations_in c o.0) l.0 o.3 in
        let is : o.0 ≡ n = (h.operations_once l.0 o.0 n there.0 here.0 there.1 here.1).0 in
        in_place (predecessors_in c region m) listed.0 n (slice_get-map (origin_in c region) (edges_listed c m) listed.0 ∙ ap (option_map (origin_in c region)) listed.1 ∙ ap Some (o.1 ∙ is))

    -- a block is a predecessor of another exactly where this is a successor of it
    pub converse_in : (n m : Ptr BasicBlock) → Contains (blocks_in c region) n → Contains (blocks_in c region) m → Contains (predecessors_in c region m) n ↔ Contains (edges_of has c n) m
    converse_in n m k l = (λ e. successor_of n m l e, λ e. predecessor_of n m l e)
