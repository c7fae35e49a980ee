-- The edges to the blocks of a region, as the program lists them.
use Rattle.std.proofs.Common.{◌≡◌, ℕ, zero, suc, ◌<◌, Bool, List, [], ◌∷◌, length, Some, IsSome, option_map, slice_get, refl, sym, ap, ◌∙◌, subst, arith}
use Rattle.std.specs.Prelude.{Contains}
use Rattle.std.proofs.lemmas.List.{length-map}
use Rattle.std.proofs.lemmas.Option.{same_Some, slice_get-map, slice_get_within}
use Rattle.ir_names.specs.declared.interfaces.OpInterface.{OpInterface}
use Rattle.ir_program.specs.Program.{Program, block_at}
use Rattle.ir_program.specs.Lists.{operations_in, blocks_in, StandsInBlock, StandsInRegion, StandOnce}
use Rattle.ir_program.specs.Order.{edges_listed}
use Rattle.ir_program.specs.Rows.{successors_at}
use Rattle.ir_program.specs.declared.handles.Ptr.{Ptr}
use Rattle.ir_program.specs.declared.handles.Operation.{Operation}
use Rattle.ir_program.specs.declared.handles.Region.{Region}
use Rattle.ir_program.specs.declared.handles.BasicBlock.{BasicBlock}
use Rattle.ir_program.specs.declared.handles.Use.{Use}
use Rattle.ir_context.specs.declared.notes.OperationData.{OperationData}
use Rattle.ir_queries.specs.Predecessors.{HasLinkedUsers, AreUserBlocks, ListsPredecessors}
use Rattle.ir_queries.proofs.Partway.{get-within}
use Rattle.ir_graph.specs.Regions.{origin_in, predecessors_in, HasLocalEdges, IsBlockGraph}
use Rattle.ir_graph.specs.RegionLaws.{place_in, in_place, origin_is}

-- lists that are as long as each other and have the same items are the same
same_lists : {X : Type 0} (xs ys : List X) → length xs ≡ length ys → ((i : ℕ) (x y : X) → slice_get xs i ≡ Some x → slice_get ys i ≡ Some y → x ≡ y) → xs ≡ ys
same_lists [] [] e h = refl
same_lists [] (y ∷ ys) e h = absurd (omega (arith, e))
same_lists (x ∷ xs) [] e h = absurd (omega (arith, e))
same_lists (x ∷ xs) (y ∷ ys) e h =
    let first : x ≡ y = h zero x y refl refl in
    let count : length xs ≡ length ys = omega (arith, e) in
    let rest : xs ≡ ys = same_lists xs ys count (λ i a b. h (suc i) a b) in
    cc

module _ {O B : Type 0} where
  -- what a block or a region lists is there
  abbrev pub OperationsStand : Program O B → Type 0
  OperationsStand c = (block : Ptr BasicBlock) (k : ℕ) (op : Ptr Operation) → slice_get (operations_in c block) k ≡ Some op → StandsInBlock c op block

  abbrev pub BlocksStand : Program O B → Type 0
  BlocksStand c = (region : Ptr Region) (k : ℕ) (block : Ptr BasicBlock) → slice_get (blocks_in c region) k ≡ Some block → StandsInRegion c block region

  pub live_block : (d c : Program O B) → d ≡ c → BlocksStand d → (region : Ptr Region) (b : Ptr BasicBlock) → Contains (blocks_in c region) b → IsSome (block_at c b)
  live_block d c same stand region b k = let at = place_in (blocks_in c region) b k in (subst BlocksStand same stand region at.0 b at.1).block

  -- the blocks of the operations of these uses are the same wherever they are listed
  pub one_row : (c : Program O B) → StandOnce (operations_in c) → (us : List (Use (Ptr BasicBlock))) (bs ds : List (Ptr BasicBlock)) → AreUserBlocks c us bs → AreUserBlocks c us ds → bs ≡ ds
  one_row c once us bs ds a b = same_lists bs ds (a.count ∙ sym b.count) (λ i x y e f.
      let within : i < length bs = slice_get_within bs i x e in
      let less : i < length us = omega (arith, a.count) in
      let u = get-within us i less in
      let s = a.stand i u.0 x u.1 e in
      let t = b.stand i u.0 y u.1 f in
      (once u.0.user_op x y s.index t.index s.here t.here).0)

module _ {D TypeKind AttrKind TypeBody Saved Location OpKind Attr TypeKey B : Type 0} (has : OpKind → OpInterface → Bool)
    (d c : Program (OperationData D TypeKind AttrKind TypeBody Saved Location OpKind Attr TypeKey) B) (same : d ≡ c) (stand : OperationsStand d) (region : Ptr Region) where
  -- the edges to a block of the region are of operations that are in blocks
  pub linked_users : HasLocalEdges has c region → (b : Ptr BasicBlock) → Contains (blocks_in c region) b → HasLinkedUsers c b
  linked_users h b k u is to =
      let leads = in_place (successors_at c u.user_op) u.index b (subst (λ x. slice_get (successors_at c u.user_op) u.index ≡ Some x) to is) in
      let from = h.entering b k u.user_op leads in
      let at = place_in (operations_in c from.block) u.user_op from.in_block in
      (from.block, subst OperationsStand same stand from.block at.0 u.user_op at.1)

  -- the predecessors in a region are the blocks of the listed edges, one by one
  pub lists_them : IsBlockGraph has c region → (b : Ptr BasicBlock) → Contains (blocks_in c region) b → ListsPredecessors c b (predecessors_in c region b)
  lists_them h b k = record {
    count = length-map (edges_listed c b) (origin_in c region);
    stand = λ i u n at from.
        let s = (h.listed b k).sound i u at in
        let o = origin_is has c region h u s.0 (subst (Contains (blocks_in c region)) (sym s.1) k) in
        let mapped : slice_get (predecessors_in c region b) i ≡ Some (origin_in c region u) = slice_get-map (origin_in c region) (edges_listed c b) i ∙ ap (option_map (origin_in c region)) at in
        let is : origin_in c region u ≡ n = same_Some (origin_in c region u) n (sym mapped ∙ from) in
        let place = place_in (operations_in c o.0) u.user_op o.3 in
        let its : StandsInBlock c u.user_op o.0 = subst OperationsStand same stand o.0 place.0 u.user_op place.1 in
        subst (StandsInBlock c u.user_op) is (subst (StandsInBlock c u.user_op) (sym o.1) its);
  }
