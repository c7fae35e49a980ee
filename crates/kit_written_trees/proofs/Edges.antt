-- What is written of a tree whose edges stay in their region: each edge leads to a block of the nearest region, and blocks are
-- named in the order of the text.
use Rattle.std.proofs.Common.{◌≡◌, ◌∙◌, inl, inr, ℕ, zero, suc, List, [], ◌∷◌, ◌++◌, map, refl, ap, sym, subst}
use Rattle.ir_forest.specs.Closed.{AreIn, HaveEdges, blocks_among, all_blocks_of}
use Rattle.ir_program.specs.declared.handles.BasicBlock.{BasicBlock}
use Rattle.ir_program.specs.declared.handles.Ptr.{Ptr}
use Rattle.ir_program.specs.declared.handles.Value.{Value}
use Rattle.ir_trees.specs.Searched.{labels_in}
use Rattle.ir_trees.specs.Stands.{by_handle}
use Rattle.ir_trees.specs.Trees.{Sort, Blocks, end}
use Rattle.ir_trees.specs.Trees as tree
use Rattle.opt_trees.specs.Occurrences.{Has}
use Rattle.kit_ops.specs.declared.types.KitType.{KitType}
use Rattle.kit_ruled_passes.specs.Edges.{IsNoBlock, own_blocks, EdgesScoped}
use Rattle.kit_ruled_passes.specs.Scopes.{KitLabel}
use Rattle.kit_writable_trees.specs.Writable.{IsWritable}
use Rattle.kit_written_trees.proofs.Known.{has_left, has_right}
use Rattle.kit_written_trees.proofs.Scoping.{in_by_has, has_image, of_image, map_joined}
use Rattle.kit_written_trees.proofs.Written.{Part, written}

-- ---- blocks

-- the blocks at every depth, each before what is in it
abbrev pub blocks_in : {s : Sort} → Part s → List (Ptr BasicBlock)
blocks_in end = []
blocks_in (tree.operation h rs rest) = blocks_in rs ++ blocks_in rest
blocks_in (tree.block l os rest) = l.name ∷ (blocks_in os ++ blocks_in rest)
blocks_in (tree.region bs rest) = blocks_in bs ++ blocks_in rest

abbrev name_of : KitLabel → Ptr BasicBlock
name_of l = l.name

-- they are the blocks that are found by search
pub blocks_found : {s : Sort} (x : Part s) → map name_of (labels_in x) ≡ blocks_in x
blocks_found end = refl
blocks_found (tree.operation h rs rest) =
    map_joined name_of (labels_in rs) (labels_in rest) ∙ (λ i. blocks_found rs i ++ blocks_found rest i)
blocks_found (tree.block l os rest) =
    ap (λ bs. l.name ∷ bs) (map_joined name_of (labels_in os) (labels_in rest)
    ∙ (λ i. blocks_found os i ++ blocks_found rest i))
blocks_found (tree.region bs rest) =
    map_joined name_of (labels_in bs) (labels_in rest) ∙ (λ i. blocks_found bs i ++ blocks_found rest i)

own_in : (bs : Part Blocks) (b : Ptr BasicBlock) → Has b (own_blocks bs) → Has b (blocks_in bs)
own_in end b h = absurd h
own_in (tree.block l os rest) b (inl e) = inl e
own_in (tree.block l os rest) b (inr h) = inr (has_right b (blocks_in os) (blocks_in rest) (own_in rest b h))

module _ (KnownBlock : Ptr BasicBlock → Type 0) where
  -- each block that is in the part, or that an operation of it may go on to, is known
  abbrev pub BlocksKnown : {s : Sort} → Part s → Type 0
  BlocksKnown end = Unit {0}
  BlocksKnown (tree.operation h rs rest) =
      ((b : Ptr BasicBlock) → Has b h.successors → KnownBlock b) × BlocksKnown rs × BlocksKnown rest
  BlocksKnown (tree.block l os rest) = KnownBlock l.name × BlocksKnown os × BlocksKnown rest
  BlocksKnown (tree.region bs rest) = BlocksKnown bs × BlocksKnown rest

  -- so it is where edges stay in their region, and those that are in it are known
  pub blocks_known : {s : Sort} (x : Part s) (P : Ptr BasicBlock → Type 0) → EdgesScoped x P
      → ((b : Ptr BasicBlock) → P b → KnownBlock b) → ((b : Ptr BasicBlock) → Has b (blocks_in x) → KnownBlock b)
      → BlocksKnown x
  blocks_known end P scoped outer inner = tt
  blocks_known (tree.operation h rs rest) P scoped outer inner = (
    λ b has. outer b (scoped.0 b has),
    blocks_known rs (IsNoBlock by_handle) scoped.1 (λ b none. absurd none)
        (λ b has. inner b (has_left b (blocks_in rs) (blocks_in rest) has)),
    blocks_known rest P scoped.2 outer (λ b has. inner b (has_right b (blocks_in rs) (blocks_in rest) has)),
  )
  blocks_known (tree.block l os rest) P scoped outer inner = (
    inner l.name (inl refl),
    blocks_known os P scoped.0 outer (λ b has. inner b (inr (has_left b (blocks_in os) (blocks_in rest) has))),
    blocks_known rest P scoped.1 outer (λ b has. inner b (inr (has_right b (blocks_in os) (blocks_in rest) has))),
  )
  blocks_known (tree.region bs rest) P scoped outer inner = (
    blocks_known bs (λ b. Has b (own_blocks bs)) scoped.0
        (λ b own. inner b (has_left b (blocks_in bs) (blocks_in rest) (own_in bs b own)))
        (λ b has. inner b (has_left b (blocks_in bs) (blocks_in rest) has)),
    blocks_known rest P scoped.1 outer (λ b has. inner b (has_right b (blocks_in bs) (blocks_in rest) has)),
  )

-- ---- their texts

module _ {N : Type 0} (types : List KitType) (ν : Value → N) (β : Ptr BasicBlock → N) where
  -- what names the blocks of a region
  own_same : (d : ℕ) (bs : Part Blocks) (w : IsWritable {N = by_handle} types d bs)
      → blocks_among (written types ν β d bs w) ≡ map β (own_blocks bs)
  own_same d end w = refl
  own_same d (tree.block l os rest) w = ap (λ ns. β l.name ∷ ns) (own_same d rest w.2)

  -- what names all blocks, in the order of the text
  pub blocks_same : {s : Sort} (d : ℕ) (x : Part s) (w : IsWritable {N = by_handle} types d x)
      → all_blocks_of (written types ν β d x w) ≡ map β (blocks_in x)
  blocks_same d end w = refl
  blocks_same d (tree.operation h rs rest) w =
      (λ i. blocks_same d rs w.1 i ++ blocks_same d rest w.2 i) ∙ sym (map_joined β (blocks_in rs) (blocks_in rest))
  blocks_same d (tree.block l os rest) w = ap (λ ns. β l.name ∷ ns)
      ((λ i. blocks_same d os w.1 i ++ blocks_same d rest w.2 i) ∙ sym (map_joined β (blocks_in os) (blocks_in rest)))
  blocks_same zero (tree.region bs rest) w = absurd w.0
  blocks_same (suc e) (tree.region bs rest) w =
      (λ i. blocks_same e bs w.0 i ++ blocks_same (suc e) rest w.1 i) ∙ sym (map_joined β (blocks_in bs) (blocks_in rest))

  none_in : (ns : List N) → AreIn [] ns
  none_in ns = in_by_has [] ns (λ n has. absurd has)

  -- edges lead to blocks of the nearest region
  pub have_edges : {s : Sort} (d : ℕ) (x : Part s) (w : IsWritable {N = by_handle} types d x)
      (P : Ptr BasicBlock → Type 0) (ns : List N) → EdgesScoped x P → ((b : Ptr BasicBlock) → P b → Has (β b) ns)
      → HaveEdges ns (written types ν β d x w)
  have_edges d end w P ns scoped named = tt
  have_edges d (tree.operation h rs rest) w P ns scoped named = (
    (
      in_by_has (map β h.successors) ns (λ n has.
          let b = of_image β n h.successors has in subst (λ m. Has m ns) (sym b.2) (named b.0 (scoped.0 b.0 b.1))),
      have_edges d rs w.1 (IsNoBlock by_handle) ns scoped.1 (λ b none. absurd none),
    ),
    have_edges d rest w.2 P ns scoped.2 named,
  )
  have_edges d (tree.block l os rest) w P ns scoped named =
      ((none_in ns, have_edges d os w.1 P ns scoped.0 named), have_edges d rest w.2 P ns scoped.1 named)
  have_edges zero (tree.region bs rest) w P ns scoped named = absurd w.0
  have_edges (suc e) (tree.region bs rest) w P ns scoped named = (
    (
      none_in ns,
      have_edges e bs w.0 (λ b. Has b (own_blocks bs)) (blocks_among (written types ν β e bs w.0)) scoped.0
          (λ b own. subst (λ ms. Has (β b) ms) (sym (own_same e bs w.0)) (has_image β b (own_blocks bs) own)),
    ),
    have_edges (suc e) rest w.1 P ns scoped.1 named,
  )
