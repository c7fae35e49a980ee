-- Where the rules are kept, edges stay in their region.
use Rattle.std.proofs.Common.{◌≡◌, IsSome, inl, inr, ℕ, zero, suc, ◌++◌, List, [], ◌∷◌, Some, None, slice_get, refl}
use Rattle.std.proofs.Common.{sym, ap, ◌∙◌, subst}
use Rattle.ir_program.specs.Lists.{StandsInside}
use Rattle.ir_program.specs.Program.{operation_at}
use Rattle.ir_program.specs.declared.handles.BasicBlock.{BasicBlock}
use Rattle.ir_program.specs.declared.handles.IRNode.TheVariants.{Operation as OperationNode}
use Rattle.ir_program.specs.declared.handles.Operation.{Operation}
use Rattle.ir_program.specs.declared.handles.Ptr.{Ptr}
use Rattle.ir_trees.specs.Stands.{by_handle, StandsFor}
use Rattle.ir_trees.specs.Trees.{Sort, Operations, Blocks, Regions, end, operation, block, region}
use Rattle.ir_trees.proofs.Members.{has_at}
use Rattle.ir_trees.proofs.OneTree.{one_tree}
use Rattle.kit.specs.Context.{KitContext, KitTree}
use Rattle.opt_inside.proofs.Around.{HasLists}
use Rattle.opt_trees.specs.Occurrences.{Has}
use Rattle.opt_trees.proofs.Lists.{some_same, none_some}
use Rattle.kit.specs.Meaning.{KitOperation, KitBlock}
use Rattle.kit_checks.specs.declared.rule.Rule.TheVariants as rule
use Rattle.kit_checks.specs.Faults.{KeptEverywhere}
use Rattle.kit_checks.specs.Located.{IsSiteOf}
use Rattle.kit_checks.specs.Sites.{Site, Around, operation_list, block_list, region_list, site_at}
use Rattle.kit_checks.specs.World.{World, world_of}
use Rattle.kit_checks.proofs.Down.{located, step_to}
use Rattle.kit_checks.proofs.Upward.{is_place}
use Rattle.kit_ruled_views.specs.Functions.{KeepsRules}
use Rattle.kit_ruled_views.proofs.FunctionSites.{KitBody, outer_if, inner_place}
use Rattle.kit_ruled_views.proofs.InsidePlaces.{path_down}
use Rattle.kit_ruled_passes.specs.Edges.{IsNoBlock, own_blocks, EdgesScoped, HasScopedEdges}
use Rattle.kit_ruled_passes.specs.Scopes.{Part}

-- a block that is listed is one of the region
listed_block : (bs : Part Blocks) (k : ℕ) (body : KitBody) → slice_get (block_list bs) k ≡ Some body
    → Has body.label.name (own_blocks bs)
listed_block end k body at = absurd (none_some body at)
listed_block (block l os rest) zero body at =
    inl (ap (λ (b : KitBody). b.label.name) (sym (some_same (record { label = l; operations = os }) body at)))
listed_block (block l os rest) (suc k) body at = inr (listed_block rest k body at)

module _ (w : World KitOperation KitBlock) (t : KitTree) (keeps : KeptEverywhere w t rule.EdgesFit) where
  -- what an operation leads to is in the region around it
  leads_in : (place : List ℕ) (s : Site KitOperation KitBlock) → site_at t place ≡ Some s
      → (a : Around KitOperation KitBlock) → s.around ≡ Some a → (b : Ptr BasicBlock) → Has b s.op.head.successors
      → Has b (own_blocks a.blocks)
  leads_in place s there a is b has =
      let l = has_at s.op.head.successors b has in
      let fit = keeps place s there l.0 b l.1 in
      let same : fit.0 ≡ a = some_same fit.0 a (sym fit.1 ∙ is) in
      let listed = listed_block fit.0.blocks fit.2.here.0 fit.2.body fit.2.here.1 in
      subst (λ (z : Around KitOperation KitBlock). Has b (own_blocks z.blocks)) same
      (subst (λ (x : Ptr BasicBlock). Has x (own_blocks fit.0.blocks)) fit.2.named listed)

  -- the members of a part are among those of the whole
  abbrev AreRegions : Part Regions → Part Regions → Type 0
  AreRegions rs all = (r : ℕ) (bs : Part Blocks) → slice_get (region_list rs) r ≡ Some bs
      → (k : ℕ) × (slice_get (region_list all) k ≡ Some bs)

  abbrev AreBlocks : Part Blocks → Part Blocks → Type 0
  AreBlocks bs all = (b : ℕ) (body : KitBody) → slice_get (block_list bs) b ≡ Some body
      → (k : ℕ) × (slice_get (block_list all) k ≡ Some body)

  abbrev AreOperations : Part Operations → Part Operations → Type 0
  AreOperations os all = (o : ℕ) (u : KitTree) → slice_get (operation_list os) o ≡ Some u
      → (k : ℕ) × (slice_get (operation_list all) k ≡ Some u)

  -- where a part is: in the operation at a site; in a region of that; in a block of this
  record InBlocks (s : Site KitOperation KitBlock) (place : List ℕ) (all : Part Blocks) : Type 0 where
    there : site_at t place ≡ Some s
    number : ℕ
    here : slice_get (region_list s.op.regions) number ≡ Some all

  record InBody (s : Site KitOperation KitBlock) (place : List ℕ) (all : Part Blocks) (body : KitBody) : Type 0 where
    blocks : InBlocks s place all
    number : ℕ
    here : slice_get (block_list all) number ≡ Some body

  abbrev PartAt : (s : Sort) → Part s → Type 0
  PartAt Operations os = (s : Site KitOperation KitBlock) (place : List ℕ) (all : Part Blocks) (body : KitBody)
      → InBody s place all body → AreOperations os body.operations → EdgesScoped os (λ b. Has b (own_blocks all))
  PartAt Blocks bs = (s : Site KitOperation KitBlock) (place : List ℕ) (all : Part Blocks) → InBlocks s place all
      → AreBlocks bs all → EdgesScoped bs (λ b. Has b (own_blocks all))
  PartAt Regions rs = (s : Site KitOperation KitBlock) (place : List ℕ) → site_at t place ≡ Some s
      → AreRegions rs s.op.regions → EdgesScoped rs (IsNoBlock by_handle)

  scoped_part : {s : Sort} (part : Part s) → PartAt s part
  scoped_part {s = Operations} end = λ s place all body at are. tt
  scoped_part {s = Blocks} end = λ s place all at are. tt
  scoped_part {s = Regions} end = λ s place there are. tt
  scoped_part (operation h rs rest) = λ s place all body at are.
      let u : KitTree = record { head = h; regions = rs } in
      let k = are zero u refl in
      let there = inner_place t s place at.blocks.there at.blocks.number at.number k.0 all body u at.blocks.here at.here
      k.1 in
      let site = step_to s (outer_if s.around) all at.number body k.0 u in
      let next = place ++ at.blocks.number ∷ at.number ∷ k.0 ∷ [] in
      let a : Around KitOperation KitBlock = record {
        owner = s.op;
        outer = outer_if s.around;
        blocks = all;
        number = at.number;
        body = body;
        index = k.0;
      } in (
        λ b has. leads_in next site there a refl b has,
        scoped_part rs site next there (λ r bs h. (r, h)),
        scoped_part rest s place all body at (λ o v h. are (suc o) v h),
      )
  scoped_part (block l os rest) = λ s place all at are.
      let body : KitBody = record { label = l; operations = os } in
      let k = are zero body refl in (
        scoped_part os s place all body (record { blocks = at; number = k.0; here = k.1 }) (λ o v h. (o, h)),
        scoped_part rest s place all at (λ b x h. are (suc b) x h),
      )
  scoped_part (region bs rest) = λ s place there are.
      let k = are zero bs refl in (
        scoped_part bs s place bs (record { there = there; number = k.0; here = k.1 }) (λ b x h. (b, h)),
        scoped_part rest s place there (λ r x h. are (suc r) x h),
      )

  -- edges in the operation at a place stay in their region
  pub edges_at : (place : List ℕ) (s : Site KitOperation KitBlock) → site_at t place ≡ Some s → HasScopedEdges s.op
  edges_at place s there = scoped_part s.op.regions s place there (λ r bs h. (r, h))

  -- the root itself leads nowhere
  pub none_from_root : (b : Ptr BasicBlock) → Has b t.head.successors → ⊥
  none_from_root b has =
      let l = has_at t.head.successors b has in
      let fit = keeps [] (record { op = t; around = None }) refl l.0 b l.1 in
      none_some fit.0 fit.1

module _ (s : KitContext) (root : Ptr Operation) (lists : HasLists s.program) (t : KitTree)
    (stands : StandsFor s.program root t) (rules : KeepsRules s root) where
  -- the operation at its place in the tree
  record AtPlace (p : Ptr Operation) : Type 0 where
    place : List ℕ
    site : Site KitOperation KitBlock
    here : site_at t place ≡ Some site
    is : IsSiteOf s.program root p site

  located_inside : (p : Ptr Operation) → StandsInside s.program (OperationNode root) (OperationNode p) → AtPlace p
  located_inside p inside =
      let down = path_down s.program (OperationNode root) (OperationNode p) inside in
      let x = is_place s.program root p down.0 down.1 t stands in
      record {
        place = down.0;
        site = x.0;
        here = x.1;
        is = subst (λ (n : Ptr Operation). IsSiteOf s.program root n x.0) x.2
            (located s.program lists root t stands down.0 x.0 x.1);
      }

  -- it is there
  pub live_inside : (p : Ptr Operation) → StandsInside s.program (OperationNode root) (OperationNode p)
      → IsSome (operation_at s.program p)
  live_inside p inside = subst (λ o. IsSome o) (sym (located_inside p inside).is.tree.there) refl

  -- in each operation inside a module that keeps the rules edges stay in their region
  pub edges_inside : (p : Ptr Operation) → StandsInside s.program (OperationNode root) (OperationNode p) → (u : KitTree)
      → StandsFor s.program p u → HasScopedEdges u
  edges_inside p inside u is =
      let x = located_inside p inside in
      subst (λ (z : KitTree). HasScopedEdges z) (one_tree s.program p x.site.op u x.is.tree is)
      (edges_at (world_of s) t (rules t stands rule.EdgesFit) x.place x.site x.here)
