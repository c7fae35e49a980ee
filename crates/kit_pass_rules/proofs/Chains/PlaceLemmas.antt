-- Operations of a good tree where they are, the rules that they keep there, and where branches stand.
use Rattle.std.proofs.Common.{◌≡◌, ⊎_elim, inl, inr, ℕ, zero, suc, ◌+◌, true, List, [], ◌∷◌}
use Rattle.std.proofs.Common.{◌++◌, length, Option, Some, None, slice_get, refl, sym, ap, ◌∙◌, subst, arith}
use Rattle.ir_base.specs.declared.types.TypeHandle.{TypeHandle}
use Rattle.ir_program.specs.declared.handles.Ptr.{Ptr}
use Rattle.ir_program.specs.declared.handles.BasicBlock.{BasicBlock}
use Rattle.ir_program.specs.declared.handles.Value.{Value}
use Rattle.ir_trees.specs.Stands.{by_handle, in_program}
use Rattle.ir_trees.specs.Trees.{Operations, Blocks, Regions, end, operation, block, region}
use Rattle.kit.specs.Context.{KitTree}
use Rattle.kit.specs.Meaning.{KitOperation, KitBlock}
use Rattle.kit_checks.specs.Faults.{Keeps}
use Rattle.kit_checks.specs.KitWorld.{kit_world}
use Rattle.kit_checks.specs.Rules as rules
use Rattle.kit_checks.specs.Sites.{Around, Site, operation_list, block_list, region_list}
use Rattle.kit_checks.specs.Words.{is_terminator, is_symbol}
use Rattle.kit_checks.specs.declared.rule.Rule.{Rule}
use Rattle.kit_checks.specs.declared.rule.Rule.TheVariants as rule
use Rattle.kit_ops.specs.declared.kinds.KitOp.{KitOp}
use Rattle.kit_ops.specs.declared.kinds.KitOp.TheVariants as ops
use Rattle.kit_ops.specs.declared.types.KitType.{KitType}
use Rattle.kit_pass_rules.specs.Laws.{IsGood}
use Rattle.kit_pass_rules.proofs.Located.{located, located_block}
use Rattle.kit_pass_rules.proofs.Walk.{SpotOf, OccurrenceOf, BlockOf, block_of, within, occurrence_of, Standing}
use Rattle.kit_pass_rules.proofs.Walk.{child_of}
use Rattle.kit_pass_rules.proofs.Chains.InversionLemmas.{KitList, KitBody}
use Rattle.kit_pass_rules.proofs.Chains.ListLemmas.{get_below}
use Rattle.opt_trees.specs.Occurrences.{Has, EdgesLocal}
use Rattle.opt_trees.specs.Occurrences.{OperationSite as OccurrenceSite, inner, next_block, next_region, occurrences_in}
use Rattle.opt_trees.specs.Occurrences.{occurrences_of, block_occurrences_in, block_occurrences_of}
use Rattle.opt_trees.specs.Simplify.{EndsApart, IsOrderly, IsLocal}
use Rattle.opt_trees.proofs.Lists.{some_same, none_some}
use Rattle.opt_trees.proofs.NoneDead.{has-left, has-right}

abbrev pub KitSite : Type 0
KitSite = Site KitOperation KitBlock

abbrev pub KitAround : Type 0
KitAround = Around KitOperation KitBlock

abbrev pub KitSpot : Type 0
KitSpot = SpotOf KitOperation KitBlock

abbrev pub KitOccurrence : Type 0
KitOccurrence = OccurrenceOf KitOperation KitBlock

abbrev pub KitBlockOccurrence : Type 0
KitBlockOccurrence = BlockOf KitOperation KitBlock

-- ---- places in lists

-- where a region of the list is, and a block
record RegionSpot (rs : KitList Regions) (c : KitSpot) (r : ℕ) (blocks : KitList Blocks) : Type 0 where
  pub spot : KitSpot
  pub owner : spot.owner ≡ c.owner
  pub around : spot.around ≡ c.around
  pub within_same : spot.within ≡ c.within
  pub region_is : spot.region ≡ c.region + r
  pub first : spot.first ≡ c.first
  pub operations : (o : KitOccurrence) → Has o (occurrences_in blocks spot) → Has o (occurrences_in rs c)
  pub blocks_in : (x : KitBlockOccurrence) → Has x (block_occurrences_in blocks spot) →
      Has x (block_occurrences_in rs c)

region_spot : (rs : KitList Regions) (c : KitSpot) (r : ℕ) (blocks : KitList Blocks) →
    slice_get (region_list rs) r ≡ Some blocks → RegionSpot rs c r blocks
region_spot end c r blocks e = absurd (none_some blocks e)
region_spot (region bs rest) c zero blocks e =
    subst (RegionSpot (region bs rest) c 0) (some_same bs blocks e) (record {
      spot = c;
      owner = refl;
      around = refl;
      within_same = refl;
      region_is = omega arith;
      first = refl;
      operations = λ o h. has-left o (occurrences_in bs c) (occurrences_in rest (next_region c)) h;
      blocks_in = λ x h. has-left x (block_occurrences_in bs c) (block_occurrences_in rest (next_region c)) h;
    })
region_spot (region bs rest) c (suc r) blocks e = let p = region_spot rest (next_region c) r blocks e in record {
  spot = p.spot;
  owner = p.owner;
  around = p.around;
  within_same = p.within_same;
  region_is = let q : p.spot.region ≡ suc c.region + r = p.region_is in omega (arith, q);
  first = p.first;
  operations = λ o h. has-right o (occurrences_in bs c) (occurrences_in rest (next_region c)) (p.operations o h);
  blocks_in = λ x h. has-right x (block_occurrences_in bs c) (block_occurrences_in rest (next_region c))
      (p.blocks_in x h);
}

record BlockSpot (bs : KitList Blocks) (c : KitSpot) (n : ℕ) (body : KitBody) : Type 0 where
  pub spot : KitSpot
  pub owner : spot.owner ≡ c.owner
  pub around : spot.around ≡ c.around
  pub within_same : spot.within ≡ c.within
  pub region_is : spot.region ≡ c.region
  pub first : n ≡ 0 → spot.first ≡ c.first
  pub here : Has (block_of spot body) (block_occurrences_in bs c)
  pub operations : (o : KitOccurrence) → Has o (occurrences_in body.operations (within spot body)) →
      Has o (occurrences_in bs c)

block_spot : (bs : KitList Blocks) (c : KitSpot) (n : ℕ) (body : KitBody) → slice_get (block_list bs) n ≡ Some body →
    BlockSpot bs c n body
block_spot end c n body e = absurd (none_some body e)
block_spot (block l ops rest) c zero body e =
    subst (BlockSpot (block l ops rest) c 0) (some_same (record { label = l; operations = ops }) body e) (record {
      spot = c;
      owner = refl;
      around = refl;
      within_same = refl;
      region_is = refl;
      first = λ z. refl;
      here = inl refl;
      operations = λ o h. has-left o (occurrences_in ops (record { spot = c; label = l }))
          (occurrences_in rest (next_block c)) h;
    })
block_spot (block l ops rest) c (suc n) body e = let p = block_spot rest (next_block c) n body e in record {
  spot = p.spot;
  owner = p.owner;
  around = p.around;
  within_same = p.within_same;
  region_is = p.region_is;
  first = λ z. absurd (omega (arith, z));
  here = inr (has-right (block_of p.spot body) (block_occurrences_in ops (record { spot = c; label = l }))
      (block_occurrences_in rest (next_block c)) p.here);
  operations = λ o h. has-right o (occurrences_in ops (record { spot = c; label = l }))
      (occurrences_in rest (next_block c)) (p.operations o h);
}

operation_here : (xs : KitList Operations) (c : OccurrenceSite by_handle (in_program KitOperation KitBlock)) (k : ℕ)
    (u : KitTree) →
    slice_get (operation_list xs) k ≡ Some u → Has (occurrence_of c u) (occurrences_in xs c)
operation_here end c k u e = absurd (none_some u e)
operation_here (operation h rs rest) c zero u e = inl (ap (occurrence_of c)
    (sym (some_same (record { head = h; regions = rs }) u e)))
operation_here (operation h rs rest) c (suc k) u e =
    inr (has-right (occurrence_of c u) (occurrences_in rs (inner h c)) (occurrences_in rest c)
    (operation_here rest c k u e))

module _ (t : KitTree) where
  -- a block of a region of an operation of the tree
  pub record BlockStep : Type 0 where
    pub s : KitSite
    pub outer : List KitTree
    pub up : Standing t s outer
    pub r : ℕ
    pub b : ℕ
    pub blocks : KitList Blocks
    pub body : KitBody
    pub region_here : slice_get (region_list s.op.regions) r ≡ Some blocks
    pub block_here : slice_get (block_list blocks) b ≡ Some body

  -- where it stands
  pub record BlockStands (x : BlockStep) : Type 0 where
    pub spot : KitSpot
    pub owner : spot.owner ≡ x.s.op.head
    pub around : spot.around ≡ x.up.spot.around
    pub within_same : spot.within ≡ x.up.spot.within
    pub region_is : spot.region ≡ x.up.spot.region + x.r
    pub first : x.b ≡ 0 → spot.first ≡ true
    pub here : Has (block_of spot x.body) (block_occurrences_of t)
    pub operations : (k : ℕ) (u : KitTree) → slice_get (operation_list x.body.operations) k ≡ Some u →
        Has (occurrence_of (within spot x.body) u) (occurrences_of t)

  pub block_stands : (x : BlockStep) → BlockStands x
  block_stands x =
      let p = region_spot x.s.op.regions x.up.spot x.r x.blocks x.region_here in
      let q = block_spot x.blocks p.spot x.b x.body x.block_here in
      record {
        spot = q.spot;
        owner = q.owner ∙ (p.owner ∙ x.up.owner);
        around = q.around ∙ p.around;
        within_same = q.within_same ∙ p.within_same;
        region_is = q.region_is ∙ p.region_is;
        first = λ e. q.first e ∙ (p.first ∙ x.up.first);
        here = x.up.blocks_in (block_of q.spot x.body) (p.blocks_in (block_of q.spot x.body) q.here);
        operations = λ k u e. x.up.operations (occurrence_of (within q.spot x.body) u)
            (p.operations (occurrence_of (within q.spot x.body) u)
            (q.operations (occurrence_of (within q.spot x.body) u)
            (operation_here x.body.operations (within q.spot x.body) k u e)));
      }

  -- another block of the region
  abbrev pub beside : (x : BlockStep) (n : ℕ) (body : KitBody) → slice_get (block_list x.blocks) n ≡ Some body →
      BlockStep
  beside x n body h = record {
    s = x.s;
    outer = x.outer;
    up = x.up;
    r = x.r;
    b = n;
    blocks = x.blocks;
    body = body;
    region_here = x.region_here;
    block_here = h;
  }

  -- an operation of such a block
  pub record Step : Type 0 where
    pub in_block : BlockStep
    pub k : ℕ
    pub u : KitTree
    pub here : slice_get (operation_list in_block.body.operations) k ≡ Some u

  abbrev pub around_of : (x : BlockStep) → ℕ → KitAround
  around_of x k = record { owner = x.s.op; outer = x.outer; blocks = x.blocks; number = x.b; body = x.body; index = k }

  abbrev pub site_of : Step → KitSite
  site_of x = record { op = x.u; around = Some (around_of x.in_block x.k) }

  -- each occurrence is at such a place
  pub record OccursAt (o : KitOccurrence) : Type 0 where
    pub step : Step
    pub spot : KitSpot
    pub is : o ≡ occurrence_of (within spot step.in_block.body) step.u
    pub block : Has (block_of spot step.in_block.body) (block_occurrences_of t)
    pub spot_is : (block_stands step.in_block).spot ≡ spot

  pub record BlockAt (x : KitBlockOccurrence) : Type 0 where
    pub step : BlockStep
    pub is : x ≡ block_of (block_stands step).spot step.body

module _ (leads : TypeHandle → Option KitType) (old : Value → Option TypeHandle) (t : KitTree)
    (good : IsGood leads old t) where
  pub occurs_at : (o : KitOccurrence) → Has o (occurrences_of t) → OccursAt t o
  occurs_at o h =
      let l = located t o h in
      let b : BlockStep t = record {
        s = l.s;
        outer = l.outer;
        up = l.up;
        r = l.r;
        b = l.b;
        blocks = l.blocks;
        body = l.body;
        region_here = l.region_here;
        block_here = l.block_here;
      } in
      let st = block_stands t b in
      let at = occurrence_of (within st.spot l.body) l.u in
      record {
        step = record { in_block = b; k = l.k; u = l.u; here = l.here };
        spot = st.spot;
        is = good.apart.operations o at h (st.operations l.k l.u l.here) (ap (λ z. z.name) (sym l.head));
        block = st.here;
        spot_is = refl;
      }

  pub block_at : (x : KitBlockOccurrence) → Has x (block_occurrences_of t) → BlockAt t x
  block_at x h =
      let l = located_block t x h in
      let b : BlockStep t = record {
        s = l.s;
        outer = l.outer;
        up = l.up;
        r = l.r;
        b = l.b;
        blocks = l.blocks;
        body = l.body;
        region_here = l.region_here;
        block_here = l.block_here;
      } in
      let st = block_stands t b in
      record { step = b; is = good.apart.blocks x (block_of st.spot l.body) h st.here (ap (λ z. z.name) (sym l.label)) }

  -- it keeps the rules there, and so does the operation that owns the region
  pub keeps : (x : Step t) (r : Rule) → Keeps (kit_world leads old) r (site_of t x)
  keeps x r =
      let b = x.in_block in
      let c = child_of t b.s b.outer b.up b.r b.b x.k b.blocks b.body x.u b.region_here b.block_here x.here in
      good.obeys r c.place (site_of t x) c.at_place

  pub owner_keeps : (x : BlockStep t) (r : Rule) → Keeps (kit_world leads old) r x.s
  owner_keeps x r = good.obeys r (x.up.prefix ++ []) x.s (x.up.reaches [])

  pub root_keeps : (r : Rule) → Keeps (kit_world leads old) r (record { op = t; around = None })
  root_keeps r = good.obeys r [] (record { op = t; around = None }) refl

  -- ---- branches

  -- an operation that names a successor is a branch
  pub data IsBranchKind : KitOp → Type 0 where
    plain : IsBranchKind ops.Br
    conditional : IsBranchKind ops.CondBr

  none_named : {X : Type 0} (xs : List X) (x : X) → length xs ≡ 0 → Has x xs → ⊥
  none_named [] x e h = h
  none_named (y ∷ xs) x e h = omega (arith, e)

  branch_of : (u : KitTree) (b : Ptr BasicBlock) (k : KitOp) → rules.FitsKind (kit_world leads old) u k →
      Has b u.head.successors → IsBranchKind k
  branch_of u b ops.Br f h = plain
  branch_of u b ops.CondBr f h = conditional
  branch_of u b ops.Call f h = absurd (none_named u.head.successors b f.numbers.0.successors h)
  branch_of u b ops.Module f h = absurd (none_named u.head.successors b f.0.successors h)
  branch_of u b ops.Func f h = absurd (none_named u.head.successors b f.0.successors h)
  branch_of u b ops.Constant f h = absurd (none_named u.head.successors b f.0.successors h)
  branch_of u b ops.ForwardRef f h = absurd (none_named u.head.successors b f.0.successors h)
  branch_of u b (ops.Arithmetic a) f h = absurd (none_named u.head.successors b f.0.successors h)
  branch_of u b (ops.Comparison a) f h = absurd (none_named u.head.successors b f.0.successors h)
  branch_of u b ops.Emit f h = absurd (none_named u.head.successors b f.0.successors h)
  branch_of u b ops.Return f h = absurd (none_named u.head.successors b f.successors h)

  pub branch_kind : (x : Step t) (b : Ptr BasicBlock) → Has b x.u.head.successors → IsBranchKind x.u.head.content.kind
  branch_kind x b h = branch_of x.u b x.u.head.content.kind (keeps x rule.FitsFormat) h

  ends_block : (k : KitOp) → IsBranchKind k → is_terminator k ≡ true
  ends_block _ plain = refl
  ends_block _ conditional = refl

  no_symbol : (k : KitOp) → IsBranchKind k → is_symbol k ≡ true → ⊥
  no_symbol _ plain e = cc e
  no_symbol _ conditional e = cc e

  -- what has a region is a module or a function
  pub data IsHolder : KitOp → Type 0 where
    module_kind : IsHolder ops.Module
    function_kind : IsHolder ops.Func

  holder_of : (u : KitTree) (bs : KitList Blocks) (r : ℕ) (k : KitOp) → rules.FitsKind (kit_world leads old) u k →
      slice_get (region_list u.regions) r ≡ Some bs → IsHolder k
  holder_of u bs r ops.Module f h = module_kind
  holder_of u bs r ops.Func f h = function_kind
  holder_of u bs r ops.Call f h = let g = get_below (region_list u.regions) r bs h in let e = f.numbers.0.regions in
      absurd (omega (arith, g, e))
  holder_of u bs r ops.Constant f h = let g = get_below (region_list u.regions) r bs h in let e = f.0.regions in
      absurd (omega (arith, g, e))
  holder_of u bs r ops.ForwardRef f h = let g = get_below (region_list u.regions) r bs h in let e = f.0.regions in
      absurd (omega (arith, g, e))
  holder_of u bs r (ops.Arithmetic a) f h = let g = get_below (region_list u.regions) r bs h in let e = f.0.regions in
      absurd (omega (arith, g, e))
  holder_of u bs r (ops.Comparison a) f h = let g = get_below (region_list u.regions) r bs h in let e = f.0.regions in
      absurd (omega (arith, g, e))
  holder_of u bs r ops.Br f h = let g = get_below (region_list u.regions) r bs h in let e = f.regions in
      absurd (omega (arith, g, e))
  holder_of u bs r ops.CondBr f h = let g = get_below (region_list u.regions) r bs h in let e = f.0.regions in
      absurd (omega (arith, g, e))
  holder_of u bs r ops.Emit f h = let g = get_below (region_list u.regions) r bs h in let e = f.0.regions in
      absurd (omega (arith, g, e))
  holder_of u bs r ops.Return f h = let g = get_below (region_list u.regions) r bs h in let e = f.regions in
      absurd (omega (arith, g, e))

  pub holder : (x : BlockStep t) → IsHolder x.s.op.head.content.kind
  holder x = holder_of x.s.op x.blocks x.r x.s.op.head.content.kind (owner_keeps x rule.FitsFormat) x.region_here

  by_holder : {P : Type 0} (k : KitOp) → IsHolder k → (k ≡ ops.Module → P) → (k ≡ ops.Func → P) → P
  by_holder _ module_kind f g = f refl
  by_holder _ function_kind f g = g refl

  -- a branch is in a function, at the end of its block
  pub in_function : (x : Step t) → IsBranchKind x.u.head.content.kind → x.in_block.s.op.head.content.kind ≡ ops.Func
  in_function x b =
      let holds : rules.ModuleHolds (kit_world leads old) (site_of t x) = keeps x rule.ModuleHolds in
      by_holder x.in_block.s.op.head.content.kind (holder x.in_block)
      (λ e. absurd (no_symbol x.u.head.content.kind b (holds.kinds (around_of t x.in_block x.k) (refl, e))))
      (λ e. e)

  pub branch_last : (x : Step t) → IsBranchKind x.u.head.content.kind →
      x.k + 1 ≡ length (operation_list x.in_block.body.operations)
  branch_last x b =
      let e : rules.BlocksEnd (kit_world leads old) (site_of t x) = keeps x rule.BlocksEnd in
      (e.last (around_of t x.in_block x.k) (refl, in_function x b)).0 (ends_block x.u.head.content.kind b)

  pub not_last : (x : Step t) (b : Ptr BasicBlock) → Has b x.u.head.successors →
      x.k + 1 ≡ length (operation_list x.in_block.body.operations)
  not_last x b h = branch_last x (branch_kind x b h)

  -- two steps that are in blocks of one name are in one block
  pub same_block : (x y : BlockStep t) → x.body.label.name ≡ y.body.label.name →
      block_of (block_stands t x).spot x.body ≡ block_of (block_stands t y).spot y.body
  same_block x y e =
      let p = block_stands t x in
      let q = block_stands t y in
      good.apart.blocks (block_of p.spot x.body) (block_of q.spot y.body) p.here q.here e

  pub ends_apart : EndsApart t
  ends_apart o p b c ho hp e hb hc =
      let x = occurs_at o ho in
      let y = occurs_at p hp in
      let name : x.step.in_block.body.label.name ≡ y.step.in_block.body.label.name =
      ap (λ z. z.site.label.name) (sym x.is) ∙ (e ∙ ap (λ z. z.site.label.name) y.is) in
      let list : x.step.in_block.body.operations ≡ y.step.in_block.body.operations =
      ap (λ z. z.operations) (same_block x.step.in_block y.step.in_block name) in
      let i = not_last x.step b (subst (λ z. Has b z.head.successors) x.is hb) in
      let j = not_last y.step c (subst (λ z. Has c z.head.successors) y.is hc) in
      let n : length (operation_list x.step.in_block.body.operations) ≡ length
      (operation_list y.step.in_block.body.operations) = ap (λ z. length (operation_list z)) list in
      let k : x.step.k ≡ y.step.k = omega (arith, i, j, n) in
      let u : x.step.u ≡ y.step.u = some_same x.step.u y.step.u
      (sym x.step.here ∙ ((λ m. slice_get (operation_list (list m)) (k m)) ∙ y.step.here)) in
      good.apart.operations o p ho hp (ap (λ z. z.head.name) x.is
      ∙ (ap (λ z. z.head.name) u ∙ ap (λ z. z.head.name) (sym y.is)))

  -- the block that an edge leads to, in the same region
  pub record EdgeTo (x : Step t) (b : Ptr BasicBlock) : Type 0 where
    pub edge : ℕ
    pub named : slice_get x.u.head.successors edge ≡ Some b
    pub fits : rules.EdgeLeadsTo (kit_world leads old) x.u (around_of t x.in_block x.k) edge b

  index_of : {X : Type 0} (xs : List X) (x : X) → Has x xs → (k : ℕ) × (slice_get xs k ≡ Some x)
  index_of [] x h = absurd h
  index_of (y ∷ xs) x h = ⊎_elim (λ e. (0, ap Some (sym e))) (λ r. let i = index_of xs x r in (suc i.0, i.1)) h

  pub edge_to : (x : Step t) (b : Ptr BasicBlock) → Has b x.u.head.successors → EdgeTo x b
  edge_to x b h =
      let i = index_of x.u.head.successors b h in
      let r : rules.EdgesFit (kit_world leads old) (site_of t x) = keeps x rule.EdgesFit in
      let f = r i.0 b i.1 in
      record {
        edge = i.0;
        named = i.1;
        fits = subst (λ a. rules.EdgeLeadsTo (kit_world leads old) x.u a i.0 b)
            (sym (some_same (around_of t x.in_block x.k) f.0 f.1)) f.2;
      }

  pub edges_local : EdgesLocal t
  edges_local o x ho hx h =
      let y = occurs_at o ho in
      let e = edge_to y.step x.label.name (subst (λ z. Has x.label.name z.head.successors) y.is h) in
      let z = beside t y.step.in_block e.fits.here.0 e.fits.body e.fits.here.1 in
      let p = block_stands t y.step.in_block in
      let q = block_stands t z in
      let same : x ≡ block_of q.spot e.fits.body = good.apart.blocks x (block_of q.spot e.fits.body) hx q.here
      (sym e.fits.named) in
      let own : o.site.spot ≡ p.spot = ap (λ z. z.site.spot) y.is ∙ sym y.spot_is in
      record {
        around = ap (λ z. z.spot.around) same ∙ (q.around ∙ (sym p.around ∙ ap (λ z. z.around) (sym own)));
        region = ap (λ z. z.spot.region) same ∙ (q.region_is ∙ (sym p.region_is ∙ ap (λ z. z.region) (sym own)));
        within = ap (λ z. z.spot.within) same ∙ (q.within_same ∙ (sym p.within_same ∙ ap (λ z. z.within) (sym own)));
      }

  pub orderly : IsOrderly t
  orderly = record {
    operations = good.apart.operations;
    blocks = good.apart.blocks;
    arguments = good.apart.arguments;
    ends = ends_apart;
  }

  pub is_local : IsLocal t
  is_local = record { blocks = good.apart.blocks; edges = edges_local }
