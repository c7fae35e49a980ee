-- What is left outside an operation where some of the branches below it are decided.
use Rattle.std.proofs.Common.{◌≡◌, ⊎_elim, inl, inr, List, [], ◌∷◌, map, Option, Some, None, IsSome}
use Rattle.std.proofs.Common.{option_map, unwrap_or, slice_get, refl, sym, ap, ◌∙◌, subst}
use Rattle.std.proofs.lemmas.Option.{slice_get-map}
use Rattle.ir_program.specs.Lists.{operations_in, blocks_in, regions_in, StandsInBlock}
use Rattle.ir_program.specs.Lists.{StandsInside, itself, in_block, in_region, in_operation}
use Rattle.ir_program.specs.Program.{Program, OperationView, BlockView, RegionView, operation_at, block_at}
use Rattle.ir_program.specs.declared.handles.BasicBlock.{BasicBlock}
use Rattle.ir_program.specs.declared.handles.IRNode.{IRNode}
use Rattle.ir_program.specs.declared.handles.IRNode.TheVariants.{Operation as OperationNode, BasicBlock as BlockNode}
use Rattle.ir_program.specs.declared.handles.IRNode.TheVariants.{Region as RegionNode}
use Rattle.ir_program.specs.declared.handles.Operation.{Operation}
use Rattle.ir_program.specs.declared.handles.Ptr.{Ptr}
use Rattle.ir_program.specs.declared.handles.Region.{Region}
use Rattle.ir_trees.specs.Stands.{in_program}
use Rattle.ir_trees.proofs.Members.{Has, has_at}
use Rattle.opt_decide.specs.Phase.{CarriesOutPart}
use Rattle.opt_decide.specs.Replaced.{along}
use Rattle.opt_decide.specs.declared.plan.Decision.{Decision}
use Rattle.opt_decide.proofs.Carried.{among_or_not, bare_branch}
use Rattle.opt_decide.proofs.Folded.{same_some}
use Rattle.opt_decide.proofs.InsideDecided.{made_of}
use Rattle.opt_decide.proofs.NamesDecided.{not_none}
use Rattle.opt_inside.specs.Outside.{AddsNoneOutside, KeepsOutside}
use Rattle.opt_inside.proofs.Around.{around_operation}
use Rattle.opt_trees.specs.Dialect.{Dialect}
use Rattle.pass_outside.specs.Sound.{IsSound}
use Rattle.pass_outside.proofs.LeftBy.{BringsNoOldInside}
use Rattle.pass_outside.proofs.Outside.{some_of, is_some, has_lists}

map_on : {X : Type 0} (f : X → X) (xs : List X) → ((x : X) → Has x xs → f x ≡ x) → map f xs ≡ xs
map_on f [] same = refl
map_on f (x ∷ xs) same =
    let e = same x (inl refl) in
    let s = map_on f xs (λ y h. same y (inr h)) in
    λ i. e i ∷ s i

there_if : {X Y : Type 0} (f : X → Y) (o : Option X) → IsSome o → IsSome (option_map f o)
there_if f None h = absurd (cc h)
there_if f (Some x) h = refl

module _ {O B A : Type 0} (d : Dialect (in_program O B) A) (old new : Program O B) (op : Ptr Operation) (was : IsSound old)
    (live : IsSome (operation_at old op)) (part : CarriesOutPart d old new op) where
  abbrev ds : List Decision
  ds = part.decisions

  abbrev names : Ptr Operation → Ptr Operation
  names = part.decided.names

  -- ---- outside

  in_kept : (b : Ptr BasicBlock) (v : BlockView B) → (StandsInside old (OperationNode op) (BlockNode b) → ⊥)
      → block_at old b ≡ Some v → (p : Ptr Operation) → Has p v.operations → names p ≡ p
  in_kept b v out there p has =
      let k = has_at v.operations p has in
      let s : StandsInBlock old p b = was.operations b k.0 p
      (ap (λ o. slice_get (unwrap_or (option_map (λ (x : BlockView B). x.operations) o) []) k.0) there ∙ k.1) in
      part.decided.same p (λ x l e. ⊎_elim
      (λ (r : OperationNode op ≡ OperationNode p). let same : p ≡ op = cc in (part.are.below x l).other (e ∙ same))
      out
      (around_operation old (has_lists old was) (OperationNode op) p b s
      (subst (λ z. StandsInside old (OperationNode op) (OperationNode z)) e (part.are.below x l).inside)))

  pub part_outside : KeepsOutside old new op
  part_outside = record {
    operations = λ p v out there. part.decided.others p v there
        (λ x l e. out (subst (λ z. StandsInside old (OperationNode op) (OperationNode z)) e (part.are.below x l).inside));
    blocks = λ b v out there. part.decided.blocks b
        ∙ ap (option_map (λ (l : BlockView B). record l { operations = map names l.operations })) there
        ∙ (let e = map_on names v.operations (in_kept b v out there) in λ i. Some (record v { operations = e i }));
    regions = λ r v out there. part.decided.regions r ∙ there;
  }

  -- ---- what becomes of what is there

  root_same : names op ≡ op
  root_same = part.decided.same op (λ x l e. (part.are.below x l).other e)

  -- an operation is there under its name, with the regions that it had
  record IsNow (p : Ptr Operation) : Type 0 where
    view : OperationView O
    there : operation_at new (names p) ≡ Some view
    regions : view.regions ≡ regions_in old p

  regions_of : (c : Program O B) (p : Ptr Operation) (v : OperationView O) → operation_at c p ≡ Some v
      → regions_in c p ≡ v.regions
  regions_of c p v there = ap (λ o. unwrap_or (option_map (λ (z : OperationView O). z.regions) o) []) there

  now : (p : Ptr Operation) (v : OperationView O) → operation_at old p ≡ Some v → IsNow p
  now p v there = ⊎_elim
      (λ h.
      let x : Decision = h.0 in
      let m = part.decided.done x h.1 in
      let bare = bare_branch d old x.op x.edge (part.are.sound x h.1) in
      let at : operation_at old x.op ≡ Some v = ap (operation_at old) h.2 ∙ there in
      let own : bare.view ≡ v = same_some bare.view v (sym bare.there ∙ at) in
      record {
        view = along d m.view x.edge m.payload;
        there = ap (λ z. operation_at new (names z)) (sym h.2) ∙ m.made;
        regions = sym (regions_of old p v there ∙ ap (λ (w : OperationView O). w.regions) (sym own) ∙ bare.regions);
      })
      (λ none. record {
        view = v;
        there = ap (operation_at new) (part.decided.same p none) ∙ part.decided.others p v there none;
        regions = sym (regions_of old p v there);
      })
      (among_or_not ds p)

  live_now : (p : Ptr Operation) → IsSome (operation_at old p) → IsSome (operation_at new (names p))
  live_now p there =
      let v = some_of (operation_at old p) there in
      let n = now p v.0 v.1 in
      is_some (operation_at new (names p)) n.view n.there

  pub part_live : IsSome (operation_at new op)
  part_live = subst (λ z. IsSome (operation_at new z)) root_same (live_now op live)

  regions_same : (p : Ptr Operation) → IsSome (operation_at old p) → regions_in new (names p) ≡ regions_in old p
  regions_same p there =
      let v = some_of (operation_at old p) there in
      let n = now p v.0 v.1 in
      regions_of new (names p) n.view n.there ∙ n.regions

  operations_now : (b : Ptr BasicBlock) → operations_in new b ≡ map names (operations_in old b)
  operations_now b = ap (λ o. unwrap_or (option_map (λ (v : BlockView B). v.operations) o) []) (part.decided.blocks b)
      ∙ of_block (block_at old b)
    where
      of_block : (o : Option (BlockView B))
          → unwrap_or (option_map (λ (v : BlockView B). v.operations)
          (option_map (λ (l : BlockView B). record l { operations = map names l.operations }) o)) []
          ≡ map names (unwrap_or (option_map (λ (v : BlockView B). v.operations) o) [])
      of_block None = refl
      of_block (Some l) = refl

  blocks_now : (r : Ptr Region) → blocks_in new r ≡ blocks_in old r
  blocks_now r = ap (λ o. unwrap_or (option_map (λ (v : RegionView). v.blocks) o) []) (part.decided.regions r)

  block_there : (b : Ptr BasicBlock) → IsSome (block_at old b) → IsSome (block_at new b)
  block_there b there = subst IsSome (sym (part.decided.blocks b))
      (there_if (λ (l : BlockView B). record l { operations = map names l.operations }) (block_at old b) there)

  -- ---- what is inside

  abbrev under_name : IRNode → IRNode
  under_name (OperationNode p) = OperationNode (names p)
  under_name (BlockNode b) = BlockNode b
  under_name (RegionNode r) = RegionNode r

  -- what was inside is so still, under its name
  inside_now : (e : IRNode) → StandsInside old (OperationNode op) e → StandsInside new (OperationNode op) (under_name e)
  inside_now _ itself = subst (λ z. StandsInside new (OperationNode op) (OperationNode z)) (sym root_same) itself
  inside_now _ (in_block p b s i) = in_block (names p) b (record {
    operation = live_now p s.operation;
    block = block_there b s.block;
    index = s.index;
    here = ap (λ xs. slice_get xs s.index) (operations_now b) ∙ slice_get-map names (operations_in old b) s.index
        ∙ ap (option_map names) s.here;
  }) (inside_now (BlockNode b) i)
  inside_now _ (in_region b r s i) = in_region b r (record {
    block = block_there b s.block;
    region = subst IsSome (sym (part.decided.regions r)) s.region;
    index = s.index;
    here = ap (λ xs. slice_get xs s.index) (blocks_now r) ∙ s.here;
  }) (inside_now (RegionNode r) i)
  inside_now _ (in_operation r p s i) = in_operation r (names p) (record {
    region = subst IsSome (sym (part.decided.regions r)) s.region;
    operation = live_now p s.operation;
    index = s.index;
    here = ap (λ xs. slice_get xs s.index) (regions_same p s.operation) ∙ s.here;
  }) (inside_now (OperationNode p) i)

  abbrev WasInside : IRNode → Type 0
  WasInside (OperationNode q) = (p : Ptr Operation) × (names p ≡ q) × IsSome (operation_at old p)
      × StandsInside old (OperationNode op) (OperationNode p)
  WasInside (BlockNode b) = StandsInside old (OperationNode op) (BlockNode b)
  WasInside (RegionNode r) = StandsInside old (OperationNode op) (RegionNode r)

  -- what is inside was so, under the name that it had
  inside_was : (e : IRNode) → StandsInside new (OperationNode op) e → WasInside e
  inside_was _ itself = (op, root_same, live, itself)
  inside_was _ (in_block q b s i) =
      let p = made_of names (operations_in old b) s.index q
      (ap (λ xs. slice_get xs s.index) (sym (operations_now b)) ∙ s.here) in
      let at = was.operations b s.index p.0 p.2 in
      (p.0, p.1, at.operation, in_block p.0 b at (inside_was (BlockNode b) i))
  inside_was _ (in_region b r s i) =
      in_region b r (was.blocks r s.index b (ap (λ xs. slice_get xs s.index) (sym (blocks_now r)) ∙ s.here))
      (inside_was (RegionNode r) i)
  inside_was _ (in_operation r q s i) =
      let p = inside_was (OperationNode q) i in
      let at : slice_get (regions_in old p.0) s.index ≡ Some r =
      ap (λ xs. slice_get xs s.index) (sym (regions_same p.0 p.2))
      ∙ ap (λ z. slice_get (regions_in new z) s.index) p.1 ∙ s.here in
      in_operation r p.0 (was.regions p.0 s.index r at) p.3

  pub part_inside : BringsNoOldInside old new op
  part_inside = record {
    operations = λ q there i.
        let p = inside_was (OperationNode q) i in
        ⊎_elim
        (λ h. absurd (not_none (operation_at old q) there
        (ap (operation_at old) (sym p.1 ∙ ap names (sym h.2)) ∙ (part.decided.done h.0 h.1).fresh)))
        (λ none. subst (λ z. StandsInside old (OperationNode op) (OperationNode z))
        (sym (part.decided.same p.0 none) ∙ p.1) p.3)
        (among_or_not ds p.0);
    blocks = λ b there i. inside_was (BlockNode b) i;
  }

  pub part_none_come : AddsNoneOutside old new op
  part_none_come p there out =
      let v = some_of (operation_at new p) there in (
        ⊎_elim
            (λ (same : operation_at old p ≡ Some v.0). is_some (operation_at old p) v.0 same)
            (λ x. absurd (out (subst (λ z. StandsInside new (OperationNode op) (OperationNode z)) x.2
            (inside_now (OperationNode x.0.op) (part.are.below x.0 x.1).inside))))
            (part.decided.came p v.0 v.1),
        λ i. ⊎_elim
            (λ h. not_none (operation_at new p) there
            (ap (operation_at new) (sym h.2) ∙ (part.decided.done h.0 h.1).gone.0))
            (λ none. out (subst (λ z. StandsInside new (OperationNode op) (OperationNode z)) (part.decided.same p none)
            (inside_now (OperationNode p) i)))
            (among_or_not ds p),
      )
