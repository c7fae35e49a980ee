-- No operation outside a function takes a value of it, where the rules are kept.
use Rattle.std.proofs.Common.{◌≡◌, ◌⊎◌, inl, inr, ⊎_elim, Bool, true, false, cond, ◌==◌, List, [], ◌∷◌}
use Rattle.std.proofs.Common.{◌++◌, take, Option, Some, None, slice_get, refl, sym, ap, ◌∙◌, subst}
use Rattle.ir_program.specs.Lists.{StandsInBlock, StandsInRegion, StandsInside, itself, in_block, in_region}
use Rattle.ir_program.specs.Lists.{in_operation, operations_in, blocks_in}
use Rattle.ir_program.specs.Program.{Program}
use Rattle.ir_program.specs.Rows.{operands_at}
use Rattle.ir_program.specs.declared.handles.BasicBlock.{BasicBlock}
use Rattle.ir_program.specs.declared.handles.DefiningEntity.{DefiningEntity}
use Rattle.ir_program.specs.declared.handles.DefiningEntity.TheVariants.{Op as ByOp, Block as ByBlock}
use Rattle.ir_program.specs.declared.handles.IRNode.{IRNode}
use Rattle.ir_program.specs.declared.handles.IRNode.TheVariants.{Operation as OperationNode, Region as RegionNode}
use Rattle.ir_program.specs.declared.handles.IRNode.TheVariants.{BasicBlock as BlockNode}
use Rattle.ir_program.specs.declared.handles.Operation.{Operation}
use Rattle.ir_program.specs.declared.handles.Ptr.{Ptr}
use Rattle.ir_program.specs.declared.handles.Region.{Region}
use Rattle.ir_program.specs.declared.handles.Value.{Value}
use Rattle.ir_trees.specs.Renames.{names_of}
use Rattle.ir_trees.specs.Searched.{Lists}
use Rattle.ir_trees.specs.Stands.{ProgramTree, ProgramHead, ProgramLabel}
use Rattle.ir_trees.proofs.Members.{at_has, has_at, has_either}
use Rattle.opt_trees.specs.Occurrences.{Has}
use Rattle.opt_inside.specs.Occurring.{IsBelowRoot, IsDefinedBelow}
use Rattle.opt_inside.proofs.Added.{HasValues, definer_of}
use Rattle.opt_inside.proofs.Among.{results_are, arguments_are}
use Rattle.opt_inside.proofs.Around.{HasLists, inside_both, not_root, around_operation, around_block}
use Rattle.kit_checks.specs.Located.{IsBody, IsAround, IsAroundIf, IsSiteOf}
use Rattle.kit_checks.specs.Rules.{OperandsAreVisible}
use Rattle.kit_checks.specs.Sites.{Body, Around, Site, operation_list, block_list}
use Rattle.kit_checks.specs.Words as words
use Rattle.kit_checks.specs.Words.{results_of, values_before, values_if, first_body, visible}
use Rattle.kit_checks.specs.World.{World}
use Rattle.kit_checks.proofs.Down.{block_listed, operation_listed, operations_are}
use Rattle.kit_checks.proofs.Trees.{operands_are}
use Rattle.kit_ruled_views.proofs.SmallLists.{taken_has}

module _ {O B : Type 0} (c : Program O B) (lists : HasLists c) (values : HasValues c) where
  -- the definer is the block, or an operation in it
  abbrev IsOfBlock : Ptr BasicBlock → DefiningEntity → Type 0
  IsOfBlock b (ByOp q) = StandsInBlock c q b
  IsOfBlock b (ByBlock a) = a ≡ b

  module _ (b : Ptr BasicBlock) (body : Body O B) (is : IsBody c b body) (v : Value) where
    of_arguments : Has v (words.values_of body.label.arguments) → IsOfBlock b v.definer
    of_arguments has =
        let listed = subst (λ (l : ProgramLabel O B). Has v (names_of l.arguments)) is.label has in
        let defined = definer_of c values (ByBlock b) v (subst (Has v) (arguments_are c b is.view is.there) listed) in
        subst (IsOfBlock b) (sym defined) refl

    of_results : (us : List (ProgramTree O B)) →
        ((u : ProgramTree O B) → Has u us → Has u (operation_list body.operations))
        → Has v (results_of us) → IsOfBlock b v.definer
    of_results [] sub has = absurd has
    of_results (u ∷ us) sub has = ⊎_elim
        (λ here.
        let k = has_at (operation_list body.operations) u (sub u (inl refl)) in
        let it = operation_listed c is.view.operations body.operations is.operations k.0 u k.1 in
        let listed = subst (λ (h : ProgramHead O B). Has v (names_of h.results)) it.1.head here in
        let defined = definer_of c values (ByOp u.head.name) v
        (subst (Has v) (results_are c u.head.name it.1.view it.1.there) listed) in
        let at : slice_get (operations_in c b) k.0 ≡ Some u.head.name =
        ap (λ l. slice_get l k.0) (sym (operations_are c b body is)) ∙ it.0 in
        subst (IsOfBlock b) (sym defined) (lists.operations b k.0 u.head.name at))
        (λ more. of_results us (λ x i. sub x (inr i)) more)
        (has_either (words.values_of u.head.results) (results_of us) v has)

    of_values : (us : List (ProgramTree O B)) →
        ((u : ProgramTree O B) → Has u us → Has u (operation_list body.operations))
        → Has v (words.values_of body.label.arguments ++ results_of us) → IsOfBlock b v.definer
    of_values us sub has =
        ⊎_elim of_arguments (of_results us sub) (has_either (words.values_of body.label.arguments) (results_of us) v
        has)

  -- the definer is of a block of the region
  abbrev IsOfRegion : Ptr Region → Value → Type 0
  IsOfRegion r v = (b : Ptr BasicBlock) × StandsInRegion c b r × IsOfBlock b v.definer

  module _ (root op : Ptr Operation) (a : Around O B) (around : IsAround c root op a) (v : Value) where
    of_entry : (o : Option (Body O B)) → slice_get (block_list a.blocks) 0 ≡ o → Has v (values_if o)
        → IsOfRegion around.region v
    of_entry None here has = absurd has
    of_entry (Some body) here has =
        let l = block_listed c (blocks_in c around.region) a.blocks around.blocks 0 body here in (
          body.label.name,
          lists.blocks around.region 0 body.label.name l.0,
          of_values body.label.name body l.1 v (operation_list body.operations) (λ u i. i) has,
        )

    outside_entry : (first : Bool) → Has v (cond first [] (values_if (first_body a.blocks)))
        → IsOfRegion around.region v
    outside_entry true has = absurd has
    outside_entry false has = of_entry (first_body a.blocks) refl has

    -- a value that is visible is of a block of the region
    visible_region : Has v (visible a) → IsOfRegion around.region v
    visible_region has = ⊎_elim
        (λ front. (
          around.block,
          around.in_region,
          of_values around.block a.body around.body v
              (take a.index (operation_list a.body.operations))
              (λ u i. taken_has a.index (operation_list a.body.operations) u i) front,
        ))
        (outside_entry (a.number == 0))
        (has_either (values_before a.body a.index) (cond (a.number == 0) [] (values_if (first_body a.blocks))) v has)

  -- a block with a value of it inside the function is inside the function
  module _ (function : Ptr Operation) where
    block_inside : (b : Ptr BasicBlock) (v : Value) → IsOfBlock b v.definer → IsDefinedBelow c function v
        → StandsInside c (OperationNode function) (BlockNode b)
    block_inside b v is defined = ⊎_elim
        (λ d.
        let by : v.definer ≡ ByOp d.0 = definer_of c values (ByOp d.0) v
        (subst (Has v) (results_are c d.0 d.1 d.3) d.4) in
        let in_b : StandsInBlock c d.0 b = subst (IsOfBlock b) by is in
        ⊎_elim
        (λ same. let e : d.0 ≡ function = operation_same (sym same) in absurd (d.2.other e))
        (λ inside. inside)
        (around_operation c lists (OperationNode function) d.0 b in_b d.2.inside))
        (λ d.
        let by : v.definer ≡ ByBlock d.0 = definer_of c values (ByBlock d.0) v
        (subst (Has v) (arguments_are c d.0 d.1 d.3) d.4) in
        let same : d.0 ≡ b = subst (IsOfBlock b) by is in
        subst (λ x. StandsInside c (OperationNode function) (BlockNode x)) same d.2)
        defined
      where
        operation_same : {p q : Ptr Operation} → OperationNode p ≡ OperationNode q → p ≡ q
        operation_same e = cc

    region_inside : (b : Ptr BasicBlock) (r : Ptr Region) → StandsInRegion c b r
        → StandsInside c (OperationNode function) (BlockNode b) → StandsInside c (OperationNode function) (RegionNode r)
    region_inside b r in_r inside = ⊎_elim
        (λ same. absurd (cc))
        (λ rest. rest)
        (around_block c lists (OperationNode function) b r in_r inside)

    -- an operation that takes a value of the function, where the rule on operands is kept, is inside the function
    pub taker_inside : (w : World O B) (root op : Ptr Operation) (x : Site O B) → IsSiteOf c root op x
        → OperandsAreVisible w x → (v : Value) → Lists (operands_at c op) v → IsDefinedBelow c function v
        → StandsInside c (OperationNode function) (OperationNode op)
    taker_inside w root op x at keeps v takes defined = go x.around refl at.around
      where
        listed : slice_get x.op.head.operands takes.0 ≡ Some v
        listed = ap (λ l. slice_get l takes.0) (operands_are c op x.op at.tree) ∙ takes.1

        go : (o : Option (Around O B)) → x.around ≡ o → IsAroundIf c root op o
            → StandsInside c (OperationNode function) (OperationNode op)
        go None is around =
            let e : slice_get {X = Value} [] takes.0 ≡ Some v = ap (λ l. slice_get l takes.0) (sym (keeps.root is))
            ∙ listed in
            cc
        go (Some a) is around =
            let sees = keeps.inside a is takes.0 v listed in
            let r = visible_region root op a around v (at_has (visible a) sees.0 v sees.1) in
            let inside = region_inside r.0 around.region r.1 (block_inside r.0 v r.2 defined) in
            in_block op around.block around.in_block (in_region around.block around.region around.in_region inside)

-- ---- what is around a function

module _ {O B : Type 0} (c : Program O B) (lists : HasLists c) (root function : Ptr Operation)
    (inside : StandsInside c (OperationNode root) (OperationNode function)) where
  -- an operation inside another one is this one, or is in a block inside it
  in_a_block : (x e : IRNode) → StandsInside c x e → (p : Ptr Operation) → e ≡ OperationNode p
      → (x ≡ e) ⊎ ((b : Ptr BasicBlock) × StandsInBlock c p b × StandsInside c x (BlockNode b))
  in_a_block x _ itself p is = inl refl
  in_a_block x _ (in_block q b s i) p is =
      let same : q ≡ p = cc in
      inr (b, subst (λ z. StandsInBlock c z b) same s, i)
  in_a_block x _ (in_region b r s i) p is = cc
  in_a_block x _ (in_operation r q s i) p is = cc

  below_root : (p : Ptr Operation) → IsBelowRoot c function p → IsBelowRoot c root p
  below_root p below = record {
    inside = inside_both c (OperationNode root) (OperationNode function) (OperationNode p) inside below.inside;
    other = ⊎_elim
        (λ same. let e : p ≡ function = operation_same (sym same) in absurd (below.other e))
        (λ b. not_root c lists root p b.0 b.1
        (inside_both c (OperationNode root) (OperationNode function) (BlockNode b.0) inside b.2))
        (in_a_block (OperationNode function) (OperationNode p) below.inside p refl);
  }
    where
      operation_same : {p q : Ptr Operation} → OperationNode p ≡ OperationNode q → p ≡ q
      operation_same e = cc

  -- what is defined below the function is defined below the root
  pub defined_higher : (v : Value) → IsDefinedBelow c function v → IsDefinedBelow c root v
  defined_higher v d = ⊎_elim
      (λ g. inl (g.0, g.1, below_root g.0 g.2, g.3, g.4))
      (λ g. inr (
        g.0,
        g.1,
        inside_both c (OperationNode root) (OperationNode function) (BlockNode g.0) inside g.2,
        g.3,
        g.4,
      ))
      d
