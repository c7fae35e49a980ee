-- Where each operation, block and region is as it was without what goes, the tree is so too.
use Rattle.std.proofs.Common.{◌≡◌, inl, inr, ⊎_elim, ℕ, zero, suc, Bool, true, false, cond, not, List, [], ◌∷◌, map, Option, Some, None, is_some, option_map, unwrap_or, slice_get, refl, sym, ap, ◌∙◌, subst}
use Rattle.std.proofs.lemmas.List.{append-nil}
use Rattle.std.specs.Prelude.{if◌then◌else◌}
use Rattle.ir_base.specs.declared.types.TypeHandle.{TypeHandle}
use Rattle.ir_program.specs.Program.{Program, TypedValue, OperationView, BlockView, RegionView, operation_at, block_at, value_in}
use Rattle.ir_program.specs.Definers.{values_at}
use Rattle.ir_program.specs.Erased.{definer_node}
use Rattle.ir_program.specs.Lists.{StandsInside}
use Rattle.ir_program.specs.declared.handles.IRNode.{IRNode}
use Rattle.ir_program.specs.declared.handles.IRNode.TheVariants.{Operation as OperationNode, Region as RegionNode, BasicBlock as BlockNode}
use Rattle.ir_program.specs.declared.handles.DefiningEntity.{DefiningEntity}
use Rattle.ir_program.specs.declared.handles.DefiningEntity.TheVariants.{Block as ByBlock}
use Rattle.ir_program.specs.declared.handles.Ptr.{Ptr}
use Rattle.ir_program.specs.declared.handles.Operation.{Operation}
use Rattle.ir_program.specs.declared.handles.BasicBlock.{BasicBlock}
use Rattle.ir_program.specs.declared.handles.Value.{Value}
use Rattle.ir_trees.specs.Trees.{Defined, Head, Sort, Operations, Blocks, Regions, Tree, end, operation, block, region, Root}
use Rattle.ir_trees.specs.Stands.{by_handle, in_program, ProgramTree, defined_by, no_operations, StandsFor}
use Rattle.ir_trees.specs.Rewrites.{Rewriting, joined, rewritten, rewritten_root, operations_after, in_place, Stays, root, in_operation, in_region, in_block}
use Rattle.ir_trees.specs.ListRewrites.{as_it_is}
use Rattle.ir_trees.proofs.Members.{has_at}
use Rattle.ir_trees.proofs.ListEdited.{AreOrderly, all_blocks, listed_there}
use Rattle.ir_trees.proofs.Rewritten.{rewritten_tree}
use Rattle.opt_trees.specs.Dialect.{Dialect, drop, Lawful}
use Rattle.opt_trees.specs.Occurrences.{Has}
use Rattle.opt_trees.specs.Dce.{Gone, Whole, Slot, gone_at, thin, thin_head, thin_label}
use Rattle.opt_inside.proofs.Around.{HasLists, inside_both, around_operation, around_block, around_region, is_root}
use Rattle.opt_dce.specs.liveness.Plans.{GoesWith}
use Rattle.opt_dce.specs.Steps.{without, GoesBelowRoot, loses, arguments_gone, thin_block, HasThinned}
use Rattle.opt_dce.specs.Thins.{TakesOut}
use Rattle.opt_inside.specs.Outside.{KeepsOutside}
use Rattle.opt_dce.proofs.OutsideLeft.{adds_none, handles_kept}
use Rattle.opt_dce.proofs.Picking.{not_true, drop_none, without_none, drop_map}

module _ {O B A : Type 0} (d : Dialect (in_program O B) A) (g : Gone by_handle) where
  -- what dead code elimination does at each operation and block
  abbrev pub thinning : Rewriting by_handle (in_program O B)
  thinning = record as_it_is { keeps = λ h. not (g.item (Whole h.name)); head = thin_head d g; label = thin_label d g }

  joined_end : (t : Tree by_handle (in_program O B) Operations) → joined t end ≡ t
  joined_end end = refl
  joined_end (operation h rs rest) = ap (operation h rs) (joined_end rest)

  picked : {X : Type 0} (b : Bool) (x y : X) → cond (not b) x y ≡ (if b then y else x)
  picked true x y = refl
  picked false x y = refl

  thinned : (s : Sort) (t : Tree by_handle (in_program O B) s) → rewritten thinning t ≡ thin d g t
  thinned _ end = refl
  thinned _ (operation h rs rest) =
      let below = thinned Regions rs in
      let later = thinned Operations rest in
      (λ i. cond (not (g.item (Whole h.name))) (operation (thin_head d g h) (below i) (later i)) (later i))
      ∙ picked (g.item (Whole h.name)) (operation (thin_head d g h) (thin d g rs) (thin d g rest)) (thin d g rest)
  thinned _ (block l ops rest) =
      let inner : joined (rewritten thinning ops) end ≡ thin d g ops = joined_end (rewritten thinning ops) ∙ thinned Operations ops in
      let later = thinned Blocks rest in
      λ i. block (thin_label d g l) (inner i) (later i)
  thinned _ (region bs rest) =
      let inner = thinned Blocks bs in
      let later = thinned Regions rest in
      λ i. region (inner i) (later i)

  -- what is gone of nothing
  module _ (law : Lawful d) where
    pub loses_none : (picks : ℕ → Bool) (v : OperationView O) → ((i : ℕ) → picks i ≡ false) → loses d picks v ≡ v
    loses_none picks v none =
        let all : picks ≡ (λ i. false) = λ j i. none i j in
        ap (λ p. loses d p v) all ∙ (λ j. record v { payload = law.drop_no_operands v.payload j; operands = drop_none v.operands j })

pub value_of : (ts : List TypedValue) (i : ℕ) (x : Defined Value TypeHandle) → slice_get (map defined_by ts) i ≡ Some x → value_in ts i ≡ Some x.name
value_of [] i x e = cc
value_of (t ∷ ts) zero x e = ap (option_map (λ (y : Defined Value TypeHandle). y.name)) e
value_of (t ∷ ts) (suc i) x e = value_of ts i x e

module _ {O B A : Type 0} (d : Dialect (in_program O B) A) (law : Lawful d) (old new : Program O B) (lists : HasLists old) (op : Ptr Operation) (g : Gone by_handle) (below : GoesBelowRoot old op g) where
  -- what is inside something that goes is below the root
  under_root : (e : IRNode) → GoesWith old g e → StandsInside old (OperationNode op) e
  under_root e h = inside_both old (OperationNode op) (OperationNode h.0) e (below.operations h.0 h.1).inside h.2

  pub root_stays : GoesWith old g (OperationNode op) → ⊥
  root_stays h =
      let b = below.operations h.0 h.1 in
      let e : OperationNode h.0 ≡ OperationNode op = is_root old lists op (OperationNode h.0) b.inside h.2 in
      let s : h.0 ≡ op = cc in
      b.other s

  pub no_operand : (p : Ptr Operation) → (StandsInside old (OperationNode op) (OperationNode p) → ⊥) → (i : ℕ) → g.operand p i ≡ false
  no_operand p out i = not_true (g.operand p i) (λ h. out (below.operands p i h).inside)

  pub root_operands : (i : ℕ) → g.operand op i ≡ false
  root_operands i = not_true (g.operand op i) (λ h. (below.operands op i h).other refl)

  -- what stays doesn't go
  stays : (e : IRNode) → Stays old (thinning d g) op e → GoesWith old g e → ⊥
  stays _ root h = root_stays h
  stays _ (in_operation p v r s there listed) h =
      let at = lists.regions p listed.0 r (ap (λ o. slice_get (unwrap_or (option_map (λ (x : OperationView O). x.regions) o) []) listed.0) there ∙ listed.1) in
      ⊎_elim (λ (e : OperationNode h.0 ≡ RegionNode r). cc) (λ i. stays (OperationNode p) s (h.0, h.1, i)) (around_region old lists (OperationNode h.0) r p at h.2)
  stays _ (in_region r v b l s there listed is keeps) h =
      let at = lists.blocks r listed.0 b (ap (λ o. slice_get (unwrap_or (option_map (λ (x : RegionView). x.blocks) o) []) listed.0) there ∙ listed.1) in
      ⊎_elim (λ (e : OperationNode h.0 ≡ BlockNode b). cc) (λ i. stays (RegionNode r) s (h.0, h.1, i)) (around_block old lists (OperationNode h.0) b r at h.2)
  stays _ (in_block b l p v s there listed is keeps) h =
      let at = lists.operations b listed.0 p (ap (λ o. slice_get (unwrap_or (option_map (λ (x : BlockView B). x.operations) o) []) listed.0) there ∙ listed.1) in
      ⊎_elim
      (λ (e : OperationNode h.0 ≡ OperationNode p). let same : p ≡ h.0 = cc in let goes : g.item (Whole p) ≡ true = ap (λ q. g.item (Whole q)) same ∙ h.1 in let f : not (g.item (Whole p)) ≡ false = ap not goes in cc)
      (λ i. stays (BlockNode b) s (h.0, h.1, i))
      (around_operation old lists (OperationNode h.0) p b at h.2)

  orderly : AreOrderly old
  orderly = record { operations_once = lists.operations_once; blocks_once = lists.blocks_once; regions_once = lists.regions_once; operations = lists.operations; blocks = lists.blocks; apart = lists.operation_apart }

  -- the operations of a block that stay
  left : (ps : List (Ptr Operation)) → ((q : Ptr Operation) → Has q ps → (v : OperationView O) × (operation_at old q ≡ Some v)) → without (λ p. g.item (Whole p)) ps ≡ operations_after old (thinning d g) ps
  left [] there = refl
  left (p ∷ ps) there =
      let v = there p (inl refl) in
      let rest = left ps (λ q h. there q (inr h)) in
      sym (ap (λ o. in_place old (thinning d g) p o (operations_after old (thinning d g) ps)) v.1
      ∙ picked d g (g.item (Whole p)) (p ∷ operations_after old (thinning d g) ps) (operations_after old (thinning d g) ps)
      ∙ (λ i. if g.item (Whole p) then sym rest i else p ∷ sym rest i))

  pub tree_thinned : HasThinned d g old new → (t : ProgramTree O B) → StandsFor old op t → StandsFor new op (record { head = t.head; regions = thin d g t.regions })
  tree_thinned all t stands =
      let w = thinning d g in
      let whole : StandsFor new op (rewritten_root w t) = rewritten_tree old new op w (record {
        operations = λ p v s there. (loses d (g.operand p) v, all.operations p (stays (OperationNode p) s) ∙ ap (option_map (loses d (g.operand p))) there, refl, refl);
        regions = λ r v s there. (v, all.regions r (stays (RegionNode r) s) ∙ there, sym (all_blocks old orderly w (λ x l. refl) r v there));
        blocks = λ b v s there. (
          thin_block d g v,
          all.blocks b (stays (BlockNode b) s) ∙ ap (option_map (thin_block d g)) there,
          (λ i. record { name = b; content = d.drop_names v.payload (arguments_gone d g v); arguments = drop_map defined_by (arguments_gone d g v) v.arguments i }),
          left v.operations (listed_there old orderly b v there) ∙ sym (append-nil (operations_after old w v.operations)),
        );
        around = λ p v b l s e i there. (no_operations, no_operations);
        ends = λ b v s there. (no_operations, no_operations);
      }) t stands in
      let name : t.head.name ≡ op = ap (λ (h : Head by_handle (in_program O B)). h.name) stands.head in
      let none : (i : ℕ) → g.operand t.head.name i ≡ false = λ i. ap (λ q. g.operand q i) name ∙ root_operands i in
      let all_none : g.operand t.head.name ≡ (λ i. false) = λ j i. none i j in
      let head : thin_head d g t.head ≡ t.head = ap (λ (p : ℕ → Bool). record t.head { content = d.drop_operands t.head.content p; operands = drop p t.head.operands }) all_none
      ∙ (λ j. record t.head { content = law.drop_no_operands t.head.content j; operands = drop_none t.head.operands j }) in
      subst (λ (r : Root by_handle (in_program O B)). StandsFor new op r) (λ j. record { head = head j; regions = thinned d g Regions t.regions j }) whole

  -- the definers of values
  module _ (definer : (e : DefiningEntity) (k : ℕ) (v : Value) → value_in (values_at old e) k ≡ Some v → v.definer ≡ e) where
    none_gone : (b : Ptr BasicBlock) (v : BlockView B) → (StandsInside old (OperationNode op) (BlockNode b) → ⊥) → block_at old b ≡ Some v → (i : ℕ) → arguments_gone d g v i ≡ false
    none_gone b v out there i = gone_or_none (slice_get (map defined_by v.arguments) i) refl where
      gone_or_none : (o : Option (Defined Value TypeHandle)) → slice_get (map defined_by v.arguments) i ≡ o → gone_at g o ≡ false
      gone_or_none None e = refl
      gone_or_none (Some x) e = not_true (g.item (Slot x.name)) (λ h.
          let at : value_in (values_at old (ByBlock b)) i ≡ Some x.name = ap (λ o. value_in (unwrap_or (option_map (λ (y : BlockView B). y.arguments) o) []) i) there ∙ value_of v.arguments i x e in
          out (subst (λ y. StandsInside old (OperationNode op) (definer_node y)) (definer (ByBlock b) i x.name at) (below.arguments x.name h)))

    none_goes : (b : Ptr BasicBlock) (v : BlockView B) → (StandsInside old (OperationNode op) (BlockNode b) → ⊥) → block_at old b ≡ Some v → (q : Ptr Operation) → Has q v.operations → g.item (Whole q) ≡ false
    none_goes b v out there q has = not_true (g.item (Whole q)) (λ h.
        let k = has_at v.operations q has in
        let at = lists.operations b k.0 q (ap (λ o. slice_get (unwrap_or (option_map (λ (x : BlockView B). x.operations) o) []) k.0) there ∙ k.1) in
        let root_below = below.operations q h in
        ⊎_elim (λ (e : OperationNode op ≡ OperationNode q). let same : q ≡ op = cc in root_below.other same) (λ i. out i) (around_operation old lists (OperationNode op) q b at root_below.inside))

    block_same : (b : Ptr BasicBlock) (v : BlockView B) → (StandsInside old (OperationNode op) (BlockNode b) → ⊥) → block_at old b ≡ Some v → thin_block d g v ≡ v
    block_same b v out there =
        let none : arguments_gone d g v ≡ (λ i. false) = λ j i. none_gone b v out there i j in
        let same = without_none (λ p. g.item (Whole p)) v.operations (none_goes b v out there) in
        ap (λ (p : ℕ → Bool). record v { payload = d.drop_names v.payload p; arguments = drop p v.arguments; operations = without (λ q. g.item (Whole q)) v.operations }) none
        ∙ (λ j. record v { payload = law.drop_no_names v.payload j; arguments = drop_none v.arguments j; operations = same j })

    pub outside : HasThinned d g old new → KeepsOutside old new op
    outside all = record {
      operations = λ p v out there. all.operations p (λ h. out (under_root (OperationNode p) h)) ∙ ap (option_map (loses d (g.operand p))) there ∙ ap Some (loses_none d g law (g.operand p) v (no_operand p out));
      blocks = λ b v out there. all.blocks b (λ h. out (under_root (BlockNode b) h)) ∙ ap (option_map (thin_block d g)) there ∙ ap Some (block_same b v out there);
      regions = λ r v out there. all.regions r (λ h. out (under_root (RegionNode r) h)) ∙ there;
    }

    pub taken_out : HasThinned d g old new → (t : ProgramTree O B) → StandsFor old op t → TakesOut d old new op g t
    taken_out all t stands = record { stands = tree_thinned all t stands; erased = all.gone; outside = outside all; none_come = adds_none d old new op g below all; handles = handles_kept d old new op g below all (ap is_some stands.there) }
