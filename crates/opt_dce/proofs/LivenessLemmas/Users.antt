-- What goes is used by what goes alone.
use Rattle.std.proofs.Common.{◌≡◌, ◌⊎◌, inl, inr, ⊎_elim, ℕ, suc, true, Some, slice_get, refl, sym, ap, subst, ◌∙◌, arith}
use Rattle.std.proofs.lemmas.Option.{same_Some}
use Rattle.ir_program.specs.Program.{Program, IsLiveValue, block_at, value_in}
use Rattle.ir_program.specs.Erased.{definer_node}
use Rattle.ir_program.specs.Lists.{StandsInside, StandsInRegion, itself, in_block, in_region, in_operation}
use Rattle.ir_program.specs.Rows.{operands_at, successors_at}
use Rattle.ir_program.specs.declared.handles.IRNode.{IRNode}
use Rattle.ir_program.specs.declared.handles.IRNode.TheVariants.{Operation as OperationNode, Region as RegionNode, BasicBlock as BlockNode}
use Rattle.ir_program.specs.declared.handles.DefiningEntity.{DefiningEntity}
use Rattle.ir_program.specs.declared.handles.DefiningEntity.TheVariants.{Op as ByOp, Block as ByBlock}
use Rattle.ir_program.specs.declared.handles.Ptr.{Ptr}
use Rattle.ir_program.specs.declared.handles.Operation.{Operation}
use Rattle.ir_program.specs.declared.handles.BasicBlock.{BasicBlock}
use Rattle.ir_program.specs.declared.handles.Region.{Region}
use Rattle.ir_program.specs.declared.handles.Value.{Value}
use Rattle.ir_trees.specs.Searched.{Lists}
use Rattle.ir_trees.specs.Stands.{in_program}
use Rattle.opt_trees.specs.Dialect.{Dialect}
use Rattle.opt_trees.specs.Dce.{Whole, Slot}
use Rattle.opt_rows.specs.declared.dead_problem.Definer.{Definer}
use Rattle.opt_rows.specs.declared.dead_problem.Definer.TheVariants.{Result, Argument as ByArgument, Outside}
use Rattle.opt_rows.specs.declared.dead_problem.Operand.{Operand}
use Rattle.opt_rows.specs.DeadCandidates.{Candidate}
use Rattle.opt_rows.specs.declared.dead_problem.DeadProblem.{DeadProblem}
use Rattle.opt_rows.specs.declared.dead_problem.DeadItems.{DeadItems}
use Rattle.opt_rows.specs.Dead.{NumberedItem as Number, Whole as WholeAt, Slot as SlotAt, IsInOperation, further, IsInner, ItemMakes, IsKeptItem as IsKeptAt, IsDeadItem as IsDeadAt, dies as dies_at, IsExcusedOperand as IsExcusedAt, by_operation as by_operation_at, by_argument as by_argument_at, CountsForItem, HasOperand, IsDeadProblem}
use Rattle.opt_inside.specs.Numbered.{Numbers}
use Rattle.opt_inside.proofs.Around.{inside_both, around_block}
use Rattle.opt_dce.specs.liveness.Plans.{GoesWith, IsGoing, UsesGo}
use Rattle.opt_dce.specs.liveness.Problems.{IsDefiner, IsKeptValue}
use Rattle.opt_dce.proofs.LivenessLemmas.Ground.{Ground, at_index, results_here, arguments_here, value_in_has}
use Rattle.opt_dialect.proofs.Removing.{the_some}
use Rattle.opt_dce.proofs.LivenessLemmas.Within.{block_around, row_of, below_of, number_of, below_in_block, below_is, argument_is, inside_of, decide_in}
use Rattle.opt_dce.proofs.LivenessLemmas.Made.{at_definer, by_operation_of, by_argument_of}
use Rattle.opt_dce.proofs.LivenessLemmas.Dying.{contains_at, start_of}
use Rattle.opt_dce.proofs.LivenessLemmas.Decide.{look, same_handle, truth_yes, truth_of}
use Rattle.opt_dce.proofs.LivenessLemmas.Going.{Solved, gone, told_item, told_operand, slot_by, may_at}

-- the region that a block inside an operation stands in
pub region_around : {O B : Type 0} (c : Program O B) (x : Ptr Operation) (e : IRNode) (b : Ptr BasicBlock) → StandsInside c (OperationNode x) e → e ≡ BlockNode b → (r : Ptr Region) × StandsInRegion c b r × StandsInside c (OperationNode x) (RegionNode r)
region_around c x _ b itself same = cc
region_around c x _ b (in_region a r s i) same = let e : a ≡ b = cc in (r, subst (λ z. StandsInRegion c z r) e s, i)
region_around c x _ b (in_block q a s i) same = cc
region_around c x _ b (in_operation r q s i) same = cc

module _ {O B A : Type 0} {d : Dialect (in_program O B) A} {c : Program O B} {op : Ptr Operation} {n : Numbers} {problem : DeadProblem} (g : Ground d c op n problem) (items : DeadItems) (up : IsDeadProblem problem) (solved : Solved problem items) where
  -- a dead item makes the value
  record Going (v : Value) : Type 0 where
    item : Number
    dead : IsDeadAt problem item
    definer : Definer
    is : IsDefiner n v definer
    makes : ItemMakes problem item definer

  -- a value that is made inside has a number
  listed : (v : Value) → IsLiveValue c v → (e : Definer) → IsDefiner n v e → (e ≡ Outside → ⊥) → Lists n.values v
  listed v live (Result b) i inner =
      let r = row_of g b i.0 i.2 in
      let k = at_definer g v live (ByOp i.0) i.1 in
      (g.numbers.values v).1 (inl (i.0, r.2.view, below_of g b i.0 i.2, r.2.there, value_in_has r.2.view.results k.0 v (ap (λ ts. value_in ts k.0) (sym (results_here c i.0 r.2.view r.2.there)) ∙ k.1)))
  listed v live (ByArgument k) i inner = (k, i.2)
  listed v live Outside i inner = absurd (inner refl)

  not_outside : (x : Number) (e : Definer) → ItemMakes problem x e → e ≡ Outside → ⊥
  not_outside (WholeAt a) e m q = ⊎_elim (λ r. cc (r, q)) (λ i. subst (IsInner problem a) q i) m
  not_outside (SlotAt k) e m q = cc (m, q)

  -- the definer of a value is one
  one_definer : (v : Value) (e x : Definer) → IsDefiner n v e → (e ≡ Outside → ⊥) → IsDefiner n v x → x ≡ e
  one_definer v (Result b) x i inner j = by_operation_of g v x b i.0 j i.1 i.2
  one_definer v (ByArgument k) x i inner j = by_argument_of g v x k i.0 j i.1 i.2
  one_definer v Outside x i inner j = absurd (inner refl)

  -- what is inside an operation that goes
  inside_going : (v : Value) → IsLiveValue c v → (a : Ptr Operation) (k : ℕ) → slice_get n.operations k ≡ Some a → IsDeadAt problem (WholeAt k) → (e : DefiningEntity) → v.definer ≡ e → StandsInside c (OperationNode a) (definer_node e) → Going v
  inside_going v live a k h dead (ByOp q) by i = ⊎_elim
      (λ same. record { item = WholeAt k; dead = dead; definer = Result k; is = (a, by ∙ ap ByOp (sym same), h); makes = inl refl })
      (λ other.
      let b = block_around c (OperationNode a) (OperationNode q) q i refl (λ z. let s : a ≡ q = cc in other s) in
      let m = number_of g q (below_in_block g q b.0 b.1 (inside_both c (OperationNode op) (OperationNode a) (BlockNode b.0) (below_of g k a h).inside b.2)) in
      record { item = WholeAt k; dead = dead; definer = Result m.0; is = (q, by, m.1); makes = inr (below_is g k m.0 a q h m.1 b.0 b.1 b.2) })
      (same_handle a q)
  inside_going v live a k h dead (ByBlock b) by i =
      let below = inside_both c (OperationNode op) (OperationNode a) (BlockNode b) (below_of g k a h).inside i in
      let view = the_some (block_at c b) (g.there.blocks b ((g.numbers.blocks b).1 below)) in
      let at = at_definer g v live (ByBlock b) by in
      let m = (g.numbers.values v).1 (inr (b, view.0, below, view.1, value_in_has view.0.arguments at.0 v (ap (λ ts. value_in ts at.0) (sym (arguments_here c b view.0 view.1)) ∙ at.1))) in
      record { item = WholeAt k; dead = dead; definer = ByArgument m.0; is = (b, by, m.1); makes = inr (argument_is g k m.0 a v b h m.1 by i) }

  going : (v : Value) → IsLiveValue c v → IsGoing c (gone g items) v → Going v
  going v live w = ⊎_elim
      (λ s. let m = truth_yes (told_item g items (Whole s.0)) s.1 in inside_going v live s.0 m.0 m.1 ((solved.operations m.0).0 m.2) v.definer refl s.2)
      (λ s. let m = truth_yes (told_item g items (Slot v)) s in
      let dead = (solved.arguments m.0).0 m.2 in
      let b = slot_by g items m.0 v m.1 (may_at g items (SlotAt m.0) dead) in
      record { item = SlotAt m.0; dead = dead; definer = ByArgument m.0; is = (b.0, b.1, m.1); makes = refl })
      w

  -- an operation with a number inside a dead one goes
  goes_with : (a j : ℕ) (p : Ptr Operation) → slice_get n.operations j ≡ Some p → IsInOperation problem a j → IsDeadAt problem (WholeAt a) → GoesWith c (gone g items) (OperationNode p)
  goes_with a j p h i dead =
      let q = start_of g a j i p h in
      (q.0, truth_of (told_item g items (Whole q.0)) (a, q.1, (solved.operations a).1 dead), inside_of g a j i q.0 p q.1 h)

  excused_goes : (j : ℕ) (o : Operand) → IsExcusedAt problem j o → (p : Ptr Operation) → slice_get n.operations j ≡ Some p → (k : ℕ) (row : Candidate) → slice_get problem.operations j ≡ Some row → slice_get row.operands k ≡ Some o → GoesWith c (gone g items) (OperationNode p) ⊎ ((gone g items).operand p k ≡ true)
  excused_goes _ _ (by_operation_at j o a i dead) p h k row rt ot = inl (goes_with a j p h i dead)
  excused_goes _ _ (by_argument_at j o x e dead) p h k row rt ot = inr (truth_of (told_operand g items p k) (row, (j, h, rt), (o, x, ot, e, (solved.arguments x).1 dead)))

  not_kept : (x : Number) → IsDeadAt problem x → IsKeptAt problem x → ⊥
  not_kept _ (dies_at x may kept uses) = kept

  excuse : (x : Number) → IsDeadAt problem x → (j : ℕ) (o : Operand) → HasOperand problem j o → CountsForItem problem x o.definer j → IsExcusedAt problem j o
  excuse _ (dies_at x may kept uses) = uses

  -- the operation that uses it is in the item, or its use counts
  counts_or : (x : Number) → IsDeadAt problem x → (e : Definer) → ItemMakes problem x e → (j : ℕ) (p : Ptr Operation) → slice_get n.operations j ≡ Some p → GoesWith c (gone g items) (OperationNode p) ⊎ CountsForItem problem x e j
  counts_or (WholeAt a) dead e m j p h = ⊎_elim
      (λ r. inr (inl r))
      (λ i. ⊎_elim
      (λ inn. inl (goes_with a j p h inn dead))
      (λ out. inr (inr (i, λ w. out (further j w.parent w.candidate w.there w.around w.inside))))
      (decide_in g up.around (suc j) a j (omega arith)))
      m
  counts_or (SlotAt k) dead e m j p h = inr m

  value_goes : (p : Ptr Operation) (k : ℕ) (v : Value) → slice_get (operands_at c p) k ≡ Some v → Going v → GoesWith c (gone g items) (OperationNode p) ⊎ ((gone g items).operand p k ≡ true)
  value_goes p k v h w = ⊎_elim
      (λ l.
      let r = row_of g l.0 p l.1 in
      let o = at_index (operands_at c p) r.0.operands k v h r.2.count in
      let spec = r.2.operands k o.0 o.1 in
      let value : spec.value ≡ v = same_Some spec.value v (sym spec.there ∙ h) in
      let definer : o.0.definer ≡ w.definer = one_definer v w.definer o.0.definer w.is (not_outside w.item w.definer w.makes) (subst (λ z. IsDefiner n z o.0.definer) value spec.definer) in
      ⊎_elim
      (λ goes. inl goes)
      (λ counts. excused_goes l.0 o.0 (excuse w.item w.dead l.0 o.0 (record { candidate = r.0; there = r.1; operand = contains_at r.0.operands k o.0 o.1 }) (subst (λ z. CountsForItem problem w.item z l.0) (sym definer) counts)) p l.1 k r.0 r.1 o.1)
      (counts_or w.item w.dead w.definer w.makes l.0 p l.1))
      (λ out.
      let kept : IsKeptValue c n op v = ⊎_elim
      (λ (e : p ≡ op). inl (k, ap (λ z. slice_get (operands_at c z) k) (sym e) ∙ h))
      (λ ne. inr (listed v (g.live p k v h) w.definer w.is (not_outside w.item w.definer w.makes), (p, (λ i. out ((g.numbers.operations p).1 (record { inside = i; other = ne }))), (k, h))))
      (same_handle p op) in
      let e = g.rows.kept.all v kept in
      let definer : e.0 ≡ w.definer = one_definer v w.definer e.0 w.is (not_outside w.item w.definer w.makes) e.2 in
      absurd (not_kept w.item w.dead (e.0, e.1, subst (ItemMakes problem w.item) (sym definer) w.makes)))
      (look same_handle n.operations p)

  block_goes : (p : Ptr Operation) (k : ℕ) (b : Ptr BasicBlock) → slice_get (successors_at c p) k ≡ Some b → GoesWith c (gone g items) (BlockNode b) → GoesWith c (gone g items) (OperationNode p)
  block_goes p k b h w =
      let m = truth_yes (told_item g items (Whole w.0)) w.1 in
      let below = g.edges.entering p b (k, h) (inside_both c (OperationNode op) (OperationNode w.0) (BlockNode b) (below_of g m.0 w.0 m.1).inside w.2) in
      let x = block_around c (OperationNode op) (OperationNode p) p below.inside refl (λ e. let s : p ≡ op = cc in below.other s) in
      let r = region_around c op (BlockNode x.0) x.0 x.2 refl in
      let s = g.edges.leaving p b x.0 r.0 below (k, h) x.1 r.1 in
      let i : StandsInside c (OperationNode w.0) (RegionNode r.0) = ⊎_elim (λ (e : OperationNode w.0 ≡ BlockNode b). cc) (λ z. z) (around_block c g.lists (OperationNode w.0) b r.0 s w.2) in
      (w.0, w.1, in_block p x.0 x.1 (in_region x.0 r.0 r.1 i))

  pub uses_go : UsesGo c (gone g items)
  uses_go = record { values = λ p k v h w. value_goes p k v h (going v (g.live p k v h) w); blocks = block_goes }
