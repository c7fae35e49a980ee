-- What is inside what, by numbers and by handles.
use Rattle.std.proofs.Common.{◌≡◌, ◌⊎◌, inl, inr, ⊎_elim, ℕ, zero, suc, ◌<◌, Option, Some, None, slice_get, refl, sym, ap, subst, ◌∙◌, arith}
use Rattle.std.proofs.lemmas.Option.{same_Some}
use Rattle.ir_program.specs.Program.{Program}
use Rattle.ir_program.specs.Lists.{StandsInBlock, StandsInOperation, StandsInside, itself, in_block, in_region, in_operation}
use Rattle.ir_program.specs.declared.handles.IRNode.{IRNode}
use Rattle.ir_program.specs.declared.handles.IRNode.TheVariants.{Operation as OperationNode, Region as RegionNode, BasicBlock as BlockNode}
use Rattle.ir_program.specs.declared.handles.DefiningEntity.TheVariants.{Block as ByBlock}
use Rattle.ir_program.specs.declared.handles.Ptr.{Ptr}
use Rattle.ir_program.specs.declared.handles.Operation.{Operation}
use Rattle.ir_program.specs.declared.handles.BasicBlock.{BasicBlock}
use Rattle.ir_program.specs.declared.handles.Value.{Value}
use Rattle.ir_trees.specs.Stands.{in_program}
use Rattle.opt_trees.specs.Dialect.{Dialect}
use Rattle.opt_rows.specs.DeadCandidates.{Candidate}
use Rattle.opt_rows.specs.declared.dead_problem.Argument.{Argument}
use Rattle.opt_rows.specs.declared.dead_problem.DeadProblem.{DeadProblem}
use Rattle.opt_rows.specs.Dead.{IsInOperation, itself as alone, further, IsBelow, IsArgumentIn}
use Rattle.opt_inside.specs.Numbered.{Numbers}
use Rattle.opt_inside.specs.Occurring.{IsBelowRoot}
use Rattle.opt_inside.proofs.Around.{inside_both, not_root}
use Rattle.opt_dce.specs.liveness.Problems.{HoldsBlock, IsNumberOfHolder, IsCandidate, IsValueRow}
use Rattle.opt_dce.proofs.LivenessLemmas.Ground.{Ground, at_index, none_or, same_or}

-- the block that an operation inside something else stands in
pub block_around : {O B : Type 0} (c : Program O B) (x : IRNode) (e : IRNode) (p : Ptr Operation) → StandsInside c x e → e ≡ OperationNode p → (x ≡ OperationNode p → ⊥) → (b : Ptr BasicBlock) × StandsInBlock c p b × StandsInside c x (BlockNode b)
block_around c x _ p itself same other = absurd (other same)
block_around c x _ p (in_block q b s i) same other = let e : q ≡ p = cc in (b, subst (λ z. StandsInBlock c z b) e s, i)
block_around c x _ p (in_region b r s i) same other = cc
block_around c x _ p (in_operation r q s i) same other = cc

-- an operation is inside a by number, or is a
pub into : (problem : DeadProblem) (a i : ℕ) → IsInOperation problem a i → (i ≡ a) ⊎ ((j : ℕ) × (row : Candidate) × (slice_get problem.operations i ≡ Some row) × (row.around ≡ Some j) × IsInOperation problem a j)
into problem a _ alone = inl refl
into problem a _ (further i j row h e w) = inr (j, row, h, e, w)

module _ {O B A : Type 0} {d : Dialect (in_program O B) A} {c : Program O B} {op : Ptr Operation} {n : Numbers} {problem : DeadProblem} (g : Ground d c op n problem) where
  pub row_of : (i : ℕ) (p : Ptr Operation) → slice_get n.operations i ≡ Some p → (row : Candidate) × (slice_get problem.operations i ≡ Some row) × IsCandidate d c n p row
  row_of i p h = let r = at_index n.operations problem.operations i p h g.rows.operations_len in (r.0, r.1, g.rows.operations i p r.0 h r.1)

  pub op_of : (i : ℕ) (row : Candidate) → slice_get problem.operations i ≡ Some row → (p : Ptr Operation) × (slice_get n.operations i ≡ Some p) × IsCandidate d c n p row
  op_of i row h = let p = at_index problem.operations n.operations i row h (sym g.rows.operations_len) in (p.0, p.1, g.rows.operations i p.0 row p.1 h)

  pub value_row_of : (k : ℕ) (v : Value) → slice_get n.values k ≡ Some v → (row : Argument) × (slice_get problem.arguments.items k ≡ Some row) × IsValueRow d c n v row
  value_row_of k v h = let r = at_index n.values problem.arguments.items k v h g.rows.arguments_len in (r.0, r.1, g.rows.arguments k v r.0 h r.1)

  pub value_of : (k : ℕ) (row : Argument) → slice_get problem.arguments.items k ≡ Some row → (v : Value) × (slice_get n.values k ≡ Some v) × IsValueRow d c n v row
  value_of k row h = let v = at_index problem.arguments.items n.values k row h (sym g.rows.arguments_len) in (v.0, v.1, g.rows.arguments k v.0 row v.1 h)

  pub below_of : (i : ℕ) (p : Ptr Operation) → slice_get n.operations i ≡ Some p → IsBelowRoot c op p
  below_of i p h = (g.numbers.operations p).0 (i, h)

  pub number_of : (p : Ptr Operation) → IsBelowRoot c op p → (i : ℕ) × (slice_get n.operations i ≡ Some p)
  number_of p h = (g.numbers.operations p).1 h

  -- an operation in a block inside the root has a number
  pub below_in_block : (p : Ptr Operation) (b : Ptr BasicBlock) → StandsInBlock c p b → StandsInside c (OperationNode op) (BlockNode b) → IsBelowRoot c op p
  below_in_block p b s i = record { inside = in_block p b s i; other = not_root c g.lists op p b s i }

  one_holder : (q r : Ptr Operation) (b : Ptr BasicBlock) → HoldsBlock c q b → HoldsBlock c r b → q ≡ r
  one_holder q r b h k =
      let e : h.region ≡ k.region = (g.lists.blocks_once b h.region k.region h.in_region.index k.in_region.index h.in_region.here k.in_region.here).0 in
      let s : StandsInOperation c k.region q = subst (λ z. StandsInOperation c z q) e h.in_operation in
      (g.lists.regions_once k.region q r s.index k.in_operation.index s.here k.in_operation.here).0

  pub around_is : (b : Ptr BasicBlock) (o : Option ℕ) (q : Ptr Operation) (j : ℕ) → IsNumberOfHolder c n b o → HoldsBlock c q b → slice_get n.operations j ≡ Some q → o ≡ Some j
  around_is b None q j a h e = absurd (a.none refl q h (j, e))
  around_is b (Some i) q j a h e =
      let f = a.found i refl in
      let same : f.0 ≡ q = one_holder f.0 q b f.1 h in
      ap Some (g.numbers.operations_once i j q (f.2 ∙ ap Some same) e)

  down : (x : IRNode) (q : Ptr Operation) (b : Ptr BasicBlock) → HoldsBlock c q b → StandsInside c x (OperationNode q) → StandsInside c x (BlockNode b)
  down x q b h i = in_region b h.region h.in_region (in_operation h.region q h.in_operation i)

  -- the block that an operation with a number stands in
  pub its_block : (i : ℕ) (p : Ptr Operation) → slice_get n.operations i ≡ Some p → (b : Ptr BasicBlock) × StandsInBlock c p b × StandsInside c (OperationNode op) (BlockNode b)
  its_block i p h = let w = below_of i p h in block_around c (OperationNode op) (OperationNode p) p w.inside refl (λ e. let same : p ≡ op = cc in w.other same)

  pub inside_of : (a i : ℕ) → IsInOperation problem a i → (p q : Ptr Operation) → slice_get n.operations a ≡ Some p → slice_get n.operations i ≡ Some q → StandsInside c (OperationNode p) (OperationNode q)
  inside_of a _ alone p q h k = let e : p ≡ q = same_Some p q (sym h ∙ k) in subst (λ z. StandsInside c (OperationNode p) (OperationNode z)) e itself
  inside_of a _ (further i j row there e w) p q h k =
      let b = its_block i q k in
      let r = row_of i q k in
      let same : r.0 ≡ row = same_Some r.0 row (sym r.1 ∙ there) in
      let f = (r.2.around b.0 b.1).found j (ap (λ (z : Candidate). z.around) same ∙ e) in
      in_block q b.0 b.1 (down (OperationNode p) f.0 b.0 f.1 (inside_of a j w p f.0 h f.2))

  -- what stands inside a, by numbers: the operation, or the one that holds the region or block
  abbrev InNode : ℕ → IRNode → Type 0
  InNode a (OperationNode q) = (j : ℕ) × (slice_get n.operations j ≡ Some q) × IsInOperation problem a j
  InNode a (RegionNode r) = (q : Ptr Operation) × StandsInOperation c r q × ((j : ℕ) × (slice_get n.operations j ≡ Some q) × IsInOperation problem a j)
  InNode a (BlockNode b) = (q : Ptr Operation) × HoldsBlock c q b × ((j : ℕ) × (slice_get n.operations j ≡ Some q) × IsInOperation problem a j)

  pub in_node : (a : ℕ) (p : Ptr Operation) → slice_get n.operations a ≡ Some p → (e : IRNode) → StandsInside c (OperationNode p) e → InNode a e
  in_node a p h _ itself = (a, h, alone)
  in_node a p h _ (in_operation r q s i) = (q, s, in_node a p h (OperationNode q) i)
  in_node a p h _ (in_region b r s i) = let w = in_node a p h (RegionNode r) i in (w.0, record { region = r; in_region = s; in_operation = w.1 }, w.2)
  in_node a p h _ (in_block q b s i) =
      let w = in_node a p h (BlockNode b) i in
      let k = number_of q (below_in_block q b s (inside_both c (OperationNode op) (OperationNode p) (BlockNode b) (below_of a p h).inside i)) in
      let r = row_of k.0 q k.1 in
      (k.0, k.1, further k.0 w.2.0 r.0 r.1 (around_is b r.0.around w.0 w.2.0 (r.2.around b s) w.1 w.2.1) w.2.2)

  -- the operation in this block is below a
  pub below_is : (a i : ℕ) (p q : Ptr Operation) → slice_get n.operations a ≡ Some p → slice_get n.operations i ≡ Some q → (b : Ptr BasicBlock) → StandsInBlock c q b → StandsInside c (OperationNode p) (BlockNode b) → IsBelow problem a i
  below_is a i p q h k b s inner =
      let w = in_node a p h (BlockNode b) inner in
      let r = row_of i q k in
      record { candidate = r.0; there = r.1; parent = w.2.0; around = around_is b r.0.around w.0 w.2.0 (r.2.around b s) w.1 w.2.1; inside = w.2.2 }

  pub below_inside : (a i : ℕ) (p q : Ptr Operation) → slice_get n.operations a ≡ Some p → slice_get n.operations i ≡ Some q → IsBelow problem a i → (b : Ptr BasicBlock) → StandsInBlock c q b → StandsInside c (OperationNode p) (BlockNode b)
  below_inside a i p q h k w b s =
      let r = row_of i q k in
      let same : r.0 ≡ w.candidate = same_Some r.0 w.candidate (sym r.1 ∙ w.there) in
      let f = (r.2.around b s).found w.parent (ap (λ (z : Candidate). z.around) same ∙ w.around) in
      down (OperationNode p) f.0 b f.1 (inside_of a w.parent w.inside p f.0 h f.2)

  -- the argument of this block is inside a
  pub argument_is : (a k : ℕ) (p : Ptr Operation) (v : Value) (b : Ptr BasicBlock) → slice_get n.operations a ≡ Some p → slice_get n.values k ≡ Some v → v.definer ≡ ByBlock b → StandsInside c (OperationNode p) (BlockNode b) → IsArgumentIn problem a k
  argument_is a k p v b h e by inner =
      let w = in_node a p h (BlockNode b) inner in
      let r = value_row_of k v e in
      record { argument = r.0; there = r.1; parent = w.2.0; around = around_is b r.0.around w.0 w.2.0 (r.2.argument b by).around w.1 w.2.1; inside = w.2.2 }

  pub argument_inside : (a k : ℕ) (p : Ptr Operation) (v : Value) (b : Ptr BasicBlock) → slice_get n.operations a ≡ Some p → slice_get n.values k ≡ Some v → v.definer ≡ ByBlock b → IsArgumentIn problem a k → StandsInside c (OperationNode p) (BlockNode b)
  argument_inside a k p v b h e by w =
      let r = value_row_of k v e in
      let same : r.0 ≡ w.argument = same_Some r.0 w.argument (sym r.1 ∙ w.there) in
      let f = (r.2.argument b by).around.found w.parent (ap (λ (z : Argument). z.around) same ∙ w.around) in
      down (OperationNode p) f.0 b f.1 (inside_of a w.parent w.inside p f.0 h f.2)

  -- whether an operation is in another can be told
  pub decide_in : ((i j : ℕ) (row : Candidate) → slice_get problem.operations i ≡ Some row → row.around ≡ Some j → j < i) → (fuel a i : ℕ) → i < fuel → IsInOperation problem a i ⊎ (IsInOperation problem a i → ⊥)
  decide_in up zero a i lt = absurd (omega arith)
  decide_in up (suc fuel) a i lt = ⊎_elim
      (λ same. inl (subst (IsInOperation problem a) (sym same) alone))
      (λ other. ⊎_elim
      (λ gone. inr (λ w. ⊎_elim (λ e. other e) (λ f. absurd (cc (gone, f.2))) (into problem a i w)))
      (λ row. ⊎_elim
      (λ top. inr (λ w. ⊎_elim (λ e. other e) (λ f. let e : row.0 ≡ f.1 = same_Some row.0 f.1 (sym row.1 ∙ f.2) in absurd (cc (ap (λ (z : Candidate). z.around) e, top, f.3))) (into problem a i w)))
      (λ j. ⊎_elim
      (λ yes. inl (further i j.0 row.0 row.1 j.1 yes))
      (λ no. inr (λ w. ⊎_elim (λ e. other e) (λ f.
      let e : row.0 ≡ f.1 = same_Some row.0 f.1 (sym row.1 ∙ f.2) in
      let k : f.0 ≡ j.0 = same_Some f.0 j.0 (sym f.3 ∙ sym (ap (λ (z : Candidate). z.around) e) ∙ j.1) in
      no (subst (IsInOperation problem a) k f.4)) (into problem a i w)))
      (decide_in up fuel a j.0 (let lower = up i j.0 row.0 row.1 j.1 in omega arith)))
      (none_or row.0.around))
      (none_or (slice_get problem.operations i)))
      (same_or i a)
