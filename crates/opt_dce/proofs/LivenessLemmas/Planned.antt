-- The plan lists what goes.
use Rattle.std.proofs.Common.{◌≡◌, ℕ, true, Some, map, length, slice_get, refl, sym, ap, subst, ◌∙◌}
use Rattle.std.specs.Prelude.{◌↔◌}
use Rattle.std.proofs.lemmas.Option.{same_Some, slice_get-map}
use Rattle.ir_program.specs.Program.{Program, OperationView, BlockView, TypedValue, operation_at, block_at, arguments_at, value_in}
use Rattle.ir_program.specs.declared.handles.DefiningEntity.TheVariants.{Block as ByBlock}
use Rattle.ir_program.specs.declared.handles.Ptr.{Ptr}
use Rattle.ir_program.specs.declared.handles.Operation.{Operation}
use Rattle.ir_program.specs.declared.handles.Value.{Value}
use Rattle.ir_trees.specs.Searched.{Lists}
use Rattle.ir_trees.specs.Stands.{in_program}
use Rattle.opt_trees.specs.Dialect.{Dialect}
use Rattle.opt_trees.specs.Dce.{Whole, Slot}
use Rattle.opt_rows.specs.DeadCandidates.{Candidate}
use Rattle.opt_rows.specs.declared.dead_problem.DeadProblem.{DeadProblem}
use Rattle.opt_rows.specs.declared.dead_problem.DeadItems.{DeadItems}
use Rattle.opt_rows.specs.Dead.{Slot as SlotAt}
use Rattle.opt_inside.specs.Numbered.{Numbers}
use Rattle.opt_dce.specs.declared.liveness.plan.DeadPlan.{DeadPlan}
use Rattle.opt_dce.specs.declared.liveness.plan.LostOperands.{LostOperands}
use Rattle.opt_dce.specs.declared.liveness.plan.DeadArguments.{DeadArguments}
use Rattle.opt_dce.specs.liveness.Plans.{IsPlan}
use Rattle.opt_dce.specs.liveness.Taken.{OperandGoes, TakesMarked}
use Rattle.opt_dce.proofs.LivenessLemmas.Ground.{Ground, operands_here, arguments_here}
use Rattle.opt_dialect.proofs.Removing.{the_some}
use Rattle.opt_dce.proofs.LivenessLemmas.Made.{at_definer}
use Rattle.opt_dce.proofs.LivenessLemmas.Decide.{truth_yes, truth_of}
use Rattle.opt_dce.proofs.LivenessLemmas.Going.{Solved, gone, told_item, told_operand, slot_by, may_at}

module _ {O B A : Type 0} {d : Dialect (in_program O B) A} {c : Program O B} {op : Ptr Operation} {n : Numbers} {problem : DeadProblem} (g : Ground d c op n problem) (items : DeadItems) (solved : Solved problem items) (plan : DeadPlan) (takes : TakesMarked c n problem items plan) where
  one_row : (p : Ptr Operation) (i j : ℕ) (x y : Candidate) → slice_get n.operations i ≡ Some p → slice_get n.operations j ≡ Some p → slice_get problem.operations i ≡ Some x → slice_get problem.operations j ≡ Some y → x ≡ y
  one_row p i j x y a b h k = same_Some x y (sym h ∙ (ap (slice_get problem.operations) (g.numbers.operations_once i j p a b) ∙ k))

  operand_marks : (l : LostOperands) → Lists plan.operands.items l → (i : ℕ) → (slice_get l.marks.items i ≡ Some true) ↔ ((gone g items).operand l.op i ≡ true)
  operand_marks l h i =
      let s = takes.operands.sound l h in
      let lost = s.1 s.2.0 s.2.1 in (
        λ m. truth_of (told_operand g items l.op i) (s.2.0, s.2.1, (lost.marks i).0 m),
        λ e. let w = truth_yes (told_operand g items l.op i) e in
            (lost.marks i).1 (subst (λ (z : Candidate). OperandGoes z.operands items.arguments.items i) (one_row l.op w.1.0 s.2.1.0 w.0 s.2.0 w.1.1 s.2.1.1 w.1.2 s.2.1.2) w.2),
      )

  operand_count : (l : LostOperands) (v : OperationView O) → Lists plan.operands.items l → operation_at c l.op ≡ Some v → length l.marks.items ≡ length v.operands
  operand_count l v h there =
      let s = takes.operands.sound l h in
      (s.1 s.2.0 s.2.1).len ∙ ((g.rows.operations s.2.1.0 l.op s.2.0 s.2.1.1 s.2.1.2).count ∙ ap length (operands_here c l.op v there))

  argument_marks : (a : DeadArguments) (v : BlockView B) → Lists plan.arguments.items a → block_at c a.block ≡ Some v → (length a.marks.items ≡ length v.arguments) × ((i : ℕ) (x : Value) → slice_get (map (λ (x : TypedValue). x.value) v.arguments) i ≡ Some x → (slice_get a.marks.items i ≡ Some true) ↔ ((gone g items).item (Slot x) ≡ true))
  argument_marks a v h there =
      let s = takes.arguments.sound a h in (
        s.1.len ∙ ap length (arguments_here c a.block v there),
        λ i x e.
            let here : value_in (arguments_at c a.block) i ≡ Some x = ap (λ ts. value_in ts i) (arguments_here c a.block v there) ∙ (sym (slice_get-map (λ (x : TypedValue). x.value) v.arguments i) ∙ e) in
            (λ m. truth_of (told_item g items (Slot x)) ((s.1.marks i x here).0 m), λ t. (s.1.marks i x here).1 (truth_yes (told_item g items (Slot x)) t)),
      )

  argument_listed : (v : Value) → (gone g items).item (Slot v) ≡ true → (a : DeadArguments) × Lists plan.arguments.items a × (v.definer ≡ ByBlock a.block)
  argument_listed v e =
      let m = truth_yes (told_item g items (Slot v)) e in
      let b = slot_by g items m.0 v m.1 (may_at g items (SlotAt m.0) ((solved.arguments m.0).0 m.2)) in
      let k = at_definer g v (g.there.values v (m.0, m.1)) (ByBlock b.0) b.1 in
      let a = takes.arguments.all b.0 (g.there.definers v b.0 (m.0, m.1) b.1) (k.0, v, k.1, m) in
      (a.0, a.1, b.1 ∙ ap ByBlock (sym a.2))

  pub is_plan : IsPlan c (gone g items) plan
  is_plan = record {
    operations = λ p. (
      λ l. let s = takes.operations.sound p l in truth_of (told_item g items (Whole p)) s.2,
      λ e. let m = truth_yes (told_item g items (Whole p)) e in let r = takes.operations.all p (m.0, m.1) m in subst (Lists plan.operations.items) r.2 r.1,
    );
    operations_once = λ j k x a b. takes.operations.once j k x x a b refl;
    operands = operand_marks;
    operand_count = operand_count;
    all_operands = λ p i e. let w = truth_yes (told_operand g items p i) e in takes.operands.all p (w.1.0, w.1.1) (w.0, w.1, (i, w.2));
    operands_once = takes.operands.once;
    arguments = argument_marks;
    all_arguments = argument_listed;
    arguments_once = takes.arguments.once;
    operations_live = λ p e. let m = truth_yes (told_item g items (Whole p)) e in the_some (operation_at c p) (g.there.operations p (m.0, m.1));
    blocks_live = λ a h. the_some (block_at c a.block) (g.there.blocks a.block (takes.arguments.sound a h).0);
    operands_live = λ l h. the_some (operation_at c l.op) (g.there.operations l.op (takes.operands.sound l h).0);
  }
