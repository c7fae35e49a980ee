-- The numbers of a problem are in range.
use Rattle.std.proofs.Common.{◌≡◌, ℕ, ◌<◌, Some, length, slice_get, refl, subst, arith}
use Rattle.std.proofs.lemmas.Option.{slice_get_within}
use Rattle.ir_program.specs.Program.{Program}
use Rattle.ir_program.specs.declared.handles.DefiningEntity.{DefiningEntity}
use Rattle.ir_program.specs.declared.handles.DefiningEntity.TheVariants.{Op as ByOp, Block as ByBlock}
use Rattle.ir_program.specs.declared.handles.Ptr.{Ptr}
use Rattle.ir_program.specs.declared.handles.Operation.{Operation}
use Rattle.ir_program.specs.declared.handles.Value.{Value}
use Rattle.ir_trees.specs.Stands.{in_program}
use Rattle.opt_trees.specs.Dialect.{Dialect}
use Rattle.opt_rows.specs.declared.dead_problem.Definer.TheVariants.{Result, Argument as ByArgument}
use Rattle.opt_rows.specs.declared.dead_problem.Operand.{Operand}
use Rattle.opt_rows.specs.declared.dead_problem.Argument.{Argument}
use Rattle.opt_rows.specs.declared.dead_problem.DeadProblem.{DeadProblem}
use Rattle.opt_rows.specs.Dead.{HasOperand, IsDeadProblem}
use Rattle.opt_inside.specs.Numbered.{Numbers}
use Rattle.opt_dce.specs.liveness.Problems.{IsDefiner, IsOperandOf}
use Rattle.opt_dce.proofs.LivenessLemmas.Ground.{Ground}
use Rattle.opt_dce.proofs.LivenessLemmas.Within.{op_of, value_of, its_block}
use Rattle.opt_dce.proofs.LivenessLemmas.Dying.{at_contains}

module _ {O B A : Type 0} {d : Dialect (in_program O B) A} {c : Program O B} {op : Ptr Operation} {n : Numbers} {problem : DeadProblem} (g : Ground d c op n problem) where
  operation_in : (a : ℕ) (p : Ptr Operation) → slice_get n.operations a ≡ Some p → a < length problem.operations
  operation_in a p h = let lt = slice_get_within n.operations a p h in let len = g.rows.operations_len in omega arith

  value_in_range : (k : ℕ) (v : Value) → slice_get n.values k ≡ Some v → k < length problem.arguments.items
  value_in_range k v h = let lt = slice_get_within n.values k v h in let len = g.rows.arguments_len in omega arith

  operand_of : (i : ℕ) (o : Operand) → HasOperand problem i o → (p : Ptr Operation) × ((k : ℕ) × IsOperandOf d c n p k o)
  operand_of i o h =
      let p = op_of g i h.candidate h.there in
      let k = at_contains h.candidate.operands o h.operand in
      (p.0, (k.0, p.2.operands k.0 o k.1))

  argument_in : (k j : ℕ) (row : Argument) (v : Value) → slice_get n.values k ≡ Some v → slice_get problem.arguments.items k ≡ Some row → row.around ≡ Some j → (e : DefiningEntity) → v.definer ≡ e → j < length problem.operations
  argument_in k j row v h there around (ByOp p) by = absurd (cc ((((g.rows.arguments k v row h there).result p by).1), around))
  argument_in k j row v h there around (ByBlock b) by =
      let f = (((g.rows.arguments k v row h there).argument b by).around).found j around in
      operation_in j f.0 f.2

  pub in_range : IsDeadProblem problem
  in_range = record {
    around = λ i j row there around.
        let p = op_of g i row there in
        let b = its_block g i p.0 p.1 in
        let f = (p.2.around b.0 b.1).found j around in
        g.parents_first i j p.0 f.0 b.0 f.1.region p.1 f.2 b.1 f.1.in_region f.1.in_operation;
    argument_around = λ k j row there around. let v = value_of g k row there in argument_in k j row v.0 v.1 there around v.0.definer refl;
    results = λ i a o h e.
        let s = operand_of i o h in
        let w : IsDefiner n s.1.1.value (Result a) = subst (IsDefiner n s.1.1.value) e s.1.1.definer in
        operation_in a w.0 w.2;
    arguments = λ i k o h e.
        let s = operand_of i o h in
        let w : IsDefiner n s.1.1.value (ByArgument k) = subst (IsDefiner n s.1.1.value) e s.1.1.definer in
        value_in_range k s.1.1.value w.2;
    forwarded = λ i k o h e.
        let s = operand_of i o h in
        let w = s.1.1.argument k e in
        value_in_range k w.takes.argument w.takes.number;
    kept_results = λ a h. let s = g.rows.kept.sound (Result a) h in operation_in a s.2.0 s.2.2;
    kept_arguments = λ k h. let s = g.rows.kept.sound (ByArgument k) h in value_in_range k s.0 s.2.2;
  }
