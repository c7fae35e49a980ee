use Rattle.std.proofs.Common.{◌≡◌, ◌<◌, true, Some, length, sym, subst, ◌∙◌, arith}
use Rattle.std.specs.Prelude.{◌↔◌}
use Rattle.std.proofs.lemmas.Option.{same_Some}
use Rattle.ir_program.specs.Program.{arguments_at, value_in}
use Rattle.ir_program.specs.declared.handles.Value.{Value}
use Rattle.opt_inside.specs.Numbered.{numbers_of}
use Rattle.opt_dce.specs.liveness.Taken.{HasMarkAt, ArgumentGoes}
use Rattle.opt_dce.proofs.LivenessLemmas.Marking.{number_marked, marked_number, value_within}
use Rattle.opt_dce.proofs.LivenessLemmas.Partway.{pushed_len, marks_push}
use Rattle.opt_dce.proofs.liveness.taking.argument_marks.Goals as goal

pub loop-index-preserved : goal.loop-index-preserved
loop-index-preserved g c = record {
  len = pushed_len c.loop-index.marks.items c.push.new.self.items c.is_marked.result c.loop-index.index c.in_ok-push.ensures.items c.loop-index.invariant.len;
  goes = λ i. subst (λ xs. HasMarkAt xs i ↔ ((i < length xs) × ((v : Value) × (value_in (arguments_at c.args.program.now c.args.block) i ≡ Some v) × ArgumentGoes (numbers_of c.args.inside.now) c.args.arguments.now v))) (sym c.in_ok-push.ensures.items)
      (marks_push (λ k. (v : Value) × (value_in (arguments_at c.args.program.now c.args.block) k ≡ Some v) × ArgumentGoes (numbers_of c.args.inside.now) c.args.arguments.now v) c.loop-index.marks.items c.is_marked.result c.loop-index.invariant.goes
      (subst (λ k. (c.is_marked.result ≡ true) ↔ ((v : Value) × (value_in (arguments_at c.args.program.now c.args.block) k ≡ Some v) × ArgumentGoes (numbers_of c.args.inside.now) c.args.arguments.now v)) (sym c.loop-index.invariant.len) (
        λ e. (c.argument.result, c.argument.ensures.value, number_marked c.args.inside.now.values.keys c.argument.result c.value_number-number.result c.args.arguments.now c.value_number-number.ensures (c.is_marked.ensures.0 e)),
        λ w. c.is_marked.ensures.1 (marked_number c.args.inside.now.values.keys c.requires.once c.argument.result c.value_number-number.result c.args.arguments.now c.value_number-number.ensures
            (subst (ArgumentGoes (numbers_of c.args.inside.now) c.args.arguments.now) (same_Some w.0 c.argument.result (sym w.1 ∙ c.argument.ensures.value)) w.2)),
      )) i);
}

pub returns : goal.returns
returns g c = record {
  len = (let a = c.loop-index.invariant.len in let b = c.loop-index.auto.index-end in let e = c.loop-index-test.false in let n = c.argument_count-index-end.ensures in omega arith);
  marks = λ i v at. (
    λ m. let w = ((c.loop-index.invariant.goes i).0 m).1 in subst (ArgumentGoes (numbers_of c.args.inside.now) c.args.arguments.now) (same_Some w.0 v (sym w.1 ∙ at)) w.2,
    λ w. (c.loop-index.invariant.goes i).1 ((let lt = value_within (arguments_at c.args.program.now c.args.block) i v at in let a = c.loop-index.invariant.len in let e = c.loop-index-test.false in let n = c.argument_count-index-end.ensures in omega arith), (v, at, w)),
  );
}
