use Rattle.std.proofs.Common.{◌≡◌, ◌∙◌, sym, true≢false}
use Rattle.ir_program.specs.Lists.{operations_in}
use Rattle.kit_places.proofs.Rows.{moved}
use Rattle.kit_interpreter.proofs.Tables.{no_functions, with_function, without_function}
use Rattle.kit_interpreter.proofs.functions.functions_in.Goals as goal

pub loop-op-preserved-in_ok-insert : goal.loop-op-preserved-in_ok-insert
loop-op-preserved-in_ok-insert c = record {
  listed = moved (λ ps. ps ≡ operations_in c.args.ctx.now.program c.args.block) c.loop-op.yielded _ _ c.in-Some.op
      c.in-Some.ensures.steps c.loop-op.invariant.listed;
  functions = with_function c.args.ctx.now.program c.loop-op.yielded c.loop-op.handles.keys c.in-Some.op
      c.loop-op.invariant.functions (c.is_named_function.ensures.0 c.if-is_named_function.true) c.insert.new.self.keys
      c.in_ok-insert.ensures.keys;
}

pub loop-op-preserved : goal.loop-op-preserved
loop-op-preserved c = record {
  listed = moved (λ ps. ps ≡ operations_in c.args.ctx.now.program c.args.block) c.loop-op.yielded _ _ c.in-Some.op
      c.in-Some.ensures.steps c.loop-op.invariant.listed;
  functions = without_function c.args.ctx.now.program c.loop-op.yielded c.loop-op.handles.keys c.in-Some.op
      c.loop-op.invariant.functions (λ n. absurd (true≢false (sym (c.is_named_function.ensures.1 n) ∙ c.if-is_named_function.false)));
}
