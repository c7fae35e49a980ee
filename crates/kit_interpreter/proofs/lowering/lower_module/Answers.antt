use Rattle.std.proofs.Common.{◌∙◌, sym, ap, subst, refl, arith, length, ◌+◌}
use Rattle.std.proofs.lemmas.List.{length-append}
use Rattle.std.proofs.lemmas.Option.{slice_get_read, get_or_from_slice_get}
use Rattle.ir_program.specs.Program.{no_handle}
use Rattle.ir_program.specs.declared.handles.Ptr.{Ptr}
use Rattle.ir_program.specs.declared.handles.Operation.{Operation}
use Rattle.kit_places.specs.Numbers.{operation_with}
use Rattle.kit_interpreter.specs.Lowering.{LowersFunction}
use Rattle.kit_interpreter.proofs.Sets.{next_each}
use Rattle.kit_interpreter.proofs.lowering.lower_module.Goals as goal

pub lower_function-requires-clause-can_run : goal.lower_function-requires-clause-can_run
lower_function-requires-clause-can_run c =
    let named = c.requires.table.back c.loop-i.i c.in-Some.function.now (sym c.in-Some.ensures.key) in
    c.requires.can_run named.0 c.in-Some.function.now named.1

pub loop-i-preserved : goal.loop-i-preserved
loop-i-preserved c =
    let handles = c.args.functions.now.handles.keys in
    let is = ap (operation_with handles) c.loop-i.invariant.len
    ∙ get_or_from_slice_get handles c.loop-i.i c.in-Some.function.now no_handle (sym c.in-Some.ensures.key) in
    record {
      len = ap length c.in_ok-push-in-Some.ensures.items ∙ length-append c.loop-i.lowered.items _
          ∙ ap (λ n. n + 1) c.loop-i.invariant.len;
      each = next_each (λ i x. LowersFunction c.args.ctx.now c.args.functions.now.outer handles
          (operation_with handles i) x) c.loop-i.lowered.items _ c.in_ok-lower_function-in-Some.field-0
          c.in_ok-push-in-Some.ensures.items c.loop-i.invariant.each
          (subst (λ (f : Ptr Operation). LowersFunction c.args.ctx.now c.args.functions.now.outer handles f
          c.in_ok-lower_function-in-Some.field-0) (sym is) c.in_ok-lower_function-in-Some.ensures);
    }
