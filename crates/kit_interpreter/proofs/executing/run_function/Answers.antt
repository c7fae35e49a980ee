use Rattle.std.proofs.Common.{◌≡◌, Some, ◌∙◌, sym, ap, subst}
use Rattle.std.specs.Prelude.{option_map}
use Rattle.std.proofs.lemmas.Option.{same_Some}
use Rattle.ir_program.specs.declared.handles.Ptr.{Ptr}
use Rattle.ir_program.specs.declared.handles.Operation.{Operation}
use Rattle.kit_places.specs.Numbers.{operation_with}
use Rattle.kit_places.specs.Store.{is_function_named, function_named, members}
use Rattle.kit_interpreter.specs.Lowering.{FunctionsCanRun}
use Rattle.kit_places.proofs.Located.{first_listed, member_live}
use Rattle.kit_interpreter.proofs.Chosen.{sound, ran}
use Rattle.kit_interpreter.proofs.Tables.{table_by}
use Rattle.kit_interpreter.proofs.executing.run_function.Goals as goal

pub lower_module-requires-clause-live : goal.lower_module-requires-clause-live
lower_module-requires-clause-live c = λ i f e.
    let b = c.in_ok-functions.ensures.table.back i f e in
    member_live c.program.result.now c.args.ctx.now.program c.program.ensures c.know_lists.ensures.operations
    c.args.within f
    (first_listed (is_function_named c.args.ctx.now.program b.0) (members c.args.ctx.now.program c.args.within) f b.1)

pub lower_module-requires-clause-table : goal.lower_module-requires-clause-table
lower_module-requires-clause-table c = table_by c.args.ctx.now.program c.args.within c.in_ok-functions.functions.outer
    c.in_ok-functions.functions.handles.keys c.in_ok-functions.functions.tables.tables.entries
    c.in_ok-functions.ensures.outer c.in_ok-functions.ensures.table

pub lower_module-requires-clause-can_run : goal.lower_module-requires-clause-can_run
lower_module-requires-clause-can_run c = subst (λ (m : Ptr Operation). FunctionsCanRun c.args.ctx.now m)
    (sym c.in_ok-functions.ensures.outer) c.requires.can_run.functions

pub interpret-requires-clause-sound : goal.interpret-requires-clause-sound
interpret-requires-clause-sound c = sound c.args.ctx.now c.in_ok-functions.functions.outer
    c.in_ok-functions.functions.handles.keys c.in_ok-lowered.lowered.functions.items c.in_ok-lowered.ensures

pub returns : goal.returns
returns c = λ f e.
    let t = table_by c.args.ctx.now.program c.args.within c.in_ok-functions.functions.outer
    c.in_ok-functions.functions.handles.keys c.in_ok-functions.functions.tables.tables.entries
    c.in_ok-functions.ensures.outer c.in_ok-functions.ensures.table in
    let found = subst (λ (m : Ptr Operation). function_named c.args.ctx.now.program m c.args.name.now ≡ Some f)
    (sym c.in_ok-functions.ensures.outer) e in
    let is = same_Some (operation_with c.in_ok-functions.functions.handles.keys c.in-Some.number) f
    (ap (option_map (operation_with c.in_ok-functions.functions.handles.keys)) c.in-Some.ensures
    ∙ t.named c.args.name.now ∙ found) in
    ran c.args.ctx.now c.args.within c.in_ok-functions.functions.outer c.in_ok-functions.functions.handles.keys
    c.in_ok-lowered.lowered.functions.items c.in_ok-lowered.ensures c.in_ok-functions.ensures.outer f
    c.in-Some.number is
    (t.below c.args.name.now c.in-Some.number (sym c.in-Some.ensures)) c.args.numbers.now c.args.limit
    c.in_ok-outcome-in-Some.outcome c.in_ok-outcome-in-Some.ensures
