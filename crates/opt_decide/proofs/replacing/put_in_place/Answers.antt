use Rattle.std.proofs.Common.{◌≡◌, ℕ, ◌∙◌, subst, Some, slice_get}
use Rattle.ir_base.specs.declared.types.TypeHandle.{TypeHandle}
use Rattle.ir_program.specs.Definers.{StandsAtDefiner}
use Rattle.ir_program.specs.Lists.{StandOnce, operations_in}
use Rattle.ir_program.specs.Program.{type_at, IsLiveValue}
use Rattle.ir_program.specs.Rows.{operands_at}
use Rattle.ir_program.specs.declared.handles.Ptr.{Ptr}
use Rattle.ir_program.specs.declared.handles.Operation.{Operation}
use Rattle.ir_program.specs.declared.handles.Value.{Value}
use Rattle.opt_decide.proofs.BareOperations.{no_other_inside}
use Rattle.opt_decide.proofs.Swapped.{bare_put, results_put, is_apart, none_used, swaps_in}
use Rattle.opt_decide.proofs.replacing.put_in_place.Goals as goal

pub insert_before-requires-clause-apart : goal.insert_before-requires-clause-apart
insert_before-requires-clause-apart g c = no_other_inside c.args.ctx.now.program c.args.other c.requires.bare c.args.op c.requires.two

pub erase-requires-clause-apart : goal.erase-requires-clause-apart
erase-requires-clause-apart g c =
    let put = c.insert_before.new.ctx.program in
    let once : StandOnce (operations_in c.args.ctx.now.program) = subst (λ p. StandOnce (operations_in p)) c.program.ensures c.know_lists.ensures.operations_once in
    is_apart put c.args.op (bare_put c.args.ctx.now.program put put c.args.op c.args.other c.requires.linked c.requires.regions once c.insert_before.ensures.edited)
    (none_used put c.args.op (results_put c.args.ctx.now.program put put c.args.op c.args.other c.requires.linked c.requires.regions once c.insert_before.ensures.edited ∙ c.requires.results)
    (subst (λ p. (v : Value) (ty : TypeHandle) → type_at p v ≡ Some ty → StandsAtDefiner p v ty) c.program-2.ensures c.know_values.ensures.stands)
    (subst (λ p. (x : Ptr Operation) (k : ℕ) (v : Value) → slice_get (operands_at p x) k ≡ Some v → IsLiveValue p v) c.program-3.ensures c.know_operands.ensures))

pub returns-clause-swaps : goal.returns-clause-swaps
returns-clause-swaps g c =
    let once : StandOnce (operations_in c.args.ctx.now.program) = subst (λ p. StandOnce (operations_in p)) c.program.ensures c.know_lists.ensures.operations_once in
    swaps_in c.args.ctx.now.program c.insert_before.new.ctx.program c.erase.new.ctx.program c.args.op c.args.other c.requires.linked c.requires.regions once c.insert_before.ensures.edited c.erase.ensures.erased
