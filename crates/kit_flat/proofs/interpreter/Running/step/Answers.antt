use Rattle.std.proofs.Common.{◌∙◌, sym, ap, subst, refl, ℕ, [], ◌∷◌, ◌++◌, Some}
use Rattle.std.specs.Prelude.{IfOk}
use Rattle.std.proofs.lemmas.List.{get_or_read}
use Rattle.kit_flat.specs.Machine.{MachineState}
use Rattle.kit_flat.specs.Sound.{Fetched}
use Rattle.kit_flat.specs.Shows.{TurnShows}
use Rattle.kit_flat.specs.declared.flat.Instruction.{Instruction}
use Rattle.kit_flat.specs.declared.flat.Instruction.TheVariants.{Call, Br}
use Rattle.kit_flat.proofs.Steps.{lost, step_at, constant_turn, calculate_turn, calculate_fault, compare_turn, emit_turn, branch_at, call_at, return_at, stuck}
use Rattle.kit_flat.proofs.interpreter.Running.step.Goals as goal

pub returns-in-None : goal.returns-in-None
returns-in-None c =
    let e = lost c.args.code.now.functions.items c.args.self.now c.requires.running c.in-None.ensures in
    (e, stuck c.args.code.now.functions.items c.args.self.now c.requires.running c.in-None.ensures)

pub returns-in-Constant : goal.returns-in-Constant
returns-in-Constant c =
    let at = subst (λ (o : Instruction). Fetched c.args.code.now.functions.items c.args.self.now.top (Some o))
    c.in-Constant.is c.in-Some.ensures in
    constant_turn c.args.code.now.functions.items c.args.self.now c.requires.running c.in-Constant.result
    c.in-Constant.number at _ c.bind.ensures

pub returns-in-None-calculated : goal.returns-in-None-calculated
returns-in-None-calculated c =
    let at = subst (λ (o : Instruction). Fetched c.args.code.now.functions.items c.args.self.now.top (Some o))
    c.in-Calculate.is c.in-Some.ensures in
    calculate_fault c.args.code.now.functions.items c.args.self.now c.requires.running c.in-Calculate.function
    c.in-Calculate.width c.in-Calculate.result c.in-Calculate.left c.in-Calculate.right at
    (sym c.in-None-calculated.ensures)

pub returns-in-Some-calculated : goal.returns-in-Some-calculated
returns-in-Some-calculated c =
    let at = subst (λ (o : Instruction). Fetched c.args.code.now.functions.items c.args.self.now.top (Some o))
    c.in-Calculate.is c.in-Some.ensures in
    calculate_turn c.args.code.now.functions.items c.args.self.now c.requires.running c.in-Calculate.function
    c.in-Calculate.width c.in-Calculate.result c.in-Calculate.left c.in-Calculate.right
    c.in-Some-calculated.number at (sym c.in-Some-calculated.ensures) _ c.bind-in-Some-calculated.ensures

pub returns-in_ok-push-in-Emit : goal.returns-in_ok-push-in-Emit
returns-in_ok-push-in-Emit c =
    let at = subst (λ (o : Instruction). Fetched c.args.code.now.functions.items c.args.self.now.top (Some o))
    c.in-Emit.is c.in-Some.ensures in
    let x = get_or_read c.args.self.now.top.values.items c.in-Emit.value c.index.result.now at.fits.0
    c.index.ensures 0 in
    emit_turn c.args.code.now.functions.items c.args.self.now c.requires.running c.in-Emit.value at _ refl refl refl
    refl refl
    (c.in_ok-push-in-Emit.ensures.items ∙ ap (λ (n : ℕ). c.args.self.now.emissions.items ++ n ∷ []) x)

pub returns-in-Compare : goal.returns-in-Compare
returns-in-Compare c =
    let at = subst (λ (o : Instruction). Fetched c.args.code.now.functions.items c.args.self.now.top (Some o))
    c.in-Compare.is c.in-Some.ensures in
    compare_turn c.args.code.now.functions.items c.args.self.now c.requires.running c.in-Compare.function
    c.in-Compare.result c.in-Compare.left c.in-Compare.right c.compared-bit.result at
    (sym c.compared-bit.ensures) _ c.bind-in-Compare.ensures

pub call-requires-clause-waits : goal.call-requires-clause-waits
call-requires-clause-waits c =
    let at = subst (λ (o : Instruction). Fetched c.args.code.now.functions.items c.args.self.now.top (Some o))
    c.in-Call.is c.in-Some.ensures in
    record {
      active = c.requires.running.top_active;
      instruction = Call c.in-Call.results c.in-Call.callee c.in-Call.operands;
      here = at.here;
    }

pub returns-in-Call : goal.returns-in-Call
returns-in-Call c =
    let at = subst (λ (o : Instruction). Fetched c.args.code.now.functions.items c.args.self.now.top (Some o))
    c.in-Call.is c.in-Some.ensures in
    subst (λ (s : MachineState ℕ ℕ ℕ). IfOk c.call.result (TurnShows c.args.code.now.functions.items s c.call.new.self))
    (sym (call_at c.args.code.now.functions.items c.args.self.now c.requires.running c.in-Call.results c.in-Call.operands c.in-Call.callee _ at c.as_slice.ensures.value))
    c.call.ensures

pub returns-in-Br : goal.returns-in-Br
returns-in-Br c =
    let at = subst (λ (o : Instruction). Fetched c.args.code.now.functions.items c.args.self.now.top (Some o))
    c.in-Br.is c.in-Some.ensures in
    subst (λ (s : MachineState ℕ ℕ ℕ). IfOk c.follow.result (TurnShows c.args.code.now.functions.items s c.follow.new.self))
    (sym (step_at c.args.code.now.functions.items c.args.self.now c.requires.running (Br c.in-Br.edge) at))
    c.follow.ensures

pub returns-in-CondBr : goal.returns-in-CondBr
returns-in-CondBr c =
    let at = subst (λ (o : Instruction). Fetched c.args.code.now.functions.items c.args.self.now.top (Some o))
    c.in-CondBr.is c.in-Some.ensures in
    subst (λ (s : MachineState ℕ ℕ ℕ). IfOk c.branch-self.result (TurnShows c.args.code.now.functions.items s c.branch-self.new.self))
    (sym (branch_at c.args.code.now.functions.items c.args.self.now c.requires.running c.in-CondBr.condition c.in-CondBr.taken c.in-CondBr.otherwise at))
    c.branch-self.ensures

pub returns-in-Return : goal.returns-in-Return
returns-in-Return c =
    let at = subst (λ (o : Instruction). Fetched c.args.code.now.functions.items c.args.self.now.top (Some o))
    c.in-Return.is c.in-Some.ensures in
    subst (λ (s : MachineState ℕ ℕ ℕ). IfOk c.leave.result (TurnShows c.args.code.now.functions.items s c.leave.new.self))
    (sym (return_at c.args.code.now.functions.items c.args.self.now c.requires.running c.in-Return.values _ at c.as_slice-in-Return.ensures.value))
    c.leave.ensures
