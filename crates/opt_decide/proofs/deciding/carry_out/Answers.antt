use Rattle.std.proofs.Common.{◌≡◌, Some, take, get_or, slice_get, refl, sym, ◌∙◌, subst, arith}
use Rattle.std.proofs.lemmas.Option.{slice_get-get_or}
use Rattle.ir_program.specs.Program.{no_handle}
use Rattle.ir_program.proofs.made.Frames.{on_err}
use Rattle.opt_decide.specs.Phase.{HasDecided}
use Rattle.opt_decide.specs.declared.plan.Decision.{Decision}
use Rattle.opt_decide.proofs.Carried.{none_decided, none_taken, carried_alike, linked_yet, results_yet, regions_yet, bare, next_decided}
use Rattle.opt_decide.proofs.Filled.{take_all}
use Rattle.opt_decide.proofs.deciding.carry_out.Goals as goal

abbrev no_decision : Decision
no_decision = record { op = no_handle; edge = 0 }

pub loop-decision-init : goal.loop-decision-init
loop-decision-init g c = record {
  decided = subst (HasDecided g.D.Meanings.meaning c.args.ctx.now.program c.args.ctx.now.program) (sym (none_taken c.args.decisions.now)) (none_decided g.D.Meanings.meaning c.args.ctx.now.program);
  types = refl;
  numbers = refl;
}

pub decide_branch-requires : goal.decide_branch-requires
decide_branch-requires g c =
    let n = c.loop-decision.decision-index in
    let x = get_or c.args.decisions.now n no_decision in
    let at : slice_get c.args.decisions.now n ≡ Some x = slice_get-get_or c.args.decisions.now n no_decision (omega arith) in
    let d = g.D.Meanings.meaning in
    let old = c.args.ctx.now.program in
    let mid = c.loop-decision.ctx.program in
    record {
      linked = linked_yet d old c.args._op c.args.decisions.now c.requires mid n x at c.loop-decision.invariant.decided;
      results = results_yet d old c.args._op c.args.decisions.now c.requires mid n x at c.loop-decision.invariant.decided;
      regions = regions_yet d old c.args._op c.args.decisions.now c.requires mid n x at c.loop-decision.invariant.decided;
      plain = (bare d old c.args._op c.args.decisions.now c.requires mid n x at c.loop-decision.invariant.decided).plain;
    }

pub loop-decision-preserved : goal.loop-decision-preserved
loop-decision-preserved g c =
    let n = c.loop-decision.decision-index in
    let x = get_or c.args.decisions.now n no_decision in
    let at : slice_get c.args.decisions.now n ≡ Some x = slice_get-get_or c.args.decisions.now n no_decision (omega arith) in
    record {
      decided = next_decided g.D.Meanings.meaning c.args.ctx.now.program c.args._op c.args.decisions.now c.requires c.loop-decision.ctx.program n x at c.loop-decision.invariant.decided
          c.decide_branch.new.ctx.program c.in_ok-decide_branch.field-0 c.in_ok-decide_branch.ensures.decided;
      types = c.decide_branch.ensures.types ∙ c.loop-decision.invariant.types;
      numbers = c.decide_branch.ensures.numbers ∙ c.loop-decision.invariant.numbers;
    }

pub returns-in_err-decide_branch-clause-part : goal.returns-in_err-decide_branch-clause-part
returns-in_err-decide_branch-clause-part g c = on_err c.from_residual.result (
  c.loop-decision.decision-index,
  carried_alike g.D.Meanings.meaning c.args.ctx.now.program c.loop-decision.ctx.program c.decide_branch.new.ctx.program (take c.loop-decision.decision-index c.args.decisions.now) c.loop-decision.invariant.decided c.in_err-decide_branch.ensures.same,
)

pub returns-clause-done : goal.returns-clause-done
returns-clause-done g c = subst (HasDecided g.D.Meanings.meaning c.args.ctx.now.program c.loop-decision.ctx.program) (take_all c.args.decisions.now c.loop-decision.decision-index (omega arith)) c.loop-decision.invariant.decided
