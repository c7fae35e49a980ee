use Rattle.std.proofs.Common.{length, slice_get, sym, ap, ◌∙◌}
use Rattle.ir_program.specs.Program.{operation_at}
use Rattle.opt_dialect.proofs.Removing.{the_some}
use Rattle.opt_dce.proofs.liveness.candidates.push_candidate.Goals as goal

pub returns : goal.returns
returns g c =
    let view = the_some (operation_at c.args.program.now c.args.op) c.requires in (
      record { may_go = c.may_go-may_go.result; around = c.around_operation-around.result; operands = c.deref.result.now },
      c.in_ok-push.ensures.ok,
      record {
        view = view.0;
        there = view.1;
        may_go = c.may_go-may_go.ensures view.0 view.1;
        around = c.around_operation-around.ensures;
        count = ap length c.deref.ensures.value ∙ c.in_ok-operands_of.ensures.len;
        operands = λ k o e. c.in_ok-operands_of.ensures.operands k o (ap (λ xs. slice_get xs k) (sym c.deref.ensures.value) ∙ e);
      },
    )
