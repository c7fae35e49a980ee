use Rattle.std.proofs.Common.{sym, ap, ◌∙◌}
use Rattle.ir_program.specs.Program.{operation_at}
use Rattle.opt_decide.proofs.Folded.{unfolded, folded_nowhere, folded_there, same_some}
use Rattle.opt_decide.proofs.alone.folded.Goals as goal

pub returns-then-not-is_foldable : goal.returns-then-not-is_foldable
returns-then-not-is_foldable g c = sym (unfolded g.D.Meanings.meaning (operation_at c.args.program.now c.args.op) c.payload.result.now c.args.value c.payload.ensures (sym c.is_foldable.ensures ∙ c.if-not-is_foldable.true))

pub returns-in_default : goal.returns-in_default
returns-in_default g c = sym (folded_nowhere g.D.Meanings.meaning (operation_at c.args.program.now c.args.op) c.args.value (sym c.in_default.ensures))

pub returns : goal.returns
returns g c = c.known_at.ensures
    ∙ folded_there g.D.Meanings.meaning (operation_at c.args.program.now c.args.op) c.payload-2.result.now c.args.value c.in-Some.index c.deref.result.now c.deref-2.result.now c.deref-3.result.now c.payload-2.ensures
    (ap g.D.Meanings.meaning.is_foldable (same_some _ _ (sym c.payload-2.ensures ∙ c.payload.ensures)) ∙ sym c.is_foldable.ensures ∙ c.if-not-is_foldable.false) (sym c.in-Some.ensures)
    (c.deref.ensures.value ∙ c.in_ok-types.ensures) (c.deref-2.ensures.value ∙ c.in_ok-known.ensures) (c.deref-3.ensures.value ∙ c.in_ok-folds.ensures)
