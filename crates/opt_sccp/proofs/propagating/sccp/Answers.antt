-- What was decided is put in, if it is anything.
use Rattle.std.proofs.lemmas.Result.{err_from_is_err_and}
use Rattle.opt_dialect.specs.declared.status.OptError.TheVariants.{CounterFull}
use Rattle.std.proofs.Common.{◌≡◌, ◌≤◌, ◌+◌, ◌^◌, Err, [], length, refl, sym, ap, ◌∙◌, subst, add-zero}
use Rattle.std.specs.Prelude.{nat_eq}
use Rattle.ir_context.specs.Known.{HasKnownTypes}
use Rattle.ir_program.specs.Adds.{SomeCame}
use Rattle.ir_program.proofs.made.AddSteps.{kept-erased}
use Rattle.ir_program.proofs.made.Frames.{on_err}
use Rattle.opt_trees.specs.Occurrences.{Has}
use Rattle.opt_sccp.specs.Made.{PutsList}
use Rattle.opt_sccp.specs.Sccp.{IsDecided}
use Rattle.opt_sccp.proofs.Propagated.{nothing_in, unchanged_in, changed_in, part_in, empty_is, not_empty}
use Rattle.opt_sccp.proofs.propagating.sccp.Goals as goal

pub returns-in_err-made-clause-part : goal.returns-in_err-made-clause-part
returns-in_err-made-clause-part g c = on_err c.from_residual.result
    (nothing_in g.D.Meanings.meaning c.args.ctx.now.program c.args.op (subst (λ p. PutsList g.D.Meanings.meaning p p c.args.op []) c.program.ensures (c.know_nothing_put.ensures c.args.op)))

pub returns-then-is_empty-clause-propagates : goal.returns-then-is_empty-clause-propagates
returns-then-is_empty-clause-propagates g c = unchanged_in g.D.Meanings.meaning c.args.ctx.now.program c.args.op c.in_ok-made.made.items (empty_is c.in_ok-made.made.items (ap (λ n. nat_eq n 0) (sym c.in_ok-made.made.ok.0) ∙ sym c.is_empty.ensures ∙ c.if-is_empty.true))
    (subst (λ p. IsDecided g.D.Meanings.meaning p c.args.op c.in_ok-made.made.items) c.program-2.ensures c.in_ok-made.ensures.decided)
    (subst (λ p. PutsList g.D.Meanings.meaning p p c.args.op []) c.program.ensures (c.know_nothing_put.ensures c.args.op))

pub put_constants-requires-clause-known : goal.put_constants-requires-clause-known
put_constants-requires-clause-known g c m h = c.in_ok-made.ensures.known (g.T.TypeTable.type_count c.args.ctx.now.types)
    (subst (λ p. HasKnownTypes (g.T.TypeTable.type_count c.args.ctx.now.types) p) (sym c.program-2.ensures) c.know_types.ensures) m (subst (λ ms. Has m ms) c.deref.ensures.value h)

pub returns-in_err-put_constants-clause-part : goal.returns-in_err-put_constants-clause-part
returns-in_err-put_constants-clause-part g c = on_err c.from_residual-in_err-put_constants.result
    (part_in g.D.Meanings.meaning c.args.ctx.now.program c.args.op c.put_constants.new.ctx.program c.in_ok-made.made.items
    (subst (λ p. IsDecided g.D.Meanings.meaning p c.args.op c.in_ok-made.made.items) c.program-2.ensures c.in_ok-made.ensures.decided)
    (subst (λ ms. SomeCame ms (PutsList g.D.Meanings.meaning c.args.ctx.now.program c.put_constants.new.ctx.program c.args.op)) c.deref.ensures.value c.in_err-put_constants.ensures.part))

pub returns-in_err-put_constants-clause-full : goal.returns-in_err-put_constants-clause-full
returns-in_err-put_constants-clause-full g c = λ e.
    let p = err_from_is_err_and c.from_residual-in_err-put_constants.result c.from_residual-in_err-put_constants.ensures.1 in
    let same : Err p.0 ≡ Err CounterFull = sym p.1 ∙ e in
    let inner : p.0 ≡ CounterFull = cc in
    let full = c.in_err-put_constants.ensures.full (ap (λ x. Err x) (sym p.2 ∙ inner)) in (
      c.args.ctx.now.program.counter + length c.in_ok-made.made.items,
      record {
        made = c.in_ok-made.made.items;
        decided = subst (λ p. IsDecided g.D.Meanings.meaning p c.args.op c.in_ok-made.made.items) c.program-2.ensures c.in_ok-made.ensures.decided;
        sum = refl;
      },
      subst (λ ms. 2 ^ 64 ≤ c.args.ctx.now.program.counter + length ms) c.deref.ensures.value full,
    )

pub returns-then-is_empty-clause-numbers : goal.returns-then-is_empty-clause-numbers
returns-then-is_empty-clause-numbers g c =
    let none = empty_is c.in_ok-made.made.items (ap (λ n. nat_eq n 0) (sym c.in_ok-made.made.ok.0) ∙ sym c.is_empty.ensures ∙ c.if-is_empty.true) in
    record {
      made = c.in_ok-made.made.items;
      decided = subst (λ p. IsDecided g.D.Meanings.meaning p c.args.op c.in_ok-made.made.items) c.program-2.ensures c.in_ok-made.ensures.decided;
      sum = rw none (sym (add-zero _));
    }

pub returns-clause-numbers : goal.returns-clause-numbers
returns-clause-numbers g c = record {
  made = c.in_ok-made.made.items;
  decided = subst (λ p. IsDecided g.D.Meanings.meaning p c.args.op c.in_ok-made.made.items) c.program-2.ensures c.in_ok-made.ensures.decided;
  sum = c.in_ok-put_constants.ensures.numbers ∙ ap (λ ms. c.args.ctx.now.program.counter + length ms) c.deref.ensures.value;
}

pub returns-clause-propagates : goal.returns-clause-propagates
returns-clause-propagates g c = changed_in g.D.Meanings.meaning c.args.ctx.now.program c.args.op c.put_constants.new.ctx.program c.in_ok-made.made.items
    (subst (λ p. IsDecided g.D.Meanings.meaning p c.args.op c.in_ok-made.made.items) c.program-2.ensures c.in_ok-made.ensures.decided)
    (not_empty c.in_ok-made.made.items (ap (λ n. nat_eq n 0) (sym c.in_ok-made.made.ok.0) ∙ sym c.is_empty.ensures ∙ c.if-is_empty.false))
    (subst (λ ms. PutsList g.D.Meanings.meaning c.args.ctx.now.program c.put_constants.new.ctx.program c.args.op ms) c.deref.ensures.value c.in_ok-put_constants.ensures.put)

pub returns-in_err-made-clause-erased : goal.returns-in_err-made-clause-erased
returns-in_err-made-clause-erased g c = kept-erased c.args.ctx.now.program

pub returns-then-is_empty-clause-erased : goal.returns-then-is_empty-clause-erased
returns-then-is_empty-clause-erased g c = kept-erased c.args.ctx.now.program
