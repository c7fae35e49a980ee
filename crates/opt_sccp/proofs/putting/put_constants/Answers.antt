-- The list is put in one by one.
use Rattle.std.proofs.lemmas.Result.{err_from_is_err_and}
use Rattle.opt_dialect.specs.declared.status.OptError.TheVariants.{CounterFull}
use Rattle.std.proofs.Common.{◌≡◌, ◌≤◌, ◌+◌, ◌^◌, Err, take, length, refl, sym, ap, ◌∙◌, subst, arith, add-zero}
use Rattle.std.proofs.Math.Seq.{take-length}
use Rattle.std.proofs.lemmas.Option.{slice_get_read}
use Rattle.ir_context.specs.Known.{IsKnownIn}
use Rattle.ir_program.specs.Adds.{SomeCame}
use Rattle.ir_program.proofs.made.AddSteps.{kept-erased, erased-then}
use Rattle.ir_program.proofs.made.Frames.{on_err}
use Rattle.ir_trees.proofs.ListEdited.{AreOrderly}
use Rattle.opt_sccp.specs.Made.{PutsList}
use Rattle.opt_sccp.proofs.Definitions.{AreDefined, are_defined}
use Rattle.opt_sccp.proofs.PlacedLists.{index_has}
use Rattle.opt_sccp.proofs.PuttingLoop.{begins, can_put, goes_on, stays, ends}
use Rattle.opt_sccp.proofs.putting.put_constants.Goals as goal

pub loop-one-init : goal.loop-one-init
loop-one-init g c =
    let lists = c.know_lists.ensures in
    let orderly : AreOrderly c.program-program.result.now = record { operations_once = lists.operations_once; blocks_once = lists.blocks_once; regions_once = lists.regions_once; operations = lists.operations; blocks = lists.blocks; apart = lists.operation_apart } in
    let defined = are_defined c.program-program.result.now c.know_values.ensures.definer c.know_values.ensures.typed c.know_values.ensures.stands in
    record {
      putting = begins g.D.Meanings.meaning c.args.ctx.now.program c.args.op (subst (λ p. AreOrderly p) c.program-program.ensures orderly) (subst (λ p. AreDefined p) c.program-program.ensures defined) c.args.made.now;
      types = refl;
      numbers = sym (add-zero _);
      erased = kept-erased c.args.ctx.now.program;
    }

pub put_one-requires-clause-place : goal.put_one-requires-clause-place
put_one-requires-clause-place g c =
    can_put g.D.Meanings.meaning c.args.ctx.now.program c.args.op c.loop-one.ctx.program c.args.made.now c.loop-one.one-index c.loop-one.invariant.putting c.requires.list c.loop-one.one-index c.one-item.result
    (slice_get_read c.args.made.now (length c.args.made.now) c.loop-one.one-index c.one-item.result refl c.loop-one-test.true c.one-item.is)

pub put_one-requires-clause-maker : goal.put_one-requires-clause-maker
put_one-requires-clause-maker g c =
    c.requires.list.made_by c.one-item.result (index_has c.args.made.now c.loop-one.one-index c.one-item.result
    (slice_get_read c.args.made.now (length c.args.made.now) c.loop-one.one-index c.one-item.result refl c.loop-one-test.true c.one-item.is))

pub put_one-requires-clause-known : goal.put_one-requires-clause-known
put_one-requires-clause-known g c =
    subst (λ t. IsKnownIn (g.T.TypeTable.type_count t) (g.D.Meanings.meaning.constant_type c.one-item.result.constant)) (sym c.loop-one.invariant.types)
    (c.requires.known c.one-item.result (index_has c.args.made.now c.loop-one.one-index c.one-item.result
    (slice_get_read c.args.made.now (length c.args.made.now) c.loop-one.one-index c.one-item.result refl c.loop-one-test.true c.one-item.is)))

pub returns-in_err-put_one-clause-part : goal.returns-in_err-put_one-clause-part
returns-in_err-put_one-clause-part g c =
    let now = stays g.D.Meanings.meaning c.args.ctx.now.program c.args.op c.loop-one.ctx.program c.args.made.now c.loop-one.one-index c.loop-one.invariant.putting c.requires.list c.put_one.new.ctx.program c.in_err-put_one.ensures.same in
    on_err {P = SomeCame c.args.made.now (PutsList g.D.Meanings.meaning c.args.ctx.now.program c.put_one.new.ctx.program c.args.op)} c.from_residual.result (c.loop-one.one-index, c.loop-one-test.true, ends g.D.Meanings.meaning c.args.ctx.now.program c.args.op c.put_one.new.ctx.program c.args.made.now c.loop-one.one-index now c.requires.list)

pub returns-in_err-put_one-clause-full : goal.returns-in_err-put_one-clause-full
returns-in_err-put_one-clause-full g c = λ e.
    let p = err_from_is_err_and c.from_residual.result c.from_residual.ensures.1 in
    let same : Err p.0 ≡ Err CounterFull = sym p.1 ∙ e in
    let inner : p.0 ≡ CounterFull = cc in
    let full : 2 ^ 64 ≤ c.loop-one.ctx.program.counter + 1 = c.in_err-put_one.ensures.full (ap (λ x. Err x) (sym p.2 ∙ inner)) in
    let so_far : c.loop-one.ctx.program.counter ≡ c.args.ctx.now.program.counter + c.loop-one.one-index = c.loop-one.invariant.numbers in
    omega (arith, full, so_far, c.loop-one-test.true)

pub loop-one-preserved : goal.loop-one-preserved
loop-one-preserved g c = record {
  putting = goes_on g.D.Meanings.meaning c.args.ctx.now.program c.args.op c.loop-one.ctx.program c.args.made.now c.loop-one.one-index c.loop-one.invariant.putting c.requires.list c.put_one.new.ctx.program c.one-item.result
      (slice_get_read c.args.made.now (length c.args.made.now) c.loop-one.one-index c.one-item.result refl c.loop-one-test.true c.one-item.is) c.in_ok-put_one.ensures.put;
  types = c.in_ok-put_one.ensures.types ∙ c.loop-one.invariant.types;
  numbers = let so_far : c.loop-one.ctx.program.counter ≡ c.args.ctx.now.program.counter + c.loop-one.one-index = c.loop-one.invariant.numbers in
      let next : c.put_one.new.ctx.program.counter ≡ c.loop-one.ctx.program.counter + 1 = c.in_ok-put_one.ensures.numbers in
      omega (arith, so_far, next);
  erased = erased-then c.args.ctx.now.program c.loop-one.ctx.program c.put_one.new.ctx.program c.loop-one.invariant.erased c.in_ok-put_one.ensures.erased;
}

pub returns-clause-put : goal.returns-clause-put
returns-clause-put g c =
    let all : c.loop-one.one-index ≡ length c.args.made.now = omega arith in
    subst (λ ms. PutsList g.D.Meanings.meaning c.args.ctx.now.program c.loop-one.ctx.program c.args.op ms) (ap (λ n. take n c.args.made.now) all ∙ take-length c.args.made.now)
    (ends g.D.Meanings.meaning c.args.ctx.now.program c.args.op c.loop-one.ctx.program c.args.made.now c.loop-one.one-index c.loop-one.invariant.putting c.requires.list)

pub returns-clause-numbers : goal.returns-clause-numbers
returns-clause-numbers g c =
    let all : c.loop-one.one-index ≡ length c.args.made.now = omega arith in
    c.loop-one.invariant.numbers ∙ ap (λ n. c.args.ctx.now.program.counter + n) all

pub returns-in_err-put_one-clause-erased : goal.returns-in_err-put_one-clause-erased
returns-in_err-put_one-clause-erased g c = erased-then c.args.ctx.now.program c.loop-one.ctx.program c.put_one.new.ctx.program c.loop-one.invariant.erased c.in_err-put_one.ensures.erased
