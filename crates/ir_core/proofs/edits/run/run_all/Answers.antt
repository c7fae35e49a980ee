use Rattle.std.proofs.Common.{◌≡◌, ◌<◌, [], length, take, drop, Some, Ok, Err, subst, ap, ◌∙◌, sym, arith}
use Rattle.std.proofs.lemmas.List.{length-set}
use Rattle.std.proofs.lemmas.Option.{slice_get-get_or}
use Rattle.ir_core.specs.edits.Steps.{step}
use Rattle.ir_core.proofs.EditsLemmas.Kept.{runs_kept}
use Rattle.ir_core.proofs.EditsLemmas.Running.{ComesTo, came, stopped, ended}
use Rattle.ir_core.proofs.edits.run.run_all.Goals as goal

pub returns-in-Err-clause-refused : goal.returns-in-Err-clause-refused
returns-in-Err-clause-refused g c =
    let lt : c.loop-index.index < length c.loop-index.made.items = omega (arith, c.loop-index-test.true, c.loop-index.invariant.0) in
    stopped g.D.DialectTables.nowhere c.args.ctx.now c.loop-index.ctx c.apply.new.ctx c.args.edits.now c.loop-index.made.items c.loop-index.index c.index-edits-index.result c.in-Err.refusal
    (slice_get-get_or c.args.edits.now c.loop-index.index c.index-edits-index.result c.loop-index-test.true ∙ ap Some (sym c.index-edits-index.is))
    lt
    (subst (λ made. step g.D.DialectTables.nowhere c.loop-index.ctx (take c.loop-index.index made) c.index-edits-index.result c.apply.new.ctx (Err c.in-Err.refusal)) c.deref.ensures.value c.in-Err.ensures)
    c.loop-index.invariant.1

pub returns-in-Err-clause-erased : goal.returns-in-Err-clause-erased
returns-in-Err-clause-erased g c = runs_kept g.D.DialectTables.nowhere c.args.ctx.now [] c.args.edits.now c.apply.new.ctx (Err (c.loop-index.index, c.in-Err.refusal)) (returns-in-Err-clause-refused g c)

pub loop-index-preserved : goal.loop-index-preserved
loop-index-preserved g c =
    let lt : c.loop-index.index < length c.loop-index.made.items = omega (arith, c.loop-index-test.true, c.loop-index.invariant.0) in (
      length-set c.loop-index.made.items c.loop-index.index c.in-Ok.entity ∙ c.loop-index.invariant.0,
      came g.D.DialectTables.nowhere c.args.ctx.now c.loop-index.ctx c.apply.new.ctx c.args.edits.now c.loop-index.made.items c.loop-index.index c.index-edits-index.result c.in-Ok.entity
          (slice_get-get_or c.args.edits.now c.loop-index.index c.index-edits-index.result c.loop-index-test.true ∙ ap Some (sym c.index-edits-index.is))
          lt
          (subst (λ made. step g.D.DialectTables.nowhere c.loop-index.ctx (take c.loop-index.index made) c.index-edits-index.result c.apply.new.ctx (Ok c.in-Ok.entity)) c.deref.ensures.value c.in-Ok.ensures)
          c.loop-index.invariant.1,
    )

pub returns-clause-all : goal.returns-clause-all
returns-clause-all g c =
    let done : c.loop-index.index ≡ length c.args.edits.now = omega (arith, c.loop-index-test.false, c.loop-index.auto.index-end) in
    ended g.D.DialectTables.nowhere c.args.ctx.now c.loop-index.ctx c.args.edits.now c.loop-index.made.items c.loop-index.invariant.0
    (subst (λ k. ComesTo g.D.DialectTables.nowhere c.args.ctx.now c.args.edits.now c.loop-index.ctx (take k c.loop-index.made.items) (drop k c.args.edits.now)) done c.loop-index.invariant.1)

pub returns-clause-erased : goal.returns-clause-erased
returns-clause-erased g c = runs_kept g.D.DialectTables.nowhere c.args.ctx.now [] c.args.edits.now c.loop-index.ctx (Ok c.loop-index.made.items) (returns-clause-all g c)
