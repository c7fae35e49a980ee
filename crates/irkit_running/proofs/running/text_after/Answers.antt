use Rattle.std.proofs.Common.{string_bytes}
use Rattle.irkit_refusals.specs.Refusals.{of_grow_error}
use Rattle.irkit_running.proofs.EndLemmas.{unloaded, unloaded_run, unpassed, untexted}
use Rattle.irkit_running.proofs.running.text_after.Goals as goal

pub returns-in_err-root : goal.returns-in_err-root
returns-in_err-root g c =
    let remaining = g.R.Read.remaining in
    untexted remaining c.args.reader.now c.load.new.reader c.args.passes.now string_bytes c.in_err-root.field-0.0 c.from_residual.result
    c.from_residual.ensures.1
    (unloaded_run remaining c.args.reader.now c.load.new.reader c.args.passes.now c.in_err-root.field-0.0
    (unloaded remaining c.args.reader.now c.load.new.reader c.args.ctx.now c.load.new.ctx c.load.result c.in_err-root.field-0.0
    c.in_err-root.was c.load.ensures.ends c.requires.counter))

pub optimised_text-requires-clause-holds : goal.optimised_text-requires-clause-holds
optimised_text-requires-clause-holds g c = c.in_ok-root.ensures.ends.2.holds

pub optimised_text-requires-clause-writable : goal.optimised_text-requires-clause-writable
optimised_text-requires-clause-writable g c = c.in_ok-root.ensures.writable

pub optimised_text-requires-clause-grammar : goal.optimised_text-requires-clause-grammar
optimised_text-requires-clause-grammar g c = c.in_ok-root.ensures.grammar

pub returns-in_err-text : goal.returns-in_err-text
returns-in_err-text g c =
    let ends = c.in_ok-root.ensures.ends in
    untexted g.R.Read.remaining c.args.reader.now c.load.new.reader c.args.passes.now string_bytes (of_grow_error c.in_err-text.field-0.0)
    c.from_residual-in_err-text.result c.from_residual-in_err-text.ensures.1
    (unpassed g.R.Read.remaining c.args.reader.now c.load.new.reader string_bytes c.args.passes.now c.args.ctx.now c.load.new.ctx c.in_ok-root.root
    ends.0 c.optimised_text.result c.in_err-text.field-0.0 c.in_err-text.was ends.1 ends.2 c.requires.counter c.optimised_text.ensures)

pub returns : goal.returns
returns g c =
    let ends = c.in_ok-root.ensures.ends in (
      ends.0,
      ends.1,
      record {
        before = c.load.new.ctx;
        root = c.in_ok-root.root;
        accepted = ends.2.accepted;
        gives = c.in_ok-text.ensures;
      },
    )
