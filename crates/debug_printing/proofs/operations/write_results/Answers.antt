use Rattle.std.proofs.Common.{refl, sym, ◌∙◌}
use Rattle.std.proofs.Output.{writes_in_calls_nil, has_written_append, has_written_of_eq}
use Rattle.debug_printing.specs.DebugTexts.{names_in}
use Rattle.debug_printing.specs.declared.rows.Row.TheVariants.{Results}
use Rattle.debug_printing.proofs.DebugLemmas.{no_results, some_results}
use Rattle.debug_printing.proofs.operations.write_results.Goals as goal

pub returns-then-row_length-eq0 : goal.returns-then-row_length-eq0
returns-then-row_length-eq0 g c = λ plain ok.
    has_written_of_eq _ _ _ _ _ (no_results (names_in c.args.ctx.now.program c.args.op Results) (sym c.row_length.ensures ∙ c.if-row_length-eq0.true)) (record { wrote = writes_in_calls_nil _ _; plain = plain })

pub returns : goal.returns
returns g c = λ plain ok.
    let before = c.in_ok-write_row.ensures plain refl in
    has_written_of_eq _ _ _ _ _ (some_results (names_in c.args.ctx.now.program c.args.op Results) (λ z. c.if-row_length-eq0.false (c.row_length.ensures ∙ z)))
    (has_written_append _ _ _ _ _ _ before (c.write_str.ensures.writes before.plain ok))
