use Rattle.std.proofs.Common.{refl, List, ℕ, ◌<◌, length, get_or, [], rules}
use Rattle.std.proofs.Output.{writes_in_calls_nil, has_written_append, has_written_of_eq}
use Rattle.debug_printing.specs.DebugTexts.{names_in}
use Rattle.debug_printing.proofs.DebugLemmas.{there, joined_more}
use Rattle.debug_printing.proofs.rows.write_row.Goals as goal

pub loop-index-preserved : goal.loop-index-preserved
loop-index-preserved g c = λ plain.
    let names : List (List ℕ) = names_in c.args.ctx.now.program c.args.op c.args.row in
    let within : c.loop-index.index < length names = search (rules, c.row_length-index-end.ensures) in
    let before = c.loop-index.invariant plain in
    has_written_of_eq _ _ _ _ _ (joined_more names c.loop-index.index within)
    (has_written_append _ _ _ _ _ _ before (c.in_ok-write_member.ensures (get_or names c.loop-index.index []) (there names c.loop-index.index within) before.plain refl))

pub loop-index-init : goal.loop-index-init
loop-index-init g c = λ plain. record { wrote = writes_in_calls_nil _ _; plain = plain }
