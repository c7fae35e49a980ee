use Rattle.std.proofs.Common.{length, slice_get, sym, ap, ◌∙◌}
use Rattle.opt_dce.proofs.LivenessLemmas.Ground.{ok_then}
use Rattle.opt_dce.proofs.liveness.closing.value_rows.Goals as goal

pub value_rows_by-requires-clause-blocks : goal.value_rows_by-requires-clause-blocks
value_rows_by-requires-clause-blocks g c = ap length c.deref.ensures.value ∙ c.in_ok-blocks.ensures.len

pub value_rows_by-requires-clause-definers : goal.value_rows_by-requires-clause-definers
value_rows_by-requires-clause-definers g c v b at e = c.requires.definers v b at e

pub returns-clause-rows : goal.returns-clause-rows
returns-clause-rows g c = ok_then c.value_rows_by.result
    (λ rows takes k v row h r.
    let row_is = takes k v row h r in
    record {
      result = row_is.result;
      argument = λ b e. let w = row_is.argument b e in c.in_ok-blocks.ensures.rows w.0 b row w.1 (ap (λ xs. slice_get xs w.0) (sym c.deref.ensures.value) ∙ w.2);
    })
    c.value_rows_by.ensures.rows
