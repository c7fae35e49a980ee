use Rattle.std.proofs.Common.{rules, ◌<◌, ◌^◌, ◌≡◌, ◌∙◌, ℕ, List, take, length, ap, subst, arith}
use Rattle.std.specs.Prelude.{Contains}
use Rattle.std.proofs.Math.Seq.{take-length}
use Rattle.opt_solvers.specs.DeadUses.{kept_by, CountsItems}
use Rattle.opt_rows.proofs.Rows.{row_read}
use Rattle.opt_solvers.proofs.DeadCounting.{row_counted, row_fits}
use Rattle.opt_solvers.proofs.dead_uses.count_rows.Goals as goal

pub row-requires : goal.row-requires
row-requires c = search rules

pub count_items-requires-clause-within : goal.count_items-requires-clause-within
count_items-requires-clause-within c = λ x h.
    let k = c.requires.within c.loop-index.index x (subst (λ xs. Contains xs x) c.row.ensures h) in
    let l = c.loop-index.invariant.len in omega (arith, k, l)

pub count_items-requires-clause-fits : goal.count_items-requires-clause-fits
count_items-requires-clause-fits c = let h : c.loop-index.index < length c.args.rows.now = search rules in
    row_fits (2 ^ 64) c.args.uses.now.items c.loop-index.uses.items c.args.rows.now c.loop-index.index c.row.result.now h (row_read c.args.rows.now c.loop-index.index c.row.result.now h c.row.ensures) c.requires.fits c.loop-index.invariant

pub loop-index-preserved : goal.loop-index-preserved
loop-index-preserved c = let h : c.loop-index.index < length c.args.rows.now = search rules in
    row_counted c.args.uses.now.items c.loop-index.uses.items c.count_items.new.uses.items c.args.rows.now c.loop-index.index c.row.result.now h (row_read c.args.rows.now c.loop-index.index c.row.result.now h c.row.ensures) c.loop-index.invariant c.count_items.ensures

pub returns : goal.returns
returns c = let e : c.loop-index.index ≡ length c.args.rows.now = search rules in
    subst (λ (rows : List (List ℕ)). CountsItems (kept_by rows) c.args.uses.now.items c.loop-index.uses.items) (ap (λ (n : ℕ). take n c.args.rows.now) e ∙ take-length c.args.rows.now) c.loop-index.invariant
