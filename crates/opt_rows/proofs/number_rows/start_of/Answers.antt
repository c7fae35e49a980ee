use Rattle.std.proofs.Common.{rules, ◌≡◌, ◌-◌, ◌<◌, suc, length, sym, ap, ◌∙◌}
use Rattle.opt_rows.specs.Rows.{start_from}
use Rattle.opt_rows.proofs.Rows.{start_is}
use Rattle.opt_rows.proofs.number_rows.start_of.Goals as goal

pub returns-else-index-eq0 : goal.returns-else-index-eq0
returns-else-index-eq0 c =
    let i = c.args.index in
    let e : suc (i - 1) ≡ i = search rules in
    let h : i - 1 < length c.args.ends.now = search rules in
    sym (start_is 0 c.args.ends.now (i - 1) h) ∙ ap (start_from 0 c.args.ends.now) e
