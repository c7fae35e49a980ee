use Rattle.std.proofs.Common.{◌≡◌, Some, ap, sym, ◌∙◌}
use Rattle.std.proofs.lemmas.Option.{same_Some}
use Rattle.opt_rows.proofs.Lists.{gained_one, gained_as}
use Rattle.opt_solvers.proofs.dead_rows.note.Goals as goal

pub returns-in_ok-put : goal.returns-in_ok-put
returns-in_ok-put c =
    let r = c.in-Some.row in
    gained_as (λ n k. (n ≡ r) × (k ≡ c.args.number)) (λ n k. (c.args.row ≡ Some n) × (k ≡ c.args.number))
    (λ n k (e, m). (c.in-Some.is ∙ ap Some (sym e), m)) (λ n k (e, m). (same_Some n r (sym e ∙ c.in-Some.is), m)) c.args.rows.now c.put.new.self
    (gained_one c.args.rows.now c.put.new.self r c.args.number (c.requires r c.in-Some.is) c.in_ok-put.ensures.ok)
