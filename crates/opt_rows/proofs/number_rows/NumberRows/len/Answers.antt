use Rattle.std.proofs.Common.{rules, ◌≡◌, ℕ, List, length, sym, ap, ◌∙◌}
use Rattle.opt_rows.proofs.Rows.{as_many}
use Rattle.opt_rows.proofs.number_rows.NumberRows.len.Goals as goal

pub returns-clause-len : goal.returns-clause-len
returns-clause-len c =
    let l : c.len.result ≡ length c.self.inside.ends.items = search rules in
    l ∙ sym (as_many 0 c.self.inside.ends.items c.self.inside.numbers.items) ∙ ap (λ (rs : List (List ℕ)). length rs) c.self.view_is
