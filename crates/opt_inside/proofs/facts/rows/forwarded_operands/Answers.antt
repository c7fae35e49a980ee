use Rattle.std.proofs.Common.{◌≡◌, ◌∙◌, sym, ap, ℕ, nat_lt, rules}
use Rattle.std.specs.List.{filter}
use Rattle.std.proofs.lemmas.Fn.{filter_same}
use Rattle.std.proofs.lemmas.Option.{same_Some}
use Rattle.opt_inside.proofs.facts.rows.forwarded_operands.Goals as goal

pub returns : goal.returns
returns g c w at =
    let d = g.D.Meanings.meaning in
    let count = c.operand_count-count.result in
    let same : c.payload.result.now ≡ w = same_Some c.payload.result.now w (sym c.payload.ensures ∙ at) in
    filter_same _ (λ i. nat_lt i count) _ (λ x b f' k. search rules) _ _ c.retain.ensures.filtered
    ∙ ap (filter (λ i. nat_lt i count)) (c.in_ok-indices.ensures ∙ ap (λ v. d.forwards v count c.args.successor) same)
    ∙ ap (λ (n : ℕ). filter (λ i. nat_lt i n) (d.forwards w n c.args.successor)) c.operand_count-count.ensures
