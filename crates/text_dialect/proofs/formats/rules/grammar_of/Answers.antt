use Rattle.std.proofs.Common.{◌≡◌, true, map, subst, sym, ap, ◌∙◌}
use Rattle.ir_formats.specs.Given.{grammar_value, plain_part}
use Rattle.ir_formats.specs.Ordered.{OrdersTexts, is_ordered}
use Rattle.ir_formats.specs.Predicting.{fits}
use Rattle.ir_formats.specs.Rules.{rules_of}
use Rattle.ir_formats.proofs.Numbered.{if_ok_along}
use Rattle.text_dialect.proofs.formats.rules.grammar_of.Goals as goal

pub grammar_of_kinds-requires-clause-table : goal.grammar_of_kinds-requires-clause-table
grammar_of_kinds-requires-clause-table g c =
    let given = map plain_part c.table.result.now in
    subst (λ f. fits (grammar_value f given) ≡ true) (sym c.in_ok-kinds.ensures) c.table.ensures

pub returns-clause-ordered : goal.returns-clause-ordered
returns-clause-ordered g c =
    let leads = g.D.ReadDialect.leads in
    let so = ap (λ f. is_ordered leads (rules_of f)) c.in_ok-kinds.ensures ∙ g.met.D.ReadDialect.ordered in
    if_ok_along c.grammar_of_kinds.result _ (λ d. OrdersTexts d.grammar) (λ d orders. orders leads so)
    c.grammar_of_kinds.ensures.ordered
