use Rattle.std.proofs.Common.{◌∙◌, sym, ap}
use Rattle.std.proofs.lemmas.Option.{same_Some}
use Rattle.opt_inside.specs.Numbered.{numbers_of}
use Rattle.opt_inside.specs.facts.Problem.{block_number}
use Rattle.opt_inside.proofs.FactsLemmas.Edges.{row_is}
use Rattle.opt_inside.proofs.facts.rows.row_of.Goals as goal

pub unreachable-requires : goal.unreachable-requires
unreachable-requires g c = c.in-None.ensures.parent c.requires.linked.0 c.requires.linked.1

pub returns : goal.returns
returns g c =
    let n = numbers_of c.args.inside.now in
    row_is g.D.Meanings.meaning c.args.program.now n c.args.op c.requires.live _
    (λ b h. c.number_of_block-row.ensures ∙ ap (block_number n) (same_Some c.in-Some.block b (sym c.in-Some.is ∙ c.parent_block.ensures.only b h)))
    c.payload.result.now c.payload.ensures c.role_of_operation-row.ensures c.in_ok-operand_numbers.ensures c.in_ok-result_numbers.ensures c.in_ok-edges_of.ensures c.in_ok-entry_numbers.ensures
