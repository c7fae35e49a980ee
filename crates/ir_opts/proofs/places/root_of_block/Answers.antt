use Rattle.std.proofs.Common.{◌≡◌, sym, ◌∙◌, subst}
use Rattle.std.proofs.lemmas.Option.{same_Some}
use Rattle.ir_program.specs.Lists.{StandsInOperation}
use Rattle.ir_opts.proofs.places.root_of_block.Goals as goal

pub unreachable-requires : goal.unreachable-requires
unreachable-requires g c = c.in_default.not-Some c.requires.0 (c.parent_region.ensures.only c.requires.0 c.requires.1)

pub returns-clause-only : goal.returns-clause-only
returns-clause-only g c = λ q h.
    let same : h.0 ≡ c.in-Some.region = same_Some h.0 c.in-Some.region (sym (c.parent_region.ensures.only h.0 h.1) ∙ c.in-Some.is) in
    sym (c.parent_operation.ensures.only q (subst (λ r. StandsInOperation c.args.program.now r q) same h.2))
