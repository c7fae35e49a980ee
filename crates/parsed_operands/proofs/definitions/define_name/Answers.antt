use Rattle.std.proofs.Common.{◌∙◌, refl, sym, subst, Option}
use Rattle.parsed_operands.specs.Definitions.{Settles}
use Rattle.parsed_operands.proofs.definitions.define_name.Goals as goal

pub returns-in-Ok-Some-clause-settled : goal.returns-in-Ok-Some-clause-settled
returns-in-Ok-Some-clause-settled g c =
    let P : Option g.row.V.Denot → Type 0 = λ stood. Settles g.F.FnOnce c.args.resolve stood c.args.ctx.now c.resolve.new.arg2 in
    subst P (sym c.in-Ok-Some.field-0-is ∙ c.in-Ok-Some.ensures.replaced)
    (record { shown = _; shows = refl; left = _; met = c.resolve.ensures; leaves = refl })
