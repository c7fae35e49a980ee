use Rattle.std.proofs.Common.{ap, ◌∙◌}
use Rattle.ir_queries.specs.Naming.{names_under, attributes_of}
use Rattle.ir_queries.proofs.DefinerLemmas.{one_index}
use Rattle.ir_queries.proofs.Held.{at_index}
use Rattle.ir_queries.proofs.given.value_name.Goals as goal

pub returns : goal.returns
returns g c = λ k here. at_index _ _ _ c.find_index-index.result k c.name_at.ensures
    (c.names_under.ensures ∙ ap (names_under g.D.DialectTables.names g.D.DialectTables.names_in) (c.attributes_of.ensures ∙ ap (attributes_of c.args.ctx.now.program) c.definer.ensures))
    (one_index c.args.ctx.now.program (rw c.program.ensures at c.know_values.ensures.stands) c.args.value c.requires c.find_index-index.result k c.find_index-index.ensures here)
