use Rattle.std.proofs.Common.{◌∙◌, sym, ap, subst, map, List, [], unwrap_or, option_map}
use Rattle.ir_entities.specs.Links.{AreDistinctNumbers}
use Rattle.ir_program.specs.declared.records.Definition.{Definition}
use Rattle.ir_program.specs.declared.handles.DefiningEntity.TheVariants.{Op as ByOp, Block as ByBlock}
use Rattle.ir_program.proofs.program.Program.definitions.Goals as goal

pub returns-in-Op-clause-distinct : goal.returns-in-Op-clause-distinct
returns-in-Op-clause-distinct g c =
    subst (λ (ds : List Definition). AreDistinctNumbers (map (λ (d : Definition). d.number) ds))
    (ap (λ o. unwrap_or (option_map (λ r. r.results.items) o) []) (sym c.op.ensures) ∙ sym c.deref.ensures)
    (c.self.invariant.numbers (ByOp c.in-Op.op)).distinct

pub returns-in-Block-clause-distinct : goal.returns-in-Block-clause-distinct
returns-in-Block-clause-distinct g c =
    subst (λ (ds : List Definition). AreDistinctNumbers (map (λ (d : Definition). d.number) ds))
    (ap (λ o. unwrap_or (option_map (λ r. r.arguments.items) o) []) (sym c.block.ensures) ∙ sym c.deref-in-Block.ensures)
    (c.self.invariant.numbers (ByBlock c.in-Block.block)).distinct
