use Rattle.std.proofs.Common.{◌∙◌, sym, ap}
use Rattle.opt_inside.specs.facts.Folds.{feasible_if}
use Rattle.opt_inside.proofs.FactsLemmas.Asked.{row_within, row_at, row_live, feasible_there}
use Rattle.opt_inside.proofs.facts.folding.ProgramFoldingFolding.is_feasible.Goals as goal

pub bounds-self-row : goal.bounds-self-row
bounds-self-row g c = row_within c.args.self.now.program.now c.args.self.now.operations.now c.args.row c.requires

pub payload-requires : goal.payload-requires
payload-requires g c = row_live c.args.self.now.program.now c.args.self.now.operations.now c.args.row c.requires _

pub returns : goal.returns
returns g c =
    c.is_feasible.ensures
    ∙ feasible_there c.args.self.now.program.now g.D.Meanings.meaning _ c.payload.result.now c.payload.ensures c.args.known.now c.args.edge
    ∙ ap (λ o. feasible_if g.D.Meanings.meaning o c.args.known.now c.args.edge) (sym (row_at c.args.self.now.program.now c.args.self.now.operations.now c.args.row c.requires _))
