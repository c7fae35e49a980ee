use Rattle.std.proofs.Common.{◌∙◌, sym, ap}
use Rattle.opt_inside.specs.facts.Folds.{fold_if}
use Rattle.opt_inside.proofs.FactsLemmas.Asked.{ok_then, row_within, row_at, row_live, fold_there}
use Rattle.opt_inside.proofs.facts.folding.ProgramFoldingFolding.fold.Goals as goal

pub bounds-self-row : goal.bounds-self-row
bounds-self-row g c = row_within c.args.self.now.program.now c.args.self.now.operations.now c.args.row c.requires

pub types_of_results-requires : goal.types_of_results-requires
types_of_results-requires g c = row_live c.args.self.now.program.now c.args.self.now.operations.now c.args.row c.requires _

pub payload-requires : goal.payload-requires
payload-requires g c = row_live c.args.self.now.program.now c.args.self.now.operations.now c.args.row c.requires _

pub returns : goal.returns
returns g c = ok_then c.check_fold.result
    (λ folds is. is
    ∙ fold_there c.args.self.now.program.now g.D.Meanings.meaning _ c.payload.result.now c.payload.ensures c.args.known.now c.deref.result.now (c.deref.ensures.value ∙ c.in_ok-types.ensures)
    ∙ ap (λ o. fold_if g.D.Meanings.meaning o c.args.known.now) (sym (row_at c.args.self.now.program.now c.args.self.now.operations.now c.args.row c.requires _)))
    c.check_fold.ensures
