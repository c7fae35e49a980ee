use Rattle.std.proofs.Common.{◌∙◌, ap, option_map, Some}
use Rattle.ir_names.specs.Identifier.{text_of}
use Rattle.ir_names.proofs.Legalised.{source_found, source_none}
use Rattle.ir_names.proofs.legaliser.Legaliser.source_name.Goals as goal

pub returns-in_err-index-clause-source : goal.returns-in_err-index-clause-source
returns-in_err-index-clause-source c =
    let none = source_none c.self.inside.sources.keys c.self.inside.names.keys c.self.invariant.0 (text_of c.args.name.now) c.in_err-index.ensures.index in
    rw (← c.self.view_is, ← none) (ap (option_map (λ source. source.now)) c.from_residual.ensures)

pub returns-clause-source : goal.returns-clause-source
returns-clause-source c =
    let found = source_found c.self.inside.sources.keys c.self.inside.names.keys c.self.invariant.0 (text_of c.args.name.now) c.in_ok-index.index c.in_ok-source.source.now c.in_ok-index.ensures.index c.in_ok-source.ensures.key in
    rw (← c.self.view_is) (ap Some c.as_str.ensures.value ∙ found)
