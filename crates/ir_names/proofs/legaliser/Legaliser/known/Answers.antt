use Rattle.std.proofs.Common.{◌∙◌, ap, option_map}
use Rattle.ir_names.specs.Identifier.{text_of}
use Rattle.ir_names.proofs.Legalised.{name_found_at, name_none, copied_text}
use Rattle.ir_names.proofs.legaliser.Legaliser.known.Goals as goal

pub returns-in_err-index : goal.returns-in_err-index
returns-in_err-index c =
    let none = name_none c.self.inside.sources.keys c.self.inside.names.keys c.self.invariant.0 (c.args.source.now) c.in_err-index.ensures.index in
    rw (← c.self.view_is, ← none) (ap (option_map (λ name. text_of name.now)) c.from_residual.ensures)

pub returns : goal.returns
returns c =
    rw (← c.self.view_is) (copied_text c.get_index.result ∙ (ap (option_map text_of) c.get_index.ensures.key ∙ name_found_at c.self.inside.sources.keys c.self.inside.names.keys c.self.invariant.0 c.args.source.now c.in_ok-index.index c.in_ok-index.ensures.index))
