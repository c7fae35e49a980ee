use Rattle.std.proofs.Common.{◌∙◌, ap, map}
use Rattle.ir_locations.specs.contracts.source.SourcePartialEq.TheImpl.{eq-value}
use Rattle.ir_locations.proofs.SourceLemmas.{map-insert_key}
use Rattle.ir_locations.proofs.found.add_source.Goals as goal

pub returns : goal.returns
returns c = ap (map (λ s. s.now)) c.in_ok-insert.ensures.keys ∙ map-insert_key eq-value.it c.args.found.now.keys c.args.source
