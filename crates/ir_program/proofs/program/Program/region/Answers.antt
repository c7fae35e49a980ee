use Rattle.std.proofs.Common.{◌∙◌, sym}
use Rattle.std.proofs.lemmas.Iterator.Adapters.{option_map_id}
use Rattle.std.proofs.lemmas.Iterator.Consumers.{nth_from_yields_List, YieldsList-from_first}
use Rattle.ir_program.specs.Lists.{regions_in}
use Rattle.ir_program.proofs.lists.InOperations.{region_stands}
use Rattle.ir_program.proofs.program.Program.region.Goals as goal

pub returns-clause-region : goal.returns-clause-region
returns-clause-region g c = sym (option_map_id c.nth.result) ∙ nth_from_yields_List c.nth.result _ c.args.index c.nth.ensures.ran (YieldsList-from_first (λ x. x) (λ s. s) (regions_in c.args.self.now c.args.op) c.regions.ensures.list)

pub returns-clause-stands : goal.returns-clause-stands
returns-clause-stands g c = region_stands c.args.self.now c.know_listed.ensures c.args.op c.args.index c.nth.result (returns-clause-region g c)
