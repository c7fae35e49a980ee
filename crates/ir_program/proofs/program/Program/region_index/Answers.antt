use Rattle.std.proofs.Common.{◌≡◌, ◌≢◌, ◌<◌, ◌^◌, length, inl, arith, rules, tests}
use Rattle.std.proofs.lemmas.Iterator.{IsFirst-from_position}
use Rattle.std.proofs.lemmas.Iterator.Consumers.{YieldsList-from_first}
use Rattle.ir_program.specs.Lists.{regions_in}
use Rattle.ir_program.proofs.lists.Slotted.{not_found, found_at}
use Rattle.ir_program.proofs.lists.InOperations.{only_region_index, regions_fit}
use Rattle.ir_program.proofs.program.Program.region_index.Goals as goal

pub unreachable-requires : goal.unreachable-requires
unreachable-requires g c =
    let e = IsFirst-from_position _ _ c.position.result (λ r. r ≡ c.args.region) (λ r. r ≢ c.args.region) c.position.ensures.ran (YieldsList-from_first (λ x. x) (λ s. s) (regions_in c.args.self.now c.parent_operation-op.result) c.regions.ensures.list) (λ x q k. search (rules, tests)) (λ x q k. search (rules, tests)) in
    not_found (regions_in c.args.self.now c.parent_operation-op.result) c.args.region c.parent_operation-op.ensures.stands.index (rw c.in-None.is at e) c.parent_operation-op.ensures.stands.here

pub returns : goal.returns
returns g c op k h =
    let e = IsFirst-from_position _ _ c.position.result (λ r. r ≡ c.args.region) (λ r. r ≢ c.args.region) c.position.ensures.ran (YieldsList-from_first (λ x. x) (λ s. s) (regions_in c.args.self.now c.parent_operation-op.result) c.regions.ensures.list) (λ x q k. search (rules, tests)) (λ x q k. search (rules, tests)) in
    let at = rw c.in-Some.is at e in
    only_region_index _ c.args.self.now c.self.view_is c.know_listed.ensures c.args.region c.requires c.parent_operation-op.result op c.in-Some.index k (found_at (regions_in c.args.self.now c.parent_operation-op.result) c.args.region c.in-Some.index at.0 at.1) h

pub position-requires-clause-fits : goal.position-requires-clause-fits
position-requires-clause-fits g c =
    let short : length (regions_in c.args.self.now c.parent_operation-op.result) < 2 ^ 64 = regions_fit _ c.args.self.now c.self.view_is c.know_listed.ensures c.know_short.ensures c.parent_operation-op.result c.parent_operation-op.ensures.stands.operation in
    inl (rw c.regions.ensures.list (omega (arith, short)))
