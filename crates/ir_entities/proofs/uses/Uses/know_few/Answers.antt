use Rattle.std.proofs.Common.{◌<◌, ◌^◌, arith}
use Rattle.ir_entities.specs.Links.{IsLinked}
use Rattle.ir_entities.proofs.Places.{is_linked}
use Rattle.ir_entities.proofs.uses.Uses.know_few.Goals as goal

pub returns : goal.returns
returns g c =
    let few : c.self.inside.threads.nodes < 2 ^ 64 = omega arith in (
      c.self.inside.threads.nodes,
      few,
      λ p used. let l : IsLinked c.self.inside.threads.lists p = is_linked c.self.inside.definitions.slots c.self.inside.places.slots c.self.inside.threads.lists c.args.self.now c.self.view_is c.self.invariant.1 p used in
          c.know_members.ensures.below l.0 p l.1,
    )
