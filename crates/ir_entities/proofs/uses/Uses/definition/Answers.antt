use Rattle.std.proofs.Common.{refl}
use Rattle.std.proofs.lemmas.Bool.{both_ways}
use Rattle.ir_entities.specs.Links.{has, list_at, IsLinked}
use Rattle.ir_entities.proofs.Places.{is_linked, names}
use Rattle.ir_entities.proofs.uses.Uses.definition.Goals as goal

pub list-requires : goal.list-requires
list-requires g c =
    let l : IsLinked c.self.inside.threads.lists c.args.place = is_linked c.self.inside.definitions.slots c.self.inside.places.slots c.self.inside.threads.lists c.args.self.now c.self.view_is c.self.invariant.1 c.args.place c.requires in
    c.know_members.ensures.below l.0 c.args.place l.1

pub unreachable-requires : goal.unreachable-requires
unreachable-requires g c =
    let l : IsLinked c.self.inside.threads.lists c.args.place = is_linked c.self.inside.definitions.slots c.self.inside.places.slots c.self.inside.threads.lists c.args.self.now c.self.view_is c.self.invariant.1 c.args.place c.requires in
    both_ways (has c.args.place (list_at c.self.inside.threads.lists l.0)) (c.in-None.ensures.unlinked refl l.0) l.1

pub returns-clause-named : goal.returns-clause-named
returns-clause-named g c = names c.self.inside.definitions.slots c.self.inside.places.slots c.self.inside.threads.lists c.args.self.now c.self.view_is c.self.invariant.1 c.args.place c.in-Some.definition c.self.invariant.0.apart c.in-Some.ensures.linked
