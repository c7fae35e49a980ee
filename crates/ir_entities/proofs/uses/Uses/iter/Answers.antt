use Rattle.std.proofs.Common.{◌∙◌, ◌<◌, ◌≤◌, sym, subst, length, arith}
use Rattle.ir_entities.specs.Links.{list_at}
use Rattle.ir_entities.specs.Uses.{AreNamingPlaces}
use Rattle.ir_entities.proofs.Places.{is_defined, seen_listed, uses_of}
use Rattle.ir_entities.proofs.uses.Uses.iter.Goals as goal

pub forward-requires : goal.forward-requires
forward-requires g c = c.self.invariant.0.known c.args.definition (is_defined c.self.inside.definitions.slots c.self.inside.places.slots c.self.inside.threads.lists c.args.self.now c.self.view_is c.args.definition c.requires)

pub returns-clause-uses : goal.returns-clause-uses
returns-clause-uses g c =
    let lt : c.args.definition < length c.self.inside.threads.lists = c.self.invariant.0.known c.args.definition (is_defined c.self.inside.definitions.slots c.self.inside.places.slots c.self.inside.threads.lists c.args.self.now c.self.view_is c.args.definition c.requires) in
    subst (AreNamingPlaces c.args.self.now c.args.definition) (sym c.forward.ensures)
    (uses_of c.self.inside.definitions.slots c.self.inside.places.slots c.self.inside.threads.lists c.args.self.now c.self.view_is c.args.definition c.self.invariant.1 c.self.invariant.0.apart (c.know_members.ensures.distinct c.args.definition lt))

pub returns-clause-fits : goal.returns-clause-fits
returns-clause-fits g c =
    let lt : c.args.definition < length c.self.inside.threads.lists = c.self.invariant.0.known c.args.definition (is_defined c.self.inside.definitions.slots c.self.inside.places.slots c.self.inside.threads.lists c.args.self.now c.self.view_is c.args.definition c.requires) in
    let short : length (list_at c.self.inside.threads.lists c.args.definition) ≤ c.self.inside.threads.nodes = c.know_members.ensures.short c.args.definition lt in
    rw c.forward.ensures (omega arith)

pub returns-clause-order : goal.returns-clause-order
returns-clause-order g c =
    c.forward.ensures
    ∙ sym (seen_listed c.self.inside.definitions.slots c.self.inside.places.slots c.self.inside.threads.lists c.args.self.now c.self.view_is c.args.definition (is_defined c.self.inside.definitions.slots c.self.inside.places.slots c.self.inside.threads.lists c.args.self.now c.self.view_is c.args.definition c.requires))
