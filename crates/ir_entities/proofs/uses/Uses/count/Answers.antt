use Rattle.std.proofs.Common.{◌<◌, ◌∙◌, ap, sym, length}
use Rattle.ir_entities.specs.Links.{list_at}
use Rattle.ir_entities.proofs.Places.{is_defined, seen_listed, uses_of}
use Rattle.ir_entities.proofs.uses.Uses.count.Goals as goal

pub returns-clause-count : goal.returns-clause-count
returns-clause-count g c =
    let lt : c.args.definition < length c.self.inside.threads.lists = c.self.invariant.0.known c.args.definition (is_defined c.self.inside.definitions.slots c.self.inside.places.slots c.self.inside.threads.lists c.args.self.now c.self.view_is c.args.definition c.requires) in (
      list_at c.self.inside.threads.lists c.args.definition,
      uses_of c.self.inside.definitions.slots c.self.inside.places.slots c.self.inside.threads.lists c.args.self.now c.self.view_is c.args.definition c.self.invariant.1 c.self.invariant.0.apart (c.know_members.ensures.distinct c.args.definition lt),
      sym (c.self.invariant.0.counts c.args.definition c.index.result.now c.index.ensures),
    )

pub returns-clause-listed : goal.returns-clause-listed
returns-clause-listed g c =
    c.self.invariant.0.counts c.args.definition c.index.result.now c.index.ensures
    ∙ ap length (sym (seen_listed c.self.inside.definitions.slots c.self.inside.places.slots c.self.inside.threads.lists c.args.self.now c.self.view_is c.args.definition (is_defined c.self.inside.definitions.slots c.self.inside.places.slots c.self.inside.threads.lists c.args.self.now c.self.view_is c.args.definition c.requires)))
