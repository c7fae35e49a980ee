use Rattle.std.proofs.Common.{◌<◌, ℕ, length, option_and_then, refl, ap, arith}
use Rattle.std.proofs.lemmas.Option.{slice_get_within}
use Rattle.ir_base.specs.declared.types.TypeHandle.{TypeHandle}
use Rattle.ir_types.proofs.Places.{once_from_distinct, found}
use Rattle.ir_types.proofs.Handles.{one_handle}
use Rattle.ir_types.proofs.Kept.{known_name, next_name, name_of_place, one_name_each, same_keys, kept_keys, types_with, same_bodies, kept_bodies, kept_lengths}
use Rattle.ir_types.proofs.types.Types.intern.Goals as goal

abbrev number : TypeHandle → ℕ
number ty = ty.number

pub returns-clause-known : goal.returns-clause-known
returns-clause-known g c = rw (← c.self.view_is) (λ ty kept at same.
    let laws = g.met.D.TypeKey.Eq.laws in
    let once = once_from_distinct g.D.TypeKey.PartialEq.eq laws c.self.inside.keys.keys c.intern_among.ensures.distinct in
    let there = found g.D.TypeKey.PartialEq.eq laws c.self.inside.keys.keys once c.args.key ty.number kept at same in
    let keys = same_keys g.D.TypeKey.PartialEq.eq c.self.inside.keys.keys c.intern_among.new.keys.keys c.args.key c.intern_among.result c.intern_among.ensures.ok c.intern_among.ensures.err_keys there in
    let bodies = same_bodies g.D.TypeKey.PartialEq.eq c.self.inside.keys.keys c.intern_among.new.keys.keys c.self.inside.bodies.items c.intern_among.new.bodies.items c.args.key c.intern_among.result c.intern_among.ensures.bodies c.intern_among.ensures.err_bodies there in (
      known_name g.D.TypeKey.PartialEq.eq laws number one_handle c.self.inside.keys.keys c.args.key c.intern_among.ensures.distinct c.intern_among.result c.intern_among.ensures.handle c.intern_among.ensures.absent ty kept at same,
      λ j. record { keys = keys j; bodies = bodies j; saved = c.self.inside.saved.keys },
    ))

pub returns-clause-fresh : goal.returns-clause-fresh
returns-clause-fresh g c = rw (← c.self.view_is) (next_name g.D.TypeKey.PartialEq.eq g.met.D.TypeKey.Eq.laws number one_handle c.self.inside.keys.keys c.args.key _ refl c.intern_among.result c.intern_among.ensures.handle)

pub returns-clause-ok : goal.returns-clause-ok
returns-clause-ok g c = rw (← c.self.view_is) (types_with g.D.TypeKey.PartialEq.eq c.self.inside.keys.keys c.intern_among.new.keys.keys c.self.inside.bodies.items c.intern_among.new.bodies.items c.args.key c.intern_among.result c.self.inside.saved.keys c.intern_among.ensures.ok c.intern_among.ensures.bodies)

pub returns-clause-same : goal.returns-clause-same
returns-clause-same g c = one_name_each g.D.TypeKey.PartialEq.eq g.met.D.TypeKey.Eq.laws number one_handle c.self.inside.keys.keys c.args.key c.intern_among.new.keys.keys c.intern_among.ensures.still_distinct c.intern_among.result c.intern_among.ensures.equal

pub returns-clause-keeps : goal.returns-clause-keeps
returns-clause-keeps g c = rw (← c.self.view_is) (λ ty key at.
    let within : ty.number < length c.self.inside.bodies.items = omega (arith, slice_get_within c.self.inside.keys.keys ty.number key at, c.self.invariant) in (
      kept_keys g.D.TypeKey.PartialEq.eq c.self.inside.keys.keys c.intern_among.new.keys.keys c.args.key c.intern_among.result c.intern_among.ensures.ok c.intern_among.ensures.err_keys ty.number key at,
      ap (option_and_then (λ body. body)) (kept_bodies g.D.TypeKey.PartialEq.eq c.self.inside.keys.keys c.intern_among.new.keys.keys c.self.inside.bodies.items c.intern_among.new.bodies.items c.args.key c.intern_among.result c.intern_among.ensures.bodies c.intern_among.ensures.err_bodies ty.number within),
    ))

pub returns-clause-handle : goal.returns-clause-handle
returns-clause-handle g c = rw (← c.self.view_is) (name_of_place g.D.TypeKey.PartialEq.eq g.met.D.TypeKey.Eq.laws number one_handle c.self.inside.keys.keys c.args.key _ refl c.intern_among.result c.intern_among.ensures.handle)

pub returns-clause-key : goal.returns-clause-key
returns-clause-key g c = c.intern_among.ensures.equal

pub invariant_of-self : goal.invariant_of-self
invariant_of-self g c = kept_lengths g.D.TypeKey.PartialEq.eq c.self.inside.keys.keys c.intern_among.new.keys.keys c.self.inside.bodies.items c.intern_among.new.bodies.items c.args.key c.intern_among.result c.intern_among.ensures.bodies c.intern_among.ensures.err_bodies c.intern_among.ensures.ok c.intern_among.ensures.err_keys c.self.invariant
