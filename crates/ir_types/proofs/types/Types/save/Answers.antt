use Rattle.std.proofs.Common.{ℕ, refl}
use Rattle.ir_types.specs.declared.saved.SavedKey.{SavedKey}
use Rattle.ir_types.proofs.Places.{once_from_distinct, found}
use Rattle.ir_types.proofs.Handles.{one_saved_key}
use Rattle.ir_types.proofs.Kept.{known_name, next_name, one_name_each, same_keys, kept_keys}
use Rattle.ir_types.proofs.types.Types.save.Goals as goal

abbrev number : SavedKey → ℕ
number key = key.number

pub returns-clause-known : goal.returns-clause-known
returns-clause-known g c = rw (← c.self.view_is) (λ key kept at same.
    let laws = g.met.D.Saved.Eq.laws in
    let once = once_from_distinct g.D.Saved.PartialEq.eq laws c.self.inside.saved.keys c.keep.ensures.distinct in
    let there = found g.D.Saved.PartialEq.eq laws c.self.inside.saved.keys once c.args.value key.number kept at same in
    let stays = same_keys g.D.Saved.PartialEq.eq c.self.inside.saved.keys c.keep.new.kept.keys c.args.value c.keep.result c.keep.ensures.ok c.keep.ensures.err there in (
      known_name g.D.Saved.PartialEq.eq laws number one_saved_key c.self.inside.saved.keys c.args.value c.keep.ensures.distinct c.keep.result c.keep.ensures.key c.keep.ensures.absent key kept at same,
      λ j. record { keys = c.self.inside.keys.keys; bodies = c.self.inside.bodies.items; saved = stays j },
    ))

pub returns-clause-fresh : goal.returns-clause-fresh
returns-clause-fresh g c = rw (← c.self.view_is) (next_name g.D.Saved.PartialEq.eq g.met.D.Saved.Eq.laws number one_saved_key c.self.inside.saved.keys c.args.value _ refl c.keep.result c.keep.ensures.key)

pub returns-clause-same : goal.returns-clause-same
returns-clause-same g c = one_name_each g.D.Saved.PartialEq.eq g.met.D.Saved.Eq.laws number one_saved_key c.self.inside.saved.keys c.args.value c.keep.new.kept.keys c.keep.ensures.still_distinct c.keep.result c.keep.ensures.equal

pub returns-clause-keeps : goal.returns-clause-keeps
returns-clause-keeps g c = rw (← c.self.view_is) (λ key. kept_keys g.D.Saved.PartialEq.eq c.self.inside.saved.keys c.keep.new.kept.keys c.args.value c.keep.result c.keep.ensures.ok c.keep.ensures.err key.number)
