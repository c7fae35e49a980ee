use Rattle.std.proofs.Common.{ap}
use Rattle.ir_base.specs.declared.types.TypeHandle.{TypeHandle}
use Rattle.ir_types.proofs.Places.{once_from_distinct, same_place}
use Rattle.ir_types.proofs.types.Types.know_distinct.Goals as goal

pub returns : goal.returns
returns g c = rw (← c.self.view_is) (λ one other x y a b.
    let laws = g.met.D.TypeKey.Eq.laws in
    let once = once_from_distinct g.D.TypeKey.PartialEq.eq laws c.self.inside.keys.keys c.len.ensures.unique in
    let both = same_place g.D.TypeKey.PartialEq.eq laws c.self.inside.keys.keys once one.number other.number x y a b in (
      λ h. both.0 (ap (λ (t : TypeHandle). t.number) h),
      λ h. let number = both.1 h in (λ j. record { number = number j }),
    ))
