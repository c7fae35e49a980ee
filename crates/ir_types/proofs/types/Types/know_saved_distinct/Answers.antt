use Rattle.std.proofs.Common.{ap}
use Rattle.ir_types.specs.declared.saved.SavedKey.{SavedKey}
use Rattle.ir_types.proofs.Places.{once_from_distinct, same_place}
use Rattle.ir_types.proofs.types.Types.know_saved_distinct.Goals as goal

pub returns : goal.returns
returns g c = rw (← c.self.view_is) (λ one other x y a b.
    let laws = g.met.D.Saved.Eq.laws in
    let once = once_from_distinct g.D.Saved.PartialEq.eq laws c.self.inside.saved.keys c.len.ensures.unique in
    let both = same_place g.D.Saved.PartialEq.eq laws c.self.inside.saved.keys once one.number other.number x y a b in (
      λ h. both.0 (ap (λ (k : SavedKey). k.number) h),
      λ h. let number = both.1 h in (λ j. record { number = number j }),
    ))
