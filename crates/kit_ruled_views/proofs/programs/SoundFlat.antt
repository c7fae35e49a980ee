-- The functions of a sound module have flat views.
use Rattle.std.proofs.Common.{ℕ, List, Option, subst}
use Rattle.ir_base.specs.declared.types.TypeHandle.{TypeHandle}
use Rattle.ir_trees.specs.Names.{Names}
use Rattle.ir_trees.specs.Trees.{Root}
use Rattle.opt_trees.specs.Occurrences.{at_root}
use Rattle.kit_ops.specs.declared.types.KitType.{KitType}
use Rattle.kit_views.specs.FlatView.{FlattensTo}
use Rattle.kit_views.specs.Reading.{kit_contents, kit_reading}
use Rattle.kit_ruled_views.specs.Programs.{FunctionsAreFlat}
use Rattle.kit_ruled_views.specs.Sound.{IsSound}
use Rattle.kit_ruled_views.proofs.programs.Located.{located}

pub sound_flat : {N : Names} (leads : TypeHandle → Option KitType) (numbered : List ℕ → ℕ)
    (type_at : N.value → TypeHandle) (t : Root N kit_contents) → IsSound {N = N} leads numbered type_at t →
    FunctionsAreFlat {N = N} leads numbered t
sound_flat leads numbered type_at t sound path u e =
    let l = located numbered path t (at_root t) u e in
    let f = sound.functions l.it l.stands l.kind in
    (f.flat, subst (λ z. FlattensTo (kit_reading leads numbered) z f.flat) l.is f.is_flat)
