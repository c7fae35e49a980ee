-- What passes leave of a tree is made of the tree alone.
use Rattle.std.proofs.Common.{◌∙◌, refl, sym, ap}
use Rattle.ir_trees.specs.Renames.{rename_root}
use Rattle.kit_ruled_views.specs.TreePasses.{maps_of}
use Rattle.kit_ruled_passes.specs.Laws.{RemovedStandAlone, SimplifiedStandAlone}

pub removed : RemovedStandAlone
removed old new root status t untaken outcome =
    let made = outcome.made in (
      made.after,
      made.stands,
      record {
        around = made.around;
        unpinned = λ v has pinned. untaken v has ((made.pins.pinned v).0 pinned);
        is = made.dce;
      },
    )

pub simplified : SimplifiedStandAlone
simplified old new root t constants simplifies = (
  rename_root (maps_of simplifies.names) simplifies.after,
  simplifies.stands,
  record {
    around = simplifies.around;
    known = constants simplifies.around simplifies.says;
    simplified = simplifies.after;
    is = simplifies.simplified;
    names = simplifies.names;
    apart = λ o p e. sym (simplifies.twice o) ∙ ap simplifies.names e ∙ simplifies.twice p;
    same = refl;
  },
)
