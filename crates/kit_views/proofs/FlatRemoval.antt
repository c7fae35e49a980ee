-- Removal of dead values on the tree of a function, and on its flat view.
use Rattle.std.proofs.Common.{◌≡◌, Bool, map, Some, refl, sym, subst}
use Rattle.ir_trees.specs.Names.{Names, Contents}
use Rattle.ir_trees.specs.Searched.{AreDistinct, operation_names}
use Rattle.ir_trees.specs.Trees.{Blocks, Tree, Root}
use Rattle.opt_trees.specs.Dialect.{Dialect}
use Rattle.opt_trees.specs.Dce.{TreeSurroundings, IsDce}
use Rattle.opt_trees.specs.Occurrences.{defined_in}
use Rattle.kit_behaviour.specs.Machine.{Fun}
use Rattle.kit_behaviour.specs.RemovedValues.{thin_block}
use Rattle.kit_views.specs.Reading.{Reading}
use Rattle.kit_views.specs.FlatView.{IsSameness, FlattensTo}
use Rattle.kit_views.specs.Laws.{NothingPinned, IsThinned}
use Rattle.kit_views.proofs.Read.{Reads}
use Rattle.kit_views.proofs.Standing.{whole, Given}
use Rattle.kit_views.proofs.SameDead.{lost, lost_are, same_dead}
use Rattle.kit_views.proofs.Thinned.{flat_left}

module _ {N : Names} {S : Contents} (r : Reading S) where
  pub given_of : (t : Root N S) (f : Fun N.value) (flat : FlattensTo r t f) → Given r t.head flat.view.blocks f
  given_of t f flat = record {
    function = flat.view.function;
    no_operands = flat.view.no_operands;
    are = flat.view.are;
    operations = subst (λ z. AreDistinct (operation_names {N = N} {S = S} (record { head = t.head; regions = z }))) flat.view.region flat.operations;
    blocks = flat.blocks;
    values = subst (λ z. AreDistinct (defined_in z)) flat.view.region flat.values;
    edges = flat.edges;
  }

module _ {N : Names} {S : Contents} {A : Type 0} (d : Dialect S A) (r : Reading S) (law : Reads d r) (same : N.value → N.value → Bool) (sameness : IsSameness same) where
  pub removed : (w : TreeSurroundings N A) (t after : Root N S) (f : Fun N.value) → FlattensTo r t f → NothingPinned w t → IsDce d w t after → IsThinned d w t same r f after
  removed w t after f flat unpinned dce =
      let bs : Tree N S Blocks = flat.view.blocks in
      let given : Given r t.head bs f = given_of r t f flat in
      let e : t ≡ whole r t.head bs f = λ i. record { head = t.head; regions = flat.view.region i } in
      let none : NothingPinned w (whole r t.head bs f) = subst (NothingPinned w) e unpinned in
      let is : IsDce d w (whole r t.head bs f) after = subst (λ z. IsDce d w z after) e dce in
      subst (λ z. IsThinned d w z same r f after) (sym e)
      (record {
        dead = lost d r law w t.head bs f given same sameness none is.gone is.is_gone;
        are = lost_are d r law w t.head bs f given same sameness none is.gone is.is_gone;
        is_dead = same_dead d r law w t.head bs f given same sameness none is.gone is.is_gone;
        rest = map (thin_block (Some f) (lost d r law w t.head bs f given same sameness none is.gone is.is_gone)) f;
        is = refl;
        is_view = subst (λ z. FlattensTo r z (map (thin_block (Some f) (lost d r law w t.head bs f given same sameness none is.gone is.is_gone)) f)) (sym is.is) (flat_left d r law w t.head bs f given same sameness none is.gone is.is_gone);
      })
