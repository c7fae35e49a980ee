-- What says the same as an operation that can be written can be written too.
use Rattle.std.proofs.Common.{◌≡◌, ◌∙◌, ℕ, List, length, sym}
use Rattle.std.proofs.Common.{subst}
use Rattle.ir_print.specs.Shown.{Pairs, ShowsType}
use Rattle.ir_trees.specs.Names.{Names}
use Rattle.ir_trees.specs.Trees.{Head}
use Rattle.kit_ops.specs.declared.types.KitType.{KitType}
use Rattle.kit.specs.Says.{says, said_of_operation}
use Rattle.kit_views.specs.Reading.{kit_contents}
use Rattle.kit_writable_trees.specs.Writable.{types_in, IsWritableHead}

module _ {N M : Names} (types : List KitType) where
  -- what an operation says that can be written, another says too
  pub record SaysSame (h : Head N kit_contents) (g : Head M kit_contents) : Type 0 where
    pub kind : g.content.kind ≡ h.content.kind
    pub attributes : g.content.notes.attributes ≡ h.content.notes.attributes
    pub operands : length g.operands ≡ length h.operands
    pub results : types_in g.results ≡ types_in h.results
    pub successors : length g.successors ≡ length h.successors

  pub head_like : (d n m : ℕ) (h : Head N kit_contents) (g : Head M kit_contents) → SaysSame h g → m ≡ n →
      IsWritableHead types d n h → IsWritableHead types d m g
  head_like d n m h g like count w = record {
    kind = w.kind;
    said = w.said;
    pieces = w.pieces;
    shapes = w.shapes;
    says_it = (λ i. said_of_operation (like.kind i) (like.attributes i) (like.operands i) (like.results i)) ∙ w.says_it;
    shown = w.shown;
    typed = subst (λ tys. Pairs (ShowsType says types) tys w.shapes) (sym like.results) w.typed;
    read = w.read;
    holds = w.holds ∙ sym count;
    flat = w.flat;
    bare = w.bare;
    counted = w.counted ∙ sym like.successors;
  }
