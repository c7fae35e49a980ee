-- What dropping uses takes away and leaves, by handles.
use Rattle.std.proofs.Common.{◌≡◌, ⊎_elim, ◌⊎◌, None, option_map, sym, ap, ◌∙◌}
use Rattle.ir_entities.specs.declared.forest.Place.{Place}
use Rattle.ir_entities.specs.declared.forest.Place.TheVariants.{Op}
use Rattle.ir_entities.specs.Shape.{IsInside}
use Rattle.ir_entities.specs.Forest.{shape_of}
use Rattle.ir_program.specs.Program.{Program, operation_at, numbered}
use Rattle.ir_program.specs.Listed.{AreListed}
use Rattle.ir_program.specs.Lists.{StandsInside, IsLiveNode, place_of_node}
use Rattle.ir_program.specs.Drops.{without_uses, DropsInside, DropsUses}
use Rattle.ir_program.specs.declared.handles.Ptr.{Ptr}
use Rattle.ir_program.specs.declared.handles.Operation.{Operation}
use Rattle.ir_program.specs.declared.handles.IRNode.{IRNode}
use Rattle.ir_program.specs.declared.handles.IRNode.TheVariants.{Operation as OperationNode}
use Rattle.ir_program.specs.declared.records.Definition.{Definition}
use Rattle.ir_program.proofs.lists.Inside.{inside_by_slots, inside_by_handles}
use Rattle.ir_program.proofs.erased.Erasures.{no_value}

module _ {O B : Type 0} (old new : Program O B) (x : IRNode) (live : IsLiveNode old x) (listed : AreListed old)
    (decide : (e : Place) → IsInside (shape_of old.forest) (place_of_node x) e ⊎ (IsInside (shape_of old.forest) (place_of_node x) e → ⊥))
    (drops : DropsInside old new (place_of_node x)) where
  -- a dead handle whose slot is inside led nowhere, and does so still
  dead_still : (p : Ptr Operation) → (StandsInside old x (OperationNode p) → ⊥) → IsInside (shape_of old.forest) (place_of_node x) (Op p.key.slot) → operation_at new p ≡ operation_at old p
  dead_still p out inside =
      let none : operation_at old p ≡ None = no_value (operation_at old p) (λ there. out (inside_by_handles old listed x live (OperationNode p) there inside)) in
      drops.inside p inside ∙ ap (option_map without_uses) none ∙ sym none

  pub dropped-seen : DropsUses old new x
  dropped-seen = record {
    inside = λ p stands. drops.inside p (inside_by_slots old x (OperationNode p) stands);
    outside = λ p out. ⊎_elim (dead_still p out) (drops.outside p) (decide (Op p.key.slot));
    blocks = drops.frame.blocks;
    regions = drops.frame.regions;
    types = λ v. ap (λ ds. option_map (λ (d : Definition). d.ty) (numbered v.number ds)) (drops.frame.definitions v.definer);
    erased = drops.frame.erased;
    counter = drops.frame.counter;
  }
