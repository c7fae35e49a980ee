use Rattle.std.proofs.Common.{◌≡◌, ◌⊎◌, refl, subst, sym, false}
use Rattle.ir_entities.specs.declared.forest.Place.{Place}
use Rattle.ir_entities.specs.declared.forest.Place.TheVariants.{Block}
use Rattle.ir_entities.specs.Forest.{Forest, shape_of}
use Rattle.ir_entities.specs.Links.{has, list_at}
use Rattle.ir_entities.specs.Shape.{IsInside}
use Rattle.ir_program.specs.Program.{Program}
use Rattle.ir_program.specs.Drops.{DropsInside}
use Rattle.ir_program.specs.declared.handles.IRNode.TheVariants.{BasicBlock as BlockNode}
use Rattle.ir_program.proofs.lists.InRegions.{in_regions, unlinked_block}
use Rattle.ir_program.proofs.erased.Apart.{values-unnamed, blocks-unnamed}
use Rattle.ir_program.proofs.erased.Erasures.{decided, erased-sound, erased-seen}
use Rattle.ir_program.proofs.program.Program.erase_unlinked_block.Goals as goal

pub forget_inside-requires-clause-values : goal.forget_inside-requires-clause-values
forget_inside-requires-clause-values g c =
    let mid : Program g.row.O.Denot g.row.B.Denot = record { forest = c.self.inside.forest; values = c.self.inside.values; targets = c.self.inside.targets; counter = c.self.inside.counter } in
    let drops : DropsInside c.args.self.now mid (Block c.args.block.key.slot) = subst (λ z. DropsInside c.args.self.now z (Block c.args.block.key.slot)) (sym c.self.view_is) c.drop_inside.ensures in
    let decide : (e : Place) → IsInside (shape_of c.args.self.now.forest) (Block c.args.block.key.slot) e ⊎ (IsInside (shape_of c.args.self.now.forest) (Block c.args.block.key.slot) e → ⊥) = decided c.args.self.now mid (Block c.args.block.key.slot) c.self.inside.forest refl drops.frame c.know_walk.ensures.all in
    values-unnamed c.args.self.now mid (BlockNode c.args.block) c.self.invariant c.requires.block c.know_listed.ensures c.requires.apart decide drops

pub forget_inside-requires-clause-blocks : goal.forget_inside-requires-clause-blocks
forget_inside-requires-clause-blocks g c =
    let mid : Program g.row.O.Denot g.row.B.Denot = record { forest = c.self.inside.forest; values = c.self.inside.values; targets = c.self.inside.targets; counter = c.self.inside.counter } in
    let drops : DropsInside c.args.self.now mid (Block c.args.block.key.slot) = subst (λ z. DropsInside c.args.self.now z (Block c.args.block.key.slot)) (sym c.self.view_is) c.drop_inside.ensures in
    let decide : (e : Place) → IsInside (shape_of c.args.self.now.forest) (Block c.args.block.key.slot) e ⊎ (IsInside (shape_of c.args.self.now.forest) (Block c.args.block.key.slot) e → ⊥) = decided c.args.self.now mid (Block c.args.block.key.slot) c.self.inside.forest refl drops.frame c.know_walk.ensures.all in
    blocks-unnamed c.args.self.now mid (BlockNode c.args.block) c.self.invariant c.requires.block c.know_listed.ensures c.requires.apart decide drops

pub erase_block_tree-requires-clause-root : goal.erase_block_tree-requires-clause-root
erase_block_tree-requires-clause-root g c =
    let mid : Program g.row.O.Denot g.row.B.Denot = record { forest = c.self.inside.forest; values = c.self.inside.values; targets = c.self.inside.targets; counter = c.self.inside.counter } in
    let drops : DropsInside c.args.self.now mid (Block c.args.block.key.slot) = subst (λ z. DropsInside c.args.self.now z (Block c.args.block.key.slot)) (sym c.self.view_is) c.drop_inside.ensures in
    let decide : (e : Place) → IsInside (shape_of c.args.self.now.forest) (Block c.args.block.key.slot) e ⊎ (IsInside (shape_of c.args.self.now.forest) (Block c.args.block.key.slot) e → ⊥) = decided c.args.self.now mid (Block c.args.block.key.slot) c.self.inside.forest refl drops.frame c.know_walk.ensures.all in
    (λ b. subst (λ (f : Forest _ _ _). has c.args.block.key.slot (list_at f.in_regions.lists b) ≡ false) (sym drops.frame.forest) (unlinked_block c.args.self.now (in_regions c.args.self.now c.know_listed.ensures) c.args.block c.requires.block c.requires.unlinked b))

pub invariant_of-self : goal.invariant_of-self
invariant_of-self g c =
    let mid : Program g.row.O.Denot g.row.B.Denot = record { forest = c.self.inside.forest; values = c.self.inside.values; targets = c.self.inside.targets; counter = c.self.inside.counter } in
    let drops : DropsInside c.args.self.now mid (Block c.args.block.key.slot) = subst (λ z. DropsInside c.args.self.now z (Block c.args.block.key.slot)) (sym c.self.view_is) c.drop_inside.ensures in
    let decide : (e : Place) → IsInside (shape_of c.args.self.now.forest) (Block c.args.block.key.slot) e ⊎ (IsInside (shape_of c.args.self.now.forest) (Block c.args.block.key.slot) e → ⊥) = decided c.args.self.now mid (Block c.args.block.key.slot) c.self.inside.forest refl drops.frame c.know_walk.ensures.all in
    erased-sound c.args.self.now mid (BlockNode c.args.block) c.self.invariant c.requires.block c.know_listed.ensures c.requires.apart decide drops c.erase_block_tree.new.self c.forget_inside.new.values c.forget_inside.new.targets c.erase_block_tree.ensures.erased c.forget_inside.ensures.values c.forget_inside.ensures.targets

pub returns : goal.returns
returns g c =
    let mid : Program g.row.O.Denot g.row.B.Denot = record { forest = c.self.inside.forest; values = c.self.inside.values; targets = c.self.inside.targets; counter = c.self.inside.counter } in
    let drops : DropsInside c.args.self.now mid (Block c.args.block.key.slot) = subst (λ z. DropsInside c.args.self.now z (Block c.args.block.key.slot)) (sym c.self.view_is) c.drop_inside.ensures in
    let decide : (e : Place) → IsInside (shape_of c.args.self.now.forest) (Block c.args.block.key.slot) e ⊎ (IsInside (shape_of c.args.self.now.forest) (Block c.args.block.key.slot) e → ⊥) = decided c.args.self.now mid (Block c.args.block.key.slot) c.self.inside.forest refl drops.frame c.know_walk.ensures.all in
    erased-seen c.args.self.now mid (BlockNode c.args.block) c.self.invariant c.requires.block c.know_listed.ensures c.requires.apart decide drops c.erase_block_tree.new.self c.forget_inside.new.values c.forget_inside.new.targets c.erase_block_tree.ensures.erased c.forget_inside.ensures.values c.forget_inside.ensures.targets c.know_parents.ensures.one (λ b. subst (λ (f : Forest _ _ _). has c.args.block.key.slot (list_at f.in_regions.lists b) ≡ false) (sym drops.frame.forest) (unlinked_block c.args.self.now (in_regions c.args.self.now c.know_listed.ensures) c.args.block c.requires.block c.requires.unlinked b)) c.know_named.ensures c.know_named-2.ensures
