use Rattle.std.proofs.Common.{◌⊎◌, refl, subst, sym}
use Rattle.ir_entities.specs.declared.forest.Place.{Place}
use Rattle.ir_entities.specs.declared.forest.Place.TheVariants.{Region as RegionPlace}
use Rattle.ir_entities.specs.Forest.{Forest, shape_of}
use Rattle.ir_entities.specs.Prune.{ErasesInside}
use Rattle.ir_entities.specs.Shape.{IsInside}
use Rattle.ir_entities.specs.Walk.{StandInOne}
use Rattle.ir_program.specs.Program.{Program}
use Rattle.ir_program.specs.Drops.{DropsInside}
use Rattle.ir_program.specs.declared.handles.IRNode.TheVariants.{Region as RegionNode}
use Rattle.ir_program.proofs.erased.Apart.{values-unnamed, blocks-unnamed}
use Rattle.ir_program.proofs.erased.Erasures.{decided}
use Rattle.ir_program.proofs.erased.RegionErasures.{region_erased-sound, region_erased-seen}
use Rattle.ir_program.proofs.program.Program.erase_region.Goals as goal

pub forget_inside-requires-clause-values : goal.forget_inside-requires-clause-values
forget_inside-requires-clause-values g c =
    let mid : Program g.row.O.Denot g.row.B.Denot = record { forest = c.self.inside.forest; values = c.self.inside.values; targets = c.self.inside.targets; counter = c.self.inside.counter } in
    let drops : DropsInside c.args.self.now mid (RegionPlace c.args.region.key.slot) = subst (λ z. DropsInside c.args.self.now z (RegionPlace c.args.region.key.slot)) (sym c.self.view_is) c.drop_inside.ensures in
    let decide : (e : Place) → IsInside (shape_of c.args.self.now.forest) (RegionPlace c.args.region.key.slot) e ⊎ (IsInside (shape_of c.args.self.now.forest) (RegionPlace c.args.region.key.slot) e → ⊥) = decided c.args.self.now mid (RegionPlace c.args.region.key.slot) c.self.inside.forest refl drops.frame c.know_walk.ensures.all in
    values-unnamed c.args.self.now mid (RegionNode c.args.region) c.self.invariant c.requires.region c.know_listed.ensures c.requires.apart decide drops

pub forget_inside-requires-clause-blocks : goal.forget_inside-requires-clause-blocks
forget_inside-requires-clause-blocks g c =
    let mid : Program g.row.O.Denot g.row.B.Denot = record { forest = c.self.inside.forest; values = c.self.inside.values; targets = c.self.inside.targets; counter = c.self.inside.counter } in
    let drops : DropsInside c.args.self.now mid (RegionPlace c.args.region.key.slot) = subst (λ z. DropsInside c.args.self.now z (RegionPlace c.args.region.key.slot)) (sym c.self.view_is) c.drop_inside.ensures in
    let decide : (e : Place) → IsInside (shape_of c.args.self.now.forest) (RegionPlace c.args.region.key.slot) e ⊎ (IsInside (shape_of c.args.self.now.forest) (RegionPlace c.args.region.key.slot) e → ⊥) = decided c.args.self.now mid (RegionPlace c.args.region.key.slot) c.self.inside.forest refl drops.frame c.know_walk.ensures.all in
    blocks-unnamed c.args.self.now mid (RegionNode c.args.region) c.self.invariant c.requires.region c.know_listed.ensures c.requires.apart decide drops

pub invariant_of-self : goal.invariant_of-self
invariant_of-self g c =
    let mid : Program g.row.O.Denot g.row.B.Denot = record { forest = c.self.inside.forest; values = c.self.inside.values; targets = c.self.inside.targets; counter = c.self.inside.counter } in
    let drops : DropsInside c.args.self.now mid (RegionPlace c.args.region.key.slot) = subst (λ z. DropsInside c.args.self.now z (RegionPlace c.args.region.key.slot)) (sym c.self.view_is) c.drop_inside.ensures in
    let decide : (e : Place) → IsInside (shape_of c.args.self.now.forest) (RegionPlace c.args.region.key.slot) e ⊎ (IsInside (shape_of c.args.self.now.forest) (RegionPlace c.args.region.key.slot) e → ⊥) = decided c.args.self.now mid (RegionPlace c.args.region.key.slot) c.self.inside.forest refl drops.frame c.know_walk.ensures.all in
    let erases : ErasesInside (record c.self.inside.forest { in_ops = c.unlink_region.new.self.in_ops }) c.erase_region_tree.new.self (RegionPlace c.args.region.key.slot) = subst (λ (t : Forest _ _ _). ErasesInside t c.erase_region_tree.new.self (RegionPlace c.args.region.key.slot)) c.unlink_region.ensures.rest c.erase_region_tree.ensures.erased in
    region_erased-sound c.args.self.now mid c.args.region c.self.invariant c.requires.region c.know_listed.ensures c.requires.apart decide drops c.unlink_region.new.self.in_ops c.unlink_region.ensures.lists c.erase_region_tree.new.self c.forget_inside.new.values c.forget_inside.new.targets erases c.forget_inside.ensures.values c.forget_inside.ensures.targets

pub returns : goal.returns
returns g c =
    let mid : Program g.row.O.Denot g.row.B.Denot = record { forest = c.self.inside.forest; values = c.self.inside.values; targets = c.self.inside.targets; counter = c.self.inside.counter } in
    let drops : DropsInside c.args.self.now mid (RegionPlace c.args.region.key.slot) = subst (λ z. DropsInside c.args.self.now z (RegionPlace c.args.region.key.slot)) (sym c.self.view_is) c.drop_inside.ensures in
    let decide : (e : Place) → IsInside (shape_of c.args.self.now.forest) (RegionPlace c.args.region.key.slot) e ⊎ (IsInside (shape_of c.args.self.now.forest) (RegionPlace c.args.region.key.slot) e → ⊥) = decided c.args.self.now mid (RegionPlace c.args.region.key.slot) c.self.inside.forest refl drops.frame c.know_walk.ensures.all in
    let erases : ErasesInside (record c.self.inside.forest { in_ops = c.unlink_region.new.self.in_ops }) c.erase_region_tree.new.self (RegionPlace c.args.region.key.slot) = subst (λ (t : Forest _ _ _). ErasesInside t c.erase_region_tree.new.self (RegionPlace c.args.region.key.slot)) c.unlink_region.ensures.rest c.erase_region_tree.ensures.erased in
    region_erased-seen c.args.self.now mid c.args.region c.self.invariant c.requires.region c.know_listed.ensures c.requires.apart decide drops c.unlink_region.new.self.in_ops c.unlink_region.ensures.lists c.erase_region_tree.new.self c.forget_inside.new.values c.forget_inside.new.targets erases c.forget_inside.ensures.values c.forget_inside.ensures.targets
    (subst (λ (t : Forest _ _ _). StandInOne (shape_of t)) c.unlink_region.ensures.rest c.know_parents.ensures.one) c.unlink_region.ensures.root c.know_named.ensures c.know_named-2.ensures
