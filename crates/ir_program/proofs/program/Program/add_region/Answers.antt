use Rattle.std.proofs.Common.{◌≡◌, ◌<◌, ◌≤◌, ◌++◌, ◌∷◌, [], length, Some, IsSome, ap, ◌∙◌, sym, subst, arith}
use Rattle.ir_arena.specs.Arena.{get, SetsSlot, Updates, KeepsSpent}
use Rattle.ir_entities.specs.Links.{list_at}
use Rattle.ir_arena.proofs.Slots.{Live, live_slot}
use Rattle.ir_entities.specs.Lists.{ListsView}
use Rattle.ir_entities.specs.Forest.{Forest, shape_of}
use Rattle.ir_program.specs.Program.{Program}
use Rattle.ir_program.proofs.lists.There.{operation_got}
use Rattle.ir_program.specs.Handles.{handle}
use Rattle.ir_program.specs.declared.handles.Region.{Region}
use Rattle.ir_program.proofs.made.Alike.{grown-sound}
use Rattle.ir_program.proofs.lists.Slotted.{SetsList, set_list}
use Rattle.ir_program.proofs.made.NewRegions.{outside_bare, region-made-sound, region-made}
use Rattle.ir_program.proofs.program.Program.add_region.Goals as goal

pub invariant_of-self : goal.invariant_of-self
invariant_of-self g c = grown-sound (record { forest = c.self.inside.forest; values = c.self.inside.values; targets = c.self.inside.targets; counter = c.self.inside.counter }) c.new_region.new.self c.in_err-key.ensures.ops c.in_err-key.ensures.blocks c.in_err-key.ensures.err (λ i. ap (λ (l : ListsView). list_at l.lists i) c.in_err-key.ensures.in_blocks) c.in_err-key.ensures.in_regions (λ i. ap (λ ls. list_at ls i) c.in_err-key.ensures.in_ops) c.self.invariant

pub insert_region_at_back-requires-clause-apart : goal.insert_region_at_back-requires-clause-apart
insert_region_at_back-requires-clause-apart g c = outside_bare (shape_of c.new_region.new.self) c.in_ok-key.key.slot c.args.op.key.slot c.in_ok-key.ensures.bare

pub invariant_of-self-2 : goal.invariant_of-self-2
invariant_of-self-2 g c =
    let live : IsSome (get c.self.inside.forest.ops c.args.op.key) = subst (λ (x : Program _ _). IsSome (get x.forest.ops c.args.op.key)) (sym c.self.view_is) (operation_got c.args.self.now c.args.op c.requires) in
    let slot : Live c.self.inside.forest.ops c.args.op.key = live_slot c.self.inside.forest.ops c.args.op.key live in
    let room : c.args.op.key.slot < length c.new_region.new.self.in_ops.lists = (let made : length c.new_region.new.self.ops ≤ length c.new_region.new.self.in_ops.lists = c.know-2.ensures.forest.regions.lists_made in let w : c.args.op.key.slot < length c.self.inside.forest.ops = slot.within in let e : length c.new_region.new.self.ops ≡ length c.self.inside.forest.ops = ap length c.in_ok-key.ensures.ops in omega (arith, e, made, w)) in
    let sets : SetsList c.new_region.new.self.in_ops.lists c.insert_region_at_back.new.self.in_ops.lists c.args.op.key.slot (list_at c.new_region.new.self.in_ops.lists c.args.op.key.slot ++ c.in_ok-key.key.slot ∷ []) = subst (λ ls. SetsList c.new_region.new.self.in_ops.lists ls c.args.op.key.slot (list_at c.new_region.new.self.in_ops.lists c.args.op.key.slot ++ c.in_ok-key.key.slot ∷ [])) (sym c.insert_region_at_back.ensures.lists) (set_list c.new_region.new.self.in_ops.lists c.args.op.key.slot _ room) in
    region-made-sound (record { forest = c.self.inside.forest; values = c.self.inside.values; targets = c.self.inside.targets; counter = c.self.inside.counter }) c.insert_region_at_back.new.self c.args.op (handle {E = Region} c.in_ok-key.key) _ live c.in_ok-key.ensures.fresh
    (subst (λ rs. Updates c.self.inside.forest.regions rs c.in_ok-key.key (Some _)) (sym (ap (λ (f : Forest _ _ _). f.regions) c.insert_region_at_back.ensures.rest)) c.in_ok-key.ensures.updates)
    (subst (λ rs. SetsSlot c.self.inside.forest.regions rs c.in_ok-key.key.slot _) (sym (ap (λ (f : Forest _ _ _). f.regions) c.insert_region_at_back.ensures.rest)) c.in_ok-key.ensures.slot)
    (ap (λ (f : Forest _ _ _). f.ops) c.insert_region_at_back.ensures.rest ∙ c.in_ok-key.ensures.ops)
    (ap (λ (f : Forest _ _ _). f.blocks) c.insert_region_at_back.ensures.rest ∙ c.in_ok-key.ensures.blocks)
    (ap (λ (f : Forest _ _ _). f.in_blocks) c.insert_region_at_back.ensures.rest ∙ c.in_ok-key.ensures.in_blocks)
    (λ i. ap (λ (f : Forest _ _ _). list_at f.in_regions.lists i) c.insert_region_at_back.ensures.rest ∙ c.in_ok-key.ensures.in_regions i)
    (sets.here ∙ ap (λ l. l ++ c.in_ok-key.key.slot ∷ []) (ap (λ ls. list_at ls c.args.op.key.slot) c.in_ok-key.ensures.in_ops))
    (λ i ne. sets.others i ne ∙ ap (λ ls. list_at ls i) c.in_ok-key.ensures.in_ops) c.self.invariant

pub returns-clause-made : goal.returns-clause-made
returns-clause-made g c =
    let live : IsSome (get c.self.inside.forest.ops c.args.op.key) = subst (λ (x : Program _ _). IsSome (get x.forest.ops c.args.op.key)) (sym c.self.view_is) (operation_got c.args.self.now c.args.op c.requires) in
    let slot : Live c.self.inside.forest.ops c.args.op.key = live_slot c.self.inside.forest.ops c.args.op.key live in
    let room : c.args.op.key.slot < length c.new_region.new.self.in_ops.lists = (let made : length c.new_region.new.self.ops ≤ length c.new_region.new.self.in_ops.lists = c.know-2.ensures.forest.regions.lists_made in let w : c.args.op.key.slot < length c.self.inside.forest.ops = slot.within in let e : length c.new_region.new.self.ops ≡ length c.self.inside.forest.ops = ap length c.in_ok-key.ensures.ops in omega (arith, e, made, w)) in
    let sets : SetsList c.new_region.new.self.in_ops.lists c.insert_region_at_back.new.self.in_ops.lists c.args.op.key.slot (list_at c.new_region.new.self.in_ops.lists c.args.op.key.slot ++ c.in_ok-key.key.slot ∷ []) = subst (λ ls. SetsList c.new_region.new.self.in_ops.lists ls c.args.op.key.slot (list_at c.new_region.new.self.in_ops.lists c.args.op.key.slot ++ c.in_ok-key.key.slot ∷ [])) (sym c.insert_region_at_back.ensures.lists) (set_list c.new_region.new.self.in_ops.lists c.args.op.key.slot _ room) in
    rw (← c.self.view_is, c.new.ensures) (region-made (record { forest = c.self.inside.forest; values = c.self.inside.values; targets = c.self.inside.targets; counter = c.self.inside.counter }) c.insert_region_at_back.new.self c.args.op (handle {E = Region} c.in_ok-key.key) _ live c.in_ok-key.ensures.fresh
    (subst (λ rs. Updates c.self.inside.forest.regions rs c.in_ok-key.key (Some _)) (sym (ap (λ (f : Forest _ _ _). f.regions) c.insert_region_at_back.ensures.rest)) c.in_ok-key.ensures.updates)
    (subst (λ rs. SetsSlot c.self.inside.forest.regions rs c.in_ok-key.key.slot _) (sym (ap (λ (f : Forest _ _ _). f.regions) c.insert_region_at_back.ensures.rest)) c.in_ok-key.ensures.slot)
    (ap (λ (f : Forest _ _ _). f.ops) c.insert_region_at_back.ensures.rest ∙ c.in_ok-key.ensures.ops)
    (ap (λ (f : Forest _ _ _). f.blocks) c.insert_region_at_back.ensures.rest ∙ c.in_ok-key.ensures.blocks)
    (ap (λ (f : Forest _ _ _). f.in_blocks) c.insert_region_at_back.ensures.rest ∙ c.in_ok-key.ensures.in_blocks)
    (λ i. ap (λ (f : Forest _ _ _). list_at f.in_regions.lists i) c.insert_region_at_back.ensures.rest ∙ c.in_ok-key.ensures.in_regions i)
    (sets.here ∙ ap (λ l. l ++ c.in_ok-key.key.slot ∷ []) (ap (λ ls. list_at ls c.args.op.key.slot) c.in_ok-key.ensures.in_ops))
    (λ i ne. sets.others i ne ∙ ap (λ ls. list_at ls i) c.in_ok-key.ensures.in_ops)
    c.in_ok-key.ensures.unspent
    (subst (λ rs. KeepsSpent c.self.inside.forest.regions rs) (sym (ap (λ (f : Forest _ _ _). f.regions) c.insert_region_at_back.ensures.rest)) c.in_ok-key.ensures.spent)
    (ap (λ (f : Forest _ _ _). list_at f.in_regions.lists c.in_ok-key.key.slot) c.insert_region_at_back.ensures.rest ∙ c.in_ok-key.ensures.bare)
    c.know.ensures.forest)
