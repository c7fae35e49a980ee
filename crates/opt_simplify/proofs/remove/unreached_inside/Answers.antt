use Rattle.std.proofs.Common.{◌≡◌, true, List, sym, subst}
use Rattle.ir_program.specs.Erased.{definer_node}
use Rattle.ir_program.specs.Program.{IsLiveValue}
use Rattle.ir_program.specs.Lists.{IsLiveNode}
use Rattle.ir_program.specs.declared.handles.IRNode.TheVariants.{BasicBlock as BlockNode}
use Rattle.ir_program.specs.declared.handles.Ptr.{Ptr}
use Rattle.ir_program.specs.declared.handles.BasicBlock.{BasicBlock}
use Rattle.ir_program.specs.declared.handles.Value.{Value}
use Rattle.ir_trees.specs.Searched.{Lists}
use Rattle.opt_inside.specs.Numbered.{numbers_of}
use Rattle.opt_inside.proofs.Around.{HasLists}
use Rattle.opt_inside.proofs.Added.{HasValues}
use Rattle.opt_simplify.specs.Refusals.{AreUnreached}
use Rattle.opt_simplify.specs.Removed.{is_listed, IsTakenOutsideBlocks, IsWithinPickedBlocks, TakesWithin}
use Rattle.opt_simplify.proofs.RemovedKept.{cut_root}
use Rattle.opt_simplify.proofs.RemovedLoses.{loses_use, loses_none, cut_is}
use Rattle.opt_inside.proofs.ReachLemmas.Occurs.{Occurs}
use Rattle.opt_simplify.proofs.RemovedFound.{are_unreached, numbered_live, live_numbered}
use Rattle.opt_simplify.proofs.remove.unreached_inside.Goals as goal

pub is_taken_outside-requires-clause-there : goal.is_taken_outside-requires-clause-there
is_taken_outside-requires-clause-there g c =
    let lists : HasLists c.args.program.now = assumption c.know_lists.ensures in
    let all : AreUnreached g.D.Meanings.meaning c.args.program.now c.args.op c.args.start c.in_ok-blocks.blocks.items = are_unreached g.D.Meanings.meaning c.args.program.now lists c.args.op (numbers_of c.args.inside.now) c.requires.numbered
    c.args.start c.requires.edges c.requires.start.0 c.requires.start.1 c.know_tree.ensures.0 c.know_tree.ensures.1 (λ t stands. record {
      stands = stands;
      sound = c.know_occurrences.ensures.sound t stands;
      found = c.know_occurrences.ensures.found t stands;
      one = c.know_occurrences.ensures.one t stands;
      blocks_sound = c.know_occurrences.ensures.blocks_sound t stands;
      blocks_found = c.know_occurrences.ensures.blocks_found t stands;
      blocks_one = c.know_occurrences.ensures.blocks_one t stands;
      site = c.know_occurrences.ensures.site t stands;
      beside = c.know_occurrences.ensures.beside t stands;
      nested = c.know_occurrences.ensures.nested t stands;
    }) c.in_ok-blocks.blocks.items c.in_ok-blocks.ensures.unreached c.in_ok-blocks.ensures.once c.in_ok-blocks.ensures.reached in
    subst (λ (bs : List (Ptr BasicBlock)). (b : Ptr BasicBlock) → is_listed bs b ≡ true → IsLiveNode c.args.program.now (BlockNode b)) (sym c.deref.ensures.value) all.there

pub is_taken_outside-requires-clause-values : goal.is_taken_outside-requires-clause-values
is_taken_outside-requires-clause-values g c =
    let lists : HasLists c.args.program.now = assumption c.know_lists.ensures in
    let values : HasValues c.args.program.now = record { definer = c.know_values.ensures.definer; typed = c.know_values.ensures.typed; stands = c.know_values.ensures.stands } in
    subst (λ (vs : List Value). (v : Value) → Lists vs v → IsLiveValue c.args.program.now v) (sym c.as_slice.ensures.keys) (numbered_live c.args.program.now lists c.args.op (numbers_of c.args.inside.now) c.requires.numbered values)

pub is_taken_outside-requires-clause-all : goal.is_taken_outside-requires-clause-all
is_taken_outside-requires-clause-all g c =
    let lists : HasLists c.args.program.now = assumption c.know_lists.ensures in
    let all : AreUnreached g.D.Meanings.meaning c.args.program.now c.args.op c.args.start c.in_ok-blocks.blocks.items = are_unreached g.D.Meanings.meaning c.args.program.now lists c.args.op (numbers_of c.args.inside.now) c.requires.numbered
    c.args.start c.requires.edges c.requires.start.0 c.requires.start.1 c.know_tree.ensures.0 c.know_tree.ensures.1 (λ t stands. record {
      stands = stands;
      sound = c.know_occurrences.ensures.sound t stands;
      found = c.know_occurrences.ensures.found t stands;
      one = c.know_occurrences.ensures.one t stands;
      blocks_sound = c.know_occurrences.ensures.blocks_sound t stands;
      blocks_found = c.know_occurrences.ensures.blocks_found t stands;
      blocks_one = c.know_occurrences.ensures.blocks_one t stands;
      site = c.know_occurrences.ensures.site t stands;
      beside = c.know_occurrences.ensures.beside t stands;
      nested = c.know_occurrences.ensures.nested t stands;
    }) c.in_ok-blocks.blocks.items c.in_ok-blocks.ensures.unreached c.in_ok-blocks.ensures.once c.in_ok-blocks.ensures.reached in
    let values : HasValues c.args.program.now = record { definer = c.know_values.ensures.definer; typed = c.know_values.ensures.typed; stands = c.know_values.ensures.stands } in
    subst (λ (bs : List (Ptr BasicBlock)). (v : Value) → IsLiveValue c.args.program.now v → IsWithinPickedBlocks c.args.program.now (is_listed bs) (definer_node v.definer) → Lists c.as_slice.result.now v) (sym c.deref.ensures.value)
    (subst (λ (vs : List Value). (v : Value) → IsLiveValue c.args.program.now v → IsWithinPickedBlocks c.args.program.now (is_listed c.in_ok-blocks.blocks.items) (definer_node v.definer) → Lists vs v) (sym c.as_slice.ensures.keys)
    (live_numbered c.args.program.now lists c.args.op (numbers_of c.args.inside.now) c.requires.numbered values (is_listed c.in_ok-blocks.blocks.items) all.below))

pub returns-clause-found : goal.returns-clause-found
returns-clause-found g c =
    let lists : HasLists c.args.program.now = assumption c.know_lists.ensures in
    let all : AreUnreached g.D.Meanings.meaning c.args.program.now c.args.op c.args.start c.in_ok-blocks.blocks.items = are_unreached g.D.Meanings.meaning c.args.program.now lists c.args.op (numbers_of c.args.inside.now) c.requires.numbered
    c.args.start c.requires.edges c.requires.start.0 c.requires.start.1 c.know_tree.ensures.0 c.know_tree.ensures.1 (λ t stands. record {
      stands = stands;
      sound = c.know_occurrences.ensures.sound t stands;
      found = c.know_occurrences.ensures.found t stands;
      one = c.know_occurrences.ensures.one t stands;
      blocks_sound = c.know_occurrences.ensures.blocks_sound t stands;
      blocks_found = c.know_occurrences.ensures.blocks_found t stands;
      blocks_one = c.know_occurrences.ensures.blocks_one t stands;
      site = c.know_occurrences.ensures.site t stands;
      beside = c.know_occurrences.ensures.beside t stands;
      nested = c.know_occurrences.ensures.nested t stands;
    }) c.in_ok-blocks.blocks.items c.in_ok-blocks.ensures.unreached c.in_ok-blocks.ensures.once c.in_ok-blocks.ensures.reached in
    all

pub returns-clause-taken : goal.returns-clause-taken
returns-clause-taken g c = λ h p is_start t stands.
    let lists : HasLists c.args.program.now = assumption c.know_lists.ensures in
    let all : AreUnreached g.D.Meanings.meaning c.args.program.now c.args.op c.args.start c.in_ok-blocks.blocks.items = are_unreached g.D.Meanings.meaning c.args.program.now lists c.args.op (numbers_of c.args.inside.now) c.requires.numbered
    c.args.start c.requires.edges c.requires.start.0 c.requires.start.1 c.know_tree.ensures.0 c.know_tree.ensures.1 (λ t stands. record {
      stands = stands;
      sound = c.know_occurrences.ensures.sound t stands;
      found = c.know_occurrences.ensures.found t stands;
      one = c.know_occurrences.ensures.one t stands;
      blocks_sound = c.know_occurrences.ensures.blocks_sound t stands;
      blocks_found = c.know_occurrences.ensures.blocks_found t stands;
      blocks_one = c.know_occurrences.ensures.blocks_one t stands;
      site = c.know_occurrences.ensures.site t stands;
      beside = c.know_occurrences.ensures.beside t stands;
      nested = c.know_occurrences.ensures.nested t stands;
    }) c.in_ok-blocks.blocks.items c.in_ok-blocks.ensures.unreached c.in_ok-blocks.ensures.once c.in_ok-blocks.ensures.reached in
    let values : HasValues c.args.program.now = record { definer = c.know_values.ensures.definer; typed = c.know_values.ensures.typed; stands = c.know_values.ensures.stands } in
    let occurs : Occurs c.args.program.now c.args.op t = record {
      stands = stands;
      sound = c.know_occurrences.ensures.sound t stands;
      found = c.know_occurrences.ensures.found t stands;
      one = c.know_occurrences.ensures.one t stands;
      blocks_sound = c.know_occurrences.ensures.blocks_sound t stands;
      blocks_found = c.know_occurrences.ensures.blocks_found t stands;
      blocks_one = c.know_occurrences.ensures.blocks_one t stands;
      site = c.know_occurrences.ensures.site t stands;
      beside = c.know_occurrences.ensures.beside t stands;
      nested = c.know_occurrences.ensures.nested t stands;
    } in
    let d = g.D.Meanings.meaning in
    let picks = is_listed c.in_ok-blocks.blocks.items in
    let taken = subst (λ (bs : List (Ptr BasicBlock)). IsTakenOutsideBlocks c.args.program.now (is_listed bs)) c.deref.ensures.value (c.in_ok-is_taken.ensures.taken h) in (
      cut_root picks t,
      cut_is d p c.args.program.now picks t (all.unreached p is_start t stands) (all.reached t stands),
      λ w says. loses_use c.args.program.now lists c.args.op t occurs values picks all.below d w says (numbers_of c.args.inside.now) c.requires.numbered c.know_values.ensures.used (c.know_occurrences.ensures.defined t stands) c.know_within.ensures taken,
    )

pub returns-clause-not_taken : goal.returns-clause-not_taken
returns-clause-not_taken g c = λ h p is_start t after w stands says cut.
    let lists : HasLists c.args.program.now = assumption c.know_lists.ensures in
    let all : AreUnreached g.D.Meanings.meaning c.args.program.now c.args.op c.args.start c.in_ok-blocks.blocks.items = are_unreached g.D.Meanings.meaning c.args.program.now lists c.args.op (numbers_of c.args.inside.now) c.requires.numbered
    c.args.start c.requires.edges c.requires.start.0 c.requires.start.1 c.know_tree.ensures.0 c.know_tree.ensures.1 (λ t stands. record {
      stands = stands;
      sound = c.know_occurrences.ensures.sound t stands;
      found = c.know_occurrences.ensures.found t stands;
      one = c.know_occurrences.ensures.one t stands;
      blocks_sound = c.know_occurrences.ensures.blocks_sound t stands;
      blocks_found = c.know_occurrences.ensures.blocks_found t stands;
      blocks_one = c.know_occurrences.ensures.blocks_one t stands;
      site = c.know_occurrences.ensures.site t stands;
      beside = c.know_occurrences.ensures.beside t stands;
      nested = c.know_occurrences.ensures.nested t stands;
    }) c.in_ok-blocks.blocks.items c.in_ok-blocks.ensures.unreached c.in_ok-blocks.ensures.once c.in_ok-blocks.ensures.reached in
    let values : HasValues c.args.program.now = record { definer = c.know_values.ensures.definer; typed = c.know_values.ensures.typed; stands = c.know_values.ensures.stands } in
    let occurs : Occurs c.args.program.now c.args.op t = record {
      stands = stands;
      sound = c.know_occurrences.ensures.sound t stands;
      found = c.know_occurrences.ensures.found t stands;
      one = c.know_occurrences.ensures.one t stands;
      blocks_sound = c.know_occurrences.ensures.blocks_sound t stands;
      blocks_found = c.know_occurrences.ensures.blocks_found t stands;
      blocks_one = c.know_occurrences.ensures.blocks_one t stands;
      site = c.know_occurrences.ensures.site t stands;
      beside = c.know_occurrences.ensures.beside t stands;
      nested = c.know_occurrences.ensures.nested t stands;
    } in
    let within = subst (λ (bs : List (Ptr BasicBlock)). TakesWithin c.args.program.now (is_listed bs)) c.deref.ensures.value (c.in_ok-is_taken.ensures.within h) in
    loses_none c.args.program.now lists c.args.op t occurs values (is_listed c.in_ok-blocks.blocks.items) all.below g.D.Meanings.meaning w says p (all.unreached p is_start t stands) within after cut

pub returns-clause-within : goal.returns-clause-within
returns-clause-within g c = λ h. subst (λ (bs : List (Ptr BasicBlock)). TakesWithin c.args.program.now (is_listed bs)) c.deref.ensures.value (c.in_ok-is_taken.ensures.within h)
