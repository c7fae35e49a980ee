use Rattle.std.proofs.Common.{◌≡◌, inr, true, List, rules, refl, sym, subst}
use Rattle.std.specs.Vec.{vec_len}
use Rattle.ir_program.specs.Lists.{IsLiveNode}
use Rattle.ir_program.specs.declared.handles.IRNode.TheVariants.{BasicBlock as BlockNode}
use Rattle.ir_program.specs.declared.handles.Ptr.{Ptr}
use Rattle.ir_program.specs.declared.handles.BasicBlock.{BasicBlock}
use Rattle.ir_trees.specs.Searched.{AreDistinct}
use Rattle.ir_trees.specs.Stands.{by_handle, ProgramTree, StandsFor}
use Rattle.opt_trees.specs.Simplify.{StartingRegions}
use Rattle.opt_inside.proofs.Around.{HasLists}
use Rattle.opt_inside.specs.reach.Starts.{IsStartIn}
use Rattle.opt_simplify.specs.Refusals.{AreUnreached, LosesNone, LosesUses}
use Rattle.opt_simplify.specs.Removed.{is_listed, ArePickedApart, NamesWithin, ErasesPickedBlocks, TakesWithin}
use Rattle.opt_simplify.proofs.RemovedEnds.{unchanged_removed, none_unreached, some_unreached, all_removed, emptied, not_emptied}
use Rattle.opt_simplify.proofs.RemovedErased.{handles_kept}
use Rattle.opt_simplify.proofs.RemovedLocal.{edges_alike, edges_kept}
use Rattle.opt_simplify.proofs.remove.remove_unreached.Goals as goal

pub returns-then-is_empty-clause-removed : goal.returns-then-is_empty-clause-removed
returns-then-is_empty-clause-removed g c =
    let lists_2 : HasLists c.program-2.result.now = assumption c.know_lists.ensures in
    let lists : HasLists c.args.ctx.now.program = subst HasLists c.program-2.ensures lists_2 in
    let all : AreUnreached g.D.Meanings.meaning c.args.ctx.now.program c.args.op c.args.start c.in_ok-unreached.unreached.blocks.items = subst (λ p. AreUnreached g.D.Meanings.meaning p c.args.op c.args.start c.in_ok-unreached.unreached.blocks.items) c.program-4.ensures c.in_ok-unreached.ensures.found in
    unchanged_removed g.D.Meanings.meaning c.args.ctx.now.program lists c.args.op c.args.start c.in_ok-unreached.unreached.blocks.items all (emptied c.in_ok-unreached.unreached.blocks.items (vec_len c.in_ok-unreached.unreached.blocks) (search rules) c.if-is_empty.ensures)

pub returns-then-is_empty-clause-unchanged : goal.returns-then-is_empty-clause-unchanged
returns-then-is_empty-clause-unchanged g c =
    let lists_2 : HasLists c.program-2.result.now = assumption c.know_lists.ensures in
    let lists : HasLists c.args.ctx.now.program = subst HasLists c.program-2.ensures lists_2 in
    let all : AreUnreached g.D.Meanings.meaning c.args.ctx.now.program c.args.op c.args.start c.in_ok-unreached.unreached.blocks.items = subst (λ p. AreUnreached g.D.Meanings.meaning p c.args.op c.args.start c.in_ok-unreached.unreached.blocks.items) c.program-4.ensures c.in_ok-unreached.ensures.found in
    (λ h. none_unreached g.D.Meanings.meaning c.args.ctx.now.program lists c.args.op c.args.start c.in_ok-unreached.unreached.blocks.items all (emptied c.in_ok-unreached.unreached.blocks.items (vec_len c.in_ok-unreached.unreached.blocks) (search rules) c.if-is_empty.ensures), λ h. refl)

pub remove_blocks-requires-clause-there : goal.remove_blocks-requires-clause-there
remove_blocks-requires-clause-there g c =
    let all : AreUnreached g.D.Meanings.meaning c.args.ctx.now.program c.args.op c.args.start c.in_ok-unreached.unreached.blocks.items = subst (λ p. AreUnreached g.D.Meanings.meaning p c.args.op c.args.start c.in_ok-unreached.unreached.blocks.items) c.program-4.ensures c.in_ok-unreached.ensures.found in
    subst (λ (bs : List (Ptr BasicBlock)). (b : Ptr BasicBlock) → is_listed bs b ≡ true → IsLiveNode c.args.ctx.now.program (BlockNode b)) (sym c.deref.ensures.value) all.there

pub remove_blocks-requires-clause-once : goal.remove_blocks-requires-clause-once
remove_blocks-requires-clause-once g c = subst (λ (bs : List (Ptr BasicBlock)). AreDistinct bs) (sym c.deref.ensures.value) c.in_ok-unreached.ensures.found.once

pub remove_blocks-requires-clause-apart : goal.remove_blocks-requires-clause-apart
remove_blocks-requires-clause-apart g c =
    let all : AreUnreached g.D.Meanings.meaning c.args.ctx.now.program c.args.op c.args.start c.in_ok-unreached.unreached.blocks.items = subst (λ p. AreUnreached g.D.Meanings.meaning p c.args.op c.args.start c.in_ok-unreached.unreached.blocks.items) c.program-4.ensures c.in_ok-unreached.ensures.found in
    subst (λ (bs : List (Ptr BasicBlock)). ArePickedApart c.args.ctx.now.program (is_listed bs)) (sym c.deref.ensures.value) all.apart

pub remove_blocks-requires-clause-named : goal.remove_blocks-requires-clause-named
remove_blocks-requires-clause-named g c =
    let all : AreUnreached g.D.Meanings.meaning c.args.ctx.now.program c.args.op c.args.start c.in_ok-unreached.unreached.blocks.items = subst (λ p. AreUnreached g.D.Meanings.meaning p c.args.op c.args.start c.in_ok-unreached.unreached.blocks.items) c.program-4.ensures c.in_ok-unreached.ensures.found in
    let within : TakesWithin c.args.ctx.now.program (is_listed c.in_ok-unreached.unreached.blocks.items) = subst (λ p. TakesWithin p (is_listed c.in_ok-unreached.unreached.blocks.items)) c.program-4.ensures (c.in_ok-unreached.ensures.within c.if-unreached.false) in
    subst (λ (bs : List (Ptr BasicBlock)). NamesWithin c.args.ctx.now.program (is_listed bs)) (sym c.deref.ensures.value) (record { values = within; blocks = all.edges })

pub returns-clause-removed : goal.returns-clause-removed
returns-clause-removed g c =
    let lists_2 : HasLists c.program-2.result.now = assumption c.know_lists.ensures in
    let lists : HasLists c.args.ctx.now.program = subst HasLists c.program-2.ensures lists_2 in
    let all : AreUnreached g.D.Meanings.meaning c.args.ctx.now.program c.args.op c.args.start c.in_ok-unreached.unreached.blocks.items = subst (λ p. AreUnreached g.D.Meanings.meaning p c.args.op c.args.start c.in_ok-unreached.unreached.blocks.items) c.program-4.ensures c.in_ok-unreached.ensures.found in
    all_removed g.D.Meanings.meaning c.args.ctx.now.program lists c.args.op c.args.start c.in_ok-unreached.unreached.blocks.items all c.remove_blocks.new.ctx.program
    (subst (λ (bs : List (Ptr BasicBlock)). ErasesPickedBlocks c.args.ctx.now.program c.remove_blocks.new.ctx.program (is_listed bs)) c.deref.ensures.value c.remove_blocks.ensures.removed)

pub returns-clause-handles : goal.returns-clause-handles
returns-clause-handles g c =
    let lists_2 : HasLists c.program-2.result.now = assumption c.know_lists.ensures in
    let lists : HasLists c.args.ctx.now.program = subst HasLists c.program-2.ensures lists_2 in
    handles_kept c.args.ctx.now.program c.remove_blocks.new.ctx.program lists (is_listed c.in_ok-unreached.unreached.blocks.items)
    (subst (λ (bs : List (Ptr BasicBlock)). ErasesPickedBlocks c.args.ctx.now.program c.remove_blocks.new.ctx.program (is_listed bs)) c.deref.ensures.value c.remove_blocks.ensures.removed) c.args.op c.requires.live

pub returns-clause-unchanged : goal.returns-clause-unchanged
returns-clause-unchanged g c =
    let lists_2 : HasLists c.program-2.result.now = assumption c.know_lists.ensures in
    let lists : HasLists c.args.ctx.now.program = subst HasLists c.program-2.ensures lists_2 in
    let all : AreUnreached g.D.Meanings.meaning c.args.ctx.now.program c.args.op c.args.start c.in_ok-unreached.unreached.blocks.items = subst (λ p. AreUnreached g.D.Meanings.meaning p c.args.op c.args.start c.in_ok-unreached.unreached.blocks.items) c.program-4.ensures c.in_ok-unreached.ensures.found in
    let tree : (t : ProgramTree g.row.D-Operation.Denot g.row.D-Block.Denot) × StandsFor c.args.ctx.now.program c.args.op t = subst (λ p. (t : ProgramTree g.row.D-Operation.Denot g.row.D-Block.Denot) × StandsFor p c.args.op t) c.program.ensures c.know_tree.ensures in
    let place : (p : StartingRegions by_handle) × IsStartIn c.args.ctx.now.program c.args.start p = subst (λ z. (p : StartingRegions by_handle) × IsStartIn z c.args.start p) c.program-3.ensures (c.has_start.ensures.there (cc (c.if-not-has_start.false))) in (
      λ h. cc,
      λ none. absurd (some_unreached g.D.Meanings.meaning c.args.ctx.now.program lists c.args.op c.args.start c.in_ok-unreached.unreached.blocks.items all
          (not_emptied c.in_ok-unreached.unreached.blocks.items (vec_len c.in_ok-unreached.unreached.blocks) (search rules) c.if-is_empty.ensures) place.0 place.1 tree.0 tree.1 none),
    )

pub returns-then-unreached-clause-refused : goal.returns-then-unreached-clause-refused
returns-then-unreached-clause-refused g c = inr (refl, subst (λ p. LosesUses g.D.Meanings.meaning p c.args.op c.args.start) c.program-4.ensures (c.in_ok-unreached.ensures.taken c.if-unreached.true))

pub returns-then-is_empty-clause-accepted : goal.returns-then-is_empty-clause-accepted
returns-then-is_empty-clause-accepted g c = subst (λ p. LosesNone g.D.Meanings.meaning p c.args.op c.args.start) c.program-4.ensures (c.in_ok-unreached.ensures.not_taken c.if-unreached.false)

pub returns-clause-accepted : goal.returns-clause-accepted
returns-clause-accepted g c = subst (λ p. LosesNone g.D.Meanings.meaning p c.args.op c.args.start) c.program-4.ensures (c.in_ok-unreached.ensures.not_taken c.if-unreached.false)

pub returns-then-not-has_start-clause-edges : goal.returns-then-not-has_start-clause-edges
returns-then-not-has_start-clause-edges g c =
    edges_alike g.D.Meanings.meaning c.args.ctx.now.program c.args.op c.args.start c.requires.edges

pub returns-then-is_empty-clause-edges : goal.returns-then-is_empty-clause-edges
returns-then-is_empty-clause-edges g c =
    edges_alike g.D.Meanings.meaning c.args.ctx.now.program c.args.op c.args.start c.requires.edges

pub returns-clause-edges : goal.returns-clause-edges
returns-clause-edges g c =
    let lists_2 : HasLists c.program-2.result.now = assumption c.know_lists.ensures in
    let lists : HasLists c.args.ctx.now.program = subst HasLists c.program-2.ensures lists_2 in
    let all : AreUnreached g.D.Meanings.meaning c.args.ctx.now.program c.args.op c.args.start c.in_ok-unreached.unreached.blocks.items = subst (λ p. AreUnreached g.D.Meanings.meaning p c.args.op c.args.start c.in_ok-unreached.unreached.blocks.items) c.program-4.ensures c.in_ok-unreached.ensures.found in
    edges_kept c.args.ctx.now.program c.remove_blocks.new.ctx.program lists c.args.op (is_listed c.in_ok-unreached.unreached.blocks.items)
    (subst (λ (bs : List (Ptr BasicBlock)). ErasesPickedBlocks c.args.ctx.now.program c.remove_blocks.new.ctx.program (is_listed bs)) c.deref.ensures.value c.remove_blocks.ensures.removed) all.edges c.args.start g.D.Meanings.meaning c.requires.edges
