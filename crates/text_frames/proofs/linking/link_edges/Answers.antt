use Rattle.std.proofs.Common.{◌≡◌, ◌∙◌, ◌≤◌, ◌+◌, List, [], Some, length, take, ap, subst, refl}
use Rattle.std.proofs.lemmas.List.{take_all}
use Rattle.ir_program.specs.declared.handles.BasicBlock.{BasicBlock}
use Rattle.ir_program.specs.declared.handles.Ptr.{Ptr}
use Rattle.text_dialect.specs.Seen.{seen}
use Rattle.text_frames.specs.building.Loose.{IsDefinedBlock}
use Rattle.text_frames.specs.building.Made.{LinksSuccessors}
use Rattle.text_frames.proofs.BuildingLemmas.Later.{links_later, block_later}
use Rattle.text_frames.proofs.BuildingLemmas.Linked.{links_none}
use Rattle.text_frames.proofs.BuildingLemmas.Numbers.{gives_none, gives_still}
use Rattle.text_frames.proofs.Linked.{named_block, one_block, linked_more_blocks, holds_links}
use Rattle.text_frames.proofs.Opening.{as_many}
use Rattle.text_frames.proofs.linking.link_edges.Goals as goal
use Rattle.text_frames.proofs.linking.link_edges.Goals.{in-Some+in_ok-link_successors, in_default}

pub loop-label-init : goal.loop-label-init
loop-label-init g c = record {
  linked = λ bs said. links_none (seen c.args.ctx.now) c.args.op;
  numbers =
      gives_none c.args.ctx.now.program;
  types = refl;
}

pub link_successors-requires-clause-blocks : goal.link_successors-requires-clause-blocks
link_successors-requires-clause-blocks g c =
    let said = c.requires.meant in
    let s = seen c.args.ctx.now in
    let t = seen c.loop-label.ctx in
    let it = named_block s c.args.blocks.now c.args.resolution.now.definitions said.0
    c.args.labels.now c.args.labels.now c.loop-label.label-index c.block_of.result
    refl said.1 c.loop-label-test.true c.block_of.ensures in
    let same : it.0 ≡ c.in-Some.block = cc (it.2, c.in-Some.is) in
    let later = links_later s t c.args.op [] (take c.loop-label.label-index said.0)
    (c.loop-label.invariant.linked said.0 said.1) in
    one_block t c.in-Some.block (subst (λ (b : Ptr BasicBlock). IsDefinedBlock t b) same (block_later s t later it.0 it.3))

pub returns-in_err-link_successors-clause-held : goal.returns-in_err-link_successors-clause-held
returns-in_err-link_successors-clause-held g c start xs holds new =
    let said = c.requires.meant in
    let op = c.args.op in
    let front = c.in_err-link_successors.ensures.err in
    holds_links start (seen c.loop-label.ctx) (seen c.link_successors.new.ctx) op [] (take front.0 _) xs front.2 new
    (holds_links start (seen c.args.ctx.now) (seen c.loop-label.ctx) op [] (take c.loop-label.label-index said.0) xs
    (c.loop-label.invariant.linked said.0 said.1) new holds)

pub returns-in_err-link_successors-clause-numbers : goal.returns-in_err-link_successors-clause-numbers
returns-in_err-link_successors-clause-numbers g c =
    gives_still c.args.ctx.now.program c.loop-label.ctx.program c.link_successors.new.ctx.program 0
    c.loop-label.invariant.numbers c.link_successors.ensures.numbers

pub loop-label-preserved : goal.loop-label-preserved
loop-label-preserved g c =
    let now = c.loop-label.invariant in
    let s = seen c.args.ctx.now in
    let op = c.args.op in
    let i = c.loop-label.label-index in
    elim c.match-block_of.branch [
      | in-Some+in_ok-link_successors w ↦ rw w.ctx-is (record {
        linked = λ bs said.
            let it = named_block s c.args.blocks.now c.args.resolution.now.definitions bs
            c.args.labels.now c.args.labels.now i c.block_of.result
            refl said c.loop-label-test.true c.block_of.ensures in
            let same : it.0 ≡ w.in-Some.block = cc (it.2, w.in-Some.is) in
            linked_more_blocks s (seen c.loop-label.ctx) (seen w.link_successors.new.ctx) op bs i w.in-Some.block
            (now.linked bs said) (it.1 ∙ ap Some same) w.in_ok-link_successors.ensures.linked;
        numbers = gives_still c.args.ctx.now.program c.loop-label.ctx.program w.link_successors.new.ctx.program 0
            now.numbers w.link_successors.ensures.numbers;
        types = w.link_successors.ensures.types ∙ now.types;
      })
      | in_default w ↦ rw w.ctx-is (record {
        linked = λ bs said.
            let it = named_block s c.args.blocks.now c.args.resolution.now.definitions bs
            c.args.labels.now c.args.labels.now i c.block_of.result
            refl said c.loop-label-test.true c.block_of.ensures in
            let out : ⊥ = cc (it.2, w.in_default.is) in
            absurd {A = LinksSuccessors s (seen c.loop-label.ctx) op (take (i + 1) bs)} out;
        numbers = now.numbers;
        types = now.types;
      })
    ]

pub returns-clause-linked : goal.returns-clause-linked
returns-clause-linked g c bs said =
    let many : length bs ≡ length c.args.labels.now = as_many _ bs c.args.labels.now said in
    let few : length bs ≤ c.loop-label.label-index = rw many c.loop-label-test.false in
    subst (λ (cs : List (Ptr BasicBlock)). LinksSuccessors (seen c.args.ctx.now) (seen c.loop-label.ctx) c.args.op cs)
    (take_all c.loop-label.label-index bs few) (c.loop-label.invariant.linked bs said)

pub returns-clause-held : goal.returns-clause-held
returns-clause-held g c start xs holds new =
    let said = c.requires.meant in
    holds_links start (seen c.args.ctx.now) (seen c.loop-label.ctx) c.args.op
    [] (take c.loop-label.label-index said.0) xs (c.loop-label.invariant.linked said.0 said.1) new holds
