use Rattle.std.proofs.Common.{◌≡◌, ◌≤◌, ◌∙◌, ◌<◌, [], None, length, refl, subst, arith}
use Rattle.ir_program.specs.declared.handles.Ptr.{Ptr}
use Rattle.ir_program.specs.declared.handles.Operation.{Operation}
use Rattle.text_dialect.specs.Seen.{seen}
use Rattle.text_frames.specs.building.Made.{LinksOperands, LinksSuccessors}
use Rattle.text_frames.proofs.BuildingLemmas.Numbers.{gives_none, gives_still}
use Rattle.text_frames.specs.Linking.{AreMeant, AreTargets}
use Rattle.text_frames.proofs.Linked.{meant_later, targets_later, operation_later, first_later, linked_both, links_first_none, links_all, links_next}
use Rattle.text_frames.proofs.BuildingLemmas.Later.{links_later, later_both}
use Rattle.text_frames.proofs.Rising.{get_there}
use Rattle.text_frames.proofs.linking.link.Goals as goal

pub loop-index-init : goal.loop-index-init
loop-index-init g c = record {
  linked = links_first_none _ _ _ _ _;
  held = λ start names xs w h. h;
  numbers =
      gives_none c.args.ctx.now.program;
  types = refl;
}

pub link_one-requires-clause-op : goal.link_one-requires-clause-op
link_one-requires-clause-op g c =
    let ps = c.args.assembly.now.pending.items in
    let i = c.loop-index.index in
    let many = c.len-index-end.ensures in
    let below = c.loop-index-test.true in
    let lt : i < length ps = omega (arith, many, below) in
    let here = get_there ps i lt in
    let x = here.0 in
    let at = here.1 in
    rw (c.op-op.ensures x at, c.loop-index.invariant.linked.rest i x (omega arith) at) (c.requires.waiting.2.there i x at)

pub link_one-requires-clause-meant : goal.link_one-requires-clause-meant
link_one-requires-clause-meant g c =
    let s = seen c.args.ctx.now in
    let t = seen c.loop-index.ctx in
    let values = c.args.assembly.now.values.items in
    let blocks = c.args.assembly.now.blocks.items in
    let numbers = c.args.resolution.now.definitions in
    let ps = c.args.assembly.now.pending.items in
    let i = c.loop-index.index in
    let many = c.len-index-end.ensures in
    let below = c.loop-index-test.true in
    let lt : i < length ps = omega (arith, many, below) in
    let here = get_there ps i lt in
    let x = here.0 in
    let at = here.1 in
    let said = c.requires.meant.operands i x at in
    let later = first_later s values blocks numbers ps t i c.loop-index.invariant.linked in
    let there : AreMeant t c.deref.result.now numbers said.0 c.tokens-tokens.result.now = rw (c.deref.ensures.value, c.tokens-tokens.ensures x at)
    (meant_later s t values numbers said.0 x.tokens later said.1) in
    (said.0, there)

pub returns-in_err-link_one-clause-held : goal.returns-in_err-link_one-clause-held
returns-in_err-link_one-clause-held g c start names xs w h =
    let ps = c.args.assembly.now.pending.items in
    let i = c.loop-index.index in
    let many = c.len-index-end.ensures in
    let below = c.loop-index-test.true in
    let lt : i < length ps = omega (arith, many, below) in
    let here = get_there ps i lt in
    let x = here.0 in
    let at = here.1 in
    c.link_one.ensures.held start xs (c.loop-index.invariant.held start names xs w h) (rw (c.op-op.ensures x at) (w.came i x at))

pub returns-in_err-link_one-clause-numbers : goal.returns-in_err-link_one-clause-numbers
returns-in_err-link_one-clause-numbers g c = gives_still c.args.ctx.now.program c.loop-index.ctx.program
    c.link_one.new.ctx.program 0 c.loop-index.invariant.numbers c.link_one.ensures.numbers

pub link_edges-requires-clause-op : goal.link_edges-requires-clause-op
link_edges-requires-clause-op g c =
    let s = seen c.args.ctx.now in
    let t = seen c.loop-index.ctx in
    let values = c.args.assembly.now.values.items in
    let blocks = c.args.assembly.now.blocks.items in
    let numbers = c.args.resolution.now.definitions in
    let ps = c.args.assembly.now.pending.items in
    let i = c.loop-index.index in
    let many = c.len-index-end.ensures in
    let below = c.loop-index-test.true in
    let lt : i < length ps = omega (arith, many, below) in
    let here = get_there ps i lt in
    let x = here.0 in
    let at = here.1 in
    let said = c.requires.meant.operands i x at in
    let later = first_later s values blocks numbers ps t i c.loop-index.invariant.linked in
    let there : AreMeant t c.deref.result.now numbers said.0 c.tokens-tokens.result.now = rw (c.deref.ensures.value, c.tokens-tokens.ensures x at)
    (meant_later s t values numbers said.0 x.tokens later said.1) in
    let u = seen c.link_one.new.ctx in
    let linked : LinksOperands t u x.op said.0 = subst (λ (p : Ptr Operation). LinksOperands t u p said.0) (c.op-op.ensures x at) (c.in_ok-link_one.ensures.linked said.0 there) in
    let after = later_both s t u later (links_later t u x.op said.0 [] linked) in
    rw (c.op-op.ensures x at) (operation_later s u after x.op (c.requires.waiting.2.there i x at))

pub link_edges-requires-clause-meant : goal.link_edges-requires-clause-meant
link_edges-requires-clause-meant g c =
    let s = seen c.args.ctx.now in
    let t = seen c.loop-index.ctx in
    let values = c.args.assembly.now.values.items in
    let blocks = c.args.assembly.now.blocks.items in
    let numbers = c.args.resolution.now.definitions in
    let ps = c.args.assembly.now.pending.items in
    let i = c.loop-index.index in
    let many = c.len-index-end.ensures in
    let below = c.loop-index-test.true in
    let lt : i < length ps = omega (arith, many, below) in
    let here = get_there ps i lt in
    let x = here.0 in
    let at = here.1 in
    let said = c.requires.meant.operands i x at in
    let later = first_later s values blocks numbers ps t i c.loop-index.invariant.linked in
    let there : AreMeant t c.deref.result.now numbers said.0 c.tokens-tokens.result.now = rw (c.deref.ensures.value, c.tokens-tokens.ensures x at)
    (meant_later s t values numbers said.0 x.tokens later said.1) in
    let u = seen c.link_one.new.ctx in
    let linked : LinksOperands t u x.op said.0 = subst (λ (p : Ptr Operation). LinksOperands t u p said.0) (c.op-op.ensures x at) (c.in_ok-link_one.ensures.linked said.0 there) in
    let after = later_both s t u later (links_later t u x.op said.0 [] linked) in
    let leads = c.requires.meant.successors i x at in
    let to : AreTargets u c.deref-in-loop-index.result.now numbers leads.0 c.labels-labels.result.now = rw (c.deref-in-loop-index.ensures.value, c.labels-labels.ensures x at)
    (targets_later s u blocks numbers leads.0 x.labels after leads.1) in
    (leads.0, to)

pub returns-in_err-link_edges-clause-held : goal.returns-in_err-link_edges-clause-held
returns-in_err-link_edges-clause-held g c start names xs w h =
    let ps = c.args.assembly.now.pending.items in
    let i = c.loop-index.index in
    let many = c.len-index-end.ensures in
    let below = c.loop-index-test.true in
    let lt : i < length ps = omega (arith, many, below) in
    let here = get_there ps i lt in
    let x = here.0 in
    let at = here.1 in
    let new : start.operation c.op-op.result ≡ None = rw (c.op-op.ensures x at) (w.came i x at) in
    c.link_edges.ensures.held start xs (c.link_one.ensures.held start xs (c.loop-index.invariant.held start names xs w h) new) new

pub returns-in_err-link_edges-clause-numbers : goal.returns-in_err-link_edges-clause-numbers
returns-in_err-link_edges-clause-numbers g c =
    gives_still c.args.ctx.now.program c.link_one.new.ctx.program c.link_edges.new.ctx.program 0
    (gives_still c.args.ctx.now.program c.loop-index.ctx.program c.link_one.new.ctx.program 0 c.loop-index.invariant.numbers c.link_one.ensures.numbers)
    c.link_edges.ensures.numbers

pub loop-index-preserved : goal.loop-index-preserved
loop-index-preserved g c =
    let now = c.loop-index.invariant in
    let s = seen c.args.ctx.now in
    let t = seen c.loop-index.ctx in
    let values = c.args.assembly.now.values.items in
    let blocks = c.args.assembly.now.blocks.items in
    let numbers = c.args.resolution.now.definitions in
    let ps = c.args.assembly.now.pending.items in
    let i = c.loop-index.index in
    let many = c.len-index-end.ensures in
    let below = c.loop-index-test.true in
    let lt : i < length ps = omega (arith, many, below) in
    let here = get_there ps i lt in
    let x = here.0 in
    let at = here.1 in
    let said = c.requires.meant.operands i x at in
    let later = first_later s values blocks numbers ps t i c.loop-index.invariant.linked in
    let there : AreMeant t c.deref.result.now numbers said.0 c.tokens-tokens.result.now = rw (c.deref.ensures.value, c.tokens-tokens.ensures x at)
    (meant_later s t values numbers said.0 x.tokens later said.1) in
    let u = seen c.link_one.new.ctx in
    let linked : LinksOperands t u x.op said.0 = subst (λ (p : Ptr Operation). LinksOperands t u p said.0) (c.op-op.ensures x at) (c.in_ok-link_one.ensures.linked said.0 there) in
    let after = later_both s t u later (links_later t u x.op said.0 [] linked) in
    let leads = c.requires.meant.successors i x at in
    let to : AreTargets u c.deref-in-loop-index.result.now numbers leads.0 c.labels-labels.result.now = rw (c.deref-in-loop-index.ensures.value, c.labels-labels.ensures x at)
    (targets_later s u blocks numbers leads.0 x.labels after leads.1) in
    let v = seen c.link_edges.new.ctx in
    let more : LinksSuccessors u v x.op leads.0 = subst (λ (p : Ptr Operation). LinksSuccessors u v p leads.0) (c.op-op.ensures x at) (c.in_ok-link_edges.ensures.linked leads.0 to) in
    record {
      linked = links_next s values blocks numbers ps c.requires.waiting.0 c.requires.waiting.1 c.requires.waiting.2 t
          v i x said.0 leads.0 now.linked at said.1 leads.1 (linked_both t u v x.op said.0 leads.0 linked more);
      held = λ start names xs w h.
          let new : start.operation c.op-op.result ≡ None = rw (c.op-op.ensures x at) (w.came i x at) in
          c.link_edges.ensures.held start xs (c.link_one.ensures.held start xs (now.held start names xs w h) new) new;
      numbers = gives_still c.args.ctx.now.program c.link_one.new.ctx.program c.link_edges.new.ctx.program 0
          (gives_still c.args.ctx.now.program c.loop-index.ctx.program c.link_one.new.ctx.program 0 now.numbers c.link_one.ensures.numbers)
          c.link_edges.ensures.numbers;
      types = c.link_edges.ensures.types ∙ (c.link_one.ensures.types ∙ now.types);
    }

pub returns-clause-linked : goal.returns-clause-linked
returns-clause-linked g c =
    let many = c.len-index-end.ensures in
    let out = c.loop-index-test.false in
    let past : length c.args.assembly.now.pending.items ≤ c.loop-index.index = omega (arith, many, out) in
    links_all _ _ _ _ _ _ c.loop-index.index past c.loop-index.invariant.linked
