use Rattle.std.proofs.Common.{◌∙◌, true≢false, refl, sym}
use Rattle.opt_inside.proofs.Around.{HasLists}
use Rattle.opt_inside.specs.forwarding.Local.{HasLocalEdgesAt}
use Rattle.opt_inside.proofs.ForwardingLemmas.EachUnder.{each_local, local_from_each}
use Rattle.opt_inside.proofs.ForwardingLemmas.SeenUnder.{seeing_begins, seeing_goes_on, seeing_ends, next_is_there, holds_of_next}
use Rattle.opt_inside.proofs.forwarding.under.has_local_edges_inside.Goals as goal

pub has_local_edges_if_under-requires : goal.has_local_edges_if_under-requires
has_local_edges_if_under-requires g c =
    next_is_there c.args.program.now c.args.start (HasLocalEdgesAt g.D.Meanings.meaning.is_terminator c.args.program.now) c.args.node
    c.nodes_inside-inner-items.ensures.inside c.loop-inner.inner-iterator c.next.new.self c.in-Some.inner c.in-Some.ensures.steps c.loop-inner.invariant

pub returns-then-not-has_local_edges_if_under : goal.returns-then-not-has_local_edges_if_under
returns-then-not-has_local_edges_if_under g c = (
  λ h. absurd (true≢false (sym h)),
  λ h. let here = holds_of_next c.args.program.now c.args.start (HasLocalEdgesAt g.D.Meanings.meaning.is_terminator c.args.program.now) c.args.node
      c.nodes_inside-inner-items.ensures.inside c.requires c.loop-inner.inner-iterator c.next.new.self c.in-Some.inner c.in-Some.ensures.steps c.loop-inner.invariant
      (each_local g.D.Meanings.meaning.is_terminator c.args.program.now c.args.start h) in
      absurd (true≢false (sym (c.has_local_edges_if_under.ensures.1 here) ∙ c.if-not-has_local_edges_if_under.true)),
)

pub loop-inner-preserved : goal.loop-inner-preserved
loop-inner-preserved g c =
    seeing_goes_on c.args.program.now c.args.start (HasLocalEdgesAt g.D.Meanings.meaning.is_terminator c.args.program.now) c.args.node
    c.loop-inner.inner-iterator c.next.new.self c.in-Some.inner c.in-Some.ensures.steps
    (c.has_local_edges_if_under.ensures.0 c.if-not-has_local_edges_if_under.false) c.loop-inner.invariant

pub returns : goal.returns
returns g c =
    let lists : HasLists c.args.program.now = assumption c.know_lists.ensures in (
      λ h. local_from_each g.D.Meanings.meaning.is_terminator c.args.program.now c.args.start lists
          (seeing_ends c.args.program.now c.args.start (HasLocalEdgesAt g.D.Meanings.meaning.is_terminator c.args.program.now) c.args.node
          c.nodes_inside-inner-items.ensures.inside c.requires lists c.loop-inner.inner-iterator c.in-None.ensures.steps.0 c.loop-inner.invariant),
      λ h. refl,
    )
