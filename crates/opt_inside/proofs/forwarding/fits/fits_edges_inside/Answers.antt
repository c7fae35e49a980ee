use Rattle.std.proofs.Common.{◌∙◌, true≢false, refl, sym}
use Rattle.opt_inside.proofs.Around.{HasLists}
use Rattle.opt_inside.specs.forwarding.Fits.{FitsEdgesAt}
use Rattle.opt_inside.proofs.ForwardingLemmas.Fitting.{fits_at_each, fits_under}
use Rattle.opt_inside.proofs.ForwardingLemmas.SeenUnder.{seeing_begins, seeing_goes_on, seeing_ends, next_is_there, holds_of_next}
use Rattle.opt_inside.proofs.forwarding.fits.fits_edges_inside.Goals as goal

pub fits_edges_if_under-requires : goal.fits_edges_if_under-requires
fits_edges_if_under-requires g c =
    next_is_there c.args.program.now c.args.start (FitsEdgesAt g.D.Meanings.meaning c.args.program.now) c.args.node
    c.nodes_inside-inner-items.ensures.inside c.loop-inner.inner-iterator c.next.new.self c.in-Some.inner c.in-Some.ensures.steps c.loop-inner.invariant

pub returns-then-not-branch : goal.returns-then-not-branch
returns-then-not-branch g c = (
  λ h. absurd (true≢false (sym h)),
  λ h. let here = holds_of_next c.args.program.now c.args.start (FitsEdgesAt g.D.Meanings.meaning c.args.program.now) c.args.node
      c.nodes_inside-inner-items.ensures.inside c.requires c.loop-inner.inner-iterator c.next.new.self c.in-Some.inner c.in-Some.ensures.steps c.loop-inner.invariant
      (fits_at_each g.D.Meanings.meaning c.args.program.now c.args.start h) in
      absurd (true≢false (sym (c.in_ok-fits_edges_if_under.ensures.1 here) ∙ c.if-not-branch.true)),
)

pub loop-inner-preserved : goal.loop-inner-preserved
loop-inner-preserved g c =
    seeing_goes_on c.args.program.now c.args.start (FitsEdgesAt g.D.Meanings.meaning c.args.program.now) c.args.node
    c.loop-inner.inner-iterator c.next.new.self c.in-Some.inner c.in-Some.ensures.steps
    (c.in_ok-fits_edges_if_under.ensures.0 c.if-not-branch.false) c.loop-inner.invariant

pub returns : goal.returns
returns g c =
    let lists : HasLists c.args.program.now = assumption c.know_lists.ensures in (
      λ h. fits_under g.D.Meanings.meaning c.args.program.now c.args.start
          (seeing_ends c.args.program.now c.args.start (FitsEdgesAt g.D.Meanings.meaning c.args.program.now) c.args.node
          c.nodes_inside-inner-items.ensures.inside c.requires lists c.loop-inner.inner-iterator c.in-None.ensures.steps.0 c.loop-inner.invariant),
      λ h. refl,
    )
