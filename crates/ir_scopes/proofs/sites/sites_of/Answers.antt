use Rattle.std.proofs.Common.{get_or, arith}
use Rattle.ir_grammar.specs.declared.grammar.Event.TheVariants.{Took}
use Rattle.ir_scopes.specs.Scopes.{is_marked, defined, mentioned, closed, labelled, label_mentioned, label_closed, opened_below_root, place_of}
use Rattle.ir_scopes.proofs.Walks.{each_step, each_all, first_step, first_all, events_behind, same_names}
use Rattle.ir_scopes.proofs.sites.sites_of.Goals as goal

pub loop-event-preserved : goal.loop-event-preserved
loop-event-preserved c =
    let isolated = is_marked c.args.isolated.now in
    let es = c.args.events.now in
    let i = c.loop-event.event-index in
    let at = place_of c.loop-event.walker in
    let after = place_of c.follow.new.at in
    let e = get_or es i Took in
    let now = c.loop-event.invariant in
    let added = c.in_ok-follow.ensures in
    let counted = events_behind isolated at after e added.walk in
    record {
      events = omega arith;
      definitions = each_step isolated defined at after es i Took _ _ _ c.loop-event-test.true added.walk added.definitions now.definitions;
      mentions = each_step isolated mentioned at after es i Took _ _ _ c.loop-event-test.true added.walk added.mentions now.mentions;
      closings = each_step isolated (closed isolated) at after es i Took _ _ _ c.loop-event-test.true added.walk added.closings now.closings;
      labels = each_step isolated labelled at after es i Took _ _ _ c.loop-event-test.true added.walk added.labels now.labels;
      label_mentions = each_step isolated label_mentioned at after es i Took _ _ _ c.loop-event-test.true added.walk added.label_mentions now.label_mentions;
      label_closings = each_step isolated (label_closed isolated) at after es i Took _ _ _ c.loop-event-test.true added.walk added.label_closings now.label_closings;
      root_opened = first_step isolated opened_below_root at after es i Took _ _ _ c.loop-event-test.true added.walk added.root_opened now.root_opened;
    }

pub returns : goal.returns
returns c =
    let isolated = is_marked c.args.isolated.now in
    let es = c.args.events.now in
    let i = c.loop-event.event-index in
    let at = place_of c.loop-event.walker in
    let now = c.loop-event.invariant in
    record {
      values = same_names
          (each_all isolated defined at es i _ _ c.loop-event-test.false now.definitions)
          (each_all isolated mentioned at es i _ _ c.loop-event-test.false now.mentions)
          (each_all isolated (closed isolated) at es i _ _ c.loop-event-test.false now.closings);
      labels = same_names
          (each_all isolated labelled at es i _ _ c.loop-event-test.false now.labels)
          (each_all isolated label_mentioned at es i _ _ c.loop-event-test.false now.label_mentions)
          (each_all isolated (label_closed isolated) at es i _ _ c.loop-event-test.false now.label_closings);
      root_opened = first_all isolated opened_below_root at es i _ _ c.loop-event-test.false now.root_opened;
    }
