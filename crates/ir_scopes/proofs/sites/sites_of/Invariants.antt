use Rattle.std.proofs.Common.{◌≡◌, ◌≤◌, ◌++◌, drop, slice_get}
use Rattle.ir_scopes.specs.Scopes.{is_marked, definitions, mentions, closings, labels, label_mentions, label_closings, defined, mentioned, closed, labelled, label_mentioned, label_closed, root_openings, opened_below_root, known_or_first, each, place_of}
use Rattle.ir_scopes.proofs.sites.sites_of.Given as goal

abbrev pub invariant-loop-event : goal.invariant-loop-event
invariant-loop-event l = let isolated = is_marked l.isolated in record {
  events : (place_of l.walker).events ≤ l.event-index;
  definitions : l.sites.values.definitions.items ++ each isolated defined (place_of l.walker) (drop l.event-index l.events) ≡ definitions isolated l.events;
  mentions : l.sites.values.mentions.items ++ each isolated mentioned (place_of l.walker) (drop l.event-index l.events) ≡ mentions isolated l.events;
  closings : l.sites.values.closings.items ++ each isolated (closed isolated) (place_of l.walker) (drop l.event-index l.events) ≡ closings isolated l.events;
  labels : l.sites.labels.definitions.items ++ each isolated labelled (place_of l.walker) (drop l.event-index l.events) ≡ labels isolated l.events;
  label_mentions : l.sites.labels.mentions.items ++ each isolated label_mentioned (place_of l.walker) (drop l.event-index l.events) ≡ label_mentions isolated l.events;
  label_closings : l.sites.labels.closings.items ++ each isolated (label_closed isolated) (place_of l.walker) (drop l.event-index l.events) ≡ label_closings isolated l.events;
  root_opened : known_or_first l.sites.root_opened (each isolated opened_below_root (place_of l.walker) (drop l.event-index l.events)) ≡ slice_get (root_openings isolated l.events) 0;
}
