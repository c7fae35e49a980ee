use Rattle.text_frames.proofs.BuildingLemmas.Came.{came_none, came_same, came_opens, came_makes, came_appends, came_links}
use Rattle.text_frames.proofs.BuildingLemmas.Discarded.{used_since}
use Rattle.text_frames.proofs.building.coming.know_came.Goals as goal

pub returns-clause-starts : goal.returns-clause-starts
returns-clause-starts g c = came_none

pub returns-clause-same : goal.returns-clause-same
returns-clause-same g c = came_same

pub returns-clause-opens : goal.returns-clause-opens
returns-clause-opens g c = came_opens

pub returns-clause-makes : goal.returns-clause-makes
returns-clause-makes g c = came_makes

pub returns-clause-appends : goal.returns-clause-appends
returns-clause-appends g c = came_appends

pub returns-clause-links : goal.returns-clause-links
returns-clause-links g c = came_links

pub returns-clause-used : goal.returns-clause-used
returns-clause-used g c = used_since
