use Rattle.text_frames.proofs.BuildingLemmas.Later.{keeps_later, appends_later, links_later}
use Rattle.text_frames.proofs.building.laws.know_later.Goals as goal

pub returns-clause-kept : goal.returns-clause-kept
returns-clause-kept g c = keeps_later

pub returns-clause-appends : goal.returns-clause-appends
returns-clause-appends g c = appends_later

pub returns-clause-links : goal.returns-clause-links
returns-clause-links g c = links_later
