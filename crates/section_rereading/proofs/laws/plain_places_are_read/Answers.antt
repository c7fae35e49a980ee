use Rattle.section_rereading.proofs.PlaceSteps.{in_memory_read, unknown_read}
use Rattle.section_rereading.proofs.laws.plain_places_are_read.Goals as goal

pub returns-clause-place : goal.returns-clause-place
returns-clause-place g c v w l line column d rest is stop small narrow h = in_memory_read _ v w l line column d rest is stop small narrow h

pub returns-clause-unknown : goal.returns-clause-unknown
returns-clause-unknown g c v w l rest is h = unknown_read _ v w l rest is h
