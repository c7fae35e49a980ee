use Rattle.section_rereading.proofs.PrintedPlaces.{place_bytes}
use Rattle.section_rereading.proofs.laws.plain_places_are_printed.Goals as goal

pub returns : goal.returns
returns g c context state line column bytes h = place_bytes _ line column bytes h
