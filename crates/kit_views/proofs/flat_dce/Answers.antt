use Rattle.kit.specs.Meaning.{kit}
use Rattle.kit_views.specs.Reading.{kit_reading}
use Rattle.kit_views.proofs.Read.{kit_reads}
use Rattle.kit_views.proofs.FlatRemoval.{removed}
use Rattle.kit_views.proofs.flat_dce.Goals as goal

pub returns : goal.returns
returns g c = λ same leads numbered w t after f sameness flat unpinned dce. removed kit (kit_reading leads numbered) (kit_reads leads numbered) same sameness w t after f flat unpinned dce
