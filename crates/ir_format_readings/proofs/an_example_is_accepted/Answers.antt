use Rattle.ir_format_readings.proofs.Computed.{example_accepted}
use Rattle.ir_format_readings.proofs.an_example_is_accepted.Goals as goal

pub returns : goal.returns
returns c = example_accepted
