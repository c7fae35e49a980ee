use Rattle.ir_format_readings.proofs.OneReading.{value_once, body_once}
use Rattle.ir_format_readings.proofs.texts_have_one_reading.Goals as goal

pub returns-clause-values : goal.returns-clause-values
returns-clause-values c = value_once

pub returns-clause-bodies : goal.returns-clause-bodies
returns-clause-bodies c = body_once
