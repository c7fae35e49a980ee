use Rattle.irkit_driver.specs.Told.Told.{cut}
use Rattle.irkit_driver.proofs.faults.tell.Goals as goal

pub returns-in-Err : goal.returns-in-Err
returns-in-Err g c = cut c.in-Err.field-0.taken c.in-Err.ensures
