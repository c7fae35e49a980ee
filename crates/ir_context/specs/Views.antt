-- What contracts see of a context.
use Rattle.ir_program.specs.Program.{Program}

-- the operations, regions, blocks and values, and the types with what is saved beside them
pub record ContextView (O B T : Type 0) : Type 0 where
  pub program : Program O B
  pub types : T
