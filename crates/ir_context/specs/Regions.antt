-- What a region is.
use Rattle.std.specs.Prelude.{◌≡◌, ◌-◌, length, slice_get}
use Rattle.ir_program.specs.Program.{Program}
use Rattle.ir_program.specs.Lists.{blocks_in, StandsInOperation}
use Rattle.ir_program.specs.declared.handles.Ptr.{Ptr}
use Rattle.ir_program.specs.declared.handles.Region.{Region}
use Rattle.ir_context.specs.declared.regions.RegionRecord.{RegionRecord}

-- The record tells the operation that the region stands in, and the ends of the list of its blocks.
pub record IsRegion {O B : Type 0} (program : Program O B) (region : Ptr Region) (r : RegionRecord) : Type 0 where
  pub parent : StandsInOperation program region r.parent
  pub head : r.head ≡ slice_get (blocks_in program region) 0
  pub tail : r.tail ≡ slice_get (blocks_in program region) (length (blocks_in program region) - 1)
