-- Which attributes of the tests are printed once.
use Rattle.std.specs.Prelude.{Bool, true, false}
use Rattle.text_sections_tests.specs.declared.saids.Said.{Said}
use Rattle.text_sections_tests.specs.declared.saids.Said.TheVariants.{Note, Origin}

abbrev pub is_origin : Said → Bool
is_origin (Note text) = false
is_origin (Origin text) = true
