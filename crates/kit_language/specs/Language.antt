-- The language of `kit`.
use Rattle.std.specs.Prelude.{slice_get}
use Rattle.ir_forest.specs.Language.{Language}
use Rattle.ir_rereading.specs.Texts.{language_of}
use Rattle.kit_ops.specs.Table.{has_interface}
use Rattle.kit.specs.Forms.{formats, read_ops}
use Rattle.kit.specs.Says.{values}
use Rattle.text_dialect.specs.formats.Isolated.{is_isolated}

-- the formats of the kinds that can be read, which of them are isolated, and what is made of pieces
abbrev pub kit_language : Language
kit_language = language_of formats (slice_get read_ops) (is_isolated has_interface) values
