-- Texts of modules that are read again.
use Rattle.std.specs.Prelude.{◌≡◌, ℕ, List, [], ◌∷◌, ◌++◌, IsUtf8, chars}
use Rattle.ir_forest.specs.Closed.{IsSameModule}
use Rattle.ir_forest.specs.Language.{Language}
use Rattle.ir_print.specs.Pieces.{Entity}
use Rattle.ir_rereading.specs.Printable.{IsLayoutOf}
use Rattle.ir_rereading.specs.Texts.{Says}

-- the text is a layout of the tree, with a line feed (10) behind it
abbrev pub IsTextOfModule : Language → Entity ℕ → List ℕ → Type 0
IsTextOfModule l tree text = (front : List ℕ) × IsLayoutOf l.formats tree front × (text ≡ front ++ 10 ∷ [])

-- the bytes are UTF-8, and their characters say a tree that is the same module
pub record IsReadAgain (l : Language) (tree : Entity ℕ) (text : List ℕ) : Type 0 where
  pub utf8 : IsUtf8 text
  pub again : Entity ℕ
  pub says : Says l (chars text) again
  pub same : IsSameModule again tree
