-- What reading adds to what was read.
use Rattle.std.specs.Prelude.{◌≡◌, ◌<◌, ℕ, Bool, true, false, List, [], ◌∷◌, ◌++◌, Vec, length}
use Rattle.std.specs.Global.{Global}
use Rattle.ir_names.specs.Tree.{a_tree, no_tree, join}
use Rattle.ir_print.specs.declared.format.LeafSort.{LeafSort}
use Rattle.ir_print.specs.declared.format.ValueSort.{ValueSort}
use Rattle.ir_print.specs.Formats.{Formats, Step, Steps, step}
use Rattle.ir_print.specs.Pieces.{Leaf, ValueTree, Pieces, Values}
use Rattle.ir_format_checks.specs.Tokens.{given}
use Rattle.text_streams.specs.declared.position.Position.{Position}
use Rattle.text_streams.specs.declared.stream.StateStream.{StateStream}
use Rattle.text_streams.specs.Positions.{left, LiesBehind}
use Rattle.text_streams.specs.Streams.{Reads}
use Rattle.value_texts.specs.declared.progress.Progress.{Progress}
use Rattle.value_texts.specs.Shows.{ShowsAll}
use Rattle.value_texts.specs.Readable.{IsReadable}
use Rattle.value_texts.specs.Only.{IsOnlyStep, IsOnlyText}
use Rattle.value_texts.specs.Texts.{Says, SaysValue, these}
use Rattle.value_texts.specs.Tokens.{TakesToken, IsNoNext}

-- one place lies behind another, by some characters
pub record GoesTo (from to : Position) : Type 0 where
  pub taken : List ℕ
  pub behind : LiesBehind from to taken

module _ {P : Type 0} where
  -- the word was the next token, and was taken
  pub record TookWord (w : List ℕ) (old new : Progress P) : Type 0 where
    pub text : List ℕ
    pub token : TakesToken (given w) (left old.at) text (left new.at)
    pub behind : GoesTo old.at new.at
    pub parts : new.parts ≡ old.parts
    pub less : length (left new.at) < length (left old.at)

  -- whether it was; another token comes next where it wasn't
  abbrev pub TakesWord : List ℕ → Progress P → Progress P → Bool → Type 0
  TakesWord w old new true = TookWord w old new
  TakesWord w old new false = (new ≡ old) × IsNoNext (given w) (left old.at)

  -- These parts were added, which show pieces of which this is known.
  pub record Adds (R : P → ValueTree → Type 0) (old new : Progress P) (Known : Pieces → Type 0) : Type 0 where
    pub added : List P
    pub pieces : Pieces
    pub parts : new.parts.items ≡ old.parts.items ++ added
    pub shown : ShowsAll R added pieces
    pub known : Known pieces
    pub behind : GoesTo old.at new.at

  -- one part was added, which shows a piece of which this is known
  pub record AddsOne (R : P → ValueTree → Type 0) (old new : Progress P) (Known : ValueTree → Type 0) : Type 0 where
    pub part : P
    pub tree : ValueTree
    pub parts : new.parts.items ≡ old.parts.items ++ part ∷ []
    pub shown : R part tree
    pub known : Known tree
    pub behind : GoesTo old.at new.at

module _ (f : Formats) (v : Values) (leaf_in : LeafSort → List ℕ → Leaf) (d : ℕ) where
  -- Whatever the steps behind it say, with the step these pieces are said before what they say. In a readable language each text
  -- of the step says them.
  pub record IsStep (s : Step) (from to : Position) (qs : Pieces) : Type 0 where
    pub said : (ss : Steps) (ps : Pieces) (rest : List ℕ) → Says f v leaf_in (these d ss ps) (left to) rest
        → Says f v leaf_in (these d (step s ss) (join qs ps)) (left from) rest
    pub only : IsReadable f → IsOnlyStep f v leaf_in s (left from) (left to) qs

  -- the steps say these pieces, in a readable language each text of them
  pub record AreSteps (ss : Steps) (from to : Position) (qs : Pieces) : Type 0 where
    pub said : Says f v leaf_in (these d ss qs) (left from) (left to)
    pub only : IsReadable f → IsOnlyText f v leaf_in ss (left from) (left to) qs

module _ {P : Type 0} (f : Formats) (v : Values) (leaf_in : LeafSort → List ℕ → Leaf) (R : P → ValueTree → Type 0) (d : ℕ) where
  -- a step was read, with the pieces that it says
  abbrev pub TakesStep : Step → Progress P → Progress P → Type 0
  TakesStep s old new = Adds R old new (IsStep f v leaf_in d s old.at new.at)

  -- the same of a step that says one piece
  abbrev pub TakesOne : Step → Progress P → Progress P → Type 0
  TakesOne s old new = AddsOne R old new (λ t. IsStep f v leaf_in d s old.at new.at (a_tree t no_tree))

  -- the steps of a format were read, with the pieces that they say
  abbrev pub TakesSteps : Steps → Progress P → Progress P → Type 0
  TakesSteps ss old new = Adds R old new (AreSteps f v leaf_in d ss old.at new.at)

  -- a member of a list was read
  pub record TakesMember (m : Steps) (before after : List (Vec P Global)) (old new : Progress P) : Type 0 where
    pub one : Vec P Global
    pub pieces : Pieces
    pub members : after ≡ before ++ one ∷ []
    pub shown : ShowsAll R one.items pieces
    pub said : AreSteps f v leaf_in d m old.at new.at pieces
    pub parts : new.parts ≡ old.parts
    pub behind : GoesTo old.at new.at

-- a value was read from a stream
pub record ReadsValue {P S : Type 0} (f : Formats) (v : Values) (leaf_in : LeafSort → List ℕ → Leaf) (R : P → ValueTree → Type 0) (sort : ValueSort)
    (old new : StateStream S) (part : P) : Type 0 where
  pub tree : ValueTree
  pub said : SaysValue f v leaf_in sort tree (left old.position) (left new.position)
  pub shown : R part tree
  pub taken : List ℕ
  pub reads : Reads old new taken
