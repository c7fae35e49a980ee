-- The one reading of the front of a text, or that there is none.
use Rattle.std.specs.Prelude.{◌≡◌, ◌≤◌, ℕ, suc, List}
use Rattle.ir_names.specs.Tree.{a_tree, no_tree, join}
use Rattle.ir_print.specs.declared.format.LeafSort.{LeafSort}
use Rattle.ir_print.specs.declared.format.ValueSort.{ValueSort}
use Rattle.ir_print.specs.Formats.{Step, Steps, no_steps, step, a_value, Formats}
use Rattle.ir_print.specs.Pieces.{Leaf, ValueTree, Pieces, Values}
use Rattle.ir_format_checks.specs.Tokens.{Column}
use Rattle.ir_format_checks.specs.Decided.{Follow, IsDecided}
use Rattle.text_streams.specs.declared.faults.TextError.{TextError}
use Rattle.text_streams.specs.declared.faults.TextError.TheVariants as causes
use Rattle.text_streams.specs.declared.position.Position.{Position}
use Rattle.text_streams.specs.Positions.{left}
use Rattle.value_texts.specs.declared.progress.ReadFault.{ReadFault}
use Rattle.value_texts.specs.declared.progress.ReadFault.TheVariants.{Memory, Text}
use Rattle.value_texts.specs.declared.maker.Refusal.{Refusal}
use Rattle.value_texts.specs.declared.maker.Refusal.TheVariants as refusals
use Rattle.value_texts.specs.Following.{MayCome}
use Rattle.value_texts.specs.Readable.{IsReadable, IsFlat, AreFlat}
use Rattle.value_texts.specs.Deep.{IsDeep}
use Rattle.value_texts.specs.Texts.{Says, these}

-- At a syntax fault nothing is said, however many types and attributes may be in one another. Where too many are in one another, nothing is
-- said with at most so many, and one more are. Of memory nothing is known, and other causes don't come.
abbrev pub NoneFor : TextError → ℕ → (Said Deep : ℕ → Type 0) → Type 0
NoneFor causes.Memory deepest Said Deep = Unit {0}
NoneFor causes.Syntax deepest Said Deep = (most : ℕ) → Said most → ⊥
NoneFor causes.TooDeep deepest Said Deep = ((most : ℕ) → most ≤ deepest → Said most → ⊥) × Deep (suc deepest)
NoneFor _ deepest Said Deep = ⊥

-- the same at a fault of this crate
abbrev pub NoneAt : ReadFault → ℕ → (Said Deep : ℕ → Type 0) → Type 0
NoneAt Memory deepest Said Deep = Unit {0}
NoneAt (Text cause place) deepest Said Deep = NoneFor cause deepest Said Deep

-- it is a syntax fault
abbrev pub IsSyntax : ReadFault → Type 0
IsSyntax (Text causes.Syntax place) = Unit {0}
IsSyntax _ = ⊥

-- what is answered for a value that isn't made: a refused part is a syntax fault
abbrev pub IsRefusal : Refusal → ReadFault → Type 0
IsRefusal refusals.Memory fault = fault ≡ Memory
IsRefusal (refusals.Refused i) fault = IsSyntax fault

module _ (f : Formats) (v : Values) (leaf_in : LeafSort → List ℕ → Leaf) where
  -- The characters begin with a text of the steps, which the next token decides, and such comes behind it as may.
  pub record HasText (ss : Steps) (cs : List ℕ) (most : ℕ) : Type 0 where
    pub next : Follow Column
    pub pieces : Pieces
    pub rest : List ℕ
    pub decided : IsDecided ss next
    pub may : MayCome next rest
    pub said : Says f v leaf_in (these most ss pieces) cs rest

  -- Each such text is the one that ends here and says these pieces.
  abbrev pub IsOnlyText : Steps → List ℕ → List ℕ → Pieces → Type 0
  IsOnlyText ss cs mid qs = (most : ℕ) (t : HasText ss cs most) → (t.pieces ≡ qs) × (t.rest ≡ mid)

  -- The pieces go on with what these steps say.
  pub record GoesOn (ss : Steps) (most : ℕ) (qs ps : Pieces) (mid rest : List ℕ) : Type 0 where
    pub others : Pieces
    pub pieces : ps ≡ join qs others
    pub said : Says f v leaf_in (these most ss others) mid rest

  -- Each such text of a step and others says these pieces up to here.
  abbrev pub IsOnlyStep : Step → List ℕ → List ℕ → Pieces → Type 0
  IsOnlyStep s cs mid qs = (most : ℕ) (ss : Steps) (t : HasText (step s ss) cs most) → GoesOn ss most qs t.pieces mid t.rest

  -- ---- refusals

  -- the characters begin with a text of the step and others
  abbrev pub HasTextOf : Step → List ℕ → ℕ → Type 0
  HasTextOf s cs most = (ss : Steps) × HasText (step s ss) cs most

  -- whatever the others are, the characters begin as such a text with so many types and attributes in one another
  abbrev pub IsDeepStep : Step → List ℕ → ℕ → Type 0
  IsDeepStep s cs n = (ss : Steps) → IsDeep f v leaf_in n (step s ss) cs

  abbrev pub IsDeepText : Steps → List ℕ → ℕ → Type 0
  IsDeepText ss cs n = IsDeep f v leaf_in n ss cs

  -- no text of the step begins so, or it is too deep
  abbrev pub NoStepAt : Step → List ℕ → ℕ → ReadFault → Type 0
  NoStepAt s cs deepest fault = NoneAt fault deepest (HasTextOf s cs) (IsDeepStep s cs)

  -- the same of steps
  abbrev pub NoStepsAt : Steps → List ℕ → ℕ → ReadFault → Type 0
  NoStepsAt ss cs deepest fault = NoneAt fault deepest (HasText ss cs) (IsDeepText ss cs)

  -- the same at a place, lists and choices being at most so deep in the step
  abbrev pub RefusesStep : Step → Position → (deepest lists : ℕ) → ReadFault → Type 0
  RefusesStep s at deepest lists fault = IsReadable f → IsFlat s lists → NoStepAt s (left at) deepest fault

  -- the same of steps
  abbrev pub RefusesSteps : Steps → Position → (deepest lists : ℕ) → ReadFault → Type 0
  RefusesSteps ss at deepest lists fault = IsReadable f → AreFlat ss lists → NoStepsAt ss (left at) deepest fault

  -- ---- values

  -- the characters begin with a text of a type or an attribute, with at most so many in one another
  abbrev pub HasValue : ValueSort → List ℕ → ℕ → Type 0
  HasValue sort cs most = (tree : ValueTree) × (rest : List ℕ)
      × Says f v leaf_in (these most (step (a_value sort) no_steps) (a_tree tree no_tree)) cs rest

  -- they begin as one does that has so many in one another
  abbrev pub IsDeepValue : ValueSort → List ℕ → ℕ → Type 0
  IsDeepValue sort cs n = IsDeep f v leaf_in n (step (a_value sort) no_steps) cs

  -- The characters begin with no text of a type or an attribute: at `Syntax` with none, however many are in one another, and at
  -- `TooDeep` with none that has at most 64, and there are 65. Other causes don't come, but for `Memory`, at which nothing is known.
  abbrev pub RefusesValue : ValueSort → List ℕ → TextError → Type 0
  RefusesValue sort cs cause = IsReadable f → NoneFor cause 64 (HasValue sort cs) (IsDeepValue sort cs)
