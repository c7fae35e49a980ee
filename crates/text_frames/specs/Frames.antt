-- What is open while a text is assembled, and the trees that are built of it.
use Rattle.std.specs.Prelude.{◌≡◌, ℕ, List, [], ◌∷◌, None, Vec}
use Rattle.std.specs.Global.{Global}
use Rattle.ir_print.specs.declared.format.Part.{Part}
use Rattle.ir_names.specs.Tree.{Trees}
use Rattle.ir_print.specs.Pieces.{Values}
use Rattle.ir_print.specs.Shown.{Saying, ShowsParts, ShowsMembers}
use Rattle.ir_grammar.specs.declared.grammar.Action.{Action}
use Rattle.ir_grammar.specs.declared.grammar.Action.TheVariants as act
use Rattle.text_frames.specs.declared.opened.Body.{Body}
use Rattle.text_frames.specs.declared.opened.Body.TheVariants as body
use Rattle.text_frames.specs.declared.opened.Content.{Content}
use Rattle.text_frames.specs.declared.opened.Open.{Open}
use Rattle.ir_forest.specs.Forest.{ActionSpan}
use Rattle.ir_forest.specs.Meaning.{pieces_in, tokens_in}
use Rattle.ir_forest.specs.ValueFaults.{part_tokens}
use Rattle.ir_forest.specs.Building as building
use Rattle.ir_forest.specs.Building.{behind, ended_tree, names_behind, fault_at_end}
use Rattle.ir_print.specs.declared.format.ValueSort.TheVariants as sorts
use Rattle.ir_grammar.specs.Nesting.{Position, at_root, behind_root_results, at_end, in_operation, in_operands, in_successor, in_region, in_header, in_argument, in_block, behind_results, in_value, in_list, in_item, in_choice}

-- ---- sorts

-- the sorts of what may be open
pub data FrameSort : Type 0 where
  a_text an_operation some_operands an_edge a_region a_block a_type an_attribute a_list an_item a_choice : FrameSort

-- the sort of what is open at a position
abbrev pub sort_at : Position → FrameSort
sort_at at_root = a_text
sort_at behind_root_results = a_text
sort_at at_end = a_text
sort_at in_operation = an_operation
sort_at in_operands = some_operands
sort_at in_successor = an_edge
sort_at in_region = a_region
sort_at in_header = a_block
sort_at in_argument = a_block
sort_at in_block = a_block
sort_at behind_results = a_block
sort_at (in_value sorts.«Type») = a_type
sort_at (in_value sorts.Attribute) = an_attribute
sort_at in_list = a_list
sort_at in_item = an_item
sort_at in_choice = a_choice

-- what is said in something of this sort is its parts, one for each tree
abbrev pub TakesParts : FrameSort → Type 0
TakesParts an_operation = Unit {0}
TakesParts a_type = Unit {0}
TakesParts an_attribute = Unit {0}
TakesParts an_item = Unit {0}
TakesParts a_choice = Unit {0}
TakesParts _ = ⊥

-- something of this sort stands in a block or at the root
abbrev pub StandsAlone : Position → Type 0
StandsAlone at_end = Unit {0}
StandsAlone in_block = Unit {0}
StandsAlone _ = ⊥

-- a type is a part, or that of the last argument
abbrev pub TakesTypes : Position → Type 0
TakesTypes in_header = Unit {0}
TakesTypes p = TakesParts (sort_at p)

-- Behind the end of something of a sort reading goes on at such a position.
abbrev pub EndsAt : FrameSort → Position → Type 0
EndsAt a_text p = ⊥
EndsAt an_operation p = StandsAlone p
EndsAt some_operands p = p ≡ in_operation
EndsAt an_edge p = p ≡ in_operation
EndsAt a_region p = p ≡ in_operation
EndsAt a_block p = p ≡ in_region
EndsAt a_type p = TakesTypes p
EndsAt an_attribute p = TakesParts (sort_at p)
EndsAt a_list p = TakesParts (sort_at p)
EndsAt an_item p = p ≡ in_list
EndsAt a_choice p = TakesParts (sort_at p)

module _ {D K A T : Type 0} where
  -- the sort of a body
  abbrev pub sort_of : Body D K A T → FrameSort
  sort_of body.Text = a_text
  sort_of (body.«Type» n) = a_type
  sort_of (body.Attribute n) = an_attribute
  sort_of (body.List ms) = a_list
  sort_of body.Item = an_item
  sort_of (body.Choice n) = a_choice
  sort_of (body.Operation o) = an_operation
  sort_of (body.Operands ks) = some_operands
  sort_of (body.Successor ks) = an_edge
  sort_of (body.Region bs) = a_region
  sort_of (body.Block b) = a_block

  -- what has this body begins by this action
  abbrev pub Begins : Body D K A T → Action → Type 0
  Begins body.Text a = ⊥
  Begins (body.«Type» n) a = a ≡ act.Begin sorts.«Type» n
  Begins (body.Attribute n) a = a ≡ act.Begin sorts.Attribute n
  Begins (body.List ms) a = a ≡ act.BeginList
  Begins body.Item a = a ≡ act.BeginItem
  Begins (body.Choice n) a = a ≡ act.BeginChoice n
  Begins (body.Operation o) a = a ≡ act.Operation o.kind
  Begins (body.Operands ks) a = a ≡ act.BeginOperands
  Begins (body.Successor ks) a = a ≡ act.BeginSuccessor
  Begins (body.Region bs) a = a ≡ act.BeginRegion
  Begins (body.Block b) a = a ≡ act.Label

  -- nothing is in it yet
  abbrev pub IsEmpty : Body D K A T → Type 0
  IsEmpty (body.List ms) = ms.items ≡ []
  IsEmpty (body.Operands ks) = ks.items ≡ []
  IsEmpty (body.Successor ks) = ks.items ≡ []
  IsEmpty b = Unit {0}

-- The names of results behind the trees are these. Only a block and the text have such.
abbrev pub NamesResults : FrameSort → List ℕ → Trees ActionSpan → Type 0
NamesResults a_text names ts = names ≡ names_behind [] ts
NamesResults a_block names ts = names ≡ names_behind [] ts
NamesResults _ names ts = Unit {0}

module _ {D K A T : Type 0} (says : Saying K A T) (values : Values) (text : ℕ → List ℕ) (types : List T) where
  -- the parts are what these trees say, and the tokens those of their parts
  pub record SaysParts (c : Content D K A T) (ts : Trees ActionSpan) : Type 0 where
    pub parts : ShowsParts says types c.parts.items (pieces_in values text ts)
    pub tokens : c.tokens.items ≡ part_tokens ts

  -- the members of a list are what these trees say, and the tokens those of their parts
  pub record SaysMembers (ms : List (Vec (Part D K A T) Global)) (c : Content D K A T) (ts : Trees ActionSpan) : Type 0 where
    pub members : ShowsMembers says types ms (pieces_in values text ts)
    pub tokens : c.tokens.items ≡ part_tokens ts

  -- What is in it is what these trees say: members of a list, tokens of operands, or parts. Nothing is said here of blocks.
  abbrev pub Contains : Body D K A T → Content D K A T → Trees ActionSpan → Type 0
  Contains body.Text c ts = Unit {0}
  Contains (body.«Type» n) c ts = SaysParts c ts
  Contains (body.Attribute n) c ts = SaysParts c ts
  Contains (body.List ms) c ts = SaysMembers ms.items c ts
  Contains body.Item c ts = SaysParts c ts
  Contains (body.Choice n) c ts = SaysParts c ts
  Contains (body.Operation o) c ts = SaysParts c ts
  Contains (body.Operands ks) c ts = ks.items ≡ tokens_in ts
  Contains (body.Successor ks) c ts = ks.items ≡ tokens_in ts
  Contains (body.Region bs) c ts = Unit {0}
  Contains (body.Block b) c ts = Unit {0}

  -- what is open at a position holds what these trees say
  pub record IsFrame (f : Open D K A T) (at : Position) (ts : Trees ActionSpan) : Type 0 where
    pub sort : sort_of f.body ≡ sort_at at
    pub contains : Contains f.body f.content.value ts
    pub named : NamesResults (sort_at at) f.names.items ts

  -- it began so, and reading goes on at the position behind its end
  pub record HasBegun (f : Open D K A T) (o : building.Open) (next : Position) : Type 0 where
    pub begins : Begins f.body o.action
    pub first : f.first ≡ o.first
    pub ends : EndsAt (sort_of f.body) next

  -- The innermost of what is open holds these trees, and each around it those that stood there where what is in it began, the innermost first.
  abbrev pub Stands : Open D K A T → Position → Trees ActionSpan → List (Open D K A T) → List building.Open → List Position → Type 0
  Stands f at ts [] [] [] = IsFrame f at ts × (sort_at at ≡ a_text)
  Stands f at ts (g ∷ gs) (o ∷ os) (next ∷ more) = IsFrame f at ts × HasBegun f o next × Stands g next o.before gs os more
  Stands f at ts _ _ _ = ⊥

module _ {D K A T : Type 0} where
  -- the second began as the first did, and is of its sort
  pub record BeganSo (f g : Open D K A T) : Type 0 where
    pub first : g.first ≡ f.first
    pub begins : (a : Action) → Begins f.body a → Begins g.body a
    pub sort : sort_of g.body ≡ sort_of f.body

-- The first of two ends: it holds these trees. The second is around it, and holds those that stood before it.
pub record Ending {D K A T : Type 0} (says : Saying K A T) (values : Values) (text : ℕ → List ℕ) (types : List T) (f g : Open D K A T) (o : building.Open) (at next : Position) (ts : Trees ActionSpan) : Type 0 where
  pub frame : IsFrame says values text types f at ts
  pub begun : HasBegun says values text types f o next
  pub outer : IsFrame says values text types g next o.before

-- It has ended at a token with no fault. What was around it, the first of two, is the second now, and holds one more tree.
abbrev pub Ended : {D K A T : Type 0} → Saying K A T → Values → (ℕ → List ℕ) → List T → Open D K A T → Open D K A T → building.Open → Position → Trees ActionSpan → ℕ → Type 0
Ended says values text types g h o next ts last = (fault_at_end values text ts (o ∷ []) last ≡ None) × IsFrame says values text types h next (behind o.before (ended_tree o ts last)) × BeganSo g h
