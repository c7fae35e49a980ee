-- Which trees have the shape of a format.
use Rattle.std.specs.Prelude.{◌≡◌, ℕ, ◌^◌, ◌<◌, List, [], ◌∷◌, Option, Some, None, true, slice_get}
use Rattle.std.specs.Str.{all_scalars}
use Rattle.ir_base.specs.declared.types.TypeHandle.{TypeHandle}
use Rattle.ir_names.specs.Text.{is_identifier}
use Rattle.ir_names.specs.Tree.{LabelledTree, Trees, node, no_tree, a_tree}
use Rattle.ir_print.specs.Formats as step
use Rattle.ir_print.specs.Formats.{Formats, Kind, Step, Steps, no_steps, kinds_of}
use Rattle.ir_print.specs.declared.format.ValueSort.TheVariants as sorts
use Rattle.ir_print.specs.declared.format.LeafSort.{LeafSort}
use Rattle.ir_print.specs.declared.format.LeafSort.TheVariants as leaves
use Rattle.ir_print.specs.Pieces.{Leaf, name, number, unsigned, width, quoted, mark, value_of_kind, list, item, chosen, operands, successor, region, leaf, refused_value, canonical_value, ValueTree, Pieces, Values}
use Rattle.ir_print.specs.Layout.{alternative_of}
use Rattle.ir_print.specs.Shown.{Saying, ShowsAll, operands_said, Said, said_type, said_attribute, said_list, said_item, said_choice, said_operands, said_successor, said_region, said_leaf}

-- the steps of a format that are no words
abbrev pub parts_in : Steps → List Step
parts_in no_steps = []
parts_in (step.step (step.word printed text) ss) = parts_in ss
parts_in (step.step s ss) = s ∷ parts_in ss

-- the step is a list
abbrev pub IsListOf : Step → (List Step → Type 0) → Type 0
IsListOf (step.list_of member printed text) P = P (parts_in member)
IsListOf _ P = ⊥

-- this is known of a format, if there is one
abbrev pub IsKnownOf : Option Steps → (List Step → Type 0) → Type 0
IsKnownOf None P = ⊥
IsKnownOf (Some ss) P = P (parts_in ss)

-- the step is a choice with a format of this number
abbrev pub IsChoiceOf : Step → ℕ → (List Step → Type 0) → Type 0
IsChoiceOf s n P = IsKnownOf (alternative_of s n) P

-- the sort of a leaf
abbrev pub sort_of : Leaf → LeafSort
sort_of (name cs) = leaves.Name
sort_of (number negative magnitude) = leaves.Number
sort_of (unsigned magnitude) = leaves.Digits
sort_of (width sign bits) = leaves.Width
sort_of (quoted cs) = leaves.Text
sort_of (mark n) = leaves.Mark

-- A step takes leaves of one sort; that of the name of a symbol takes names.
abbrev pub TakesLeaf : Step → LeafSort → Type 0
TakesLeaf (step.a_leaf sort) s = sort ≡ s
TakesLeaf step.symbol_name s = leaves.Name ≡ s
TakesLeaf _ s = ⊥

-- A leaf can be read: a name is one, a number has at most 64 bits, with a sign or without one, and so has that of a mark; a width has at
-- most 32; a text in quotes says characters.
abbrev pub IsInRange : Leaf → Type 0
IsInRange (name cs) = is_identifier cs ≡ true
IsInRange (number negative magnitude) = magnitude < 2 ^ 64
IsInRange (unsigned magnitude) = magnitude < 2 ^ 64
IsInRange (width sign bits) = bits < 2 ^ 32
IsInRange (quoted cs) = all_scalars cs ≡ true
IsInRange (mark n) = n < 2 ^ 64

-- A list of operands takes any number of them, and the step of one operand takes one.
abbrev pub TakesOperands : Step → ℕ → Type 0
TakesOperands step.operands n = Unit {0}
TakesOperands step.operand n = n ≡ 1
TakesOperands _ n = ⊥

-- ---- what is said

module _ {A : Type 0} where
  -- What is said has its place at a step of a format, and steps have one each. What a type or an attribute says in turn isn't looked at.
  abbrev mutual
    pub IsSaidAt : Step → LabelledTree (Said A) → Type 0
    IsSaidAt s (node (said_type ty) us) = s ≡ step.a_value sorts.«Type»
    IsSaidAt s (node (said_attribute a) us) = s ≡ step.a_value sorts.Attribute
    IsSaidAt s (node said_list us) = IsListOf s (λ ss. AreMembersSaidAt ss us)
    IsSaidAt s (node said_item us) = ⊥
    IsSaidAt s (node (said_choice n) us) = IsChoiceOf s n (λ ss. AreSaidAt ss us)
    IsSaidAt s (node (said_operands n) us) = TakesOperands s n
    IsSaidAt s (node (said_successor n) us) = s ≡ step.successor
    IsSaidAt s (node said_region us) = s ≡ step.a_region
    IsSaidAt s (node (said_leaf x) us) = TakesLeaf s (sort_of x) × IsInRange x

    pub AreSaidAt : List Step → Trees (Said A) → Type 0
    AreSaidAt [] no_tree = Unit {0}
    AreSaidAt (s ∷ ss) (a_tree u us) = IsSaidAt s u × AreSaidAt ss us
    AreSaidAt _ _ = ⊥

    pub AreMembersSaidAt : List Step → Trees (Said A) → Type 0
    AreMembersSaidAt ss no_tree = Unit {0}
    AreMembersSaidAt ss (a_tree u us) = IsMemberSaidAt ss u × AreMembersSaidAt ss us

    pub IsMemberSaidAt : List Step → LabelledTree (Said A) → Type 0
    IsMemberSaidAt ss (node said_item us) = AreSaidAt ss us
    IsMemberSaidAt ss (node _ us) = ⊥

-- ---- what is printed

module _ (f : Formats) (v : Values) where
  -- A piece has its place at a step of a format, and steps have one each. No type and no attribute is refused, and each is printed
  -- with its own pieces.
  abbrev mutual
    pub Fits : Step → ValueTree → Type 0
    Fits s (node (value_of_kind sort n) ts) = (s ≡ step.a_value sort) × (k : Kind) × (slice_get (kinds_of f sort) n ≡ Some k) × FitAll (parts_in k.format) ts
        × (refused_value v sort n ts ≡ None) × (canonical_value v sort n ts ≡ ts)
    Fits s (node list ts) = IsListOf s (λ ss. FitMembers ss ts)
    Fits s (node item ts) = ⊥
    Fits s (node (chosen n) ts) = IsChoiceOf s n (λ ss. FitAll ss ts)
    Fits s (node (operands n) ts) = TakesOperands s n
    Fits s (node (successor n) ts) = s ≡ step.successor
    Fits s (node region ts) = s ≡ step.a_region
    Fits s (node (leaf x) ts) = TakesLeaf s (sort_of x) × IsInRange x

    pub FitAll : List Step → Pieces → Type 0
    FitAll [] no_tree = Unit {0}
    FitAll (s ∷ ss) (a_tree t ts) = Fits s t × FitAll ss ts
    FitAll _ _ = ⊥

    pub FitMembers : List Step → Pieces → Type 0
    FitMembers ss no_tree = Unit {0}
    FitMembers ss (a_tree t ts) = FitsMember ss t × FitMembers ss ts

    pub FitsMember : List Step → ValueTree → Type 0
    FitsMember ss (node item ts) = FitAll ss ts
    FitsMember ss (node _ ts) = ⊥

  -- each argument has a type
  abbrev pub FitArguments : {N : Type 0} → List (N × ValueTree) → Type 0
  FitArguments [] = Unit {0}
  FitArguments (x ∷ xs) = Fits (step.a_value sorts.«Type») x.1 × FitArguments xs

-- ---- dialects

module _ {K A T : Type 0} (says : Saying K A T) (f : Formats) (v : Values) where
  -- A type with these pieces has the shape of its kind's format, and would be read.
  pub record IsTypeSaid (n : ℕ) (us : Trees (Said A)) (ps : Pieces) : Type 0 where
    pub kind : Kind
    pub at : slice_get f.types n ≡ Some kind
    pub shaped : AreSaidAt (parts_in kind.format) us
    pub read : v.refused_type n ps ≡ None

  -- The same of an attribute, which would be read as itself.
  pub record IsAttributeSaid (n : ℕ) (us : Trees (Said A)) (ps : Pieces) : Type 0 where
    pub kind : Kind
    pub at : slice_get f.attributes n ≡ Some kind
    pub shaped : AreSaidAt (parts_in kind.format) us
    pub read : v.refused_attribute n ps ≡ None
    pub canonical : v.canonical n ps ≡ ps

  -- The same of an operation, which says as many operands as it has.
  pub record IsOperationSaid (n count : ℕ) (us : Trees (Said A)) (ps : Pieces) : Type 0 where
    pub kind : Kind
    pub at : slice_get f.operations n ≡ Some kind
    pub shaped : AreSaidAt (parts_in kind.format) us
    pub read : v.refused_operation n ps ≡ None
    pub operands : operands_said ps ≡ count

  -- What types say can be read.
  abbrev pub SaysTypes : Type 0
  SaysTypes = (types : List T) (key : T) (n : ℕ) (us : Trees (Said A)) (ps : Pieces) → says.of_type key ≡ Some (n, us) → ShowsAll says types us ps → IsTypeSaid n us ps

  -- What attributes say can be read.
  abbrev pub SaysAttributes : Type 0
  SaysAttributes = (types : List T) (attr : A) (n : ℕ) (us : Trees (Said A)) (ps : Pieces) → says.of_attribute attr ≡ Some (n, us) → ShowsAll says types us ps → IsAttributeSaid n us ps

  -- What operations say can be read.
  abbrev pub SaysOperations : Type 0
  SaysOperations = (types : List T) (kind : K) (entries : List (List ℕ × A)) (count : ℕ) (tys : List TypeHandle) (n : ℕ) (us : Trees (Said A)) (ps : Pieces)
      → says.of_operation kind entries count tys ≡ Some (n, us) → ShowsAll says types us ps → IsOperationSaid n count us ps
