-- Which types, attributes and operations of a context say what.
use Rattle.std.specs.Prelude.{◌≡◌, ℕ, suc, ◌+◌, ◌^◌, ◌≤◌, Bool, List, [], ◌∷◌, Option, Some, None, slice_get, Vec, chars, string_bytes}
use Rattle.std.specs.Global.{Global}
use Rattle.ir_base.specs.declared.types.TypeHandle.{TypeHandle}
use Rattle.ir_names.specs.declared.kinds.Signedness.{Signedness}
use Rattle.ir_names.specs.declared.identifier.Identifier.{Identifier}
use Rattle.ir_names.specs.Identifier.{text_of}
use Rattle.ir_names.specs.Tree.{LabelledTree, Trees, node, no_tree, a_tree}
use Rattle.ir_print.specs.declared.format.Number.{Number}
use Rattle.ir_print.specs.declared.format.Part.{Part}
use Rattle.ir_print.specs.declared.format.Part.TheVariants as part
use Rattle.ir_print.specs.declared.format.ValueSort.TheVariants as sorts
use Rattle.ir_print.specs.declared.format.LeafValue.{LeafValue}
use Rattle.ir_print.specs.declared.format.LeafValue.TheVariants as read
use Rattle.ir_print.specs.Pieces.{Leaf, name, number, unsigned, width, quoted, mark, value_of_kind, list, item, chosen, operands, successor, region, leaf, ValueTree, Pieces, Values}

-- A piece of what something in a context says. Types are given by their handles.
pub data Said (A : Type 0) : Type 0 where
  said_type : TypeHandle → Said A
  said_attribute : A → Said A
  -- a list, with its members below it, and a member, with what it says below it
  said_list said_item : Said A
  -- what the format with this number says, with it below
  said_choice : ℕ → Said A
  said_operands : ℕ → Said A
  -- an edge, which hands on so many operands
  said_successor : ℕ → Said A
  said_region : Said A
  said_leaf : Leaf → Said A

-- a piece with nothing below it
abbrev pub alone : {A : Type 0} → Said A → LabelledTree (Said A)
alone x = node x no_tree

-- What a dialect's types, attributes and operations say: the number of the kind, and the pieces. Those that no text has say none.
pub record Saying (K A T : Type 0) : Type 0 where
  pub of_type : T → Option (ℕ × Trees (Said A))
  pub of_attribute : A → Option (ℕ × Trees (Said A))
  -- an operation of a kind with these attributes, by name, with so many operands, and with results of these types
  pub of_operation : K → (entries : List (List ℕ × A)) → (operands : ℕ) → (results : List TypeHandle) → Option (ℕ × Trees (Said A))

-- the number that is read is this one; none is kept from 2^64 on
abbrev pub IsNumber : Option Number → Bool → ℕ → Type 0
IsNumber (Some n) negative magnitude = (n.is_negative ≡ negative) × (n.magnitude ≡ magnitude)
IsNumber None negative magnitude = 2 ^ 64 ≤ magnitude

-- the number without a sign that is read, or that of a mark, is this one; none is kept from 2^64 on
abbrev pub AreDigitsOf : Option ℕ → ℕ → Type 0
AreDigitsOf (Some n) magnitude = n ≡ magnitude
AreDigitsOf None magnitude = 2 ^ 64 ≤ magnitude

-- the number of bits that is read is this one; none is kept from 2^32 on
abbrev pub IsWidth : Option ℕ → ℕ → Type 0
IsWidth (Some w) bits = w ≡ bits
IsWidth None bits = 2 ^ 32 ≤ bits

-- what is read of a leaf is this
abbrev pub IsLeaf : LeafValue → Leaf → Type 0
IsLeaf (read.Name id) (name cs) = text_of id ≡ cs
IsLeaf (read.Number o) (number negative magnitude) = IsNumber o negative magnitude
IsLeaf (read.Digits o) (unsigned magnitude) = AreDigitsOf o magnitude
IsLeaf (read.Width s o) (width sign bits) = (s ≡ sign) × IsWidth o bits
IsLeaf (read.Text s) (quoted cs) = chars (string_bytes s) ≡ cs
IsLeaf (read.Mark o) (mark n) = AreDigitsOf o n
IsLeaf _ _ = ⊥

-- each of the first with the one of the second beside it, and neither has more
abbrev pub Pairs : {X Y : Type 0} → (X → Y → Type 0) → List X → List Y → Type 0
Pairs R [] [] = Unit {0}
Pairs R (x ∷ xs) (y ∷ ys) = R x y × Pairs R xs ys
Pairs R _ _ = ⊥

-- What is said is this piece, and these pieces one each. A type is what the key under its handle says.
abbrev mutual
  pub Shows : {K A T : Type 0} → Saying K A T → List T → LabelledTree (Said A) → ValueTree → Type 0
  Shows {A = A} {T = T} says types x (node (value_of_kind sorts.«Type» n) ts) =
      (ty : TypeHandle) × (key : T) × (us : Trees (Said A))
      × (x ≡ alone (said_type ty)) × (slice_get types ty.number ≡ Some key) × (says.of_type key ≡ Some (n, us)) × ShowsAll says types us ts
  Shows {A = A} says types x (node (value_of_kind sorts.Attribute n) ts) =
      (attr : A) × (us : Trees (Said A)) × (x ≡ alone (said_attribute attr)) × (says.of_attribute attr ≡ Some (n, us)) × ShowsAll says types us ts
  Shows {A = A} says types x (node list ts) = (us : Trees (Said A)) × (x ≡ node said_list us) × ShowsAll says types us ts
  Shows {A = A} says types x (node item ts) = (us : Trees (Said A)) × (x ≡ node said_item us) × ShowsAll says types us ts
  Shows {A = A} says types x (node (chosen n) ts) = (us : Trees (Said A)) × (x ≡ node (said_choice n) us) × ShowsAll says types us ts
  Shows says types x (node (operands n) ts) = x ≡ alone (said_operands n)
  Shows says types x (node (successor n) ts) = x ≡ alone (said_successor n)
  Shows says types x (node region ts) = x ≡ alone said_region
  Shows says types x (node (leaf l) ts) = x ≡ alone (said_leaf l)

  pub ShowsAll : {K A T : Type 0} → Saying K A T → List T → Trees (Said A) → Pieces → Type 0
  ShowsAll says types no_tree no_tree = Unit {0}
  ShowsAll says types (a_tree u us) (a_tree t ts) = Shows says types u t × ShowsAll says types us ts
  ShowsAll says types _ _ = ⊥

module _ {K A T : Type 0} (says : Saying K A T) (types : List T) where
  -- the type under a handle is this one
  abbrev pub ShowsType : TypeHandle → ValueTree → Type 0
  ShowsType ty t = Shows says types (alone (said_type ty)) t

  -- the attribute is this one
  abbrev pub ShowsAttribute : A → ValueTree → Type 0
  ShowsAttribute attr t = Shows says types (alone (said_attribute attr)) t

  -- the key of a type of the kind with this number says these pieces
  abbrev pub ShowsKey : T → ℕ → Pieces → Type 0
  ShowsKey key n ts = (us : Trees (Said A)) × (says.of_type key ≡ Some (n, us)) × ShowsAll says types us ts

-- A part that was read is this piece. Parts are these pieces, one each, and so are the members of a list.
abbrev mutual
  pub ShowsPart : {D K A T : Type 0} → Saying K A T → List T → Part D K A T → ValueTree → Type 0
  ShowsPart says types p (node (value_of_kind sorts.«Type» n) ts) = (ty : TypeHandle) × (p ≡ part.Type ty) × ShowsType says types ty (node (value_of_kind sorts.«Type» n) ts)
  ShowsPart {A = A} says types p (node (value_of_kind sorts.Attribute n) ts) = (attr : A) × (p ≡ part.Attribute attr) × ShowsAttribute says types attr (node (value_of_kind sorts.Attribute n) ts)
  ShowsPart {D = D} {K = K} {A = A} {T = T} says types p (node list ts) =
      (ms : Vec (Vec (Part D K A T) Global) Global) × (p ≡ part.List ms) × ShowsMembers says types ms.items ts
  ShowsPart says types p (node item ts) = ⊥
  ShowsPart {D = D} {K = K} {A = A} {T = T} says types p (node (chosen n) ts) =
      (ps : Vec (Part D K A T) Global) × (p ≡ part.Choice n ps) × ShowsParts says types ps.items ts
  ShowsPart says types p (node (operands n) ts) = p ≡ part.Operands n
  ShowsPart says types p (node (successor n) ts) = p ≡ part.Successor n
  ShowsPart says types p (node region ts) = p ≡ part.Region
  ShowsPart says types p (node (leaf x) ts) = (l : LeafValue) × (p ≡ part.Leaf l) × IsLeaf l x

  pub ShowsParts : {D K A T : Type 0} → Saying K A T → List T → List (Part D K A T) → Pieces → Type 0
  ShowsParts says types [] no_tree = Unit {0}
  ShowsParts says types (p ∷ ps) (a_tree t ts) = ShowsPart says types p t × ShowsParts says types ps ts
  ShowsParts says types _ _ = ⊥

  pub ShowsMembers : {D K A T : Type 0} → Saying K A T → List T → List (Vec (Part D K A T) Global) → Pieces → Type 0
  ShowsMembers says types [] no_tree = Unit {0}
  ShowsMembers says types (m ∷ ms) (a_tree t ts) = ShowsMember says types m.items t × ShowsMembers says types ms ts
  ShowsMembers says types _ _ = ⊥

  pub ShowsMember : {D K A T : Type 0} → Saying K A T → List T → List (Part D K A T) → ValueTree → Type 0
  ShowsMember says types ps (node item ts) = ShowsParts says types ps ts
  ShowsMember says types ps (node _ ts) = ⊥

-- how many operands pieces say, those that edges hand on among them
abbrev pub operands_said : Pieces → ℕ
operands_said no_tree = 0
operands_said (a_tree (node (operands n) ts) rest) = n + operands_said rest
operands_said (a_tree (node (successor n) ts) rest) = n + operands_said rest
operands_said (a_tree (node _ ts) rest) = operands_said rest

-- how many edges pieces say
abbrev pub successors_said : Pieces → ℕ
successors_said no_tree = 0
successors_said (a_tree (node (successor n) ts) rest) = suc (successors_said rest)
successors_said (a_tree (node _ ts) rest) = successors_said rest

-- An operation of a kind with these attributes, and with the operands of these pieces, says them; its results have these types.
pub record Drafts {K A T : Type 0} (says : Saying K A T) (types : List T) (values : Values) (kind : K) (n : ℕ) (ps : Pieces) (attributes : List (List ℕ × A)) (result_types : List TypeHandle) : Type 0 where
  pub pieces : Trees (Said A)
  pub said : says.of_operation kind attributes (operands_said ps) result_types ≡ Some (n, pieces)
  pub shown : ShowsAll says types pieces ps
  pub typed : Pairs (ShowsType says types) result_types (values.result_types n ps)

-- the kind is the one with the number that is said
abbrev pub IsKindOf : {A X : Type 0} → Option (ℕ × Trees (Said A)) → List X → X → Type 0
IsKindOf {A = A} said kinds kind = (n : ℕ) (us : Trees (Said A)) → said ≡ Some (n, us) → slice_get kinds n ≡ Some kind
