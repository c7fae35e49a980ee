-- Trees under other names.
use Rattle.std.specs.Prelude.{◌≡◌, ◌≢◌, ◌⊎◌, ◌↔◌, ℕ, List, [], ◌∷◌, ◌++◌, map, slice_get}
use Rattle.ir_trees.specs.Names.{Names, Contents}
use Rattle.ir_trees.specs.Trees.{Defined, Head, Label, Sort, Tree, end, operation, block, region, Root}
use Rattle.ir_trees.specs.Searched.{Lists, heads_of, labels_of, operation_names}
use Rattle.ir_trees.specs.Rewrites.{Rewriting}

-- names and contents from their types, one by one
abbrev pub named : Type 0 → Type 0 → Type 0 → Names
named O B V = record { operation = O; block = B; value = V }

abbrev pub holding : Type 0 → Type 0 → Type 0 → Contents
holding C L T = record { of_operation = C; of_block = L; of_value = T }

-- trees over names and contents of these types
abbrev pub NamedTree : Type 0 → Type 0 → Type 0 → Type 0 → Type 0 → Type 0 → Type 0
NamedTree O B V C L T = Root (named O B V) (holding C L T)

-- a name for each name
pub record Maps (N M : Names) : Type 0 where
  pub operation : N.operation → M.operation
  pub block : N.block → M.block
  pub value : N.value → M.value

-- from names of the first three types to names of the others
abbrev pub NamedMaps : Type 0 → Type 0 → Type 0 → Type 0 → Type 0 → Type 0 → Type 0
NamedMaps O B V O1 B1 V1 = Maps (named O B V) (named O1 B1 V1)

-- each name for itself
abbrev pub own_names : {N : Names} → Maps N N
own_names = record { operation = λ o. o; block = λ b. b; value = λ v. v }

-- one after the other
abbrev pub twice : {N M P : Names} → Maps M P → Maps N M → Maps N P
twice g f = record { operation = λ o. g.operation (f.operation o); block = λ b. g.block (f.block b); value = λ v. g.value (f.value v) }

abbrev pub rename_defined : {V W T : Type 0} → (V → W) → Defined V T → Defined W T
rename_defined f v = record { name = f v.name; holds = v.holds }

module _ {N M : Names} {S : Contents} (m : Maps N M) where
  abbrev pub rename_head : Head N S → Head M S
  rename_head h = record { name = m.operation h.name; content = h.content; results = map (rename_defined m.value) h.results; operands = map m.value h.operands; successors = map m.block h.successors }

  abbrev pub rename_label : Label N S → Label M S
  rename_label l = record { name = m.block l.name; content = l.content; arguments = map (rename_defined m.value) l.arguments }

  -- the tree in which each name is what the map makes of it, where it is defined and where it is mentioned
  abbrev pub rename : {s : Sort} → Tree N S s → Tree M S s
  rename end = end
  rename (operation h rs rest) = operation (rename_head h) (rename rs) (rename rest)
  rename (block l ops rest) = block (rename_label l) (rename ops) (rename rest)
  rename (region bs rest) = region (rename bs) (rename rest)

  abbrev pub rename_root : Root N S → Root M S
  rename_root t = record { head = rename_head t.head; regions = rename t.regions }

-- the values of definitions
abbrev pub names_of : {V T : Type 0} → List (Defined V T) → List V
names_of {V} {T} ds = map (λ (d : Defined V T). d.name) ds

module _ {N : Names} {S : Contents} where
  -- the values that an operation itself defines or takes
  abbrev pub values_at : Head N S → List N.value
  values_at h = names_of h.results ++ h.operands

  -- the values that are defined or mentioned in a tree, as often as they are, in the order of the text
  abbrev pub values_in : {s : Sort} → Tree N S s → List N.value
  values_in end = []
  values_in (operation h rs rest) = values_at h ++ (values_in rs ++ values_in rest)
  values_in (block l ops rest) = names_of l.arguments ++ (values_in ops ++ values_in rest)
  values_in (region bs rest) = values_in bs ++ values_in rest

  -- the blocks that are in a tree or mentioned in it
  abbrev pub blocks_in : {s : Sort} → Tree N S s → List N.block
  blocks_in end = []
  blocks_in (operation h rs rest) = h.successors ++ (blocks_in rs ++ blocks_in rest)
  blocks_in (block l ops rest) = l.name ∷ (blocks_in ops ++ blocks_in rest)
  blocks_in (region bs rest) = blocks_in bs ++ blocks_in rest

  abbrev pub values_of : Root N S → List N.value
  values_of t = values_at t.head ++ values_in t.regions

  abbrev pub blocks_of : Root N S → List N.block
  blocks_of t = t.head.successors ++ blocks_in t.regions

-- f makes different names of different names of the list
abbrev pub KeepsApart : {X Y : Type 0} → (X → Y) → List X → Type 0
KeepsApart {X} f xs = (x y : X) → Lists xs x → Lists xs y → f x ≡ f y → x ≡ y

module _ {N M : Names} {S : Contents} (m : Maps N M) where
  -- different names that the tree defines or mentions stay different
  pub record IsOneToOne (t : Root N S) : Type 0 where
    pub operations : KeepsApart m.operation (operation_names t)
    pub blocks : KeepsApart m.block (blocks_of t)
    pub values : KeepsApart m.value (values_of t)

  -- at each operation and block of the tree, what f' and g' make of what is renamed is what f and g make, renamed
  pub record ChangeAlike (f : Head N S → Head N S) (g : Label N S → Label N S) (f' : Head M S → Head M S) (g' : Label M S → Label M S) (t : Root N S) : Type 0 where
    pub heads : (h : Head N S) → Lists (heads_of t) h → f' (rename_head m h) ≡ rename_head m (f h)
    pub labels : (l : Label N S) → Lists (labels_of t) l → g' (rename_label m l) ≡ rename_label m (g l)

  -- what a rewriting does at the renamed operation is what another does at the operation itself, renamed
  pub record RewriteHeadAlike (w : Rewriting N S) (w' : Rewriting M S) (h : Head N S) : Type 0 where
    pub before : w'.before (rename_head m h) ≡ rename m (w.before h)
    pub after : w'.after (rename_head m h) ≡ rename m (w.after h)
    pub keeps : w'.keeps (rename_head m h) ≡ w.keeps h
    pub head : w'.head (rename_head m h) ≡ rename_head m (w.head h)

  -- the same at a block
  pub record RewriteLabelAlike (w : Rewriting N S) (w' : Rewriting M S) (l : Label N S) : Type 0 where
    pub first : w'.first (rename_label m l) ≡ rename m (w.first l)
    pub last : w'.last (rename_label m l) ≡ rename m (w.last l)
    pub keeps_block : w'.keeps_block (rename_label m l) ≡ w.keeps_block l
    pub label : w'.label (rename_label m l) ≡ rename_label m (w.label l)

  -- at each operation and block of the tree
  pub record RewriteAlike (w : Rewriting N S) (w' : Rewriting M S) (t : Root N S) : Type 0 where
    pub heads : (h : Head N S) → Lists (heads_of t) h → RewriteHeadAlike w w' h
    pub labels : (l : Label N S) → Lists (labels_of t) l → RewriteLabelAlike w w' l

-- no names: what a tree has under them is its shape and what is said in it
abbrev pub no_names : Names
no_names = record { operation = Unit {0}; block = Unit {0}; value = Unit {0} }

abbrev pub forget : {N : Names} → Maps N no_names
forget = record { operation = λ _. tt; block = λ _. tt; value = λ _. tt }

-- at two indices the one list has the same exactly where the other has the same
abbrev pub RepeatAlike : {X Y : Type 0} → List X → List Y → Type 0
RepeatAlike xs ys = (j k : ℕ) → (slice_get xs j ≡ slice_get xs k) ↔ (slice_get ys j ≡ slice_get ys k)

-- the trees are the same up to names: they have one shape and say the same, and two places that have one name in the one tree have one in the other
pub record IsSameUpToNames {N M : Names} {S : Contents} (t : Root N S) (u : Root M S) : Type 0 where
  pub shape : rename_root forget t ≡ rename_root forget u
  pub operations : RepeatAlike (operation_names t) (operation_names u)
  pub blocks : RepeatAlike (blocks_of t) (blocks_of u)
  pub values : RepeatAlike (values_of t) (values_of u)

-- the one tree is the other under names that are kept apart
abbrev pub IsRenamed : {N M : Names} {S : Contents} → Root N S → Root M S → Type 0
IsRenamed {N} {M} t u = (m : Maps N M) × IsOneToOne m t × (rename_root m t ≡ u)

-- of two names it can be told whether they are the same
pub record HaveTests (N : Names) : Type 0 where
  pub operation : (x y : N.operation) → (x ≡ y) ⊎ (x ≢ y)
  pub block : (x y : N.block) → (x ≡ y) ⊎ (x ≢ y)
  pub value : (x y : N.value) → (x ≡ y) ⊎ (x ≢ y)
