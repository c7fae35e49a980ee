-- What is dead under a root, as the least set, and the root without it.
-- Source: Cytron, Ferrante, Rosen, Wegman and Zadeck, Efficiently computing static single assignment form and the
-- control dependence graph, 1991, section on dead code. Unlike there a terminator is never dead; dead is the least
-- set, so operations that use but each other in a circle stay; block arguments die as operations do, and an
-- operation dies with all that it holds.
use Rattle.std.specs.Prelude.{◌≡◌, ◌⊎◌, ℕ, Bool, true, false, ◌∷◌, length, Option, Some, None, if◌then◌else◌}
use Rattle.std.specs.Prelude.{slice_get}
use Rattle.ir_trees.specs.Names.{Names, Contents}
use Rattle.ir_trees.specs.Renames.{names_of}
use Rattle.ir_trees.specs.Trees.{Defined, Head, Label, Sort, Tree, end, operation, block, region, Root}
use Rattle.opt_trees.specs.Occurrences.{Has, defined_in, Occurrence, BlockOccurrence, occurrences_of, block_occurrences_of, Renaming, OperationsApart, EdgesLocal, Use}
use Rattle.opt_trees.specs.Dialect.{Dialect, drop}

-- what the context says beside the tree
pub record TreeSurroundings (N : Names) (A : Type 0) : Type 0 where
  -- what its definer folds to, with no operand known
  pub alone : N.value → Option A
  -- it is named from outside the root
  pub is_pinned : N.value → Bool

-- an operation, or an argument
pub data Item (N : Names) : Type 0 where
  Whole : (o : N.operation) → Item N
  Slot : (v : N.value) → Item N

module _ {N : Names} {S : Contents} {A : Type 0} (d : Dialect S A) (t : Root N S) where
  -- it stands below the root and nothing but a use keeps it: an operation without side effects that is no terminator
  pub record MayGo (a : N.operation) : Type 0 where
    pub it : Occurrence N S
    pub stands : Has it (occurrences_of t)
    pub name : it.head.name ≡ a
    pub pure : d.has_effects it.head.content ≡ false
    pub no_terminator : d.is_terminator it.head.content ≡ false

  -- an argument that may be removed, of a block to which branches alone lead
  pub record MayClose (v : N.value) : Type 0 where
    pub it : BlockOccurrence N S
    pub stands : Has it (block_occurrences_of t)
    pub argument : Has v (names_of it.label.arguments)
    pub removable : d.can_remove it.spot.owner.content it.spot.region it.spot.first ≡ true
    pub predecessors : (o : Occurrence N S) → Has o (occurrences_of t) → Has it.label.name o.head.successors →
        d.is_branch o.head.content ≡ true

  abbrev pub May : Item N → Type 0
  May (Whole a) = MayGo a
  May (Slot v) = MayClose v

module _ {N : Names} {S : Contents} (t : Root N S) where
  -- the value is a result of the operation, or defined inside it
  pub record Makes (a : N.operation) (v : N.value) : Type 0 where
    pub it : Occurrence N S
    pub stands : Has it (occurrences_of t)
    pub name : it.head.name ≡ a
    pub value : Has v (names_of it.head.results) ⊎ Has v (defined_in it.regions)

  abbrev pub Touches : Item N → N.value → Type 0
  Touches (Whole a) v = Makes a v
  Touches (Slot x) v = x ≡ v

  -- the value's use by this operation is a use of the operation a: of a result, or, from outside a, of a value inside a
  pub record CountsForOperation (a : N.operation) (v : N.value) (o : Occurrence N S) : Type 0 where
    pub it : Occurrence N S
    pub stands : Has it (occurrences_of t)
    pub name : it.head.name ≡ a
    pub value : Has v (names_of it.head.results) ⊎ (Has v (defined_in it.regions) × (Has a o.site.spot.around → ⊥))

  abbrev pub IsUseOfItem : Item N → N.value → Occurrence N S → Type 0
  IsUseOfItem (Whole a) v o = CountsForOperation a v o
  IsUseOfItem (Slot x) v o = x ≡ v

-- something outside the root, or the root itself, names it
abbrev pub IsKept : {N : Names} {S : Contents} {A : Type 0} → TreeSurroundings N A → Root N S → Item N → Type 0
IsKept {N} w t x = (v : N.value) × Touches t x v × ((w.is_pinned v ≡ true) ⊎ Has v t.head.operands)

module _ {N : Names} {S : Contents} {A : Type 0} (d : Dialect S A) (t : Root N S) where
  -- the operation's operand at this index is forwarded to the argument
  pub record ForwardsTo (o : Occurrence N S) (i : ℕ) (v : N.value) : Type 0 where
    pub branch : d.is_branch o.head.content ≡ true
    pub edge : ℕ
    pub target : BlockOccurrence N S
    pub stands : Has target (block_occurrences_of t)
    pub leads : slice_get o.head.successors edge ≡ Some target.label.name
    pub place : ℕ
    pub gives : slice_get (d.forwards o.head.content (length o.head.operands) edge) place ≡ Some i
    pub takes : slice_get (names_of target.label.arguments) place ≡ Some v

module _ {N : Names} {S : Contents} {A : Type 0} (d : Dialect S A) (w : TreeSurroundings N A) (t : Root N S) where
  mutual
    -- the least set: what may go, is not kept, and is used by the dead alone
    pub data IsDead : Item N → Type 0 where
      dies : (x : Item N) → May d t x → (IsKept w t x → ⊥) →
          ((v : N.value) (o : Occurrence N S) (i : ℕ) → IsUseOfItem t x v o → Use t v o i → IsExcused o i) → IsDead x

    -- the operand doesn't keep what it names:
    -- its operation, or one that holds it, is dead, or the operand is forwarded to a dead argument
    pub data IsExcused : Occurrence N S → ℕ → Type 0 where
      by_operation : (o : Occurrence N S) (i : ℕ) (a : N.operation) →
          Has a (o.head.name ∷ o.site.spot.around) → IsDead (Whole a) → IsExcused o i
      by_argument : (o : Occurrence N S) (i : ℕ) (v : N.value) →
          ForwardsTo d t o i v → IsDead (Slot v) → IsExcused o i

  -- an operand that is forwarded to a dead argument
  pub record IsLost (a : N.operation) (i : ℕ) : Type 0 where
    pub user : Occurrence N S
    pub stands : Has user (occurrences_of t)
    pub name : user.head.name ≡ a
    pub argument : N.value
    pub forwards : ForwardsTo d t user i argument
    pub dead : IsDead (Slot argument)

-- what goes: items, and operands by their operation and index
pub record Gone (N : Names) : Type 0 where
  pub item : Item N → Bool
  pub operand : N.operation → ℕ → Bool

abbrev pub gone_at : {N : Names} {T : Type 0} → Gone N → Option (Defined N.value T) → Bool
gone_at g None = false
gone_at g (Some v) = g.item (Slot v.name)

module _ {N : Names} {S : Contents} {A : Type 0} (d : Dialect S A) (g : Gone N) where
  abbrev pub thin_head : Head N S → Head N S
  thin_head h = record {
    name = h.name;
    content = d.drop_operands h.content (g.operand h.name);
    results = h.results;
    operands = drop (g.operand h.name) h.operands;
    successors = h.successors;
  }

  abbrev pub thin_label : Label N S → Label N S
  thin_label l = record {
    name = l.name;
    content = d.drop_names l.content (λ i. gone_at g (slice_get l.arguments i));
    arguments = drop (λ i. gone_at g (slice_get l.arguments i)) l.arguments;
  }

  -- the tree without what goes
  abbrev pub thin : {s : Sort} → Tree N S s → Tree N S s
  thin end = end
  thin (operation h rs rest) =
      if g.item (Whole h.name) then thin rest else operation (thin_head h) (thin rs) (thin rest)
  thin (block l ops rest) = block (thin_label l) (thin ops) (thin rest)
  thin (region bs rest) = region (thin bs) (thin rest)

module _ {N : Names} {S : Contents} {A : Type 0} (d : Dialect S A) (w : TreeSurroundings N A) (t : Root N S) where
  pub record IsGoneExactly (g : Gone N) : Type 0 where
    pub dead : (x : Item N) → g.item x ≡ true → IsDead d w t x
    pub all : (x : Item N) → IsDead d w t x → g.item x ≡ true
    pub lost : (a : N.operation) (i : ℕ) → g.operand a i ≡ true → IsLost d w t a i
    pub all_lost : (a : N.operation) (i : ℕ) → IsLost d w t a i → g.operand a i ≡ true

  -- the pass
  pub record IsDce (after : Root N S) : Type 0 where
    pub gone : Gone N
    pub is_gone : IsGoneExactly gone
    pub is : after ≡ record { head = t.head; regions = thin d gone t.regions }

module _ {N : Names} {S : Contents} {A : Type 0} (d : Dialect S A) (t : Root N S) where
  -- what is asked of a tree: distinct names, and edges, of terminators alone, that stay in their region
  pub record IsWell : Type 0 where
    pub apart : OperationsApart t
    pub local : EdgesLocal t
    pub terminators : (o : Occurrence N S) (b : N.block) →
        Has o (occurrences_of t) → Has b o.head.successors → d.is_terminator o.head.content ≡ true

-- the same is said of the same things under other names
pub record Agree {N M : Names} {A : Type 0} (r : Renaming N M) (w : TreeSurroundings N A) (w' : TreeSurroundings M A) : Type 0 where
  pub knows : (v : N.value) → w'.alone (r.value.to v) ≡ w.alone v
  pub pins : (v : N.value) → w'.is_pinned (r.value.to v) ≡ w.is_pinned v
