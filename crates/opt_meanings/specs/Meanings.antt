-- What trees say in other words: each operation, block and type by what it means.
use Rattle.std.specs.Prelude.{◌≡◌, ℕ, Bool, List, map, Option, option_map}
use Rattle.ir_trees.specs.Names.{Names, Contents}
use Rattle.ir_trees.specs.Trees.{Defined, Head, Label, Sort, Tree, end, operation, block, region, Root}
use Rattle.opt_trees.specs.Dialect.{Dialect}
use Rattle.opt_trees.specs.Dce.{TreeSurroundings}

-- what is said of operations, blocks and values, by what is said of them elsewhere
pub record Meanings (S R : Contents) : Type 0 where
  pub operation : S.of_operation → R.of_operation
  pub block : S.of_block → R.of_block
  pub value : S.of_value → R.of_value

abbrev pub mean_defined : {V T U : Type 0} → (T → U) → Defined V T → Defined V U
mean_defined f v = record { name = v.name; holds = f v.holds }

module _ {N : Names} {S R : Contents} (m : Meanings S R) where
  abbrev pub mean_head : Head N S → Head N R
  mean_head h = record {
    name = h.name;
    content = m.operation h.content;
    results = map (mean_defined m.value) h.results;
    operands = h.operands;
    successors = h.successors;
  }

  abbrev pub mean_label : Label N S → Label N R
  mean_label l = record {
    name = l.name;
    content = m.block l.content;
    arguments = map (mean_defined m.value) l.arguments;
  }

  -- the tree with the same names that says at each place what the tree means there
  abbrev pub mean : {s : Sort} → Tree N S s → Tree N R s
  mean end = end
  mean (operation h rs rest) = operation (mean_head h) (mean rs) (mean rest)
  mean (block l ops rest) = block (mean_label l) (mean ops) (mean rest)
  mean (region bs rest) = region (mean bs) (mean rest)

  abbrev pub mean_root : Root N S → Root N R
  mean_root t = record { head = mean_head t.head; regions = mean t.regions }

-- a dialect that says of what is meant what another says
pub record IsMeant {S R : Contents} {A : Type 0} (m : Meanings S R) (d : Dialect S A) (e : Dialect R A) : Type 0 where
  pub is_foldable : (c : S.of_operation) → e.is_foldable (m.operation c) ≡ d.is_foldable c
  pub fold : (c : S.of_operation) (ts : List S.of_value) (xs : List (Option A)) →
      e.fold (m.operation c) (map m.value ts) xs ≡ d.fold c ts xs
  pub is_branch : (c : S.of_operation) → e.is_branch (m.operation c) ≡ d.is_branch c
  pub feasible : (c : S.of_operation) (xs : List (Option A)) (i : ℕ) →
      e.feasible (m.operation c) xs i ≡ d.feasible c xs i
  pub edge : (c : S.of_operation) (xs : List (Option A)) → e.edge (m.operation c) xs ≡ d.edge c xs
  pub forwards : (c : S.of_operation) (n s : ℕ) → e.forwards (m.operation c) n s ≡ d.forwards c n s
  pub is_terminator : (c : S.of_operation) → e.is_terminator (m.operation c) ≡ d.is_terminator c
  pub has_effects : (c : S.of_operation) → e.has_effects (m.operation c) ≡ d.has_effects c
  pub can_remove : (c : S.of_operation) (region : ℕ) (first : Bool) →
      e.can_remove (m.operation c) region first ≡ d.can_remove c region first
  pub plain : e.plain ≡ option_map m.operation d.plain
  pub is_plain : (c : S.of_operation) → e.is_plain (m.operation c) ≡ d.is_plain c
  pub constant : (a : A) → e.constant a ≡ option_map m.operation (d.constant a)
  pub constant_type : (a : A) → e.constant_type a ≡ m.value (d.constant_type a)
  pub is_constant : (c : S.of_operation) → e.is_constant (m.operation c) ≡ d.is_constant c
  pub is_ssa : (c : S.of_operation) (region : ℕ) → e.is_ssa (m.operation c) region ≡ d.is_ssa c region
  pub drop_operands : (c : S.of_operation) (p : ℕ → Bool) →
      e.drop_operands (m.operation c) p ≡ m.operation (d.drop_operands c p)
  pub drop_names : (b : S.of_block) (p : ℕ → Bool) → e.drop_names (m.block b) p ≡ m.block (d.drop_names b p)

-- a map with its inverse: to and from undo each other
pub record Bijection (A B : Type 0) : Type 0 where
  pub to : A → B
  pub from : B → A
  pub there : (a : A) → from (to a) ≡ a
  pub back : (b : B) → to (from b) ≡ b

module _ {A B : Type 0} (w : Bijection A B) where
  -- all of a list, where they are known, in the other words
  abbrev pub all_to : List (Option A) → List (Option B)
  all_to xs = map (option_map w.to) xs

  -- and back
  abbrev pub all_from : List (Option B) → List (Option A)
  all_from xs = map (option_map w.from) xs

  -- the dialect, with attributes in the other words
  abbrev pub worded : {S : Contents} → Dialect S A → Dialect S B
  worded d = record {
    is_foldable = d.is_foldable;
    fold = λ c ts xs. all_to (d.fold c ts (all_from xs));
    is_branch = d.is_branch;
    feasible = λ c xs i. d.feasible c (all_from xs) i;
    edge = λ c xs. d.edge c (all_from xs);
    forwards = d.forwards;
    is_terminator = d.is_terminator;
    has_effects = d.has_effects;
    can_remove = d.can_remove;
    plain = d.plain;
    is_plain = d.is_plain;
    constant = λ b. d.constant (w.from b);
    constant_type = λ b. d.constant_type (w.from b);
    is_constant = d.is_constant;
    is_ssa = d.is_ssa;
    drop_operands = d.drop_operands;
    drop_names = d.drop_names;
  }

  -- what the context says, with attributes in the other words
  abbrev pub worded_around : {N : Names} → TreeSurroundings N A → TreeSurroundings N B
  worded_around a = record { alone = λ v. option_map w.to (a.alone v); is_pinned = a.is_pinned }
