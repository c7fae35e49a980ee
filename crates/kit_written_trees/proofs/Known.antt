-- Which values a tree defines and takes.
use Rattle.std.proofs.Common.{◌⊎◌, inl, inr, ⊎_elim, List, [], ◌∷◌, ◌++◌}
use Rattle.ir_program.specs.declared.handles.Value.{Value}
use Rattle.ir_trees.specs.Renames.{names_of}
use Rattle.ir_trees.specs.Trees.{Sort, Operations, Blocks, Regions, end, operation, block, region}
use Rattle.opt_trees.specs.Occurrences.{Has, defined_in}
use Rattle.kit_ruled_passes.specs.Scopes.{KitLabel, IsResultHere, IsOfBlock, IsOfEntry, IsNone, Scoped}
use Rattle.kit_written_trees.proofs.Written.{Part}

-- ---- membership

pub has_left : {X : Type 0} (x : X) (xs ys : List X) → Has x xs → Has x (xs ++ ys)
has_left x [] ys h = absurd h
has_left x (z ∷ xs) ys (inl e) = inl e
has_left x (z ∷ xs) ys (inr h) = inr (has_left x xs ys h)

pub has_right : {X : Type 0} (x : X) (xs ys : List X) → Has x ys → Has x (xs ++ ys)
has_right x [] ys h = h
has_right x (z ∷ xs) ys h = inr (has_right x xs ys h)

pub has_parts : {X : Type 0} (x : X) (xs ys : List X) → Has x (xs ++ ys) → Has x xs ⊎ Has x ys
has_parts x [] ys h = inr h
has_parts x (z ∷ xs) ys (inl e) = inl (inl e)
has_parts x (z ∷ xs) ys (inr h) = ⊎_elim (λ a. inl (inr a)) (λ b. inr b) (has_parts x xs ys h)

-- ---- values

module _ (Known : Value → Type 0) where
  -- each value that is defined or taken in the part is known
  abbrev pub KnownAll : {s : Sort} → Part s → Type 0
  KnownAll end = Unit {0}
  KnownAll (operation h rs rest) = ((v : Value) → Has v (names_of h.results) → Known v)
      × ((v : Value) → Has v h.operands → Known v) × KnownAll rs × KnownAll rest
  KnownAll (block l os rest) = ((v : Value) → Has v (names_of l.arguments) → Known v) × KnownAll os × KnownAll rest
  KnownAll (region bs rest) = KnownAll bs × KnownAll rest

-- a result of one of these operations is defined in them
pub result_defined : (os : Part Operations) (v : Value) → IsResultHere os v → Has v (defined_in os)
result_defined end v h = absurd h
result_defined (operation h rs rest) v (inl here) = has_left v (names_of h.results) (defined_in rs ++ defined_in rest) here
result_defined (operation h rs rest) v (inr there) = has_right v (names_of h.results) (defined_in rs ++ defined_in rest)
    (has_right v (defined_in rs) (defined_in rest) (result_defined rest v there))

-- a value of a block is defined in it
pub block_defined : (l : KitLabel) (os : Part Operations) (rest : Part Blocks) (v : Value) → IsOfBlock l os v
    → Has v (defined_in (block l os rest))
block_defined l os rest v (inl here) = has_left v (names_of l.arguments) (defined_in os ++ defined_in rest) here
block_defined l os rest v (inr there) = has_right v (names_of l.arguments) (defined_in os ++ defined_in rest)
    (has_left v (defined_in os) (defined_in rest) (result_defined os v there))

pub entry_defined : (bs : Part Blocks) (v : Value) → IsOfEntry bs v → Has v (defined_in bs)
entry_defined end v h = absurd h
entry_defined (block l os rest) v h = block_defined l os rest v h

-- what is in scope is known, where all that is defined is
module _ (Known : Value → Type 0) where
  mutual
    pub operations_known : (os : Part Operations) (P : Value → Type 0) → Scoped os P → ((v : Value) → P v → Known v)
        → ((v : Value) → Has v (defined_in os) → Known v) → KnownAll Known os
    operations_known end P h outer inner = tt
    operations_known (operation h rs rest) P scoped outer inner =
        let results = names_of h.results in
        let deep = defined_in rs in
        let later = defined_in rest in (
          λ v has. inner v (has_left v results (deep ++ later) has),
          λ v has. outer v (scoped.0 v has),
          regions_known_by rs P scoped.1 (λ v has. inner v (has_right v results (deep ++ later) (has_left v deep later has))),
          operations_known rest P scoped.2 outer
              (λ v has. inner v (has_right v results (deep ++ later) (has_right v deep later has))),
        )

    regions_known_by : (rs : Part Regions) (P : Value → Type 0) → Scoped rs IsNone → ((v : Value) → Has v (defined_in rs) → Known v)
        → KnownAll Known rs
    regions_known_by end P scoped inner = tt
    regions_known_by (region bs rest) P scoped inner = (
      blocks_known bs (IsOfEntry bs) scoped.0
          (λ v e. inner v (has_left v (defined_in bs) (defined_in rest) (entry_defined bs v e)))
          (λ v has. inner v (has_left v (defined_in bs) (defined_in rest) has)),
      regions_known_by rest P scoped.1 (λ v has. inner v (has_right v (defined_in bs) (defined_in rest) has)),
    )

    pub blocks_known : (bs : Part Blocks) (P : Value → Type 0) → Scoped bs P → ((v : Value) → P v → Known v)
        → ((v : Value) → Has v (defined_in bs) → Known v) → KnownAll Known bs
    blocks_known end P scoped outer inner = tt
    blocks_known (block l os rest) P scoped outer inner =
        let own = names_of l.arguments in
        let here = defined_in os in
        let later = defined_in rest in (
          λ v has. inner v (has_left v own (here ++ later) has),
          operations_known os (λ x. IsOfBlock l os x ⊎ P x) scoped.0
              (λ v p. ⊎_elim (λ o. inner v (block_defined l os rest v o)) (λ q. outer v q) p)
              (λ v has. inner v (has_right v own (here ++ later) (has_left v here later has))),
          blocks_known rest P scoped.1 outer
              (λ v has. inner v (has_right v own (here ++ later) (has_right v here later has))),
        )

  pub regions_known : (rs : Part Regions) → Scoped rs IsNone → ((v : Value) → Has v (defined_in rs) → Known v)
      → KnownAll Known rs
  regions_known rs scoped inner = regions_known_by rs IsNone scoped inner
