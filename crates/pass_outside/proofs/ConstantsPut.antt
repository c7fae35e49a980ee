-- What is in a tree with constants put in.
use Rattle.std.proofs.Common.{◌≡◌, ◌⊎◌, inl, inr, ⊎_elim, List, [], ◌∷◌, ◌++◌, Option, Some, None, refl, sym, ap, subst}
use Rattle.ir_trees.specs.Names.{Names, Contents}
use Rattle.ir_trees.specs.Renames.{names_of}
use Rattle.ir_trees.specs.Trees.{Defined, Sort, Operations, Tree, end, operation, block, region}
use Rattle.opt_trees.specs.Dialect.{Dialect}
use Rattle.opt_trees.specs.Occurrences.{Has, defined_in}
use Rattle.opt_trees.specs.Sccp.{Name, Old, New, fresh, constant_before, put_one, put_results, put_arguments, put, old_head}
use Rattle.opt_trees.proofs.NoneDead.{has-append}
use Rattle.pass_outside.proofs.InTrees.{HasOperation, HasBlock}

module _ (N : Names) {S : Contents} {A : Type 0} (d : Dialect S A) (made : N.value → Option A) where
  abbrev Definitions : Type 0
  Definitions = List (Defined N.value S.of_value)

  abbrev Put : Sort → Type 0
  Put s = Tree (fresh N) S s

  -- the operation is the constant of a value that gets one
  abbrev pub IsNew : Name N.operation N.value → Type 0
  IsNew p = (u : N.value) × (a : A) × (made u ≡ Some a) × (p ≡ New u)

  -- ---- what comes

  one_from : (v : N.value) (rest : Put Operations) (p : Name N.operation N.value) (o : Option A) → made v ≡ o
      → HasOperation (put_one {N = N} d v o rest) p → HasOperation rest p ⊎ IsNew p
  one_from v rest p None e i = inl i
  one_from v rest p (Some a) e i = go (d.constant a) i
    where
      go : (c : Option S.of_operation) → HasOperation (constant_before {N = N} d v a c rest) p
          → HasOperation rest p ⊎ IsNew p
      go None j = inl j
      go (Some c) j = ⊎_elim
          (λ q. inr (v, a, e, q))
          (λ more. ⊎_elim (λ none. absurd none) (λ k. inl k) more)
          j

  results_from : (ds : Definitions) (rest : Put Operations) (p : Name N.operation N.value)
      → HasOperation (put_results {N = N} d made ds rest) p → HasOperation rest p ⊎ IsNew p
  results_from [] rest p i = inl i
  results_from (v ∷ ds) rest p i = ⊎_elim
      (λ j. results_from ds rest p j)
      (λ new. inr new)
      (one_from v.name (put_results {N = N} d made ds rest) p (made v.name) refl i)

  arguments_from : (ds : Definitions) (rest : Put Operations) (p : Name N.operation N.value)
      → HasOperation (put_arguments {N = N} d made ds rest) p → HasOperation rest p ⊎ IsNew p
  arguments_from [] rest p i = inl i
  arguments_from (v ∷ ds) rest p i = ⊎_elim
      (λ j. one_from v.name rest p (made v.name) refl j)
      (λ new. inr new)
      (arguments_from ds (put_one {N = N} d v.name (made v.name) rest) p i)

  -- an operation was there, or is such a constant
  pub put_from : {s : Sort} (t : Tree N S s) (p : Name N.operation N.value) → HasOperation (put {N = N} d made t) p
      → ((q : N.operation) × HasOperation t q × (p ≡ Old q)) ⊎ IsNew p
  put_from end p i = absurd i
  put_from (operation h rs rest) p i = ⊎_elim
      (λ own. ⊎_elim
      (λ e. inl (h.name, inl refl, e))
      (λ more. ⊎_elim
      (λ j. ⊎_elim (λ g. inl (g.0, inr (inl g.1), g.2)) (λ new. inr new) (put_from rs p j))
      (λ j. ⊎_elim (λ g. inl (g.0, inr (inr g.1), g.2)) (λ new. inr new) (put_from rest p j))
      more)
      own)
      (λ new. inr new)
      (results_from h.results
      (operation (old_head {N = N} made h) (put {N = N} d made rs) (put {N = N} d made rest)) p i)
  put_from (block l os rest) p i = ⊎_elim
      (λ own. ⊎_elim
      (λ j. ⊎_elim (λ g. inl (g.0, inl g.1, g.2)) (λ new. inr new) (put_from os p j))
      (λ new. inr new)
      (arguments_from l.arguments (put {N = N} d made os) p own))
      (λ j. ⊎_elim (λ g. inl (g.0, inr g.1, g.2)) (λ new. inr new) (put_from rest p j))
      i
  put_from (region bs rest) p i = ⊎_elim
      (λ j. ⊎_elim (λ g. inl (g.0, inl g.1, g.2)) (λ new. inr new) (put_from bs p j))
      (λ j. ⊎_elim (λ g. inl (g.0, inr g.1, g.2)) (λ new. inr new) (put_from rest p j))
      i

  one_block : (v : N.value) (rest : Put Operations) (b : N.block) (o : Option A)
      → HasBlock (put_one {N = N} d v o rest) b → HasBlock rest b
  one_block v rest b None i = i
  one_block v rest b (Some a) i = go (d.constant a) i
    where
      go : (c : Option S.of_operation) → HasBlock (constant_before {N = N} d v a c rest) b → HasBlock rest b
      go None j = j
      go (Some c) j = ⊎_elim (λ none. absurd none) (λ k. k) j

  results_block : (ds : Definitions) (rest : Put Operations) (b : N.block)
      → HasBlock (put_results {N = N} d made ds rest) b → HasBlock rest b
  results_block [] rest b i = i
  results_block (v ∷ ds) rest b i =
      results_block ds rest b (one_block v.name (put_results {N = N} d made ds rest) b (made v.name) i)

  arguments_block : (ds : Definitions) (rest : Put Operations) (b : N.block)
      → HasBlock (put_arguments {N = N} d made ds rest) b → HasBlock rest b
  arguments_block [] rest b i = i
  arguments_block (v ∷ ds) rest b i =
      one_block v.name rest b (made v.name)
      (arguments_block ds (put_one {N = N} d v.name (made v.name) rest) b i)

  pub put_block : {s : Sort} (t : Tree N S s) (b : N.block) → HasBlock (put {N = N} d made t) b → HasBlock t b
  put_block end b i = absurd i
  put_block (operation h rs rest) b i = ⊎_elim
      (λ j. inl (put_block rs b j))
      (λ j. inr (put_block rest b j))
      (results_block h.results
      (operation (old_head {N = N} made h) (put {N = N} d made rs) (put {N = N} d made rest)) b i)
  put_block (block l os rest) b i = ⊎_elim
      (λ e. inl e)
      (λ more. ⊎_elim
      (λ j. inr (inl (put_block os b (arguments_block l.arguments (put {N = N} d made os) b j))))
      (λ j. inr (inr (put_block rest b j)))
      more)
      i
  put_block (region bs rest) b i = ⊎_elim (λ j. inl (put_block bs b j)) (λ j. inr (put_block rest b j)) i

  -- ---- what stays, and what is put in

  one_stays : (v : N.value) (rest : Put Operations) (p : Name N.operation N.value) (o : Option A) → HasOperation rest p
      → HasOperation (put_one {N = N} d v o rest) p
  one_stays v rest p None i = i
  one_stays v rest p (Some a) i = go (d.constant a)
    where
      go : (c : Option S.of_operation) → HasOperation (constant_before {N = N} d v a c rest) p
      go None = i
      go (Some c) = inr (inr i)

  results_stay : (ds : Definitions) (rest : Put Operations) (p : Name N.operation N.value) → HasOperation rest p
      → HasOperation (put_results {N = N} d made ds rest) p
  results_stay [] rest p i = i
  results_stay (v ∷ ds) rest p i =
      one_stays v.name (put_results {N = N} d made ds rest) p (made v.name) (results_stay ds rest p i)

  arguments_stay : (ds : Definitions) (rest : Put Operations) (p : Name N.operation N.value) → HasOperation rest p
      → HasOperation (put_arguments {N = N} d made ds rest) p
  arguments_stay [] rest p i = i
  arguments_stay (v ∷ ds) rest p i =
      arguments_stay ds (put_one {N = N} d v.name (made v.name) rest) p (one_stays v.name rest p (made v.name) i)

  pub put_stays : {s : Sort} (t : Tree N S s) (q : N.operation) → HasOperation t q
      → HasOperation (put {N = N} d made t) (Old q)
  put_stays end q i = absurd i
  put_stays (operation h rs rest) q i =
      results_stay h.results (operation (old_head {N = N} made h) (put {N = N} d made rs) (put {N = N} d made rest))
      (Old q) (⊎_elim
      (λ e. inl (ap Old e))
      (λ more. ⊎_elim (λ j. inr (inl (put_stays rs q j))) (λ j. inr (inr (put_stays rest q j))) more)
      i)
  put_stays (block l os rest) q i = ⊎_elim
      (λ j. inl (arguments_stay l.arguments (put {N = N} d made os) (Old q) (put_stays os q j)))
      (λ j. inr (put_stays rest q j))
      i
  put_stays (region bs rest) q i = ⊎_elim (λ j. inl (put_stays bs q j)) (λ j. inr (put_stays rest q j)) i

  module _ (u : N.value) (a : A) (gets : made u ≡ Some a) (c : S.of_operation) (makes : d.constant a ≡ Some c) where
    one_new : (rest : Put Operations) → HasOperation (put_one {N = N} d u (made u) rest) (New u)
    one_new rest = subst (λ o. HasOperation (put_one {N = N} d u o rest) (New u)) (sym gets)
        (subst (λ o. HasOperation (constant_before {N = N} d u a o rest) (New u)) (sym makes) (inl refl))

    results_new : (ds : Definitions) (rest : Put Operations) → Has u (names_of ds)
        → HasOperation (put_results {N = N} d made ds rest) (New u)
    results_new [] rest i = absurd i
    results_new (v ∷ ds) rest i = ⊎_elim
        (λ e. subst
        (λ x. HasOperation (put_one {N = N} d x (made x) (put_results {N = N} d made ds rest)) (New u)) e
        (one_new (put_results {N = N} d made ds rest)))
        (λ j. one_stays v.name (put_results {N = N} d made ds rest) (New u) (made v.name) (results_new ds rest j))
        i

    arguments_new : (ds : Definitions) (rest : Put Operations) → Has u (names_of ds)
        → HasOperation (put_arguments {N = N} d made ds rest) (New u)
    arguments_new [] rest i = absurd i
    arguments_new (v ∷ ds) rest i = ⊎_elim
        (λ e. arguments_stay ds (put_one {N = N} d v.name (made v.name) rest) (New u)
        (subst (λ x. HasOperation (put_one {N = N} d x (made x) rest) (New u)) e (one_new rest)))
        (λ j. arguments_new ds (put_one {N = N} d v.name (made v.name) rest) j)
        i

    -- the constant of a value that is defined in the tree is put in
    pub put_new : {s : Sort} (t : Tree N S s) → Has u (defined_in t) → HasOperation (put {N = N} d made t) (New u)
    put_new end i = absurd i
    put_new (operation h rs rest) i = ⊎_elim
        (λ j. results_new h.results
        (operation (old_head {N = N} made h) (put {N = N} d made rs) (put {N = N} d made rest)) j)
        (λ more. results_stay h.results
        (operation (old_head {N = N} made h) (put {N = N} d made rs) (put {N = N} d made rest)) (New u) (⊎_elim
        (λ j. inr (inl (put_new rs j)))
        (λ j. inr (inr (put_new rest j)))
        (has-append u (defined_in rs) (defined_in rest) more)))
        (has-append u (names_of h.results) (defined_in rs ++ defined_in rest) i)
    put_new (block l os rest) i = ⊎_elim
        (λ j. inl (arguments_new l.arguments (put {N = N} d made os) j))
        (λ more. ⊎_elim
        (λ j. inl (arguments_stay l.arguments (put {N = N} d made os) (New u) (put_new os j)))
        (λ j. inr (put_new rest j))
        (has-append u (defined_in os) (defined_in rest) more))
        (has-append u (names_of l.arguments) (defined_in os ++ defined_in rest) i)
    put_new (region bs rest) i =
        ⊎_elim (λ j. inl (put_new bs j)) (λ j. inr (put_new rest j))
        (has-append u (defined_in bs) (defined_in rest) i)
