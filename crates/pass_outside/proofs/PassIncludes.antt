-- What the optimisations leave of a tree was in it.
use Rattle.std.proofs.Common.{◌≡◌, inl, inr, ⊎_elim, ℕ, Bool, true, false, List, [], ◌∷◌, ◌++◌, map, Option, Some, None}
use Rattle.std.proofs.Common.{refl, sym, ap, ◌∙◌, subst}
use Rattle.std.specs.Prelude.{suc, slice_get, not, ◌&&◌, if◌then◌else◌}
use Rattle.ir_trees.specs.Names.{Names, Contents}
use Rattle.ir_trees.specs.Renames.{Maps, names_of, rename}
use Rattle.ir_trees.specs.Trees.{Defined, Head, Label, Sort, Operations, Blocks, Regions, Tree, Root, end, operation, block}
use Rattle.ir_trees.specs.Trees.{region}
use Rattle.opt_trees.specs.Dce.{Gone, Whole, gone_at, thin, thin_head, thin_label}
use Rattle.opt_trees.specs.Dialect.{Dialect, drop}
use Rattle.opt_trees.specs.Occurrences.{Has, BlockOccurrence, Inside, inner, next_block, next_region, at_root}
use Rattle.opt_trees.specs.Occurrences.{block_occurrences_in, defined_in}
use Rattle.opt_trees.specs.Simplify.{StartingRegions, is_bare, along_edge, decide_head, decide, keep, use_instead, use_head}
use Rattle.opt_trees.specs.Simplify.{but_last, append, Joins}
use Rattle.opt_trees.specs.Simplify as joining
use Rattle.opt_trees.proofs.NoneDead.{has-append, has-left, has-right}
use Rattle.pass_outside.proofs.InTrees.{HasOperation, HasBlock, Includes, includes_all, includes_both, has_regions}
use Rattle.pass_outside.proofs.InTrees.{has_operations, has_body, has_later, has_blocks, has_next}

module _ {N : Names} {S : Contents} where
  -- parts whose parts are included
  operation_less : (h g : Head N S) (rs qs : Tree N S Regions) (rest more : Tree N S Operations) → g.name ≡ h.name
      → ((v : N.value) → Has v (names_of g.results) → Has v (names_of h.results)) → Includes qs rs → Includes more rest
      → Includes (operation g qs more) (operation h rs rest)
  operation_less h g rs qs rest more name results a b = record {
    operations = λ p i. ⊎_elim
        (λ e. inl (e ∙ name))
        (λ j. ⊎_elim (λ k. inr (inl (a.operations p k))) (λ k. inr (inr (b.operations p k))) j)
        i;
    blocks = λ d i. ⊎_elim (λ k. inl (a.blocks d k)) (λ k. inr (b.blocks d k)) i;
    values = λ v i. ⊎_elim
        (λ k. has-left v (names_of h.results) (defined_in rs ++ defined_in rest) (results v k))
        (λ j. has-right v (names_of h.results) (defined_in rs ++ defined_in rest) (⊎_elim
        (λ k. has-left v (defined_in rs) (defined_in rest) (a.values v k))
        (λ k. has-right v (defined_in rs) (defined_in rest) (b.values v k))
        (has-append v (defined_in qs) (defined_in more) j)))
        (has-append v (names_of g.results) (defined_in qs ++ defined_in more) i);
  }

  block_less : (l k : Label N S) (os ps : Tree N S Operations) (rest more : Tree N S Blocks) → k.name ≡ l.name
      → ((v : N.value) → Has v (names_of k.arguments) → Has v (names_of l.arguments)) → Includes ps os
      → Includes more rest → Includes (block k ps more) (block l os rest)
  block_less l k os ps rest more name arguments a b = record {
    operations = λ p i. ⊎_elim (λ j. inl (a.operations p j)) (λ j. inr (b.operations p j)) i;
    blocks = λ d i. ⊎_elim
        (λ e. inl (e ∙ name))
        (λ j. ⊎_elim (λ z. inr (inl (a.blocks d z))) (λ z. inr (inr (b.blocks d z))) j)
        i;
    values = λ v i. ⊎_elim
        (λ z. has-left v (names_of l.arguments) (defined_in os ++ defined_in rest) (arguments v z))
        (λ j. has-right v (names_of l.arguments) (defined_in os ++ defined_in rest) (⊎_elim
        (λ z. has-left v (defined_in os) (defined_in rest) (a.values v z))
        (λ z. has-right v (defined_in os) (defined_in rest) (b.values v z))
        (has-append v (defined_in ps) (defined_in more) j)))
        (has-append v (names_of k.arguments) (defined_in ps ++ defined_in more) i);
  }

  region_less : (bs cs : Tree N S Blocks) (rest more : Tree N S Regions) → Includes cs bs → Includes more rest
      → Includes (region cs more) (region bs rest)
  region_less bs cs rest more a b = record {
    operations = λ p i. ⊎_elim (λ j. inl (a.operations p j)) (λ j. inr (b.operations p j)) i;
    blocks = λ d i. ⊎_elim (λ j. inl (a.blocks d j)) (λ j. inr (b.blocks d j)) i;
    values = λ v i. ⊎_elim
        (λ j. has-left v (defined_in bs) (defined_in rest) (a.values v j))
        (λ j. has-right v (defined_in bs) (defined_in rest) (b.values v j))
        (has-append v (defined_in cs) (defined_in more) i);
  }

  -- nothing, and what is put together of included parts
  module _ {s : Sort} (z : Tree N S s) where
    end_within : {r : Sort} → Includes {s = r} end z
    end_within = record { operations = λ p i. absurd i; blocks = λ b i. absurd i; values = λ v i. absurd i }

    operation_within : (h : Head N S) (rs qs : Tree N S Regions) (rest more : Tree N S Operations)
        → Includes (operation h rs rest) z → Includes qs z → Includes more z → Includes (operation h qs more) z
    operation_within h rs qs rest more all a b = record {
      operations = λ p i. ⊎_elim
          (λ e. all.operations p (inl e))
          (λ j. ⊎_elim (λ k. a.operations p k) (λ k. b.operations p k) j)
          i;
      blocks = λ d i. ⊎_elim (λ k. a.blocks d k) (λ k. b.blocks d k) i;
      values = λ v i. ⊎_elim
          (λ k. all.values v (has-left v (names_of h.results) (defined_in rs ++ defined_in rest) k))
          (λ j. ⊎_elim (λ k. a.values v k) (λ k. b.values v k) (has-append v (defined_in qs) (defined_in more) j))
          (has-append v (names_of h.results) (defined_in qs ++ defined_in more) i);
    }

    block_within : (l : Label N S) (os ps : Tree N S Operations) (rest more : Tree N S Blocks)
        → Includes (block l os rest) z → Includes ps z → Includes more z → Includes (block l ps more) z
    block_within l os ps rest more all a b = record {
      operations = λ p i. ⊎_elim (λ j. a.operations p j) (λ j. b.operations p j) i;
      blocks = λ d i. ⊎_elim
          (λ e. all.blocks d (inl e))
          (λ j. ⊎_elim (λ k. a.blocks d k) (λ k. b.blocks d k) j)
          i;
      values = λ v i. ⊎_elim
          (λ k. all.values v (has-left v (names_of l.arguments) (defined_in os ++ defined_in rest) k))
          (λ j. ⊎_elim (λ k. a.values v k) (λ k. b.values v k) (has-append v (defined_in ps) (defined_in more) j))
          (has-append v (names_of l.arguments) (defined_in ps ++ defined_in more) i);
    }

    region_within : (cs : Tree N S Blocks) (more : Tree N S Regions) → Includes cs z → Includes more z
        → Includes (region cs more) z
    region_within cs more a b = record {
      operations = λ p i. ⊎_elim (λ j. a.operations p j) (λ j. b.operations p j) i;
      blocks = λ d i. ⊎_elim (λ j. a.blocks d j) (λ j. b.blocks d j) i;
      values = λ v i. ⊎_elim (λ j. a.values v j) (λ j. b.values v j) (has-append v (defined_in cs) (defined_in more) i);
    }

    append_within : (xs ys : Tree N S Operations) → Includes xs z → Includes ys z → Includes (append xs ys) z
    append_within end ys a b = b
    append_within (operation h rs rest) ys a b =
        operation_within h rs rs rest (append rest ys) a (includes_both rs (operation h rs rest) z (has_regions h rs rest) a)
        (append_within rest ys (includes_both rest (operation h rs rest) z (has_operations h rs rest) a) b)

  but_last_less : (os : Tree N S Operations) → Includes (but_last os) os
  but_last_less end = includes_all end
  but_last_less (operation h rs end) = end_within (operation h rs end)
  but_last_less (operation h rs (operation g qs rest)) =
      operation_less h h rs rs (operation g qs rest) (but_last (operation g qs rest)) refl (λ v i. i) (includes_all rs)
      (but_last_less (operation g qs rest))

  -- the operations of a block that is found
  occurring : {s : Sort} (t : Tree N S s) (c : Inside N S s) (x : BlockOccurrence N S) → Has x (block_occurrences_in t c)
      → Includes x.operations t
  occurring end c x has = absurd has
  occurring (operation h rs rest) c x has = ⊎_elim
      (λ i. includes_both x.operations rs (operation h rs rest) (occurring rs (inner h c) x i) (has_regions h rs rest))
      (λ i. includes_both x.operations rest (operation h rs rest) (occurring rest c x i) (has_operations h rs rest))
      (has-append x (block_occurrences_in rs (inner h c)) (block_occurrences_in rest c) has)
  occurring (block l os rest) c x has = ⊎_elim
      (λ e. subst (λ (y : BlockOccurrence N S). Includes y.operations (block l os rest)) (sym e) (has_body l os rest))
      (λ more. ⊎_elim
      (λ i. includes_both x.operations os (block l os rest) (occurring os (record { spot = c; label = l }) x i)
      (has_body l os rest))
      (λ i. includes_both x.operations rest (block l os rest) (occurring rest (next_block c) x i)
      (has_later l os rest))
      (has-append x (block_occurrences_in os (record { spot = c; label = l }))
      (block_occurrences_in rest (next_block c)) more))
      has
  occurring (region bs rest) c x has = ⊎_elim
      (λ i. includes_both x.operations bs (region bs rest) (occurring bs c x i) (has_blocks bs rest))
      (λ i. includes_both x.operations rest (region bs rest) (occurring rest (next_region c) x i) (has_next bs rest))
      (has-append x (block_occurrences_in bs c) (block_occurrences_in rest (next_region c)) has)

  -- ---- blocks that go

  module _ (g : N.block → Bool) where
    pub kept_less : {s : Sort} (t : Tree N S s) → Includes (keep g t) t
    kept_less end = includes_all end
    kept_less (operation h rs rest) =
        operation_less h h rs (keep g rs) rest (keep g rest) refl (λ v i. i) (kept_less rs) (kept_less rest)
    kept_less (block l os rest) = go (g l.name) (kept_less os) (kept_less rest)
      where
        go : (b : Bool) → Includes (keep g os) os → Includes (keep g rest) rest
            → Includes (if b then keep g rest else block l (keep g os) (keep g rest)) (block l os rest)
        go true own later = includes_both (keep g rest) rest (block l os rest) later (has_later l os rest)
        go false own later = block_less l l os (keep g os) rest (keep g rest) refl (λ v i. i) own later
    kept_less (region bs rest) = region_less bs (keep g bs) rest (keep g rest) (kept_less bs) (kept_less rest)

  -- ---- other operands

  used_less : (f : N.value → N.value) → {s : Sort} (t : Tree N S s) → Includes (use_instead f t) t
  used_less f end = includes_all end
  used_less f (operation h rs rest) =
      operation_less h (use_head f h) rs (use_instead f rs) rest (use_instead f rest) refl (λ v i. i) (used_less f rs)
      (used_less f rest)
  used_less f (block l os rest) =
      block_less l l os (use_instead f os) rest (use_instead f rest) refl (λ v i. i) (used_less f os) (used_less f rest)
  used_less f (region bs rest) =
      region_less bs (use_instead f bs) rest (use_instead f rest) (used_less f bs) (used_less f rest)

module _ {N : Names} {S : Contents} {A : Type 0} (d : Dialect S A) where
  -- ---- decided branches

  module _ (alone : N.value → Option A) where
    along_same : (h : Head N S) (o : Option ℕ) (q : Option S.of_operation)
        → ((along_edge d h o q).name ≡ h.name) × ((along_edge d h o q).results ≡ h.results)
    along_same h None q = (refl, refl)
    along_same h (Some i) None = (refl, refl)
    along_same h (Some i) (Some c) = (refl, refl)

    decided_same : (h : Head N S) (rs : Tree N S Regions)
        → ((decide_head d alone h rs).name ≡ h.name) × ((decide_head d alone h rs).results ≡ h.results)
    decided_same h rs = go (is_bare d h rs && not (d.is_plain h.content))
      where
        go : (b : Bool)
            → ((if b then along_edge d h (d.edge h.content (map alone h.operands)) d.plain else h).name ≡ h.name)
            × ((if b then along_edge d h (d.edge h.content (map alone h.operands)) d.plain else h).results ≡ h.results)
        go true = along_same h (d.edge h.content (map alone h.operands)) d.plain
        go false = (refl, refl)

    pub decided_less : {s : Sort} (t : Tree N S s) → Includes (decide d alone t) t
    decided_less end = includes_all end
    decided_less (operation h rs rest) =
        let same = decided_same h rs in
        operation_less h (decide_head d alone h rs) rs (decide d alone rs) rest (decide d alone rest) same.0
        (λ v i. subst (λ (ds : List (Defined N.value S.of_value)). Has v (names_of ds)) same.1 i)
        (decided_less rs) (decided_less rest)
    decided_less (block l os rest) =
        block_less l l os (decide d alone os) rest (decide d alone rest) refl (λ v i. i) (decided_less os)
        (decided_less rest)
    decided_less (region bs rest) =
        region_less bs (decide d alone bs) rest (decide d alone rest) (decided_less bs) (decided_less rest)

  -- ---- what is dead

  module _ (g : Gone N) where
    pub thinned_less : {s : Sort} (t : Tree N S s) → Includes (thin d g t) t
    thinned_less end = includes_all end
    thinned_less (operation h rs rest) = go (g.item (Whole h.name)) (thinned_less rs) (thinned_less rest)
      where
        go : (b : Bool) → Includes (thin d g rs) rs → Includes (thin d g rest) rest
            → Includes (if b then thin d g rest else operation (thin_head d g h) (thin d g rs) (thin d g rest))
            (operation h rs rest)
        go true own later = includes_both (thin d g rest) rest (operation h rs rest) later (has_operations h rs rest)
        go false own later =
            operation_less h (thin_head d g h) rs (thin d g rs) rest (thin d g rest) refl (λ v i. i) own later
    thinned_less (block l os rest) =
        block_less l (thin_label d g l) os (thin d g os) rest (thin d g rest) refl
        (left (λ i. gone_at g (slice_get l.arguments i)) l.arguments)
        (thinned_less os) (thinned_less rest)
      where
        step : (b : Bool) (x : Defined N.value S.of_value) (ds es : List (Defined N.value S.of_value)) (v : N.value)
            → (Has v (names_of es) → Has v (names_of ds)) → Has v (names_of (if b then es else x ∷ es))
            → Has v (names_of (x ∷ ds))
        step true x ds es v more i = inr (more i)
        step false x ds es v more i = ⊎_elim (λ e. inl e) (λ k. inr (more k)) i

        left : (p : ℕ → Bool) (ds : List (Defined N.value S.of_value)) (v : N.value) → Has v (names_of (drop p ds))
            → Has v (names_of ds)
        left p [] v i = i
        left p (x ∷ ds) v i =
            step (p 0) x ds (drop (λ j. p (suc j)) ds) v (left (λ j. p (suc j)) ds v) i
    thinned_less (region bs rest) =
        region_less bs (thin d g bs) rest (thin d g rest) (thinned_less bs) (thinned_less rest)

  -- ---- chains

  module _ (p : StartingRegions N) (r : Root N S) where
    joined : (o : Option N.block) (s : Sort) (x y : Tree N S s) → Joins d p r o s x y → Includes x r.regions
        → Includes y r.regions
    joined _ _ _ _ (joining.ends s) all = end_within r.regions
    joined _ _ _ _ (joining.operations h rs qs rest more inside behind) all =
        operation_within r.regions h rs qs rest more all
        (joined None Regions rs qs inside
        (includes_both rs (operation h rs rest) r.regions (has_regions h rs rest) all))
        (joined None Operations rest more behind
        (includes_both rest (operation h rs rest) r.regions (has_operations h rs rest) all))
    joined _ _ _ _ (joining.regions bs cs rest more inside behind) all =
        region_within r.regions cs more
        (joined None Blocks bs cs inside (includes_both bs (region bs rest) r.regions (has_blocks bs rest) all))
        (joined None Regions rest more behind (includes_both rest (region bs rest) r.regions (has_next bs rest) all))
    joined _ _ _ _ (joining.taken l os rest more b join behind) all =
        joined None Blocks rest more behind
        (includes_both rest (block l os rest) r.regions (has_later l os rest) all)
    joined _ _ _ _ (joining.first l os chain rest more none inside behind) all =
        block_within r.regions l os chain rest more all
        (joined (Some l.name) Operations os chain inside
        (includes_both os (block l os rest) r.regions (has_body l os rest) all))
        (joined None Blocks rest more behind
        (includes_both rest (block l os rest) r.regions (has_later l os rest) all))
    joined _ _ _ _ (joining.chain_ends b os own none inside) all = joined None Operations os own inside all
    joined _ _ _ _ (joining.chain_goes_on b x os own others chain join has inside behind same) all =
        subst (λ (z : Tree N S Operations). Includes z r.regions) (sym same)
        (append_within r.regions own others
        (joined None Operations (but_last os) own inside
        (includes_both (but_last os) os r.regions (but_last_less os) all))
        (joined (Some x.label.name) Operations x.operations others behind
        (occurring r.regions (at_root r) x has)))

    pub joined_less : (f : N.value → N.value) (y : Tree N S Regions) → Joins d p r None Regions r.regions y
        → Includes (use_instead f y) r.regions
    joined_less f y joins =
        includes_both (use_instead f y) y r.regions (used_less f y)
        (joined None Regions r.regions y joins (includes_all r.regions))

-- ---- other names

module _ {N M : Names} {S : Contents} (m : Maps N M) where
  pub renamed_operation : {s : Sort} (t : Tree N S s) (p : M.operation) → HasOperation (rename m t) p
      → (q : N.operation) × HasOperation t q × (p ≡ m.operation q)
  renamed_operation end p i = absurd i
  renamed_operation (operation h rs rest) p i = ⊎_elim
      (λ e. (h.name, inl refl, e))
      (λ more. ⊎_elim
      (λ j. let g = renamed_operation rs p j in (g.0, inr (inl g.1), g.2))
      (λ j. let g = renamed_operation rest p j in (g.0, inr (inr g.1), g.2))
      more)
      i
  renamed_operation (block l os rest) p i = ⊎_elim
      (λ j. let g = renamed_operation os p j in (g.0, inl g.1, g.2))
      (λ j. let g = renamed_operation rest p j in (g.0, inr g.1, g.2))
      i
  renamed_operation (region bs rest) p i = ⊎_elim
      (λ j. let g = renamed_operation bs p j in (g.0, inl g.1, g.2))
      (λ j. let g = renamed_operation rest p j in (g.0, inr g.1, g.2))
      i

  pub renamed_block : {s : Sort} (t : Tree N S s) (b : M.block) → HasBlock (rename m t) b
      → (c : N.block) × HasBlock t c × (b ≡ m.block c)
  renamed_block end b i = absurd i
  renamed_block (operation h rs rest) b i = ⊎_elim
      (λ j. let g = renamed_block rs b j in (g.0, inl g.1, g.2))
      (λ j. let g = renamed_block rest b j in (g.0, inr g.1, g.2))
      i
  renamed_block (block l os rest) b i = ⊎_elim
      (λ e. (l.name, inl refl, e))
      (λ more. ⊎_elim
      (λ j. let g = renamed_block os b j in (g.0, inr (inl g.1), g.2))
      (λ j. let g = renamed_block rest b j in (g.0, inr (inr g.1), g.2))
      more)
      i
  renamed_block (region bs rest) b i = ⊎_elim
      (λ j. let g = renamed_block bs b j in (g.0, inl g.1, g.2))
      (λ j. let g = renamed_block rest b j in (g.0, inr g.1, g.2))
      i

  pub rename_operation : {s : Sort} (t : Tree N S s) (q : N.operation) → HasOperation t q
      → HasOperation (rename m t) (m.operation q)
  rename_operation end q i = absurd i
  rename_operation (operation h rs rest) q i = ⊎_elim
      (λ e. inl (ap m.operation e))
      (λ more. ⊎_elim (λ j. inr (inl (rename_operation rs q j))) (λ j. inr (inr (rename_operation rest q j))) more)
      i
  rename_operation (block l os rest) q i =
      ⊎_elim (λ j. inl (rename_operation os q j)) (λ j. inr (rename_operation rest q j)) i
  rename_operation (region bs rest) q i =
      ⊎_elim (λ j. inl (rename_operation bs q j)) (λ j. inr (rename_operation rest q j)) i
