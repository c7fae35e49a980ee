-- What defines values of a tree: deciding branches keeps it, and cutting blocks leaves some of it.
use Rattle.std.proofs.Common.{◌≡◌, ⊎_elim, inl, inr, Bool, true, false, List, [], ◌++◌, map, Option, Some}
use Rattle.std.proofs.Common.{None, refl, subst}
use Rattle.std.specs.Prelude.{if◌then◌else◌, ℕ, not, ◌&&◌}
use Rattle.ir_program.specs.declared.handles.Ptr.{Ptr}
use Rattle.ir_program.specs.declared.handles.BasicBlock.{BasicBlock}
use Rattle.ir_program.specs.declared.handles.Value.{Value}
use Rattle.ir_trees.specs.Renames.{names_of}
use Rattle.ir_trees.specs.Stands.{by_handle, in_program}
use Rattle.ir_trees.specs.Trees.{Sort, Regions, end, operation, block, region}
use Rattle.kit.specs.Context.{KitTree}
use Rattle.kit.specs.Meaning.{KitOperation, KitBlock, kit}
use Rattle.kit_ops.specs.declared.attributes.IntegerAttr.{IntegerAttr}
use Rattle.kit_pass_rules.specs.ChainLaws.{DefinersApart}
use Rattle.kit_pass_rules.proofs.Chains.InversionLemmas.{KitList}
use Rattle.kit_pass_rules.proofs.Chains.ListLemmas.{KitHead}
use Rattle.kit_pass_rules.proofs.Chains.PlaceLemmas.{KitOccurrence, KitBlockOccurrence}
use Rattle.opt_trees.specs.Dce.{TreeSurroundings}
use Rattle.opt_trees.specs.Occurrences.{Has, Inside, inner, next_block, next_region, occurrences_in}
use Rattle.opt_trees.specs.Occurrences.{block_occurrences_in, at_root}
use Rattle.opt_trees.specs.Simplify.{is_bare, along_edge, decide_head, decide, decided, keep}
use Rattle.opt_trees.proofs.NoneDead.{has-append, has-left, has-right}

-- ---- results and arguments at every depth

abbrev pub results_in : {s : Sort} → KitList s → List Value
results_in end = []
results_in (operation h rs rest) = names_of h.results ++ (results_in rs ++ results_in rest)
results_in (block l xs rest) = results_in xs ++ results_in rest
results_in (region bs rest) = results_in bs ++ results_in rest

abbrev pub arguments_in : {s : Sort} → KitList s → List Value
arguments_in end = []
arguments_in (operation h rs rest) = arguments_in rs ++ arguments_in rest
arguments_in (block l xs rest) = names_of l.arguments ++ (arguments_in xs ++ arguments_in rest)
arguments_in (region bs rest) = arguments_in bs ++ arguments_in rest

-- of both of two lists
pub both_of : {X Y : Type 0} (v : X) (xs xs2 : List X) (os os2 : List Y) (P : Y → Type 0) →
    (Has v xs → (o : Y) × Has o os × P o) → (Has v xs2 → (o : Y) × Has o os2 × P o) → Has v (xs ++ xs2) →
    (o : Y) × Has o (os ++ os2) × P o
both_of v xs xs2 os os2 P f g h = ⊎_elim
    (λ a. let r = f a in (r.0, has-left r.0 os os2 r.1, r.2))
    (λ b. let r = g b in (r.0, has-right r.0 os os2 r.1, r.2)) (has-append v xs xs2 h)

pub to_either : {X Y : Type 0} (v : X) (o : Y) (xs xs2 : List X) (os os2 : List Y) → (Has o os → Has v xs) →
    (Has o os2 → Has v xs2) →
    Has o (os ++ os2) → Has v (xs ++ xs2)
to_either v o xs xs2 os os2 f g h = ⊎_elim (λ a. has-left v xs xs2 (f a)) (λ b. has-right v xs xs2 (g b))
    (has-append o os os2 h)

-- of two lists one after the other
pub either_kept : {X : Type 0} (v : X) (xs ys zs ws : List X) → (Has v xs → Has v zs) → (Has v ys → Has v ws) →
    Has v (xs ++ ys) → Has v (zs ++ ws)
either_kept v xs ys zs ws f k h =
    ⊎_elim (λ a. has-left v zs ws (f a)) (λ b. has-right v zs ws (k b)) (has-append v xs ys h)

abbrev pub InsideKit : Sort → Type 0
InsideKit s = Inside by_handle (in_program KitOperation KitBlock) s

module _ (v : Value) where
  abbrev Gives : KitOccurrence → Type 0
  Gives o = Has v (names_of o.head.results)

  abbrev Takes : KitBlockOccurrence → Type 0
  Takes x = Has v (names_of x.label.arguments)

  result_at : {s : Sort} (x : KitList s) (c : InsideKit s) → Has v (results_in x) →
      (o : KitOccurrence) × Has o (occurrences_in x c) × Gives o
  result_at end c h = absurd h
  result_at (operation g rs rest) c h = ⊎_elim
      (λ a. (record { site = c; head = g; regions = rs }, inl refl, a))
      (λ b. let r = both_of v (results_in rs) (results_in rest) (occurrences_in rs (inner g c)) (occurrences_in rest c)
      Gives (result_at rs (inner g c)) (result_at rest c) b in
      (r.0, inr r.1, r.2))
      (has-append v (names_of g.results) (results_in rs ++ results_in rest) h)
  result_at (block l xs rest) c h =
      both_of v (results_in xs) (results_in rest) (occurrences_in xs (record { spot = c; label = l }))
      (occurrences_in rest (next_block c)) Gives
      (result_at xs (record { spot = c; label = l })) (result_at rest (next_block c)) h
  result_at (region bs rest) c h =
      both_of v (results_in bs) (results_in rest) (occurrences_in bs c) (occurrences_in rest (next_region c)) Gives
      (result_at bs c) (result_at rest (next_region c)) h

  argument_at : {s : Sort} (x : KitList s) (c : InsideKit s) → Has v (arguments_in x) →
      (o : KitBlockOccurrence) × Has o (block_occurrences_in x c) × Takes o
  argument_at end c h = absurd h
  argument_at (operation g rs rest) c h =
      both_of v (arguments_in rs) (arguments_in rest) (block_occurrences_in rs (inner g c))
      (block_occurrences_in rest c) Takes (argument_at rs (inner g c)) (argument_at rest c) h
  argument_at (block l xs rest) c h = ⊎_elim
      (λ a. (record { spot = c; label = l; operations = xs }, inl refl, a))
      (λ b. let r = both_of v (arguments_in xs) (arguments_in rest)
      (block_occurrences_in xs (record { spot = c; label = l })) (block_occurrences_in rest (next_block c)) Takes
      (argument_at xs (record { spot = c; label = l })) (argument_at rest (next_block c)) b in
      (r.0, inr r.1, r.2))
      (has-append v (names_of l.arguments) (arguments_in xs ++ arguments_in rest) h)
  argument_at (region bs rest) c h =
      both_of v (arguments_in bs) (arguments_in rest) (block_occurrences_in bs c)
      (block_occurrences_in rest (next_region c)) Takes (argument_at bs c) (argument_at rest (next_region c)) h

  result_of : {s : Sort} (x : KitList s) (c : InsideKit s) (o : KitOccurrence) → Has o (occurrences_in x c) → Gives o →
      Has v (results_in x)
  result_of end c o h g = absurd h
  result_of (operation k rs rest) c o h g = ⊎_elim
      (λ e. has-left v (names_of k.results) (results_in rs ++ results_in rest) (subst Gives e g))
      (λ m. has-right v (names_of k.results) (results_in rs ++ results_in rest)
      (to_either v o (results_in rs) (results_in rest) (occurrences_in rs (inner k c)) (occurrences_in rest c)
      (λ a. result_of rs (inner k c) o a g) (λ b. result_of rest c o b g) m))
      h
  result_of (block l xs rest) c o h g =
      to_either v o (results_in xs) (results_in rest) (occurrences_in xs (record { spot = c; label = l }))
      (occurrences_in rest (next_block c))
      (λ a. result_of xs (record { spot = c; label = l }) o a g) (λ b. result_of rest (next_block c) o b g) h
  result_of (region bs rest) c o h g =
      to_either v o (results_in bs) (results_in rest) (occurrences_in bs c) (occurrences_in rest (next_region c))
      (λ a. result_of bs c o a g) (λ b. result_of rest (next_region c) o b g) h

  argument_of : {s : Sort} (x : KitList s) (c : InsideKit s) (o : KitBlockOccurrence) →
      Has o (block_occurrences_in x c) → Takes o → Has v (arguments_in x)
  argument_of end c o h g = absurd h
  argument_of (operation k rs rest) c o h g =
      to_either v o (arguments_in rs) (arguments_in rest) (block_occurrences_in rs (inner k c))
      (block_occurrences_in rest c)
      (λ a. argument_of rs (inner k c) o a g) (λ b. argument_of rest c o b g) h
  argument_of (block l xs rest) c o h g = ⊎_elim
      (λ e. has-left v (names_of l.arguments) (arguments_in xs ++ arguments_in rest) (subst Takes e g))
      (λ m. has-right v (names_of l.arguments) (arguments_in xs ++ arguments_in rest)
      (to_either v o (arguments_in xs) (arguments_in rest) (block_occurrences_in xs (record { spot = c; label = l }))
      (block_occurrences_in rest (next_block c))
      (λ a. argument_of xs (record { spot = c; label = l }) o a g) (λ b. argument_of rest (next_block c) o b g) m))
      h
  argument_of (region bs rest) c o h g =
      to_either v o (arguments_in bs) (arguments_in rest) (block_occurrences_in bs c)
      (block_occurrences_in rest (next_region c)) (λ a. argument_of bs c o a g)
      (λ b. argument_of rest (next_region c) o b g) h

-- a tree whose definitions are some of those of another
pub fewer_definers : (t u : KitTree) → ((v : Value) → Has v (results_in u.regions) → Has v (results_in t.regions)) →
    ((v : Value) → Has v (arguments_in u.regions) → Has v (arguments_in t.regions)) → DefinersApart t → DefinersApart u
fewer_definers t u results arguments apart x o v hx ho a g =
    let y = argument_at v t.regions (at_root t) (arguments v (argument_of v u.regions (at_root u) x hx a)) in
    let p = result_at v t.regions (at_root t) (results v (result_of v u.regions (at_root u) o ho g)) in
    apart y.0 p.0 v y.1 p.1 y.2 p.2

-- ---- branches decided

module _ (w : TreeSurroundings by_handle IntegerAttr) where
  edge_results : (h : KitHead) (i : Option ℕ) (c : Option KitOperation) → (along_edge kit h i c).results ≡ h.results
  edge_results h None c = refl
  edge_results h (Some i) None = refl
  edge_results h (Some i) (Some c) = refl

  head_results : (h : KitHead) (rs : KitList Regions) → (decide_head kit w.alone h rs).results ≡ h.results
  head_results h rs = by_test (is_bare kit h rs && not (kit.is_plain h.content))
    where
      by_test : (b : Bool) → (if b then along_edge kit h (kit.edge h.content (map w.alone h.operands)) kit.plain else
          h).results ≡ h.results
      by_test true = edge_results h (kit.edge h.content (map w.alone h.operands)) kit.plain
      by_test false = refl

  results_decided : {s : Sort} (x : KitList s) → results_in (decide kit w.alone x) ≡ results_in x
  results_decided end = refl
  results_decided (operation h rs rest) = λ i. names_of (head_results h rs i) ++
      (results_decided rs i ++ results_decided rest i)
  results_decided (block l xs rest) = λ i. results_decided xs i ++ results_decided rest i
  results_decided (region bs rest) = λ i. results_decided bs i ++ results_decided rest i

  arguments_decided : {s : Sort} (x : KitList s) → arguments_in (decide kit w.alone x) ≡ arguments_in x
  arguments_decided end = refl
  arguments_decided (operation h rs rest) = λ i. arguments_decided rs i ++ arguments_decided rest i
  arguments_decided (block l xs rest) = λ i. names_of l.arguments ++
      (arguments_decided xs i ++ arguments_decided rest i)
  arguments_decided (region bs rest) = λ i. arguments_decided bs i ++ arguments_decided rest i

  pub decided_definers : (t : KitTree) → DefinersApart t → DefinersApart (decided kit w t)
  decided_definers t = fewer_definers t (decided kit w t) (λ v h. subst (Has v) (results_decided t.regions) h)
      (λ v h. subst (Has v) (arguments_decided t.regions) h)

-- ---- blocks cut

module _ (g : Ptr BasicBlock → Bool) (v : Value) where
  results_kept : {s : Sort} (x : KitList s) → Has v (results_in (keep g x)) → Has v (results_in x)
  results_kept end h = h
  results_kept (operation k rs rest) h =
      either_kept v (names_of k.results) (results_in (keep g rs) ++ results_in (keep g rest)) (names_of k.results)
      (results_in rs ++ results_in rest) (λ a. a)
      (either_kept v (results_in (keep g rs)) (results_in (keep g rest)) (results_in rs) (results_in rest)
      (results_kept rs) (results_kept rest)) h
  results_kept (block l xs rest) h = by_test (g l.name) h (results_kept rest)
      (either_kept v (results_in (keep g xs)) (results_in (keep g rest)) (results_in xs) (results_in rest)
      (results_kept xs) (results_kept rest))
    where
      by_test : (b : Bool) → Has v (results_in (if b then keep g rest else block l (keep g xs) (keep g rest))) →
          (Has v (results_in (keep g rest)) → Has v (results_in rest)) →
          (Has v (results_in (keep g xs) ++ results_in (keep g rest)) → Has v (results_in xs ++ results_in rest)) →
          Has v (results_in xs ++ results_in rest)
      by_test true h f k = has-right v (results_in xs) (results_in rest) (f h)
      by_test false h f k = k h
  results_kept (region bs rest) h = either_kept v (results_in (keep g bs)) (results_in (keep g rest)) (results_in bs)
      (results_in rest) (results_kept bs) (results_kept rest) h

  arguments_kept : {s : Sort} (x : KitList s) → Has v (arguments_in (keep g x)) → Has v (arguments_in x)
  arguments_kept end h = h
  arguments_kept (operation k rs rest) h = either_kept v (arguments_in (keep g rs)) (arguments_in (keep g rest))
      (arguments_in rs) (arguments_in rest) (arguments_kept rs) (arguments_kept rest) h
  arguments_kept (block l xs rest) h = by_test (g l.name) h (arguments_kept rest)
      (either_kept v (names_of l.arguments) (arguments_in (keep g xs) ++ arguments_in (keep g rest))
      (names_of l.arguments) (arguments_in xs ++ arguments_in rest) (λ a. a)
      (either_kept v (arguments_in (keep g xs)) (arguments_in (keep g rest)) (arguments_in xs) (arguments_in rest)
      (arguments_kept xs) (arguments_kept rest)))
    where
      by_test : (b : Bool) → Has v (arguments_in (if b then keep g rest else block l (keep g xs) (keep g rest))) →
          (Has v (arguments_in (keep g rest)) → Has v (arguments_in rest)) →
          (Has v (names_of l.arguments ++ (arguments_in (keep g xs) ++ arguments_in (keep g rest))) →
          Has v (names_of l.arguments ++ (arguments_in xs ++ arguments_in rest))) →
          Has v (names_of l.arguments ++ (arguments_in xs ++ arguments_in rest))
      by_test true h f k = has-right v (names_of l.arguments) (arguments_in xs ++ arguments_in rest)
          (has-right v (arguments_in xs) (arguments_in rest) (f h))
      by_test false h f k = k h
  arguments_kept (region bs rest) h = either_kept v (arguments_in (keep g bs)) (arguments_in (keep g rest))
      (arguments_in bs) (arguments_in rest) (arguments_kept bs) (arguments_kept rest) h

pub kept_definers : (g : Ptr BasicBlock → Bool) (t : KitTree) → DefinersApart t →
    DefinersApart (record { head = t.head; regions = keep g t.regions })
kept_definers g t = fewer_definers t (record { head = t.head; regions = keep g t.regions })
    (λ v h. results_kept g v t.regions h) (λ v h. arguments_kept g v t.regions h)
