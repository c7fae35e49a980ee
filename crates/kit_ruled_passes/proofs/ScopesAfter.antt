-- What operations name in what the phases of simplifying control flow leave of a tree.
use Rattle.std.proofs.Common.{◌≡◌, ◌⊎◌, inl, inr, ⊎_elim, ℕ, Bool, true, false, List, [], ◌∷◌, ◌++◌, map, Option, Some}
use Rattle.std.proofs.Common.{None}
use Rattle.std.proofs.Common.{slice_get, refl, sym, ap, ◌∙◌, subst}
use Rattle.std.specs.Prelude.{not, ◌&&◌, if◌then◌else◌}
use Rattle.ir_program.specs.declared.handles.BasicBlock.{BasicBlock}
use Rattle.ir_program.specs.declared.handles.Ptr.{Ptr}
use Rattle.ir_program.specs.declared.handles.Value.{Value}
use Rattle.ir_trees.specs.Renames.{Maps, names_of, rename, rename_defined}
use Rattle.ir_trees.specs.Stands.{by_handle, in_program, ProgramHead}
use Rattle.ir_trees.specs.Trees.{Sort, Operations, Blocks, Regions, Defined, end, operation, block, region}
use Rattle.ir_base.specs.declared.types.TypeHandle.{TypeHandle}
use Rattle.opt_trees.specs.Occurrences.{Has, BlockOccurrence, Inside, inner, next_block, next_region}
use Rattle.opt_trees.specs.Occurrences.{block_occurrences_in, defined_in, cons_if, picks}
use Rattle.opt_trees.specs.Simplify.{is_bare, along_edge, decide_head, decide, keep}
use Rattle.opt_trees.proofs.Lists.{names-map}
use Rattle.opt_trees.proofs.NoneDead.{has-left, has-right}
use Rattle.kit.specs.Meaning.{KitOperation, KitBlock, kit}
use Rattle.kit_ops.specs.declared.attributes.IntegerAttr.{IntegerAttr}
use Rattle.kit_views.proofs.Lists.{has_get}
use Rattle.kit_ruled_passes.specs.Scopes.{Part, KitLabel, IsResultHere, IsOfBlock, IsOfEntry, IsNone, Scoped}
use Rattle.kit_ruled_passes.proofs.Scopes.{scoped_more}

-- ---- decided branches

pub picks_has : {X : Type 0} (xs : List X) (is : List ℕ) (x : X) → Has x (picks xs is) → Has x xs
picks_has xs [] x has = absurd has
picks_has {X} xs (i ∷ is) x has = go (slice_get xs i) refl has (λ more. picks_has xs is x more)
  where
    go : (o : Option X) → slice_get xs i ≡ o → Has x (cons_if o (picks xs is)) → (Has x (picks xs is) → Has x xs)
        → Has x xs
    go None at h later = later h
    go (Some y) at h later = ⊎_elim (λ e. has_get xs i x (at ∙ ap Some (sym e))) later h

module _ (alone : Value → Option IntegerAttr) where
  -- a branch that is decided has its results, and of its operands no other
  abbrev IsLess : ProgramHead KitOperation KitBlock → ProgramHead KitOperation KitBlock → Type 0
  IsLess h g = (names_of g.results ≡ names_of h.results) × ((x : Value) → Has x g.operands → Has x h.operands)

  along_less : (h : ProgramHead KitOperation KitBlock) (o : Option ℕ) (q : Option KitOperation)
      → IsLess h (along_edge kit h o q)
  along_less h None q = (refl, λ x i. i)
  along_less h (Some i) None = (refl, λ x j. j)
  along_less h (Some i) (Some c) =
      (refl, λ x j. picks_has h.operands (kit.forwards h.content _ i) x j)

  head_less : (h : ProgramHead KitOperation KitBlock) (rs : Part Regions) → IsLess h (decide_head kit alone h rs)
  head_less h rs = go (is_bare kit h rs && not (kit.is_plain h.content))
    where
      go : (b : Bool)
          → IsLess h (if b then along_edge kit h (kit.edge h.content (map alone h.operands)) kit.plain else h)
      go true = along_less h (kit.edge h.content (map alone h.operands)) kit.plain
      go false = (refl, λ x i. i)

  result_decided : (os : Part Operations) (x : Value) → IsResultHere os x → IsResultHere (decide kit alone os) x
  result_decided end x has = has
  result_decided (operation h rs rest) x has = ⊎_elim
      (λ i. inl (subst (Has x) (sym (head_less h rs).0) i))
      (λ i. inr (result_decided rest x i))
      has

  of_block_decided : (l : KitLabel) (os : Part Operations) (x : Value) → IsOfBlock l os x
      → IsOfBlock l (decide kit alone os) x
  of_block_decided l os x has = ⊎_elim (λ i. inl i) (λ i. inr (result_decided os x i)) has

  of_entry_decided : (bs : Part Blocks) (x : Value) → IsOfEntry bs x → IsOfEntry (decide kit alone bs) x
  of_entry_decided end x has = has
  of_entry_decided (block l os rest) x has = of_block_decided l os x has

  pub scoped_decided : {s : Sort} (t : Part s) (P : Value → Type 0) → Scoped t P → Scoped (decide kit alone t) P
  scoped_decided end P q = tt
  scoped_decided (operation h rs rest) P q =
      (λ x i. q.0 x ((head_less h rs).1 x i), scoped_decided rs IsNone q.1, scoped_decided rest P q.2)
  scoped_decided (block l os rest) P q = (
    scoped_more (decide kit alone os) (λ x. IsOfBlock l os x ⊎ P x) (λ x. IsOfBlock l (decide kit alone os) x ⊎ P x)
        (λ x. ⊎_elim (λ y. inl (of_block_decided l os x y)) (λ y. inr y))
        (scoped_decided os (λ x. IsOfBlock l os x ⊎ P x) q.0),
    scoped_decided rest P q.1,
  )
  scoped_decided (region bs rest) P q = (
    scoped_more (decide kit alone bs) (IsOfEntry bs) (IsOfEntry (decide kit alone bs)) (of_entry_decided bs)
        (scoped_decided bs (IsOfEntry bs) q.0),
    scoped_decided rest P q.1,
  )

  pub defined_decided : {s : Sort} (t : Part s) → defined_in (decide kit alone t) ≡ defined_in t
  defined_decided end = refl
  defined_decided (operation h rs rest) = λ i. (head_less h rs).0 i ++ (defined_decided rs i ++ defined_decided rest i)
  defined_decided (block l os rest) = λ i. names_of l.arguments ++ (defined_decided os i ++ defined_decided rest i)
  defined_decided (region bs rest) = λ i. defined_decided bs i ++ defined_decided rest i

-- ---- other names of operations

pub map_same : {X : Type 0} (f : X → X) → ((x : X) → f x ≡ x) → (xs : List X) → map f xs ≡ xs
map_same f same [] = refl
map_same f same (x ∷ xs) = λ i. same x i ∷ map_same f same xs i

module _ (m : Maps by_handle by_handle) (values : (v : Value) → m.value v ≡ v)
    (blocks : (b : Ptr BasicBlock) → m.block b ≡ b) where
  names_same : (ds : List (Defined Value TypeHandle)) → names_of (map (rename_defined m.value) ds) ≡ names_of ds
  names_same ds = names-map m.value ds ∙ map_same m.value values (names_of ds)

  result_renamed : (os : Part Operations) (x : Value) → IsResultHere os x → IsResultHere (rename m os) x
  result_renamed end x has = has
  result_renamed (operation h rs rest) x has = ⊎_elim
      (λ i. inl (subst (Has x) (sym (names_same h.results)) i))
      (λ i. inr (result_renamed rest x i))
      has

  of_block_renamed : (l : KitLabel) (os : Part Operations) (x : Value) → IsOfBlock l os x
      → Has x (names_of (map (rename_defined m.value) l.arguments)) ⊎ IsResultHere (rename m os) x
  of_block_renamed l os x has = ⊎_elim
      (λ i. inl (subst (Has x) (sym (names_same l.arguments)) i))
      (λ i. inr (result_renamed os x i))
      has

  of_entry_renamed : (bs : Part Blocks) (x : Value) → IsOfEntry bs x → IsOfEntry (rename m bs) x
  of_entry_renamed end x has = has
  of_entry_renamed (block l os rest) x has = of_block_renamed l os x has

  pub scoped_renamed : {s : Sort} (t : Part s) (P : Value → Type 0) → Scoped t P → Scoped (rename m t) P
  scoped_renamed end P q = tt
  scoped_renamed (operation h rs rest) P q = (
    λ x i. q.0 x (subst (Has x) (map_same m.value values h.operands) i),
    scoped_renamed rs IsNone q.1,
    scoped_renamed rest P q.2,
  )
  scoped_renamed (block l os rest) P q = (
    scoped_more (rename m os) (λ x. IsOfBlock l os x ⊎ P x)
        (λ x. (Has x (names_of (map (rename_defined m.value) l.arguments)) ⊎ IsResultHere (rename m os) x) ⊎ P x)
        (λ x. ⊎_elim (λ y. inl (of_block_renamed l os x y)) (λ y. inr y))
        (scoped_renamed os (λ x. IsOfBlock l os x ⊎ P x) q.0),
    scoped_renamed rest P q.1,
  )
  scoped_renamed (region bs rest) P q = (
    scoped_more (rename m bs) (IsOfEntry bs) (IsOfEntry (rename m bs)) (of_entry_renamed bs)
        (scoped_renamed bs (IsOfEntry bs) q.0),
    scoped_renamed rest P q.1,
  )

  pub defined_renamed : {s : Sort} (t : Part s) → defined_in (rename m t) ≡ defined_in t
  defined_renamed end = refl
  defined_renamed (operation h rs rest) = λ i.
      names_same h.results i ++ (defined_renamed rs i ++ defined_renamed rest i)
  defined_renamed (block l os rest) = λ i. names_same l.arguments i ++ (defined_renamed os i ++ defined_renamed rest i)
  defined_renamed (region bs rest) = λ i. defined_renamed bs i ++ defined_renamed rest i

-- ---- blocks that go

module _ (g : Ptr BasicBlock → Bool) where
  -- no entry block goes
  abbrev pub EntryStays : Part Blocks → Type 0
  EntryStays end = Unit {0}
  EntryStays (block l os rest) = g l.name ≡ false

  abbrev pub EntriesStay : {s : Sort} → Part s → Type 0
  EntriesStay end = Unit {0}
  EntriesStay (operation h rs rest) = EntriesStay rs × EntriesStay rest
  EntriesStay (block l os rest) = EntriesStay os × EntriesStay rest
  EntriesStay (region bs rest) = EntryStays bs × EntriesStay bs × EntriesStay rest

  -- regions are read from their start
  abbrev pub IsStart : (s : Sort) → Inside by_handle (in_program KitOperation KitBlock) s → Type 0
  IsStart Operations c = Unit {0}
  IsStart Blocks c = Unit {0}
  IsStart Regions c = c.first ≡ true

  abbrev pub Firsts : Type 0
  Firsts = List (BlockOccurrence by_handle (in_program KitOperation KitBlock))

  abbrev NoneGoes : Firsts → Type 0
  NoneGoes ys = (y : BlockOccurrence by_handle (in_program KitOperation KitBlock)) → Has y ys → y.spot.first ≡ true
      → g y.label.name ≡ false

  pub entries_stay : {s : Sort} (t : Part s) (c : Inside by_handle (in_program KitOperation KitBlock) s) → IsStart s c
      → NoneGoes (block_occurrences_in t c) → EntriesStay t
  entries_stay end c start none = tt
  entries_stay (operation h rs rest) c start none = (
    entries_stay rs (inner h c) refl (λ y i. none y (has-left y (block_occurrences_in rs (inner h c))
        (block_occurrences_in rest c) i)),
    entries_stay rest c tt (λ y i. none y (has-right y (block_occurrences_in rs (inner h c))
        (block_occurrences_in rest c) i)),
  )
  entries_stay (block l os rest) c start none = (
    entries_stay os (record { spot = c; label = l }) tt (λ y i. none y (inr (has-left y
        (block_occurrences_in os (record { spot = c; label = l })) (block_occurrences_in rest (next_block c)) i))),
    entries_stay rest (next_block c) tt (λ y i. none y (inr (has-right y
        (block_occurrences_in os (record { spot = c; label = l })) (block_occurrences_in rest (next_block c)) i))),
  )
  entries_stay (region bs rest) c start none = (
    of_first bs (λ y i. none y (has-left y (block_occurrences_in bs c) (block_occurrences_in rest (next_region c)) i)),
    entries_stay bs c tt (λ y i. none y (has-left y (block_occurrences_in bs c)
        (block_occurrences_in rest (next_region c)) i)),
    entries_stay rest (next_region c) start (λ y i. none y (has-right y (block_occurrences_in bs c)
        (block_occurrences_in rest (next_region c)) i)),
  )
    where
      of_first : (xs : Part Blocks) → NoneGoes (block_occurrences_in xs c) → EntryStays xs
      of_first end none = tt
      of_first (block l os later) none = none (record { spot = c; label = l; operations = os }) (inl refl) start

  result_kept : (os : Part Operations) (x : Value) → IsResultHere os x → IsResultHere (keep g os) x
  result_kept end x has = has
  result_kept (operation h rs rest) x has = ⊎_elim (λ i. inl i) (λ i. inr (result_kept rest x i)) has

  of_block_kept : (l : KitLabel) (os : Part Operations) (x : Value) → IsOfBlock l os x → IsOfBlock l (keep g os) x
  of_block_kept l os x has = ⊎_elim (λ i. inl i) (λ i. inr (result_kept os x i)) has

  of_entry_kept : (bs : Part Blocks) → EntryStays bs → (x : Value) → IsOfEntry bs x → IsOfEntry (keep g bs) x
  of_entry_kept end stays x has = has
  of_entry_kept (block l os rest) stays x has =
      subst (λ (b : Bool). IsOfEntry (if b then keep g rest else block l (keep g os) (keep g rest)) x) (sym stays)
      (of_block_kept l os x has)

  pub scoped_kept : {s : Sort} (t : Part s) (P : Value → Type 0) → EntriesStay t → Scoped t P → Scoped (keep g t) P
  scoped_kept end P stay q = tt
  scoped_kept (operation h rs rest) P stay q =
      (q.0, scoped_kept rs IsNone stay.0 q.1, scoped_kept rest P stay.1 q.2)
  scoped_kept (block l os rest) P stay q = go (g l.name)
      (scoped_more (keep g os) (λ x. IsOfBlock l os x ⊎ P x) (λ x. IsOfBlock l (keep g os) x ⊎ P x)
      (λ x. ⊎_elim (λ y. inl (of_block_kept l os x y)) (λ y. inr y))
      (scoped_kept os (λ x. IsOfBlock l os x ⊎ P x) stay.0 q.0))
      (scoped_kept rest P stay.1 q.1)
    where
      go : (b : Bool) → Scoped (keep g os) (λ x. IsOfBlock l (keep g os) x ⊎ P x) → Scoped (keep g rest) P
          → Scoped (if b then keep g rest else block l (keep g os) (keep g rest)) P
      go true own later = later
      go false own later = (own, later)
  scoped_kept (region bs rest) P stay q = (
    scoped_more (keep g bs) (IsOfEntry bs) (IsOfEntry (keep g bs)) (of_entry_kept bs stay.0)
        (scoped_kept bs (IsOfEntry bs) stay.1 q.0),
    scoped_kept rest P stay.2 q.1,
  )
