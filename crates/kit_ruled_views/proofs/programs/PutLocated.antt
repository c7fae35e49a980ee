-- Where paths lead in a tree with constants put in, and under other names.
use Rattle.std.proofs.Common.{◌≡◌, inl, inr, ℕ, Bool, true, false, List, [], ◌∷◌, Option, Some, None}
use Rattle.std.proofs.Common.{refl, sym, ap, ◌∙◌}
use Rattle.std.specs.Prelude.{option_and_then, option_map, if◌then◌else◌}
use Rattle.ir_base.specs.declared.types.TypeHandle.{TypeHandle}
use Rattle.ir_trees.specs.Names.{Names}
use Rattle.ir_trees.specs.Renames.{Maps, rename_head, rename, rename_root}
use Rattle.ir_trees.specs.Trees.{Defined, Operations, Regions, Tree, end, operation, block, region, Root}
use Rattle.opt_trees.specs.Facts.{Facts, EntriesRun, IsClosed}
use Rattle.opt_trees.specs.Occurrences.{Has, Spot, OperationSite, Occurrence, inner, next_block, next_region, occurrences_in}
use Rattle.opt_trees.specs.Occurrences.{occurrences_of, at_root}
use Rattle.opt_trees.specs.Sccp.{fresh, put_one, put_results, put_arguments, old_head, put, put_root}
use Rattle.opt_trees.proofs.Lists.{some_same}
use Rattle.opt_trees.proofs.NoneDead.{has-left, has-right}
use Rattle.kit_ops.specs.declared.attributes.IntegerAttr.{IntegerAttr}
use Rattle.kit_ops.specs.declared.kinds.KitOp.TheVariants as ops
use Rattle.kit.specs.Meaning.{KitOperation, kit}
use Rattle.kit_views.specs.Reading.{kit_contents}
use Rattle.kit_ruled_views.specs.Paths.{is_function_named, is_module_named, first_with, members_in, locate}
use Rattle.kit_ruled_views.specs.Sound.{tree_of}
use Rattle.kit_ruled_views.proofs.programs.Lifted.{inside_there}
use Rattle.kit_ruled_views.proofs.programs.Located.{function_kind_of}

-- a test that no constant passes
abbrev NoConstant : (KitOperation → Bool) → Type 0
NoConstant test = (a : IntegerAttr) (c : KitOperation) → kit.constant a ≡ Some c → test c ≡ false

function_none : (numbered : List ℕ → ℕ) (n : ℕ) → NoConstant (is_function_named numbered n)
function_none numbered n a c e = ap (is_function_named numbered n) (sym (some_same _ c e))

module_none : (numbered : List ℕ → ℕ) (n : ℕ) → NoConstant (is_module_named numbered n)
module_none numbered n a c e = ap (is_module_named numbered n) (sym (some_same _ c e))

skip : {A : Type 0} (b : Bool) → b ≡ false → (x y : A) → (if b then x else y) ≡ y
skip true e x y = absurd (cc e)
skip false e x y = refl

module _ {N : Names} (made : N.value → Option IntegerAttr) where
  abbrev pub old_root : Root N kit_contents → Root (fresh N) kit_contents
  old_root t = put_root {N = N} kit made t

  one_skipped : (test : KitOperation → Bool) → NoConstant test → (v : N.value) (o : Option IntegerAttr)
      (x : Tree (fresh N) kit_contents Operations) →
      first_with {N = fresh N} test (put_one {N = N} kit v o x) ≡ first_with {N = fresh N} test x
  one_skipped test none v None x = refl
  one_skipped test none v (Some a) x = skip _ (none a _ refl) _ _

  results_skipped : (test : KitOperation → Bool) → NoConstant test → (ds : List (Defined N.value TypeHandle))
      (x : Tree (fresh N) kit_contents Operations) →
      first_with {N = fresh N} test (put_results {N = N} kit made ds x) ≡ first_with {N = fresh N} test x
  results_skipped test none [] x = refl
  results_skipped test none (d ∷ ds) x =
      one_skipped test none d.name (made d.name) (put_results {N = N} kit made ds x) ∙ results_skipped test none ds x

  arguments_skipped : (test : KitOperation → Bool) → NoConstant test → (ds : List (Defined N.value TypeHandle))
      (x : Tree (fresh N) kit_contents Operations) →
      first_with {N = fresh N} test (put_arguments {N = N} kit made ds x) ≡ first_with {N = fresh N} test x
  arguments_skipped test none [] x = refl
  arguments_skipped test none (d ∷ ds) x =
      arguments_skipped test none ds (put_one {N = N} kit d.name (made d.name) x)
      ∙ one_skipped test none d.name (made d.name) x

  first_put : (test : KitOperation → Bool) → NoConstant test → (os : Tree N kit_contents Operations) →
      first_with {N = fresh N} test (put {N = N} kit made os) ≡ option_map old_root (first_with test os)
  first_put test none end = refl
  first_put test none (operation h rs rest) =
      results_skipped test none h.results (operation (old_head {N = N} made h) (put {N = N} kit made rs)
      (put {N = N} kit made rest))
      ∙ by_test (test h.content) (first_put test none rest)
    where
      by_test : (b : Bool) → first_with {N = fresh N} test (put {N = N} kit made rest) ≡ option_map old_root
          (first_with test rest) →
          (if b then Some (record { head = old_head {N = N} made h; regions = put {N = N} kit made rs })
          else first_with {N = fresh N} test (put {N = N} kit made rest)) ≡ option_map old_root
          (if b then Some (record { head = h; regions = rs }) else first_with test rest)
      by_test true e = refl
      by_test false e = e

  members_put : (test : KitOperation → Bool) → NoConstant test → (rs : Tree N kit_contents Regions) →
      first_with {N = fresh N} test (members_in {N = fresh N} (put {N = N} kit made rs)) ≡ option_map old_root
      (first_with test (members_in rs))
  members_put test none end = refl
  members_put test none (region end rest) = refl
  members_put test none (region (block l os more) rest) =
      arguments_skipped test none l.arguments (put {N = N} kit made os) ∙ first_put test none os

  pub locate_put : (numbered : List ℕ → ℕ) (path : List ℕ) (t : Root N kit_contents) →
      locate {N = fresh N} numbered path (old_root t) ≡ option_map old_root (locate numbered path t)
  locate_put numbered [] t = refl
  locate_put numbered (x ∷ []) t = members_put (is_function_named numbered x) (function_none numbered x) t.regions
  locate_put numbered (x ∷ y ∷ path) t =
      ap (option_and_then (locate {N = fresh N} numbered (y ∷ path)))
      (members_put (is_module_named numbered x) (module_none numbered x) t.regions)
      ∙ by_module (first_with (is_module_named numbered x) (members_in t.regions)) (λ m. locate_put numbered (y ∷
      path) m)
    where
      by_module : (o : Option (Root N kit_contents)) → ((m : Root N kit_contents) →
          locate {N = fresh N} numbered (y ∷ path) (old_root m) ≡ option_map old_root (locate numbered (y ∷ path) m)) →
          option_and_then (locate {N = fresh N} numbered (y ∷ path)) (option_map old_root o) ≡ option_map old_root
          (option_and_then (locate numbered (y ∷ path)) o)
      by_module None ih = refl
      by_module (Some m) ih = ih m

module _ {N M : Names} (m : Maps N M) where
  abbrev renamed : Root N kit_contents → Root M kit_contents
  renamed = rename_root {S = kit_contents} m

  first_renamed : (test : KitOperation → Bool) (os : Tree N kit_contents Operations) →
      first_with {N = M} test (rename {S = kit_contents} m os) ≡ option_map renamed (first_with test os)
  first_renamed test end = refl
  first_renamed test (operation h rs rest) = by_test (test h.content) (first_renamed test rest)
    where
      by_test : (b : Bool) → first_with {N = M} test (rename {S = kit_contents} m rest) ≡ option_map renamed
          (first_with test rest) →
          (if b then Some (record {
            head = rename_head {S = kit_contents} m h;
            regions = rename {S = kit_contents} m
                rs;
          })
          else first_with {N = M} test (rename {S = kit_contents} m rest)) ≡ option_map renamed
          (if b then Some (record { head = h; regions = rs }) else first_with test rest)
      by_test true e = refl
      by_test false e = e

  members_renamed : (test : KitOperation → Bool) (rs : Tree N kit_contents Regions) →
      first_with {N = M} test (members_in {N = M} (rename {S = kit_contents} m rs)) ≡ option_map renamed
      (first_with test (members_in rs))
  members_renamed test end = refl
  members_renamed test (region end rest) = refl
  members_renamed test (region (block l os more) rest) = first_renamed test os

  pub locate_renamed : (numbered : List ℕ → ℕ) (path : List ℕ) (t : Root N kit_contents) →
      locate {N = M} numbered path (renamed t) ≡ option_map renamed (locate numbered path t)
  locate_renamed numbered [] t = refl
  locate_renamed numbered (x ∷ []) t = members_renamed (is_function_named numbered x) t.regions
  locate_renamed numbered (x ∷ y ∷ path) t =
      ap (option_and_then (locate {N = M} numbered (y ∷ path))) (members_renamed (is_module_named numbered x) t.regions)
      ∙ by_module (first_with (is_module_named numbered x) (members_in t.regions))
      (λ k. locate_renamed numbered (y ∷ path) k)
    where
      by_module : (o : Option (Root N kit_contents)) → ((k : Root N kit_contents) →
          locate {N = M} numbered (y ∷ path) (renamed k) ≡ option_map renamed (locate numbered (y ∷ path) k)) →
          option_and_then (locate {N = M} numbered (y ∷ path)) (option_map renamed o) ≡ option_map renamed
          (option_and_then (locate numbered (y ∷ path)) o)
      by_module None ih = refl
      by_module (Some k) ih = ih k

-- a function that a path leads to stands in a block that is known to run
module _ {N : Names} (t : Root N kit_contents) (k : Facts N IntegerAttr) (closed : IsClosed kit t k) where
  pub record Running (test : KitOperation → Bool) (v : Root N kit_contents) : Type 0 where
    pub it : Occurrence N kit_contents
    pub stands : Has it (occurrences_of t)
    pub is : tree_of it ≡ v
    pub tested : test it.head.content ≡ true
    pub runs : k.runs it.site.label.name ≡ true

  first_running : (test : KitOperation → Bool) (os : Tree N kit_contents Operations) (c : OperationSite N kit_contents)
      (v : Root N kit_contents) →
      ((q : Occurrence N kit_contents) → Has q (occurrences_in os c) → Has q (occurrences_of t)) →
      k.runs c.label.name ≡ true → first_with test os ≡ Some v → Running test v
  first_running test end c v sub r e = absurd (cc e)
  first_running test (operation h rs rest) c v sub r e =
      by_test (test h.content) refl e
      (first_running test rest c v
      (λ q i. sub q (inr (has-right q (occurrences_in rs (inner h c)) (occurrences_in rest c) i))) r)
    where
      by_test : (b : Bool) → test h.content ≡ b →
          (if b then Some (record { head = h; regions = rs }) else first_with test rest) ≡ Some v →
          (first_with test rest ≡ Some v → Running test v) → Running test v
      by_test true q f ih = record {
        it = record { site = c; head = h; regions = rs };
        stands = sub (record { site = c; head = h; regions = rs }) (inl refl);
        is = some_same (record { head = h; regions = rs }) v f;
        tested = q;
        runs = r;
      }
      by_test false q f ih = ih f

  member_running : (test : KitOperation → Bool) (rs : Tree N kit_contents Regions) (c : Spot N kit_contents)
      (v : Root N kit_contents) →
      ((q : Occurrence N kit_contents) → Has q (occurrences_in rs c) → Has q (occurrences_of t)) → EntriesRun k rs →
      first_with test (members_in rs) ≡ Some v → Running test v
  member_running test end c v sub r e = absurd (cc e)
  member_running test (region end rest) c v sub r e = absurd (cc e)
  member_running test (region (block l os more) rest) c v sub r e =
      first_running test os (record { spot = c; label = l }) v
      (λ q i. sub q (has-left q (occurrences_in (block l os more) c) (occurrences_in rest (next_region c))
      (has-left q (occurrences_in os (record { spot = c; label = l })) (occurrences_in more (next_block c)) i)))
      r.0.0 e

  pub record RunningFunction (v : Root N kit_contents) : Type 0 where
    pub it : Occurrence N kit_contents
    pub stands : Has it (occurrences_of t)
    pub is : tree_of it ≡ v
    pub kind : it.head.content.kind ≡ ops.Func
    pub runs : k.runs it.site.label.name ≡ true

  pub running : (numbered : List ℕ → ℕ) (path : List ℕ) (m : Root N kit_contents) (c : Spot N kit_contents)
      (v : Root N kit_contents) →
      ((q : Occurrence N kit_contents) → Has q (occurrences_in m.regions c) → Has q (occurrences_of t)) →
      EntriesRun k m.regions → locate numbered path m ≡ Some v → RunningFunction v
  running numbered [] m c v sub r e = absurd (cc e)
  running numbered (x ∷ []) m c v sub r e =
      let z = member_running (is_function_named numbered x) m.regions c v sub r e in
      record {
        it = z.it;
        stands = z.stands;
        is = z.is;
        kind = function_kind_of numbered x z.it.head.content z.tested;
        runs = z.runs;
      }
  running numbered (x ∷ y ∷ path) m c v sub r e =
      by_module (first_with (is_module_named numbered x) (members_in m.regions)) refl e
      (λ n d. running numbered (y ∷ path) n d v)
    where
      by_module : (o : Option (Root N kit_contents)) → first_with (is_module_named numbered x) (members_in m.regions)
          ≡ o →
          option_and_then (locate numbered (y ∷ path)) o ≡ Some v →
          ((n : Root N kit_contents) (d : Spot N kit_contents) →
          ((q : Occurrence N kit_contents) → Has q (occurrences_in n.regions d) → Has q (occurrences_of t)) →
          EntriesRun k n.regions → locate numbered (y ∷ path) n ≡ Some v → RunningFunction v) → RunningFunction v
      by_module None q f ih = absurd (cc f)
      by_module (Some n) q f ih =
          let z = member_running (is_module_named numbered x) m.regions c n sub r q in
          ih (tree_of z.it) (inner z.it.head z.it.site)
          (λ p i. inside_there t.regions (at_root t) z.it p z.stands i)
          (closed.inside z.it z.stands z.runs).entries (ap (locate numbered (y ∷ path)) z.is ∙ f)
