-- Where paths lead in a tree, and in the tree without what goes.
use Rattle.std.proofs.Common.{◌≡◌, ◌⊎◌, ⊎_elim, inl, inr, ℕ, Bool, true, false, List, [], ◌∷◌, Option, Some, None}
use Rattle.std.proofs.Common.{refl, sym, ap, ◌∙◌}
use Rattle.std.specs.Prelude.{◌&&◌, option_and_then, option_map, if◌then◌else◌}
use Rattle.ir_names.specs.declared.interfaces.OpInterface.TheVariants as op
use Rattle.ir_names.specs.Dictionary.{attribute_at}
use Rattle.ir_trees.specs.Names.{Names}
use Rattle.ir_trees.specs.Trees.{Head, Operations, Regions, Tree, end, operation, block, region, Root}
use Rattle.opt_trees.specs.Dce.{Gone, Whole, thin, thin_head}
use Rattle.opt_trees.specs.Occurrences.{Has, Spot, OperationSite, Occurrence, inner, next_block, next_region, occurrences_in}
use Rattle.opt_trees.proofs.Lists.{some_same}
use Rattle.opt_trees.proofs.NoneDead.{has-left, has-right}
use Rattle.kit_ops.specs.declared.kinds.KitOp.{KitOp}
use Rattle.kit_ops.specs.declared.kinds.KitOp.TheVariants as ops
use Rattle.kit_ops.specs.Keys.{symbol_name}
use Rattle.kit_ops.specs.Table.{has_interface}
use Rattle.kit.specs.Meaning.{KitOperation, Entries, kit, is_function, is_module, dropped_of}
use Rattle.kit_views.specs.Reading.{kit_contents}
use Rattle.kit_ruled_views.specs.Paths.{is_name, is_function_named, is_module_named, first_with}
use Rattle.kit_ruled_views.specs.Paths.{members_in, locate}
use Rattle.kit_ruled_views.specs.Sound.{tree_of}
use Rattle.kit_ruled_views.proofs.programs.Lifted.{inside_there}

function_kind : (k : KitOp) (b : Bool) → is_function k && b ≡ true → k ≡ ops.Func
function_kind ops.Func b e = refl
function_kind ops.Module b e = absurd (cc e)
function_kind ops.Constant b e = absurd (cc e)
function_kind ops.ForwardRef b e = absurd (cc e)
function_kind (ops.Arithmetic a) b e = absurd (cc e)
function_kind (ops.Comparison a) b e = absurd (cc e)
function_kind ops.Br b e = absurd (cc e)
function_kind ops.CondBr b e = absurd (cc e)
function_kind ops.Call b e = absurd (cc e)
function_kind ops.Emit b e = absurd (cc e)
function_kind ops.Return b e = absurd (cc e)

module_kind : (k : KitOp) (b : Bool) → is_module k && b ≡ true → k ≡ ops.Module
module_kind ops.Func b e = absurd (cc e)
module_kind ops.Module b e = refl
module_kind ops.Constant b e = absurd (cc e)
module_kind ops.ForwardRef b e = absurd (cc e)
module_kind (ops.Arithmetic a) b e = absurd (cc e)
module_kind (ops.Comparison a) b e = absurd (cc e)
module_kind ops.Br b e = absurd (cc e)
module_kind ops.CondBr b e = absurd (cc e)
module_kind ops.Call b e = absurd (cc e)
module_kind ops.Emit b e = absurd (cc e)
module_kind ops.Return b e = absurd (cc e)

abbrev pub IsHolding : KitOperation → Type 0
IsHolding c = (c.kind ≡ ops.Func) ⊎ (c.kind ≡ ops.Module)

-- what holds does not branch
pub holder_no_branch : (k : KitOp) → (k ≡ ops.Func) ⊎ (k ≡ ops.Module) → has_interface k op.Branch ≡ false
holder_no_branch k e =
    ⊎_elim (λ z. ap (λ x. has_interface x op.Branch) z) (λ z. ap (λ x. has_interface x op.Branch) z) e

-- a test of functions or modules by their names, which operands don't matter to
pub record Tests (test : KitOperation → Bool) : Type 0 where
  pub holds : (c : KitOperation) → test c ≡ true → IsHolding c
  pub stable : (c : KitOperation) (p : ℕ → Bool) → test (kit.drop_operands c p) ≡ test c

module _ (numbered : List ℕ → ℕ) (n : ℕ) where
  function_stable : (k : KitOp) (p : ℕ → Bool) (es : Entries) →
      is_function k && is_name numbered n (attribute_at (dropped_of k p es) symbol_name) ≡ is_function k
      && is_name numbered n (attribute_at es symbol_name)
  function_stable ops.Func p es = refl
  function_stable ops.Module p es = refl
  function_stable ops.Constant p es = refl
  function_stable ops.ForwardRef p es = refl
  function_stable (ops.Arithmetic a) p es = refl
  function_stable (ops.Comparison a) p es = refl
  function_stable ops.Br p es = refl
  function_stable ops.CondBr p es = refl
  function_stable ops.Call p es = refl
  function_stable ops.Emit p es = refl
  function_stable ops.Return p es = refl

  module_stable : (k : KitOp) (p : ℕ → Bool) (es : Entries) →
      is_module k && is_name numbered n (attribute_at (dropped_of k p es) symbol_name) ≡ is_module k
      && is_name numbered n (attribute_at es symbol_name)
  module_stable ops.Func p es = refl
  module_stable ops.Module p es = refl
  module_stable ops.Constant p es = refl
  module_stable ops.ForwardRef p es = refl
  module_stable (ops.Arithmetic a) p es = refl
  module_stable (ops.Comparison a) p es = refl
  module_stable ops.Br p es = refl
  module_stable ops.CondBr p es = refl
  module_stable ops.Call p es = refl
  module_stable ops.Emit p es = refl
  module_stable ops.Return p es = refl

  pub function_tests : Tests (is_function_named numbered n)
  function_tests = record {
    holds = λ c e. inl (function_kind c.kind (is_name numbered n (attribute_at c.notes.attributes symbol_name)) e);
    stable = λ c p. function_stable c.kind p c.notes.attributes;
  }

  pub module_tests : Tests (is_module_named numbered n)
  module_tests = record {
    holds = λ c e. inr (module_kind c.kind (is_name numbered n (attribute_at c.notes.attributes symbol_name)) e);
    stable = λ c p. module_stable c.kind p c.notes.attributes;
  }

pub function_kind_of : (numbered : List ℕ → ℕ) (n : ℕ) (c : KitOperation) → is_function_named numbered n c ≡ true →
    c.kind ≡ ops.Func
function_kind_of numbered n c e =
    function_kind c.kind (is_name numbered n (attribute_at c.notes.attributes symbol_name)) e

pub module_kind_of : (numbered : List ℕ → ℕ) (n : ℕ) (c : KitOperation) → is_module_named numbered n c ≡ true →
    c.kind ≡ ops.Module
module_kind_of numbered n c e =
    module_kind c.kind (is_name numbered n (attribute_at c.notes.attributes symbol_name)) e

module _ {N : Names} where
  -- what is found stands there
  pub record Found (os : List (Occurrence N kit_contents)) (test : KitOperation → Bool) (k : Root N kit_contents)
      : Type 0 where
    pub it : Occurrence N kit_contents
    pub stands : Has it os
    pub is : tree_of it ≡ k
    pub tested : test it.head.content ≡ true

  first_found : (test : KitOperation → Bool) (ops : Tree N kit_contents Operations) (c : OperationSite N kit_contents)
      (k : Root N kit_contents) → first_with test ops ≡ Some k → Found (occurrences_in ops c) test k
  first_found test end c k e = absurd (cc e)
  first_found test (operation h rs rest) c k e = by_test (test h.content) refl e (first_found test rest c k)
    where
      by_test : (b : Bool) → test h.content ≡ b →
          (if b then Some (record { head = h; regions = rs }) else first_with test rest) ≡ Some k →
          (first_with test rest ≡ Some k → Found (occurrences_in rest c) test k) →
          Found (occurrences_in (operation h rs rest) c) test k
      by_test true q f ih = record {
        it = record { site = c; head = h; regions = rs };
        stands = inl refl;
        is = some_same (record { head = h; regions = rs }) k f;
        tested = q;
      }
      by_test false q f ih =
          let z = ih f in
          record {
            it = z.it;
            stands = inr (has-right z.it (occurrences_in rs (inner h c))
                (occurrences_in rest c) z.stands);
            is = z.is;
            tested = z.tested;
          }

  member_found : (test : KitOperation → Bool) (rs : Tree N kit_contents Regions) (c : Spot N kit_contents)
      (k : Root N kit_contents) → first_with test (members_in rs) ≡ Some k → Found (occurrences_in rs c) test k
  member_found test end c k e = absurd (cc e)
  member_found test (region end rest) c k e = absurd (cc e)
  member_found test (region (block l os more) rest) c k e =
      let z = first_found test os (record { spot = c; label = l }) k e in
      record {
        it = z.it;
        stands = has-left z.it (occurrences_in (block l os more) c) (occurrences_in rest (next_region c))
            (has-left z.it (occurrences_in os (record { spot = c; label = l })) (occurrences_in more (next_block c))
            z.stands);
        is = z.is;
        tested = z.tested;
      }

  -- a function that a path leads to
  pub record Located (os : List (Occurrence N kit_contents)) (k : Root N kit_contents) : Type 0 where
    pub it : Occurrence N kit_contents
    pub stands : Has it os
    pub is : tree_of it ≡ k
    pub kind : it.head.content.kind ≡ ops.Func

  pub located : (numbered : List ℕ → ℕ) (path : List ℕ) (t : Root N kit_contents) (c : Spot N kit_contents)
      (k : Root N kit_contents) → locate numbered path t ≡ Some k → Located (occurrences_in t.regions c) k
  located numbered [] t c k e = absurd (cc e)
  located numbered (x ∷ []) t c k e =
      let z = member_found (is_function_named numbered x) t.regions c k e in
      record {
        it = z.it;
        stands = z.stands;
        is = z.is;
        kind = function_kind z.it.head.content.kind
            (is_name numbered x (attribute_at z.it.head.content.notes.attributes symbol_name)) z.tested;
      }
  located numbered (x ∷ y ∷ path) t c k e =
      by_module (first_with (is_module_named numbered x) (members_in t.regions)) refl e
      (λ m a. located numbered (y ∷ path) m a k)
    where
      by_module : (o : Option (Root N kit_contents)) → first_with (is_module_named numbered x) (members_in t.regions)
          ≡ o →
          option_and_then (locate numbered (y ∷ path)) o ≡ Some k →
          ((m : Root N kit_contents) (a : Spot N kit_contents) → locate numbered (y ∷ path) m ≡ Some k →
          Located (occurrences_in m.regions a) k) → Located (occurrences_in t.regions c) k
      by_module None q f ih = absurd (cc f)
      by_module (Some m) q f ih =
          let z = member_found (is_module_named numbered x) t.regions c m q in
          let s = ih (tree_of z.it) (inner z.it.head z.it.site) (ap (locate numbered (y ∷ path)) z.is ∙ f) in
          record {
            it = s.it;
            stands = inside_there t.regions c z.it s.it z.stands s.stands;
            is = s.is;
            kind = s.kind;
          }

  -- paths do not look at the head of the module
  pub heads_aside : (numbered : List ℕ → ℕ) (path : List ℕ) (h g : Head N kit_contents)
      (rs : Tree N kit_contents Regions) → locate numbered path (record { head = h; regions = rs }) ≡ locate numbered
      path
      (record { head = g; regions = rs })
  heads_aside numbered [] h g rs = refl
  heads_aside numbered (x ∷ []) h g rs = refl
  heads_aside numbered (x ∷ y ∷ path) h g rs = refl

  module _ (gone : Gone N) where
    -- an operation without what goes
    abbrev pub thin_root : Root N kit_contents → Root N kit_contents
    thin_root t = record { head = thin_head kit gone t.head; regions = thin kit gone t.regions }

    -- modules and functions stay
    abbrev pub HoldersStay : List (Occurrence N kit_contents) → Type 0
    HoldersStay os = (o : Occurrence N kit_contents) → Has o os → IsHolding o.head.content →
        gone.item (Whole o.head.name) ≡ false

    first_thinned : (test : KitOperation → Bool) → Tests test → (os : Tree N kit_contents Operations)
        (c : OperationSite N kit_contents) → HoldersStay (occurrences_in os c) →
        first_with test (thin kit gone os) ≡ option_map thin_root (first_with test os)
    first_thinned test law end c stay = refl
    first_thinned test law (operation h rs rest) c stay =
        by_item (gone.item (Whole h.name)) refl (test h.content) refl
        (first_thinned test law rest c (λ o i. stay o (inr (has-right o
        (occurrences_in rs (inner h c)) (occurrences_in rest c) i))))
      where
        left : Tree N kit_contents Operations
        left = thin kit gone rest

        by_item : (b : Bool) → gone.item (Whole h.name) ≡ b → (q : Bool) → test h.content ≡ q →
            first_with test left ≡ option_map thin_root (first_with test rest) →
            first_with test (if b then left else operation (thin_head kit gone h) (thin kit gone rs) left) ≡ option_map
            thin_root (if q then Some (record { head = h; regions = rs }) else first_with test rest)
        by_item true e true f ih =
            let bad : true ≡ false = sym e ∙ stay (record { site = c; head = h; regions = rs }) (inl refl)
            (law.holds h.content f) in absurd (cc bad)
        by_item true e false f ih = ih
        by_item false e q f ih =
            ap (λ b. if b then Some (record { head = thin_head kit gone h; regions = thin kit gone rs })
            else first_with test left) (law.stable h.content (gone.operand h.name) ∙ f) ∙ by_test q ih
          where
            by_test : (q : Bool) → first_with test left ≡ option_map thin_root (first_with test rest) →
                (if q then Some (record { head = thin_head kit gone h; regions = thin kit gone rs })
                else first_with test left) ≡ option_map thin_root
                (if q then Some (record { head = h; regions = rs }) else first_with test rest)
            by_test true z = refl
            by_test false z = z

    members_thinned : (test : KitOperation → Bool) → Tests test → (rs : Tree N kit_contents Regions)
        (c : Spot N kit_contents) → HoldersStay (occurrences_in rs c) →
        first_with test (members_in (thin kit gone rs)) ≡ option_map thin_root (first_with test (members_in rs))
    members_thinned test law end c stay = refl
    members_thinned test law (region end rest) c stay = refl
    members_thinned test law (region (block l os more) rest) c stay =
        first_thinned test law os (record { spot = c; label = l })
        (λ o i. stay o (has-left o (occurrences_in (block l os more) c) (occurrences_in rest (next_region c))
        (has-left o (occurrences_in os (record { spot = c; label = l })) (occurrences_in more (next_block c)) i)))

    -- a path leads to what is left of what it led to
    pub locate_thinned : (numbered : List ℕ → ℕ) (path : List ℕ) (t : Root N kit_contents) (c : Spot N kit_contents) →
        HoldersStay (occurrences_in t.regions c) →
        locate numbered path (thin_root t) ≡ option_map thin_root (locate numbered path t)
    locate_thinned numbered [] t c stay = refl
    locate_thinned numbered (x ∷ []) t c stay =
        members_thinned (is_function_named numbered x) (function_tests numbered x) t.regions c stay
    locate_thinned numbered (x ∷ y ∷ path) t c stay =
        ap (option_and_then (locate numbered (y ∷ path)))
        (members_thinned (is_module_named numbered x) (module_tests numbered x) t.regions c stay)
        ∙ by_module (first_with (is_module_named numbered x) (members_in t.regions)) refl
        (λ m a. locate_thinned numbered (y ∷ path) m a)
      where
        by_module : (o : Option (Root N kit_contents)) → first_with (is_module_named numbered x) (members_in
            t.regions) ≡ o →
            ((m : Root N kit_contents) (a : Spot N kit_contents) → HoldersStay (occurrences_in m.regions a) →
            locate numbered (y ∷ path) (thin_root m) ≡ option_map thin_root (locate numbered (y ∷ path) m)) →
            option_and_then (locate numbered (y ∷ path)) (option_map thin_root o) ≡ option_map thin_root
            (option_and_then (locate numbered (y ∷ path)) o)
        by_module None q ih = refl
        by_module (Some m) q ih =
            let z = member_found (is_module_named numbered x) t.regions c m q in
            ap (λ k. locate numbered (y ∷ path) (thin_root k)) (sym z.is)
            ∙ ih (tree_of z.it) (inner z.it.head z.it.site)
            (λ o i. stay o (inside_there t.regions c z.it o z.stands i))
            ∙ ap (λ k. option_map thin_root (locate numbered (y ∷ path) k)) z.is
