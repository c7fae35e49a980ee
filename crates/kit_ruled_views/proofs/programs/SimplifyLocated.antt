-- Where paths lead in the tree of a module, and in the tree whose control flow is simplified.
use Rattle.std.proofs.Common.{◌≡◌, ◌⊎◌, ⊎_elim, inl, inr, ℕ, Bool, true, false, List, [], ◌∷◌, ◌++◌, Option, Some, None}
use Rattle.std.proofs.Common.{refl, sym, ap, ◌∙◌, subst}
use Rattle.std.specs.Prelude.{not, ◌&&◌, if◌then◌else◌, map, option_and_then}
use Rattle.ir_base.specs.declared.types.TypeHandle.{TypeHandle}
use Rattle.ir_trees.specs.Names.{Names}
use Rattle.ir_trees.specs.Trees.{Head, Label, Sort, Operations, Blocks, Regions, Tree, end, operation, block, region}
use Rattle.ir_trees.specs.Trees.{Root}
use Rattle.opt_trees.specs.Dce.{TreeSurroundings}
use Rattle.opt_trees.specs.Occurrences.{Has, Spot, OperationSite, Occurrence, BlockOccurrence, inner, occurrences_of}
use Rattle.opt_trees.specs.Occurrences.{block_occurrences_of, at_root}
use Rattle.opt_trees.specs.Simplify.{is_empty, is_end, is_bare, along_edge, decide_head, decide, decided, IsReached}
use Rattle.opt_trees.specs.Simplify.{entry, IsEntered, all_of, IsVisited, of_place, of_inner, keep, IsLocal, Joinable}
use Rattle.opt_trees.specs.Simplify.{use_head, use_instead, Joins, ends, operations, regions, taken, first, chain_ends}
use Rattle.opt_trees.specs.Simplify.{chain_goes_on}
use Rattle.opt_trees.proofs.Homes.{Part, part_rest, part_block, part_region}
use Rattle.opt_trees.proofs.Lists.{has-map, has-from_map}
use Rattle.opt_trees.proofs.NoneDead.{true_false}
use Rattle.opt_trees.proofs.Orderly.{decide_occurrence, decide_block, decided_operations, decided_blocks, decide_turns}
use Rattle.opt_trees.proofs.Orderly.{kept_operation}
use Rattle.opt_trees.proofs.Reached as reached
use Rattle.kit_ops.specs.declared.attributes.IntegerAttr.{IntegerAttr}
use Rattle.kit_ops.specs.declared.kinds.KitOp.TheVariants as ops
use Rattle.kit_ops.specs.declared.types.KitType.{KitType}
use Rattle.kit.specs.Meaning.{KitOperation, kit, is_function}
use Rattle.kit_views.specs.Reading.{kit_contents}
use Rattle.kit_ruled_views.specs.Paths.{is_function_named, is_module_named, first_with, members_in, locate}
use Rattle.kit_ruled_views.specs.Sound.{tree_of, IsHolder, IsInFunction, IsSound}
use Rattle.kit_ruled_views.proofs.programs.Lifted.{one_block, one_operation, inside_there, blocks_inside}
use Rattle.kit_ruled_views.proofs.programs.Located.{IsHolding, Tests, holder_no_branch, function_tests, module_tests}
use Rattle.kit_ruled_views.proofs.programs.Located.{function_kind_of, module_kind_of}
use Rattle.kit_ruled_views.proofs.programs.Inside.{function_at, up, up_block, inside_up, block_there, pair}

-- a test that no branch passes
abbrev NoBranch : (KitOperation → Bool) → Type 0
NoBranch test = (c : KitOperation) → kit.plain ≡ Some c → test c ≡ false

some_same : {X : Type 0} (x y : X) → Some x ≡ Some y → x ≡ y
some_same x y e = cc e

function_no_branch : (numbered : List ℕ → ℕ) (n : ℕ) → NoBranch (is_function_named numbered n)
function_no_branch numbered n c e = ap (is_function_named numbered n) (sym (some_same _ c e))

module_no_branch : (numbered : List ℕ → ℕ) (n : ℕ) → NoBranch (is_module_named numbered n)
module_no_branch numbered n c e = ap (is_module_named numbered n) (sym (some_same _ c e))

first_same : {X : Type 0} (x y : X) (xs ys : List X) → x ∷ xs ≡ y ∷ ys → x ≡ y
first_same x y xs ys e = cc e

none_around : {X : Type 0} (x : X) (xs : List X) → [] ≡ x ∷ xs → ⊥
none_around x xs e = cc e

func_module : ops.Func ≡ ops.Module → ⊥
func_module e = absurd (cc e)

false_true : (b : Bool) → b ≡ false → b ≡ true → ⊥
false_true b e f = true_false b f e

module _ {N : Names} (alone : N.value → Option IntegerAttr) where
  -- modules and functions are not decided
  pub holder_decided : (h : Head N kit_contents) (rs : Tree N kit_contents Regions) → IsHolding h.content →
      decide_head kit alone h rs ≡ h
  holder_decided h rs holds =
      let e = holder_no_branch h.content.kind holds in
      λ i. if (e i && (is_empty h.results && is_end rs)) && not (kit.is_plain h.content)
      then along_edge kit h (kit.edge h.content (map alone h.operands)) kit.plain
      else h

  -- what is decided passes a test of modules or functions where it did
  decided_test : (test : KitOperation → Bool) → Tests test → NoBranch test → (h : Head N kit_contents)
      (rs : Tree N kit_contents Regions) → test (decide_head kit alone h rs).content ≡ test h.content
  decided_test test law none h rs = by_test (test h.content) refl
    where
      -- whatever edge is taken
      along : (q : Option ℕ) (c : Option KitOperation) → ((k : KitOperation) → c ≡ Some k → test k ≡ false) →
          test h.content ≡ false → test (along_edge kit h q c).content ≡ false
      along None c never e = e
      along (Some i) None never e = e
      along (Some i) (Some k) never e = never k refl

      by_bare : (b : Bool) → test h.content ≡ false →
          test (if b then along_edge kit h (kit.edge h.content (map alone h.operands)) kit.plain else h).content ≡ false
      by_bare true e = along (kit.edge h.content (map alone h.operands)) kit.plain none e
      by_bare false e = e

      by_test : (b : Bool) → test h.content ≡ b → test (decide_head kit alone h rs).content ≡ test h.content
      by_test true e = ap (λ (g : Head N kit_contents). test g.content) (holder_decided h rs (law.holds h.content e))
      by_test false e = by_bare (is_bare kit h rs && not (kit.is_plain h.content)) e ∙ sym e

module _ {N : Names} (leads : TypeHandle → Option KitType) (numbered : List ℕ → ℕ) (type_at : N.value → TypeHandle)
    (t : Root N kit_contents) (sound : IsSound {N = N} leads numbered type_at t) (w : TreeSurroundings N IntegerAttr)
    (gone : N.block → Bool) where
  abbrev Op : Type 0
  Op = Occurrence N kit_contents

  abbrev Bl : Type 0
  Bl = BlockOccurrence N kit_contents

  -- the tree whose branches are decided, and that without the blocks that go
  abbrev pub before : Root N kit_contents
  before = decided kit w t

  abbrev pub cut_tree : Root N kit_contents
  cut_tree = record { head = t.head; regions = keep gone (decide kit w.alone t.regions) }

  abbrev left_of : {s : Sort} → Tree N kit_contents s → Tree N kit_contents s
  left_of x = keep gone (decide kit w.alone x)

  -- an operation with what is left in it
  abbrev pub kept_of : Op → Op
  kept_of o = record { site = o.site; head = o.head; regions = left_of o.regions }

  module _ (local : IsLocal cut_tree) (stay : (b : N.block) → IsReached before b → gone b ≡ false)
      (names : N.value → N.value) where
    abbrev JoinsCut : Option N.block → (s : Sort) → Tree N kit_contents s → Tree N kit_contents s → Type 0
    JoinsCut q s x z = Joins kit (all_of cut_tree) cut_tree q s x z

    abbrev JoinableCut : N.block → N.block → Type 0
    JoinableCut b c = Joinable kit (all_of cut_tree) cut_tree b c

    -- how lists were joined
    record OperationsJoined (h : Head N kit_contents) (rs : Tree N kit_contents Regions)
        (rest z : Tree N kit_contents Operations) : Type 0 where
      inside : Tree N kit_contents Regions
      more : Tree N kit_contents Operations
      joins : JoinsCut None Regions rs inside
      joins_rest : JoinsCut None Operations rest more
      is : z ≡ operation h inside more

    record BlocksJoined (l : Label N kit_contents) (os : Tree N kit_contents Operations)
        (z : Tree N kit_contents Blocks) : Type 0 where
      all : Tree N kit_contents Operations
      more : Tree N kit_contents Blocks
      joins : JoinsCut (Some l.name) Operations os all
      is : z ≡ block l all more

    record RegionsJoined (bs : Tree N kit_contents Blocks) (z : Tree N kit_contents Regions) : Type 0 where
      inside : Tree N kit_contents Blocks
      more : Tree N kit_contents Regions
      joins : JoinsCut None Blocks bs inside
      is : z ≡ region inside more

    abbrev Inverted : Option N.block → (s : Sort) → Tree N kit_contents s → Tree N kit_contents s → Type 0
    Inverted None s end z = z ≡ end
    Inverted None s (operation h rs rest) z = OperationsJoined h rs rest z
    Inverted None s (block l os rest) z = ((b : N.block) × JoinableCut b l.name) ⊎ BlocksJoined l os z
    Inverted None s (region bs rest) z = RegionsJoined bs z
    Inverted (Some b) Operations x z = ((c : N.block) × JoinableCut b c) ⊎ JoinsCut None Operations x z
    Inverted (Some b) Blocks x z = Unit {0}
    Inverted (Some b) Regions x z = Unit {0}

    inverted : (q : Option N.block) (s : Sort) (x z : Tree N kit_contents s) → JoinsCut q s x z → Inverted q s x z
    inverted _ _ _ _ (ends s) = refl
    inverted _ _ _ _ (operations h rs qs rest more x y) =
        record { inside = qs; more = more; joins = x; joins_rest = y; is = refl }
    inverted _ _ _ _ (regions bs cs rest more x y) = record { inside = cs; more = more; joins = x; is = refl }
    inverted _ _ _ _ (taken l os rest more b j x) = inl (b, j)
    inverted _ _ _ _ (first l os all rest more n x y) = inr (record { all = all; more = more; joins = x; is = refl })
    inverted _ _ _ _ (chain_ends b os own n x) = inr x
    inverted _ _ _ _ (chain_goes_on b z os own others all j h x y e) = inl (z.label.name, j)

    -- ---- members of a module

    -- an operation that stands there, visited before and after, and what becomes of it
    pub record Member (test : KitOperation → Bool) (v : Root N kit_contents) (out : Option (Root N kit_contents))
        : Type 0 where
      pub it : Op
      pub stands : Has it (occurrences_of t)
      pub is : tree_of it ≡ v
      pub tested : test it.head.content ≡ true
      pub kept : Has (kept_of it) (occurrences_of cut_tree)
      pub seen_before : (i : ℕ) → IsVisited kit (all_of before) before it.head.name i
      pub seen : (i : ℕ) → IsVisited kit (all_of cut_tree) cut_tree it.head.name i
      pub inside : Tree N kit_contents Regions
      pub joins : JoinsCut None Regions (left_of it.regions) inside
      pub left : out ≡ Some (record { head = use_head names it.head; regions = use_instead names inside })

    abbrev pub Follow : (KitOperation → Bool) → Option (Root N kit_contents) → Option (Root N kit_contents) → Type 0
    Follow test None out = out ≡ None
    Follow test (Some v) out = Member test v out

    -- what stands at the site is visited
    record IsEnteredSite (r : Root N kit_contents) (e : OperationSite N kit_contents) : Type 0 where
      owner : IsVisited kit (all_of r) r e.spot.owner.name e.spot.region
      block_entered : IsEntered r e.spot e.label.name (kit.is_ssa e.spot.owner.content e.spot.region)

    visits : (r : Root N kit_contents) (q : Op) → Has q (occurrences_of r) → IsEnteredSite r q.site → (i : ℕ) →
        IsVisited kit (all_of r) r q.head.name i
    visits r q h at i = of_inner q i h at.owner at.block_entered

    abbrev decided_of : Op → Op
    decided_of q = decide_occurrence {N = N} {S = kit_contents} kit w.alone q

    decided_there : (q : Op) → Has q (occurrences_of t) → Has (decided_of q) (occurrences_of before)
    decided_there q h =
        subst (Has (decided_of q)) (sym (decided_operations kit w.alone t.regions (at_root t)))
        (has-map decided_of q (occurrences_of t) h)

    -- the operations of a module's block, one by one
    one_found : (test : KitOperation → Bool) → Tests test → NoBranch test → (h : Head N kit_contents)
        (rs : Tree N kit_contents Regions) (rest : Tree N kit_contents Operations) (e : OperationSite N kit_contents) →
        Part (operation h rs rest) e (occurrences_of t) (block_occurrences_of t) →
        Part (left_of (operation h rs rest)) e (occurrences_of cut_tree) (block_occurrences_of cut_tree) →
        IsEnteredSite before e → IsEnteredSite cut_tree e → (inside : Tree N kit_contents Regions) →
        JoinsCut None Regions (left_of rs) inside → (later : Option (Root N kit_contents)) →
        Follow test (first_with test rest) later → (b : Bool) → test h.content ≡ b →
        Follow test (if b then Some (record { head = h; regions = rs }) else first_with test rest)
        (if b then Some (record {
          head = use_head names (decide_head kit w.alone h rs);
          regions = use_instead names inside;
        })
        else later)
    one_found test law none h rs rest e part kept enters_before enters inside joins later more false q = more
    one_found test law none h rs rest e part kept enters_before enters inside joins later more true q =
        let own : Op = record { site = e; head = h; regions = rs } in
        let same : decide_head kit w.alone h rs ≡ h = holder_decided w.alone h rs (law.holds h.content q) in
        let stands : Has own (occurrences_of t) = part.operations own (inl refl) in
        let there : Has (kept_of own) (occurrences_of cut_tree) =
        subst (λ (g : Head N kit_contents). Has (record { site = e; head = g; regions = left_of rs }) (occurrences_of
        cut_tree)) same
        (kept.operations (record { site = e; head = decide_head kit w.alone h rs; regions = left_of rs }) (inl refl)) in
        record {
          it = own;
          stands = stands;
          is = refl;
          tested = q;
          kept = there;
          seen_before = λ i. subst (λ (g : Head N kit_contents). IsVisited kit (all_of before) before g.name i) same
              (visits before (decided_of own) (decided_there own stands) enters_before i);
          seen = λ i. visits cut_tree (kept_of own) there enters i;
          inside = inside;
          joins = joins;
          left = ap (λ (g : Head N kit_contents). Some (record {
            head = use_head names g;
            regions = use_instead names
                inside;
          })) same;
        }

    ops_found : (test : KitOperation → Bool) → Tests test → NoBranch test → (os : Tree N kit_contents Operations)
        (e : OperationSite N kit_contents) → Part os e (occurrences_of t) (block_occurrences_of t) →
        Part (left_of os) e (occurrences_of cut_tree) (block_occurrences_of cut_tree) → IsEnteredSite before e →
        IsEnteredSite cut_tree e → (ps : Tree N kit_contents Operations) → JoinsCut None Operations (left_of os) ps →
        Follow test (first_with test os) (first_with test (use_instead names ps))
    ops_found test law none end e part kept enters_before enters ps joins =
        ap (λ z. first_with test (use_instead names z)) (inverted None Operations end ps joins)
    ops_found test law none (operation h rs rest) e part kept enters_before enters ps joins =
        let j = inverted None Operations (left_of (operation h rs rest)) ps joins in
        let later = ops_found test law none rest e
        (part_rest (occurrences_of t) (block_occurrences_of t) h rs rest e part)
        (part_rest (occurrences_of cut_tree) (block_occurrences_of cut_tree) (decide_head kit w.alone h rs)
        (left_of rs) (left_of rest) e kept) enters_before enters j.more j.joins_rest in
        let found : Option (Root N kit_contents) = Some (record {
          head = use_head names (decide_head kit w.alone h rs);
          regions = use_instead names j.inside;
        }) in
        let out : first_with test (use_instead names ps) ≡ (if test h.content then found
        else first_with test (use_instead names j.more)) =
        ap (λ z. first_with test (use_instead names z)) j.is
        ∙ ap (λ b. if b then found else first_with test (use_instead names j.more))
        (decided_test w.alone test law none h rs) in
        subst (Follow test (first_with test (operation h rs rest))) (sym out)
        (one_found test law none h rs rest e part kept enters_before enters j.inside j.joins
        (first_with test (use_instead names j.more)) later (test h.content) refl)

    -- regions of a module
    pub record IsLevel (rs : Tree N kit_contents Regions) (c : Spot N kit_contents) (qs : Tree N kit_contents Regions)
        : Type 0 where
      pub part : Part rs c (occurrences_of t) (block_occurrences_of t)
      pub kept : Part (left_of rs) c (occurrences_of cut_tree) (block_occurrences_of cut_tree)
      pub entry_first : c.first ≡ true
      pub seen_before : IsVisited kit (all_of before) before c.owner.name c.region
      pub seen : IsVisited kit (all_of cut_tree) cut_tree c.owner.name c.region
      pub no_function : (p : Op) → Has p (occurrences_of t) → p.head.content.kind ≡ ops.Func →
          c.around ≡ p.head.name ∷ p.site.spot.around → ⊥
      pub joins : JoinsCut None Regions (left_of rs) qs

    -- no operation of a module's block leads on
    no_successor : (q : Op) → Has q (occurrences_of t) → (y : Bl) → Has y (block_occurrences_of t) →
        y.label.name ≡ q.site.label.name → ((p : Op) → Has p (occurrences_of t) → p.head.content.kind ≡ ops.Func →
        y.spot.around ≡ p.head.name ∷ p.site.spot.around → ⊥) → (b : N.block) → Has b q.head.successors → ⊥
    no_successor q h y k e no_function b m =
        ⊎_elim
        (λ (z : IsHolder {N = N} q). subst (Has b) z.no_successors m)
        (λ (z : IsInFunction {N = N} t q).
        let p : Op = z.function in
        let fp = function_at {N = N} leads numbered type_at t sound p z.stands z.is in
        let s = has-from_map (up {N = N} leads numbered type_at t sound p) q (occurrences_of (tree_of p))
        (subst (Has q) (inside_up {N = N} leads numbered type_at t sound p fp) z.inside) in
        let own = ⊎_elim (λ n. absurd n) (λ n. n) (reached.holder p.regions (at_root (tree_of p)) s.it s.stands) in
        let there = block_there {N = N} leads numbered type_at t sound p fp own.it own.stands in
        let name : own.it.label.name ≡ y.label.name =
        ap (λ l. l.name) own.label ∙ ap (λ (x : Op). x.site.label.name) s.is ∙ sym e in
        let same : up_block {N = N} leads numbered type_at t sound p own.it ≡ y =
        one_block t sound.names.blocks (up_block {N = N} leads numbered type_at t sound p own.it) y there k name in
        let bare : own.it.spot.around ≡ [] =
        ap (λ c. c.around) own.spot ∙ (pair {N = N} leads numbered type_at t sound p fp s.it s.stands).around in
        no_function p z.stands z.is
        (sym (ap (λ (x : Bl). x.spot.around) same) ∙ ap (λ l. l ++ (p.head.name ∷ p.site.spot.around)) bare))
        (sound.others q h)

    -- the operations of the tree without what goes were there
    record WasThere (q : Op) : Type 0 where
      it : Op
      stands : Has it (occurrences_of t)
      site : it.site ≡ q.site
      led : (b : N.block) → Has b q.head.successors → Has b it.head.successors

    was_there : (q : Op) → Has q (occurrences_of cut_tree) → WasThere q
    was_there q h =
        let a = kept_operation gone (decide kit w.alone t.regions) (at_root before)
        (λ y i f. stay y.label.name (entry y i f)) q h in
        let b = has-from_map decided_of a.it (occurrences_of t)
        (subst (Has a.it) (decided_operations kit w.alone t.regions (at_root t)) a.stands) in
        record {
          it = b.it;
          stands = b.stands;
          site = ap (λ (x : Op). x.site) b.is ∙ ap (λ (x : Op). x.site) a.is;
          led = λ n m.
              (decide_turns kit w.alone).leads b.it n
              (subst (λ (x : Op). Has n x.head.successors) (sym b.is)
              (subst (λ (x : Op). Has n x.head.successors) (sym a.is) m));
        }

    entered_site : (r : Root N kit_contents) (c : Spot N kit_contents) (l : Label N kit_contents)
        (os : Tree N kit_contents Operations) →
        Has (record { spot = c; label = l; operations = os }) (block_occurrences_of r) → c.first ≡ true →
        IsVisited kit (all_of r) r c.owner.name c.region → IsEnteredSite r (record { spot = c; label = l })
    entered_site r c l os h f v =
        record { owner = v; block_entered = by_ssa (kit.is_ssa c.owner.content c.region) }
      where
        by_ssa : (b : Bool) → IsEntered r c l.name b
        by_ssa true = entry (record { spot = c; label = l; operations = os }) h f
        by_ssa false = f

    -- the first block of a module
    block_found : (test : KitOperation → Bool) → Tests test → NoBranch test → (l : Label N kit_contents)
        (os : Tree N kit_contents Operations) (more : Tree N kit_contents Blocks)
        (rest : Tree N kit_contents Regions) (c : Spot N kit_contents) (qs : Tree N kit_contents Regions) →
        IsLevel (region (block l os more) rest) c qs →
        Follow test (first_with test os) (first_with test (members_in (use_instead names qs)))
    block_found test law none l os more rest c qs level =
        let own : Bl = record { spot = c; label = l; operations = os } in
        let part_blocks = part_region (occurrences_of t) (block_occurrences_of t) (block l os more) rest c level.part in
        let own_there : Has own (block_occurrences_of t) = part_blocks.blocks own (inl refl) in
        let decided_own : Bl = record { spot = c; label = l; operations = decide kit w.alone os } in
        let decided_there : Has decided_own (block_occurrences_of before) =
        subst (Has decided_own) (sym (decided_blocks kit w.alone t.regions (at_root t)))
        (has-map (decide_block {N = N} {S = kit_contents} kit w.alone) own (block_occurrences_of t) own_there) in
        let stays : gone l.name ≡ false = stay l.name (entry decided_own decided_there level.entry_first) in
        let blocks_left : Bool → Tree N kit_contents Blocks =
        λ b. if b then left_of more else block l (left_of os) (left_of more) in
        let joins : JoinsCut None Regions (region (block l (left_of os) (left_of more)) (left_of rest)) qs =
        subst (λ b. JoinsCut None Regions (region (blocks_left b) (left_of rest)) qs) stays level.joins in
        let kept : Part (region (block l (left_of os) (left_of more)) (left_of rest)) c (occurrences_of cut_tree)
        (block_occurrences_of cut_tree) =
        subst (λ b. Part (region (blocks_left b) (left_of rest)) c (occurrences_of cut_tree) (block_occurrences_of
        cut_tree)) stays level.kept in
        let kept_blocks = part_region (occurrences_of cut_tree) (block_occurrences_of cut_tree)
        (block l (left_of os) (left_of more)) (left_of rest) c kept in
        let cut_own : Bl = record { spot = c; label = l; operations = left_of os } in
        let cut_there : Has cut_own (block_occurrences_of cut_tree) = kept_blocks.blocks cut_own (inl refl) in
        let r = inverted None Regions (region (block l (left_of os) (left_of more)) (left_of rest)) qs joins in
        ⊎_elim
        (λ z.
        let same : z.1.target ≡ cut_own = local.blocks z.1.target cut_own z.1.target_stands cut_there z.1.target_name in
        absurd (false_true c.first (sym (ap (λ (x : Bl). x.spot.first) same) ∙ z.1.not_entry) level.entry_first))
        (λ z. ⊎_elim
        (λ k.
        let was = was_there k.1.last k.1.stands in
        absurd (no_successor was.it was.stands own own_there
        (sym (ap (λ s. s.label.name) was.site ∙ k.1.in_block)) level.no_function k.0
        (was.led k.0 (subst (Has k.0) (sym k.1.leads) (inl refl)))))
        (λ k.
        let found = ops_found test law none os (record { spot = c; label = l })
        (part_block (occurrences_of t) (block_occurrences_of t) l os more c part_blocks)
        (part_block (occurrences_of cut_tree) (block_occurrences_of cut_tree) l (left_of os) (left_of more) c
        kept_blocks)
        (entered_site before c l (decide kit w.alone os) decided_there level.entry_first level.seen_before)
        (entered_site cut_tree c l (left_of os) cut_there level.entry_first level.seen) z.all k in
        let out : first_with test (members_in (use_instead names qs)) ≡ first_with test (use_instead names z.all) =
        ap (λ x. first_with test (members_in (use_instead names x))) r.is
        ∙ ap (λ (x : Tree N kit_contents Blocks). first_with test (members_in (use_instead names (region x r.more))))
        z.is in
        subst (Follow test (first_with test os)) (sym out) found)
        (inverted (Some l.name) Operations (left_of os) z.all z.joins))
        (inverted None Blocks (block l (left_of os) (left_of more)) r.inside r.joins)

    member_found : (test : KitOperation → Bool) → Tests test → NoBranch test → (rs : Tree N kit_contents Regions)
        (c : Spot N kit_contents) (qs : Tree N kit_contents Regions) → IsLevel rs c qs →
        Follow test (first_with test (members_in rs)) (first_with test (members_in (use_instead names qs)))
    member_found test law none end c qs level =
        ap (λ z. first_with test (members_in (use_instead names z))) (inverted None Regions end qs level.joins)
    member_found test law none (region end rest) c qs level =
        let r = inverted None Regions (region end (left_of rest)) qs level.joins in
        ap (λ z. first_with test (members_in (use_instead names z))) r.is
        ∙ ap (λ (x : Tree N kit_contents Blocks). first_with test (members_in (use_instead names (region x r.more))))
        (inverted None Blocks end r.inside r.joins)
    member_found test law none (region (block l os more) rest) c qs level =
        block_found test law none l os more rest c qs level

    -- ---- paths

    abbrev pub is_func : KitOperation → Bool
    is_func c = is_function c.kind

    as_function : (n : ℕ) (v out : Option (Root N kit_contents)) →
        Follow (is_function_named numbered n) v out → Follow is_func v out
    as_function n None out e = e
    as_function n (Some v) out m = record {
      it = m.it;
      stands = m.stands;
      is = m.is;
      tested = ap is_function (function_kind_of numbered n m.it.head.content m.tested);
      kept = m.kept;
      seen_before = m.seen_before;
      seen = m.seen;
      inside = m.inside;
      joins = m.joins;
      left = m.left;
    }

    -- what a module holds
    level_of : (n : ℕ) (v : Root N kit_contents) (out : Option (Root N kit_contents)) →
        (m : Member (is_module_named numbered n) v out) → IsLevel m.it.regions (inner m.it.head m.it.site) m.inside
    level_of n v out m = record {
      part = record {
        operations = λ q i. inside_there t.regions (at_root t) m.it q m.stands i;
        blocks = λ x i. blocks_inside t.regions (at_root t) m.it x m.stands i;
      };
      kept = record {
        operations = λ q i. inside_there cut_tree.regions (at_root cut_tree) (kept_of m.it) q m.kept i;
        blocks = λ x i. blocks_inside cut_tree.regions (at_root cut_tree) (kept_of m.it) x m.kept i;
      };
      entry_first = refl;
      seen_before = m.seen_before 0;
      seen = m.seen 0;
      no_function = λ p h kind e.
          let same : p ≡ m.it = one_operation t sound.names.operations p m.it h m.stands
          (sym (first_same m.it.head.name p.head.name m.it.site.spot.around p.site.spot.around e)) in
          func_module (sym kind ∙ ap (λ (x : Op). x.head.content.kind) same
          ∙ module_kind_of numbered n m.it.head.content m.tested);
      joins = m.joins;
    }

    -- a path leads to a function, and to what becomes of it
    pub arrives : (path : List ℕ) (h g : Head N kit_contents) (rs : Tree N kit_contents Regions)
        (c : Spot N kit_contents) (qs : Tree N kit_contents Regions) → IsLevel rs c qs →
        Follow is_func (locate numbered path (record { head = h; regions = rs }))
        (locate numbered path (record { head = g; regions = use_instead names qs }))
    arrives [] h g rs c qs level = refl
    arrives (x ∷ []) h g rs c qs level =
        as_function x (first_with (is_function_named numbered x) (members_in rs))
        (first_with (is_function_named numbered x) (members_in (use_instead names qs)))
        (member_found (is_function_named numbered x) (function_tests numbered x) (function_no_branch numbered x) rs c
        qs level)
    arrives (x ∷ y ∷ path) h g rs c qs level =
        by_module (first_with (is_module_named numbered x) (members_in rs))
        (first_with (is_module_named numbered x) (members_in (use_instead names qs)))
        (member_found (is_module_named numbered x) (module_tests numbered x) (module_no_branch numbered x) rs c qs
        level)
        (λ h g rs c qs level. arrives (y ∷ path) h g rs c qs level)
      where
        by_module : (v out : Option (Root N kit_contents)) → Follow (is_module_named numbered x) v out →
            ((h g : Head N kit_contents) (rs : Tree N kit_contents Regions) (c : Spot N kit_contents)
            (qs : Tree N kit_contents Regions) → IsLevel rs c qs →
            Follow is_func (locate numbered (y ∷ path) (record { head = h; regions = rs }))
            (locate numbered (y ∷ path) (record { head = g; regions = use_instead names qs }))) →
            Follow is_func (option_and_then (locate numbered (y ∷ path)) v)
            (option_and_then (locate numbered (y ∷ path)) out)
        by_module None out e ih = ap (option_and_then (locate numbered (y ∷ path))) e
        by_module (Some v) out m ih =
            subst (λ z. Follow is_func (locate numbered (y ∷ path) v) (option_and_then (locate numbered (y ∷ path)) z))
            (sym m.left)
            (subst (λ z. Follow is_func (locate numbered (y ∷ path) z) (locate numbered (y ∷ path) (record {
              head = use_head names m.it.head;
              regions = use_instead names m.inside;
            }))) m.is
            (ih m.it.head (use_head names m.it.head) m.it.regions (inner m.it.head m.it.site) m.inside
            (level_of x v out m)))

    -- the whole module
    pub whole : (qs : Tree N kit_contents Regions) → JoinsCut None Regions (left_of t.regions) qs →
        IsLevel t.regions (at_root t) qs
    whole qs joins = record {
      part = record { operations = λ q i. i; blocks = λ x i. i };
      kept = record { operations = λ q i. i; blocks = λ x i. i };
      entry_first = refl;
      seen_before = of_place t.head.name 0 (inl refl);
      seen = of_place t.head.name 0 (inl refl);
      no_function = λ p h kind e. none_around p.head.name p.site.spot.around e;
      joins = joins;
    }
