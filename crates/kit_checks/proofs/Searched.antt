-- The first operation inside the root that breaks a rule is at the first place of its tree where the rule is broken.
use Rattle.std.proofs.Common.{◌≡◌, inl, inr, ⊎_elim, ℕ, Bool, true, false, List, [], ◌∷◌, ◌++◌, map, Some, None, slice_get, refl, sym, ap, ◌∙◌, subst, append_assoc, true≢false}
use Rattle.std.proofs.lemmas.List.{append-nil}
use Rattle.ir_program.specs.Lists.{IsLiveNode, StandsInside}
use Rattle.ir_program.specs.Preorder.{nodes_inside, AreInside, StandOnceEach, IsPreorder}
use Rattle.ir_program.specs.Program.{Program}
use Rattle.ir_program.specs.declared.handles.IRNode.{IRNode}
use Rattle.ir_program.specs.declared.handles.IRNode.TheVariants.{Operation as OperationNode}
use Rattle.ir_program.specs.declared.handles.Ptr.{Ptr}
use Rattle.ir_program.specs.declared.handles.Operation.{Operation}
use Rattle.ir_trees.specs.Stands.{ProgramTree, StandsFor}
use Rattle.ir_trees.proofs.Members.{Once, at_has, has_at, has_back, has_either, has_map, once_of}
use Rattle.ir_trees.proofs.Picked.{operations_among, operations_joined, operation_from, operations_once}
use Rattle.opt_inside.proofs.Around.{HasLists}
use Rattle.opt_trees.specs.Occurrences.{Has}
use Rattle.kit_checks.specs.declared.rule.Rule.{Rule}
use Rattle.kit_checks.specs.Faults.{KeptEverywhere, IsFirstPlace}
use Rattle.kit_checks.specs.Located.{IsSiteOf, IsPlaceOf}
use Rattle.kit_checks.specs.Searching.{Tells, KeptBy, BrokenBy, KeptAt, IsFirstBroken, IsSearched}
use Rattle.kit_checks.specs.Sites.{IsBefore}
use Rattle.kit_checks.specs.World.{World}
use Rattle.kit_checks.proofs.Down.{located, place_of_site}
use Rattle.kit_checks.proofs.Order.{Entry, name_of, place_of, entries, AreInOrder, entries_order, alone, root_order, entry_at, not_both, not_itself}

-- an entry that is before another one by its place is among those that come before it
earlier : (es : List Entry) (before behind : List (Ptr Operation)) (e f : Entry) → AreInOrder es → Once (map name_of es) → map name_of es ≡ before ++ e.name ∷ behind →
    Has e es → Has f es → IsBefore (place_of f) (place_of e) → Has f.name before
earlier [] before behind e f order once names he hf b = absurd he
earlier (d ∷ es) [] behind e f order once names he hf b =
    let first : d.name ≡ e.name = cc in
    let is : e ≡ d = ⊎_elim (λ same. same) (λ later. absurd (once.0 (subst (λ n. Has n (map name_of es)) (sym first) (has_map name_of es e later)))) he in
    ⊎_elim
    (λ (same : f ≡ d). absurd (not_itself (place_of d) (subst (λ (x : Entry). IsBefore (place_of x) (place_of d)) same (subst (λ (x : Entry). IsBefore (place_of f) (place_of x)) is b))))
    (λ later. absurd (not_both (place_of d) (place_of f) (order.0 f later) (subst (λ (x : Entry). IsBefore (place_of f) (place_of x)) is b)))
    hf
earlier (d ∷ es) (n ∷ before) behind e f order once names he hf b =
    let first : d.name ≡ n = cc in
    let rest : map name_of es ≡ before ++ e.name ∷ behind = cc in
    ⊎_elim
    (λ (same : f ≡ d). inl (ap (λ (x : Entry). x.name) same ∙ first))
    (λ later. ⊎_elim
    (λ (same : e ≡ d). absurd (not_both (place_of d) (place_of f) (order.0 f later) (subst (λ (x : Entry). IsBefore (place_of f) (place_of x)) same b)))
    (λ more. inr (earlier es before behind e f order.1 once.1 rest more later b))
    he)
    hf

module _ {O B : Type 0} (w : World O B) (c : Program O B) (root : Ptr Operation) (r : Rule) where
  -- what a test of the operation tells
  pub kept_if : (op : Ptr Operation) (is : Bool) → is ≡ true → Tells w c root r op is → KeptBy w c root r op
  kept_if op is holds tells s at = (tells s at).0 holds

  pub broken_if : (op : Ptr Operation) (is : Bool) → is ≡ false → Tells w c root r op is → BrokenBy w c root r op
  broken_if op is fails tells s at keeps = true≢false (sym ((tells s at).1 keeps) ∙ fails)

  -- these are left of all inside the root, and those that were seen keep the rule
  pub record IsKeptUpTo (left : List IRNode) : Type 0 where
    pub done : List IRNode
    pub parts : nodes_inside c (OperationNode root) ≡ done ++ left
    pub each : (e : IRNode) → Has e done → KeptAt w c root r e

  pub search_begins : (left : List IRNode) → left ≡ nodes_inside c (OperationNode root) → IsKeptUpTo left
  search_begins left is = record { done = []; parts = sym is; each = λ e has. absurd has }

  pub search_goes_on : (was left : List IRNode) (e : IRNode) → was ≡ e ∷ left → KeptAt w c root r e → IsKeptUpTo was → IsKeptUpTo left
  search_goes_on was left e is here h = record {
    done = h.done ++ e ∷ [];
    parts = h.parts ∙ ap (λ l. h.done ++ l) is ∙ sym (append_assoc h.done (e ∷ []) left);
    each = λ x has. ⊎_elim (h.each x) (λ new. ⊎_elim (λ same. subst (KeptAt w c root r) (sym same) here) (λ none. absurd none) new) (has_either h.done (e ∷ []) x has);
  }

  pub search_finds : (was left : List IRNode) (e : IRNode) (op : Ptr Operation) → was ≡ e ∷ left → e ≡ OperationNode op → BrokenBy w c root r op → IsKeptUpTo was → IsFirstBroken w c root r op
  search_finds was left e op is it broken h = record {
    before = h.done;
    behind = left;
    parts = h.parts ∙ ap (λ l. h.done ++ l) (is ∙ ap (λ x. x ∷ left) it);
    broken = broken;
    kept = h.each;
  }

  pub search_ends : (left : List IRNode) → left ≡ [] → IsKeptUpTo left → (e : IRNode) → Has e (nodes_inside c (OperationNode root)) → KeptAt w c root r e
  search_ends left is h e has = h.each e (subst (Has e) (h.parts ∙ ap (λ l. h.done ++ l) is ∙ append-nil h.done) has)

  next_live : AreInside c (OperationNode root) (nodes_inside c (OperationNode root)) → (was left : List IRNode) (e : IRNode) → was ≡ e ∷ left → IsKeptUpTo was → (k : ℕ) × (slice_get (nodes_inside c (OperationNode root)) k ≡ Some e)
  next_live inside was left e is h = has_at (nodes_inside c (OperationNode root)) e (subst (Has e) (sym (h.parts ∙ ap (λ l. h.done ++ l) is)) (has_back h.done (e ∷ left) e (inl refl)))

  module _ (inside : AreInside c (OperationNode root) (nodes_inside c (OperationNode root))) where
    -- the next one is inside the root, and is there
    pub next_inside : (was left : List IRNode) (e : IRNode) → was ≡ e ∷ left → IsKeptUpTo was → StandsInside c (OperationNode root) e
    next_inside was left e is h = let k = next_live inside was left e is h in inside.inside k.0 e k.1

    pub next_is_there : (was left : List IRNode) (e : IRNode) → was ≡ e ∷ left → IsKeptUpTo was → IsLiveNode c e
    next_is_there was left e is h = let k = next_live inside was left e is h in inside.live k.0 e k.1

    -- the first one that breaks the rule is inside the root
    pub found_inside : (op : Ptr Operation) → IsFirstBroken w c root r op → StandsInside c (OperationNode root) (OperationNode op)
    found_inside op first =
        let k = has_at (nodes_inside c (OperationNode root)) (OperationNode op) (subst (Has (OperationNode op)) (sym first.parts) (has_back first.before (OperationNode op ∷ first.behind) (OperationNode op) (inl refl))) in
        inside.inside k.0 (OperationNode op) k.1

    -- where nothing inside the root breaks the rule, no place of its tree does
    pub found_nowhere : HasLists c → IsSearched w c root r None → (t : ProgramTree O B) → StandsFor c root t → KeptEverywhere w t r
    found_nowhere lists kept t stands p s there =
        let at = located c lists root t stands p s there in
        let here = inside.all (OperationNode s.op.head.name) at.inside in
        kept (OperationNode s.op.head.name) (at_has (nodes_inside c (OperationNode root)) here.0 (OperationNode s.op.head.name) here.1) s at

    pub found_first : HasLists c → StandOnceEach (nodes_inside c (OperationNode root)) → IsPreorder c (OperationNode root ∷ []) (nodes_inside c (OperationNode root)) →
        (op : Ptr Operation) (p : List ℕ) → IsFirstBroken w c root r op → IsPlaceOf c root op p → (t : ProgramTree O B) → StandsFor c root t → IsFirstPlace w t r p
    found_first lists once order op p first place t stands =
        let it = place t stands in
        let at = located c lists root t stands p it.0 it.1 in
        let all : map name_of (entries (alone t)) ≡ operations_among (nodes_inside c (OperationNode root)) = root_order c root t stands (nodes_inside c (OperationNode root)) order in
        let parts : map name_of (entries (alone t)) ≡ operations_among first.before ++ op ∷ operations_among first.behind =
        all ∙ ap operations_among first.parts ∙ operations_joined first.before (OperationNode op ∷ first.behind) in
        let one : Once (map name_of (entries (alone t))) = subst Once (sym all) (operations_once (nodes_inside c (OperationNode root)) (once_of (nodes_inside c (OperationNode root)) once)) in
        let mine : Entry = record { first = 0; path = p; name = op } in
        let my_entry : Has mine (entries (alone t)) = subst (λ n. Has (record { first = 0; path = p; name = n }) (entries (alone t))) it.2 (entry_at t p it.0.op (place_of_site t p it.0 it.1)) in
        record {
          breaks = record { site = it.0; there = it.1; broken = λ keeps. first.broken it.0 (subst (λ n. IsSiteOf c root n it.0) it.2 at) keeps };
          before = λ q s b there.
              let other = entry_at t q s.op (place_of_site t q s there) in
              let has = earlier (entries (alone t)) (operations_among first.before) (operations_among first.behind) mine (record { first = 0; path = q; name = s.op.head.name })
              (entries_order (alone t)) one parts my_entry other (inr (refl, b)) in
              first.kept (OperationNode s.op.head.name) (operation_from first.before s.op.head.name has) s (located c lists root t stands q s there);
        }
