-- How many turns are left of a walk.
use Rattle.std.proofs.Common.{◌≡◌, ◌⊎◌, inl, inr, ⊎_elim, ℕ, zero, suc, ◌+◌, ◌<◌, ◌≤◌, Bool, true, false, cond, List, [], ◌∷◌, ◌++◌, length, slice_get, Option, Some, None, refl, sym, ap, ◌∙◌, subst, arith, append_assoc, length-append}
use Rattle.std.specs.Option.{option_map_or}
use Rattle.ir_program.specs.Preorder.{nodes_inside}
use Rattle.ir_program.specs.Program.{Program}
use Rattle.ir_program.specs.declared.handles.IRNode.{IRNode}
use Rattle.ir_program.specs.declared.handles.IRNode.TheVariants.{Operation as OperationNode, Region as RegionNode, BasicBlock as BlockNode}
use Rattle.ir_program.specs.declared.handles.Ptr.{Ptr}
use Rattle.ir_walks.specs.declared.config.WalkConfig.{WalkConfig}
use Rattle.ir_walks.specs.declared.turns.Cursor.{Cursor}
use Rattle.ir_walks.specs.declared.turns.Cursor.TheVariants.{Arriving, Leaving}
use Rattle.ir_walks.specs.declared.results.WalkContinue.{WalkContinue}
use Rattle.ir_walks.specs.declared.results.WalkContinue.TheVariants.{Advance}
use Rattle.ir_walks.specs.Levels.{members}
use Rattle.ir_walks.specs.Turns.{called_at, to_first, to_end, all_done, to_next, to_holder, IsTurn, enters, passes, exits}
use Rattle.ir_walks.specs.Walks.{Call, nothing}
use Rattle.ir_walks.proofs.Sequences.{SplitAt, split, at_seam}
use Rattle.ir_walks.proofs.Trees.{Within, IsTree, stands_in, one_split}
use Rattle.ir_walks.proofs.Progress.{Sized, none, more, made, arriving_opens, Up, up, Begun, root, down, begun_within, IsSoFar, Deep, deep}

-- a fact that can be told
abbrev pub Told : Type 0 → Type 0
Told P = P ⊎ (P → ⊥)

abbrev pub truth : {P : Type 0} → Told P → Bool
truth (inl p) = true
truth (inr n) = false

yes : {P X : Type 0} (q : Told P) (a b : X) → P → cond (truth q) a b ≡ a
yes (inl p) a b h = refl
yes (inr n) a b h = absurd (n h)

no_of : {P X : Type 0} (q : Told P) (a b : X) → (P → ⊥) → cond (truth q) a b ≡ b
no_of (inl p) a b n = absurd (n p)
no_of (inr n) a b h = refl

pub same_number : (a b : ℕ) → Told (a ≡ b)
same_number zero zero = inl refl
same_number zero (suc b) = inr (λ e. cc)
same_number (suc a) zero = inr (λ e. cc)
same_number (suc a) (suc b) = ⊎_elim (λ e. inl (ap suc e)) (λ ne. inr (λ e. let q : a ≡ b = omega (arith, e) in ne q)) (same_number a b)

pub same_handle : {E : Type 0} (p q : Ptr E) → Told (p ≡ q)
same_handle {E} p q = ⊎_elim
    (λ e. ⊎_elim
    (λ f. inl (λ i. record { key = record { slot = e i; version = f i }; of = record {} }))
    (λ n. inr (λ h. n (ap (λ (z : Ptr E). z.key.version) h)))
    (same_number p.key.version q.key.version))
    (λ n. inr (λ h. n (ap (λ (z : Ptr E). z.key.slot) h)))
    (same_number p.key.slot q.key.slot)

pub same_node : (e f : IRNode) → Told (e ≡ f)
same_node (OperationNode p) (OperationNode q) = ⊎_elim (λ e. inl (ap OperationNode e)) (λ n. inr (λ h. let e : p ≡ q = cc in n e)) (same_handle p q)
same_node (BlockNode p) (BlockNode q) = ⊎_elim (λ e. inl (ap BlockNode e)) (λ n. inr (λ h. let e : p ≡ q = cc in n e)) (same_handle p q)
same_node (RegionNode p) (RegionNode q) = ⊎_elim (λ e. inl (ap RegionNode e)) (λ n. inr (λ h. let e : p ≡ q = cc in n e)) (same_handle p q)
same_node (OperationNode p) (BlockNode q) = inr (λ h. cc)
same_node (OperationNode p) (RegionNode q) = inr (λ h. cc)
same_node (BlockNode p) (OperationNode q) = inr (λ h. cc)
same_node (BlockNode p) (RegionNode q) = inr (λ h. cc)
same_node (RegionNode p) (OperationNode q) = inr (λ h. cc)
same_node (RegionNode p) (BlockNode q) = inr (λ h. cc)

-- whether a list has a node, and what stands behind it there
abbrev pub Has : List IRNode → IRNode → Type 0
Has es e = (k : ℕ) × (slice_get es k ≡ Some e)

pub has : (es : List IRNode) (e : IRNode) → Told (Has es e)
has [] e = inr (λ h. let no : None ≡ Some e = h.1 in cc)
has (d ∷ ds) e = ⊎_elim (λ s. inl (0, ap Some s)) (λ n. ⊎_elim (λ h. inl (suc h.0, h.1)) (λ m. inr (λ h. neither n m h.0 h.1)) (has ds e)) (same_node d e) where
  neither : (d ≡ e → ⊥) → (Has ds e → ⊥) → (k : ℕ) → slice_get (d ∷ ds) k ≡ Some e → ⊥
  neither n m zero h = let s : d ≡ e = cc in n s
  neither n m (suc k) h = m (k, h)

abbrev pub behind : IRNode → List IRNode → List IRNode
behind e [] = []
behind e (d ∷ ds) = cond (truth (same_node d e)) ds (behind e ds)

behind_is : (e : IRNode) (before after : List IRNode) → (Has before e → ⊥) → behind e (before ++ e ∷ after) ≡ after
behind_is e [] after n = yes (same_node e e) after (behind e after) refl
behind_is e (d ∷ ds) after n = no_of (same_node d e) (ds ++ e ∷ after) (behind e (ds ++ e ∷ after)) (λ s. n (0, ap Some s)) ∙ behind_is e ds after (λ h. n (suc h.0, h.1))

abbrev pub sums : (IRNode → ℕ) → List IRNode → ℕ
sums f [] = 0
sums f (k ∷ ks) = f k + sums f ks

module _ {O B : Type 0} (c : Program O B) (config : WalkConfig) where
  -- the one of these that a node stands in
  abbrev pub holder : List IRNode → IRNode → Option IRNode
  holder [] e = None
  holder (d ∷ ds) e = cond (truth (has (members c config d) e)) (Some d) (holder ds e)

  -- turns from a node on until it is left, as far as n levels down
  abbrev pub steps : ℕ → IRNode → ℕ
  steps zero e = 2
  steps (suc n) e = 2 + sums (steps n) (members c config e)

  -- turns after a node is left, as far as n levels up
  abbrev pub after_steps : List IRNode → (IRNode → ℕ) → ℕ → IRNode → ℕ
  after_steps all total zero e = 0
  after_steps all total (suc n) e = option_map_or (λ d. sums total (behind e (members c config d)) + (1 + after_steps all total n d)) (holder all e) 0

  -- turns that are left of a walk of x
  abbrev pub turns_of : IRNode → Cursor → ℕ
  turns_of x (Arriving e) = steps (length (nodes_inside c x)) e + after_steps (nodes_inside c x) (steps (length (nodes_inside c x))) (length (nodes_inside c x)) e
  turns_of x (Leaving e) = 1 + after_steps (nodes_inside c x) (steps (length (nodes_inside c x))) (length (nodes_inside c x)) e

  abbrev pub turns_left : IRNode → Option Cursor → ℕ
  turns_left x None = 0
  turns_left x (Some at) = suc (turns_of x at)

  same_steps : (es : List IRNode) (s : ℕ) → Sized c config es s → (n m : ℕ) → s ≤ n → s ≤ m → sums (steps n) es ≡ sums (steps m) es
  same_steps _ _ none n m a b = refl
  same_steps _ _ (more e es p q u v) zero m a b = absurd (omega (arith, a))
  same_steps _ _ (more e es p q u v) (suc n) zero a b = absurd (omega (arith, b))
  same_steps _ _ (more e es p q u v) (suc n) (suc m) a b =
      let x : sums (steps n) (members c config e) ≡ sums (steps m) (members c config e) = same_steps (members c config e) p u n m (omega (arith, a)) (omega (arith, b)) in
      let y : sums (steps (suc n)) es ≡ sums (steps (suc m)) es = same_steps es q v (suc n) (suc m) (omega (arith, a)) (omega (arith, b)) in
      (λ i. (2 + x i) + y i)

  total_is : (n m : ℕ) (e : IRNode) → Sized c config (members c config e) m → m < n → steps n e ≡ 2 + sums (steps n) (members c config e)
  total_is zero m e s lt = absurd (omega (arith, lt))
  total_is (suc n) m e s lt = ap (λ z. 2 + z) (same_steps (members c config e) m s n (suc n) (omega (arith, lt)) (omega (arith, lt)))

  at_least : (n : ℕ) (e : IRNode) → 2 ≤ steps n e
  at_least zero e = omega arith
  at_least (suc n) e = omega arith

  module _ (tree : IsTree c) where
    not_earlier : (d e : IRNode) (before after : List IRNode) → members c config d ≡ before ++ e ∷ after → Has before e → ⊥
    not_earlier d e before after h m =
        let s : SplitAt before m.0 e = split before m.0 e m.1 in
        let again : members c config d ≡ s.before ++ e ∷ (s.after ++ e ∷ after) = h ∙ ap (λ z. z ++ e ∷ after) s.parts ∙ simp append_assoc in
        let o = one_split c config tree d d e s.before before (s.after ++ e ∷ after) after again h in
        let same : length s.before ≡ length (s.before ++ e ∷ s.after) = ap length (o.1 ∙ s.parts) in
        let many : length (s.before ++ e ∷ s.after) ≡ length s.before + suc (length s.after) = length-append s.before (e ∷ s.after) in
        absurd (omega (arith, same, many))

    behind_here : (d e : IRNode) (before after : List IRNode) → members c config d ≡ before ++ e ∷ after → behind e (members c config d) ≡ after
    behind_here d e before after h = ap (behind e) h ∙ behind_is e before after (not_earlier d e before after h)

    holder_is : (all : List IRNode) (d e : IRNode) (before after : List IRNode) → members c config d ≡ before ++ e ∷ after → Has all d → holder all e ≡ Some d
    holder_is [] d e before after h m = let no : None ≡ Some d = m.1 in cc
    holder_is (f ∷ fs) d e before after h m = pick (has (members c config f) e) (λ n. holder_is fs d e before after h n) m.0 m.1 where
      pick : (q : Told (Has (members c config f) e)) → (Has fs d → holder fs e ≡ Some d) → (k : ℕ) → slice_get (f ∷ fs) k ≡ Some d → cond (truth q) (Some f) (holder fs e) ≡ Some d
      pick (inl g) later k i =
          let s : SplitAt (members c config f) g.0 e = split (members c config f) g.0 e g.1 in
          ap Some (one_split c config tree f d e s.before before s.after after s.parts h).0
      pick (inr n) later zero i = let s : f ≡ d = cc in absurd (n (length before, subst (λ z. slice_get z (length before) ≡ Some e) (sym (ap (members c config) s ∙ h)) (at_seam before e after)))
      pick (inr n) later (suc k) i = later (k, i)

    module _ (x : IRNode) (inside : (e : IRNode) → Within c x e → Has (nodes_inside c x) e) (only : (k : ℕ) (e : IRNode) → slice_get (nodes_inside c x) k ≡ Some e → Within c x e) (sized : Sized c config (x ∷ []) (length (nodes_inside c x))) where
      abbrev many : ℕ
      many = length (nodes_inside c x)

      abbrev rest : ℕ → IRNode → ℕ
      rest n e = after_steps (nodes_inside c x) (steps many) n e

      held_by_none : (all : List IRNode) → ((k : ℕ) (e : IRNode) → slice_get all k ≡ Some e → Within c x e) → holder all x ≡ None
      held_by_none [] within = refl
      held_by_none (f ∷ fs) within =
          no_of (has (members c config f) x) (Some f) (holder fs x) (λ g. in_itself g.0 g.1) ∙ held_by_none fs (λ k e h. within (suc k) e h)
        where
          in_itself : (k : ℕ) → slice_get (members c config f) k ≡ Some x → ⊥
          in_itself k h =
              let s : SplitAt (members c config f) k x = split (members c config f) k x h in
              let t = stands_in c config f x s.before s.after s.parts in
              tree.apart f x t.0 t.1 (within 0 f refl)

      same_rest : (e : IRNode) (depth : ℕ) (so_far : List Call) → Begun c config x e depth so_far → (n m : ℕ) → depth < n → depth < m → rest n e ≡ rest m e
      same_rest e depth so_far b zero m l k = absurd (omega (arith, l))
      same_rest e depth so_far b (suc n) zero l k = absurd (omega (arith, k))
      same_rest _ _ _ root (suc n) (suc m) l k =
          let none_of : holder (nodes_inside c x) x ≡ None = held_by_none (nodes_inside c x) only in
          (λ i. option_map_or (λ d. sums (steps many) (behind x (members c config d)) + (1 + rest n d)) (none_of i) 0) ∙ (λ i. option_map_or (λ d. sums (steps many) (behind x (members c config d)) + (1 + rest m d)) (sym none_of i) 0)
      same_rest _ _ _ (down d e depth before after outer opening walked h o w b) (suc n) (suc m) l k =
          let is : holder (nodes_inside c x) e ≡ Some d = holder_is (nodes_inside c x) d e before after h (inside d (begun_within c config x d depth outer b)) in
          let up : rest n d ≡ rest m d = same_rest d depth outer b n m (omega (arith, l)) (omega (arith, k)) in
          (λ i. option_map_or (λ f. sums (steps many) (behind e (members c config f)) + (1 + rest n f)) (is i) 0)
          ∙ ap (λ z. sums (steps many) (behind e (members c config d)) + (1 + z)) up
          ∙ (λ i. option_map_or (λ f. sums (steps many) (behind e (members c config f)) + (1 + rest m f)) (sym is i) 0)

      rest_from : (n : ℕ) (d e : IRNode) (depth : ℕ) (before after : List IRNode) (outer : List Call) → members c config d ≡ before ++ e ∷ after → Begun c config x d depth outer → suc depth < n → rest n e ≡ sums (steps many) after + (1 + rest n d)
      rest_from zero d e depth before after outer h b lt = absurd (omega (arith, lt))
      rest_from (suc n) d e depth before after outer h b lt =
          let is : holder (nodes_inside c x) e ≡ Some d = holder_is (nodes_inside c x) d e before after h (inside d (begun_within c config x d depth outer b)) in
          (λ i. option_map_or (λ f. sums (steps many) (behind e (members c config f)) + (1 + rest n f)) (is i) 0)
          ∙ ap (λ z. sums (steps many) z + (1 + rest n d)) (behind_here d e before after h)
          ∙ ap (λ z. sums (steps many) after + (1 + z)) (same_rest d depth outer b n (suc n) (omega (arith, lt)) (omega (arith, lt)))

      -- each turn leaves fewer
      pub lowers : (at : Cursor) (so_far : List Call) → IsSoFar c config x (Some at) so_far → (a : WalkContinue) (next : Option Cursor) → IsTurn c config x at a next → turns_left x next < turns_left x (Some at)
      lowers _ so_far s _ _ (enters e _ (to_first k ks h)) =
          let os : List Call = made (called_at config (Arriving e)) Advance in
          let low : Deep c config x many sized k (suc s.depth) = deep c config x many sized k (suc s.depth) (so_far ++ (os ++ [])) (down e k s.depth [] ks so_far os [] h (arriving_opens c config e) nothing s.begun) in
          let here : Deep c config x many sized e s.depth = deep c config x many sized e s.depth so_far s.begun in
          let l = low.low in
          let m = here.low in
          let total : steps many e ≡ 2 + (steps many k + sums (steps many) ks) = total_is many here.size e here.sized (omega (arith, m)) ∙ ap (λ z. 2 + sums (steps many) z) h in
          let behind_k : rest many k ≡ sums (steps many) ks + (1 + rest many e) = rest_from many e k s.depth [] ks so_far h s.begun (omega (arith, l)) in
          omega (arith, total, behind_k)
      lowers _ so_far s _ _ (enters e _ (to_end h)) = let l : 2 ≤ steps many e = at_least many e in omega (arith, l)
      lowers _ so_far s _ _ (passes e) = let l : 2 ≤ steps many e = at_least many e in omega (arith, l)
      lowers _ so_far s _ _ (exits e a _ (all_done same)) = omega arith
      lowers _ so_far s _ _ (exits e a _ (to_next d k before after ne h)) =
          let u : Up c config x e s.outer = up c config x e s.depth s.outer s.begun ne in
          let o = one_split c config tree u.holder d e u.before before u.after (k ∷ after) u.here h in
          let low : Deep c config x many sized e (suc u.depth) = deep c config x many sized e (suc u.depth) (u.outer ++ (u.opening ++ u.walked)) (down u.holder e u.depth u.before u.after u.outer u.opening u.walked u.here u.opens u.walk u.begun) in
          let l = low.low in
          let next_here : members c config u.holder ≡ (u.before ++ e ∷ []) ++ k ∷ after = u.here ∙ ap (λ zs. u.before ++ e ∷ zs) o.2 ∙ sym (append_assoc u.before (e ∷ []) (k ∷ after)) in
          let behind_e : rest many e ≡ sums (steps many) u.after + (1 + rest many u.holder) = rest_from many u.holder e u.depth u.before u.after u.outer u.here u.begun (omega (arith, l)) in
          let behind_k : rest many k ≡ sums (steps many) after + (1 + rest many u.holder) = rest_from many u.holder k u.depth (u.before ++ e ∷ []) after u.outer next_here u.begun (omega (arith, l)) in
          let next : sums (steps many) u.after ≡ steps many k + sums (steps many) after = ap (sums (steps many)) o.2 in
          omega (arith, behind_e, behind_k, next)
      lowers _ so_far s _ _ (exits e a _ (to_holder d before ne h)) =
          let u : Up c config x e s.outer = up c config x e s.depth s.outer s.begun ne in
          let o = one_split c config tree u.holder d e u.before before u.after [] u.here h in
          let low : Deep c config x many sized e (suc u.depth) = deep c config x many sized e (suc u.depth) (u.outer ++ (u.opening ++ u.walked)) (down u.holder e u.depth u.before u.after u.outer u.opening u.walked u.here u.opens u.walk u.begun) in
          let l = low.low in
          let behind_e : rest many e ≡ sums (steps many) u.after + (1 + rest many u.holder) = rest_from many u.holder e u.depth u.before u.after u.outer u.here u.begun (omega (arith, l)) in
          let same : rest many u.holder ≡ rest many d = ap (rest many) o.0 in
          omega (arith, behind_e, same)
