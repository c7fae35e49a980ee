-- What was called so far is the beginning of a walk.
use Rattle.std.proofs.Common.{◌≡◌, ℕ, suc, ◌+◌, ◌<◌, List, [], ◌∷◌, ◌++◌, length, reverse, Option, Some, None, refl, sym, ap, ◌∙◌, subst, arith, append_assoc, length-append}
use Rattle.std.proofs.lemmas.List.{append-nil, reverse-append}
use Rattle.ir_program.specs.Preorder.{nodes_in, IsPreorder, nothing as no_more, more as one_more}
use Rattle.ir_program.specs.Program.{Program}
use Rattle.ir_program.specs.declared.handles.IRNode.{IRNode}
use Rattle.ir_walks.specs.declared.config.Direction.{Direction}
use Rattle.ir_walks.specs.declared.config.Direction.TheVariants.{Forward, Reverse}
use Rattle.ir_walks.specs.declared.config.Order.{Order}
use Rattle.ir_walks.specs.declared.config.Order.TheVariants.{PreOrder, PostOrder}
use Rattle.ir_walks.specs.declared.config.WalkConfig.{WalkConfig}
use Rattle.ir_walks.specs.declared.turns.Cursor.{Cursor}
use Rattle.ir_walks.specs.declared.turns.Cursor.TheVariants.{Arriving, Leaving}
use Rattle.ir_walks.specs.declared.results.WalkContinue.{WalkContinue}
use Rattle.ir_walks.specs.declared.results.WalkContinue.TheVariants.{Advance, Skip}
use Rattle.ir_walks.specs.Levels.{IsCalledFirst, IsCalledLast, level_of, directed, members}
use Rattle.ir_walks.specs.Turns.{on_arriving, on_leaving, called_at, to_first, to_end, all_done, to_next, to_holder, IsTurn, enters, passes, exits}
use Rattle.ir_walks.specs.Walks.{Call, IsWalk, nothing, skipped, first, last}
use Rattle.ir_walks.proofs.Trees.{Within, it, IsTree, stands_in, member_within, one_split}

-- the call of a node, where there is one
abbrev pub made : Option IRNode → WalkContinue → List Call
made None a = []
made (Some e) a = (e, a) ∷ []

module _ {O B : Type 0} (c : Program O B) (config : WalkConfig) where
  -- as many nodes are in these lists, counted with all that stands in them
  pub data Sized : List IRNode → ℕ → Type 0 where
    none : Sized [] 0
    more : (e : IRNode) (es : List IRNode) (m n : ℕ) → Sized (members c config e) m → Sized es n → Sized (e ∷ es) (suc (m + n))

  sized_append : (es fs : List IRNode) (m n : ℕ) → Sized es m → Sized fs n → Sized (es ++ fs) (m + n)
  sized_append _ fs _ n none t = let is : n ≡ 0 + n = omega arith in subst (Sized fs) is t
  sized_append _ fs _ n (more e es p q u v) t =
      let is : suc (p + (q + n)) ≡ suc (p + q) + n = omega arith in
      subst (Sized (e ∷ (es ++ fs))) is (more e (es ++ fs) p (q + n) u (sized_append es fs q n v t))

  sized_reverse : (es : List IRNode) (n : ℕ) → Sized es n → Sized (reverse es) n
  sized_reverse _ _ none = none
  sized_reverse _ _ (more e es p q u v) =
      let is : q + suc (p + 0) ≡ suc (p + q) = omega arith in
      let all : Sized (reverse es ++ e ∷ []) (q + suc (p + 0)) = sized_append (reverse es) (e ∷ []) q (suc (p + 0)) (sized_reverse es q v) (more e [] p 0 u none) in
      subst (Sized (reverse (e ∷ es))) is (subst (λ fs. Sized fs (q + suc (p + 0))) (sym (reverse-append (e ∷ []) es)) all)

  sized_directed : (direction : Direction) (es : List IRNode) (n : ℕ) → Sized es n → Sized (directed direction es) n
  sized_directed Forward es n s = s
  sized_directed Reverse es n s = sized_reverse es n s

  pub sized_of : (es ns : List IRNode) → IsPreorder c es ns → Sized es (length ns)
  sized_of _ _ no_more = none
  sized_of _ _ (one_more e es inner rest d ds) =
      let is : suc (length inner + length rest) ≡ length (e ∷ (inner ++ rest)) = ap suc (sym (length-append inner rest)) in
      subst (Sized (e ∷ es)) is (more e es (length inner) (length rest) (sized_directed (level_of config e).direction (nodes_in c e) (length inner) (sized_of (nodes_in c e) inner d)) (sized_of es rest ds))

  -- of one of the nodes, and of those after it
  pub record SizedPart (e : IRNode) (after : List IRNode) (n : ℕ) : Type 0 where
    pub inner : ℕ
    pub behind : ℕ
    pub sized : Sized (members c config e) inner
    pub rest : Sized after behind
    pub fewer : inner < n

  pub sized_part : (es : List IRNode) (n : ℕ) → Sized es n → (before : List IRNode) (e : IRNode) (after : List IRNode) → es ≡ before ++ e ∷ after → SizedPart e after n
  sized_part _ _ none [] e after h = cc
  sized_part _ _ none (b ∷ bs) e after h = cc
  sized_part _ _ (more f fs p q u v) [] e after h =
      let same : f ≡ e = cc in
      let rest : fs ≡ after = cc in
      record { inner = p; behind = q; sized = subst (λ z. Sized (members c config z) p) same u; rest = subst (λ zs. Sized zs q) rest v; fewer = omega arith }
  sized_part _ _ (more f fs p q u v) (b ∷ bs) e after h =
      let rest : fs ≡ bs ++ e ∷ after = cc in
      let r : SizedPart e after q = sized_part fs q v bs e after rest in
      record { inner = r.inner; behind = r.behind; sized = r.sized; rest = r.rest; fewer = let l = r.fewer in omega (arith, l) }

  -- the call of a node before what stands in it, which goes into it
  pub data Opens (e : IRNode) : List Call → Type 0 where
    called_before : IsCalledFirst config e → Opens e ((e, Advance) ∷ [])
    not_before : IsCalledLast config e → Opens e []

  -- the call of a node after what stands in it
  pub data Closes (e : IRNode) : List Call → Type 0 where
    called_after : (a : WalkContinue) → IsCalledLast config e → Closes e ((e, a) ∷ [])
    not_after : IsCalledFirst config e → Closes e []

  both_orders : (e : IRNode) → IsCalledFirst config e → IsCalledLast config e → ⊥
  both_orders e p q = let s : PreOrder ≡ PostOrder = sym p ∙ q in cc

  pub arriving_opens : (e : IRNode) → Opens e (made (called_at config (Arriving e)) Advance)
  arriving_opens e = pick (level_of config e).order refl where
    pick : (o : Order) → (level_of config e).order ≡ o → Opens e (made (on_arriving o e) Advance)
    pick PreOrder p = called_before p
    pick PostOrder p = not_before p

  pub leaving_closes : (e : IRNode) (a : WalkContinue) → Closes e (made (called_at config (Leaving e)) a)
  leaving_closes e a = pick (level_of config e).order refl where
    pick : (o : Order) → (level_of config e).order ≡ o → Closes e (made (on_leaving o e) a)
    pick PreOrder p = not_after p
    pick PostOrder p = called_after a p

  whole : (e : IRNode) (os inner cs : List Call) → Opens e os → IsWalk c config (members c config e) inner → Closes e cs → IsWalk c config (e ∷ []) (os ++ (inner ++ cs))
  whole e _ inner _ (called_before p) w (called_after a q) = absurd (both_orders e p q)
  whole e _ inner _ (called_before p) w (not_after q) = first e [] inner [] p w nothing
  whole e _ inner _ (not_before p) w (called_after a q) = last e [] inner [] a p w nothing
  whole e _ inner _ (not_before p) w (not_after q) = absurd (both_orders e q p)

  pub walk_append : (es fs : List IRNode) (xs ys : List Call) → IsWalk c config es xs → IsWalk c config fs ys → IsWalk c config (es ++ fs) (xs ++ ys)
  walk_append _ fs _ ys nothing v = v
  walk_append _ fs _ ys (skipped e es rest p w) v = skipped e (es ++ fs) (rest ++ ys) p (walk_append es fs rest ys w v)
  walk_append _ fs _ ys (first e es inner rest p i w) v =
      subst (λ zs. IsWalk c config (e ∷ (es ++ fs)) ((e, Advance) ∷ zs)) (sym (append_assoc inner rest ys)) (first e (es ++ fs) inner (rest ++ ys) p i (walk_append es fs rest ys w v))
  walk_append _ fs _ ys (last e es inner rest a p i w) v =
      subst (IsWalk c config (e ∷ (es ++ fs))) (sym (append_assoc inner ((e, a) ∷ rest) ys)) (last e (es ++ fs) inner (rest ++ ys) a p i (walk_append es fs rest ys w v))

  -- what is called of a node before it is left
  pub data Mid (e : IRNode) : List Call → Type 0 where
    passed : IsCalledFirst config e → Mid e ((e, Skip) ∷ [])
    entered : (os inner : List Call) → Opens e os → IsWalk c config (members c config e) inner → Mid e (os ++ inner)

  mid_whole : (e : IRNode) (ms cs : List Call) → Mid e ms → Closes e cs → IsWalk c config (e ∷ []) (ms ++ cs)
  mid_whole e _ _ (passed p) (called_after a q) = absurd (both_orders e p q)
  mid_whole e _ _ (passed p) (not_after q) = skipped e [] [] p nothing
  mid_whole e _ cs (entered os inner o w) k = subst (IsWalk c config (e ∷ [])) (sym (append_assoc os inner cs)) (whole e os inner cs o w k)

  module _ (x : IRNode) where
    -- the calls of a walk of x before it comes to a node, and the way down to that, of this length
    pub data Begun : IRNode → ℕ → List Call → Type 0 where
      root : Begun x 0 []
      down : (d e : IRNode) (depth : ℕ) (before after : List IRNode) (outer opening walked : List Call) → members c config d ≡ before ++ e ∷ after → Opens d opening → IsWalk c config before walked → Begun d depth outer
          → Begun e (suc depth) (outer ++ (opening ++ walked))

    -- the walk is at a node or after what stands in it
    pub record IsArriving (e : IRNode) (so_far : List Call) : Type 0 where
      pub depth : ℕ
      pub begun : Begun e depth so_far

    pub record IsLeaving (e : IRNode) (so_far : List Call) : Type 0 where
      pub depth : ℕ
      pub outer : List Call
      pub mid : List Call
      pub begun : Begun e depth outer
      pub within : Mid e mid
      pub parts : so_far ≡ outer ++ mid

    -- the calls so far of a walk of x
    abbrev pub IsSoFar : Option Cursor → List Call → Type 0
    IsSoFar None so_far = IsWalk c config (x ∷ []) so_far
    IsSoFar (Some (Arriving e)) so_far = IsArriving e so_far
    IsSoFar (Some (Leaving e)) so_far = IsLeaving e so_far

    pub begins : IsSoFar (Some (Arriving x)) []
    begins = record { depth = 0; begun = root }

    pub begun_within : (e : IRNode) (depth : ℕ) (so_far : List Call) → Begun e depth so_far → Within c x e
    begun_within _ _ _ root = it
    begun_within _ _ _ (down d e depth before after outer opening walked h o w b) = member_within c config x d e before after h (begun_within d depth outer b)

    -- one level up
    pub record Up (e : IRNode) (so_far : List Call) : Type 0 where
      pub holder : IRNode
      pub depth : ℕ
      pub before : List IRNode
      pub after : List IRNode
      pub outer : List Call
      pub opening : List Call
      pub walked : List Call
      pub here : members c config holder ≡ before ++ e ∷ after
      pub opens : Opens holder opening
      pub walk : IsWalk c config before walked
      pub begun : Begun holder depth outer
      pub parts : so_far ≡ outer ++ (opening ++ walked)

    pub up : (e : IRNode) (depth : ℕ) (so_far : List Call) → Begun e depth so_far → (e ≡ x → ⊥) → Up e so_far
    up _ _ _ root ne = absurd (ne refl)
    up _ _ _ (down d e depth before after outer opening walked h o w b) ne = record {
      holder = d;
      depth = depth;
      before = before;
      after = after;
      outer = outer;
      opening = opening;
      walked = walked;
      here = h;
      opens = o;
      walk = w;
      begun = b;
      parts = refl;
    }

    module _ (tree : IsTree c) where
      at_root : (e : IRNode) (depth : ℕ) (so_far : List Call) → Begun e depth so_far → e ≡ x → so_far ≡ []
      at_root _ _ _ root h = refl
      at_root _ _ _ (down d e depth before after outer opening walked h o w b) same =
          let s = stands_in c config d e before after h in
          absurd (tree.apart d e s.0 s.1 (subst (λ z. Within c z d) (sym same) (begun_within d depth outer b)))

      pub goes_on : (at : Cursor) (so_far : List Call) → IsSoFar (Some at) so_far → (a : WalkContinue) (next : Option Cursor) → IsTurn c config x at a next → (called_at config at ≡ None → a ≡ Advance) → IsSoFar next (so_far ++ made (called_at config at) a)
      goes_on _ so_far s _ _ (enters e _ (to_first k ks h)) silent =
          let os : List Call = made (called_at config (Arriving e)) Advance in
          let b : Begun k (suc s.depth) (so_far ++ (os ++ [])) = down e k s.depth [] ks so_far os [] h (arriving_opens e) nothing s.begun in
          record { depth = suc s.depth; begun = subst (λ zs. Begun k (suc s.depth) (so_far ++ zs)) (append-nil os) b }
      goes_on _ so_far s _ _ (enters e _ (to_end h)) silent =
          let os : List Call = made (called_at config (Arriving e)) Advance in
          record {
            depth = s.depth;
            outer = so_far;
            mid = os ++ [];
            begun = s.begun;
            within = entered os [] (arriving_opens e) (subst (λ es. IsWalk c config es []) (sym h) nothing);
            parts = ap (λ zs. so_far ++ zs) (sym (append-nil os));
          }
      goes_on _ so_far s _ _ (passes e) silent = pick (level_of config e).order refl silent where
        pick : (o : Order) → (level_of config e).order ≡ o → (on_arriving o e ≡ None → Skip ≡ Advance) → IsLeaving e (so_far ++ made (on_arriving o e) Skip)
        pick PreOrder p q = record { depth = s.depth; outer = so_far; mid = (e, Skip) ∷ []; begun = s.begun; within = passed p; parts = refl }
        pick PostOrder p q = let no : Skip ≡ Advance = q refl in cc
      goes_on _ so_far s a _ (exits e _ _ (all_done same)) silent =
          let cs : List Call = made (called_at config (Leaving e)) a in
          let none_before : s.outer ≡ [] = at_root e s.depth s.outer s.begun same in
          let all : so_far ≡ s.mid = s.parts ∙ ap (λ zs. zs ++ s.mid) none_before in
          subst (λ z. IsWalk c config (z ∷ []) (so_far ++ cs)) same
          (subst (λ zs. IsWalk c config (e ∷ []) (zs ++ cs)) (sym all) (mid_whole e s.mid cs s.within (leaving_closes e a)))
      goes_on _ so_far s a _ (exits e _ _ (to_next d k before after ne h)) silent =
          let cs : List Call = made (called_at config (Leaving e)) a in
          let u : Up e s.outer = up e s.depth s.outer s.begun ne in
          let o = one_split c config tree u.holder d e u.before before u.after (k ∷ after) u.here h in
          let w : IsWalk c config (e ∷ []) (s.mid ++ cs) = mid_whole e s.mid cs s.within (leaving_closes e a) in
          let here : members c config u.holder ≡ (u.before ++ e ∷ []) ++ k ∷ after = u.here ∙ ap (λ zs. u.before ++ e ∷ zs) o.2 ∙ sym (append_assoc u.before (e ∷ []) (k ∷ after)) in
          let b : Begun k (suc u.depth) (u.outer ++ (u.opening ++ (u.walked ++ (s.mid ++ cs)))) = down u.holder k u.depth (u.before ++ e ∷ []) after u.outer u.opening (u.walked ++ (s.mid ++ cs)) here u.opens (walk_append u.before (e ∷ []) u.walked (s.mid ++ cs) u.walk w) u.begun in
          let parts : u.outer ++ (u.opening ++ (u.walked ++ (s.mid ++ cs))) ≡ ((u.outer ++ (u.opening ++ u.walked)) ++ s.mid) ++ cs = simp append_assoc in
          let whole_of : ((u.outer ++ (u.opening ++ u.walked)) ++ s.mid) ++ cs ≡ so_far ++ cs = ap (λ zs. zs ++ cs) (ap (λ zs. zs ++ s.mid) (sym u.parts) ∙ sym s.parts) in
          record { depth = suc u.depth; begun = subst (Begun k (suc u.depth)) (parts ∙ whole_of) b }
      goes_on _ so_far s a _ (exits e _ _ (to_holder d before ne h)) silent =
          let cs : List Call = made (called_at config (Leaving e)) a in
          let u : Up e s.outer = up e s.depth s.outer s.begun ne in
          let o = one_split c config tree u.holder d e u.before before u.after [] u.here h in
          let w : IsWalk c config (e ∷ []) (s.mid ++ cs) = mid_whole e s.mid cs s.within (leaving_closes e a) in
          let inner : IsWalk c config (u.before ++ e ∷ []) (u.walked ++ (s.mid ++ cs)) = walk_append u.before (e ∷ []) u.walked (s.mid ++ cs) u.walk w in
          let here : members c config u.holder ≡ u.before ++ e ∷ [] = u.here ∙ ap (λ zs. u.before ++ e ∷ zs) o.2 in
          let parts : ((u.outer ++ (u.opening ++ u.walked)) ++ s.mid) ++ cs ≡ u.outer ++ (u.opening ++ (u.walked ++ (s.mid ++ cs))) = simp append_assoc in
          let whole_of : so_far ++ cs ≡ ((u.outer ++ (u.opening ++ u.walked)) ++ s.mid) ++ cs = ap (λ zs. zs ++ cs) (s.parts ∙ ap (λ zs. zs ++ s.mid) u.parts) in
          subst (λ z. IsLeaving z (so_far ++ cs)) o.0 (record {
            depth = u.depth;
            outer = u.outer;
            mid = u.opening ++ (u.walked ++ (s.mid ++ cs));
            begun = u.begun;
            within = entered u.opening (u.walked ++ (s.mid ++ cs)) u.opens (subst (λ es. IsWalk c config es (u.walked ++ (s.mid ++ cs))) (sym here) inner);
            parts = whole_of ∙ parts;
          })

    -- what broke off could have gone on
    pub some_closing : (e : IRNode) → (cs : List Call) × Closes e cs
    some_closing e = pick (level_of config e).order refl where
      pick : (o : Order) → (level_of config e).order ≡ o → (cs : List Call) × Closes e cs
      pick PreOrder p = ([], not_after p)
      pick PostOrder p = ((e, Advance) ∷ [], called_after Advance p)

    pub some_opening : (e : IRNode) → (cs : List Call) × Opens e cs
    some_opening e = pick (level_of config e).order refl where
      pick : (o : Order) → (level_of config e).order ≡ o → (cs : List Call) × Opens e cs
      pick PreOrder p = ((e, Advance) ∷ [], called_before p)
      pick PostOrder p = ([], not_before p)

    pub some_walk : (es : List IRNode) (n : ℕ) → Sized es n → (cs : List Call) × IsWalk c config es cs
    some_walk _ _ none = ([], nothing)
    some_walk _ _ (more e es m n u v) =
        let inner = some_walk (members c config e) m u in
        let rest = some_walk es n v in
        let os = some_opening e in
        let cs = some_closing e in
        ((os.0 ++ (inner.0 ++ cs.0)) ++ rest.0, walk_append (e ∷ []) es (os.0 ++ (inner.0 ++ cs.0)) rest.0 (whole e os.0 inner.0 cs.0 os.1 inner.1 cs.1) rest.1)

    module _ (n : ℕ) (all : Sized (x ∷ []) n) where
      -- what stands in a node down there is smaller than n by the length of the way at least
      pub record Deep (e : IRNode) (depth : ℕ) : Type 0 where
        pub size : ℕ
        pub sized : Sized (members c config e) size
        pub low : depth + size < n

      pub deep : (e : IRNode) (depth : ℕ) (so_far : List Call) → Begun e depth so_far → Deep e depth
      deep _ _ _ root = let r : SizedPart x [] n = sized_part (x ∷ []) n all [] x [] refl in record { size = r.inner; sized = r.sized; low = let l = r.fewer in omega (arith, l) }
      deep _ _ _ (down d e depth before after outer opening walked h o w b) =
          let up : Deep d depth = deep d depth outer b in
          let r : SizedPart e after up.size = sized_part (members c config d) up.size up.sized before e after h in
          record { size = r.inner; sized = r.sized; low = let l = r.fewer in let m = up.low in omega (arith, l, m) }

      finish : (e : IRNode) (depth : ℕ) (so_far : List Call) → Begun e depth so_far → (walked : List Call) → IsWalk c config (e ∷ []) walked → (rest : List Call) × IsWalk c config (x ∷ []) (so_far ++ (walked ++ rest))
      finish _ _ _ root v w = ([], subst (IsWalk c config (x ∷ [])) (sym (append-nil v)) w)
      finish _ _ _ (down d e depth before after outer opening walked h o u b) v w =
          let up : Deep d depth = deep d depth outer b in
          let r : SizedPart e after up.size = sized_part (members c config d) up.size up.sized before e after h in
          let t = some_walk after r.behind r.rest in
          let cs = some_closing d in
          let inner : IsWalk c config (before ++ e ∷ after) (walked ++ (v ++ t.0)) = walk_append before (e ∷ after) walked (v ++ t.0) u (walk_append (e ∷ []) after v t.0 w t.1) in
          let over : IsWalk c config (d ∷ []) (opening ++ ((walked ++ (v ++ t.0)) ++ cs.0)) = whole d opening (walked ++ (v ++ t.0)) cs.0 o (subst (λ es. IsWalk c config es (walked ++ (v ++ t.0))) (sym h) inner) cs.1 in
          let rest = finish d depth outer b (opening ++ ((walked ++ (v ++ t.0)) ++ cs.0)) over in
          let parts : outer ++ ((opening ++ ((walked ++ (v ++ t.0)) ++ cs.0)) ++ rest.0) ≡ (outer ++ (opening ++ walked)) ++ (v ++ (t.0 ++ (cs.0 ++ rest.0))) = simp append_assoc in
          (t.0 ++ (cs.0 ++ rest.0), subst (IsWalk c config (x ∷ [])) parts rest.1)

      -- a call that breaks is one of a whole walk, with some answer in its place
      pub could_go_on : (at : Cursor) (so_far : List Call) → IsSoFar (Some at) so_far → (e : IRNode) → called_at config at ≡ Some e → (a : WalkContinue) × (rest : List Call) × IsWalk c config (x ∷ []) (so_far ++ (e, a) ∷ rest)
      could_go_on (Arriving d) so_far s e h = pick (level_of config d).order refl h where
        pick : (o : Order) → (level_of config d).order ≡ o → on_arriving o d ≡ Some e → (a : WalkContinue) × (rest : List Call) × IsWalk c config (x ∷ []) (so_far ++ (e, a) ∷ rest)
        pick PreOrder p q =
            let same : d ≡ e = cc in
            let r = finish d s.depth so_far s.begun ((d, Skip) ∷ []) (skipped d [] [] p nothing) in
            (Skip, r.0, subst (λ z. IsWalk c config (x ∷ []) (so_far ++ (z, Skip) ∷ r.0)) same r.1)
        pick PostOrder p q = cc
      could_go_on (Leaving d) so_far s e h = pick (level_of config d).order refl h where
        pick : (o : Order) → (level_of config d).order ≡ o → on_leaving o d ≡ Some e → (a : WalkContinue) × (rest : List Call) × IsWalk c config (x ∷ []) (so_far ++ (e, a) ∷ rest)
        pick PreOrder p q = cc
        pick PostOrder p q =
            let same : d ≡ e = cc in
            let r = finish d s.depth s.outer s.begun (s.mid ++ (d, Advance) ∷ []) (mid_whole d s.mid ((d, Advance) ∷ []) s.within (called_after Advance p)) in
            let parts : s.outer ++ ((s.mid ++ (d, Advance) ∷ []) ++ r.0) ≡ (s.outer ++ s.mid) ++ (d, Advance) ∷ r.0 = simp append_assoc in
            let all_of : (s.outer ++ s.mid) ++ (d, Advance) ∷ r.0 ≡ so_far ++ (d, Advance) ∷ r.0 = ap (λ zs. zs ++ (d, Advance) ∷ r.0) (sym s.parts) in
            (Advance, r.0, subst (λ z. IsWalk c config (x ∷ []) (so_far ++ (z, Advance) ∷ r.0)) same (subst (IsWalk c config (x ∷ [])) (parts ∙ all_of) r.1))
