-- What the pass leaves: each block is reached.
use Rattle.std.proofs.Common.{◌≡◌, ◌⊎◌, ⊎_elim, inl, inr, ℕ, zero, suc, ◌+◌, ◌-◌, ◌<◌, ◌≤◌, Bool, true, false, List, [], ◌∷◌, length, Option, Some, None, refl, sym, ap, ◌∙◌, subst, arith}
use Rattle.std.specs.Prelude.{map, if◌then◌else◌, not}
use Rattle.kit_behaviour.proofs.Behaviour.SizeLemmas.{place_size, some_end, length_map}
use Rattle.kit_behaviour.specs.Machine.{Edge, Op, Const, Calc, Emit, Call, Branch, Return, Fun, left_in, arguments_in, size}
use Rattle.kit_behaviour.specs.Renaming.{rename_edge, rename_op, same_block}
use Rattle.kit_behaviour.specs.RemovedValues.{thin_edge, thin_op}
use Rattle.kit_behaviour.specs.JoinedBlocks.{join_ops, joined}
use Rattle.kit_behaviour.specs.Replacement.{replace_edge, replace_op, replace}
use Rattle.kit_behaviour.specs.Rules.{is_terminator, EndsWell, Rules}
use Rattle.kit_behaviour.specs.Numbering.{place_fun}
use Rattle.kit_behaviour.specs.Places.{Place, same_place}
use Rattle.kit_behaviour.specs.SimplifiedBlocks.{constants, edges_of, all_edges, LeadsTo, Reached, first, further, IsReachedSet, retarget_edge, retarget, keep, last_edge, BlocksAreJoinable, IsJoinedSet, Depth, top, below, join_fun, branched}
use Rattle.kit_behaviour.proofs.ControlFlow.PlacesJoined.{forward, Follows, taken_arg, replaced_args, Simplifies}
use Rattle.kit_behaviour.proofs.Numbering.PlaceEquality.{place_law}
use Rattle.kit_behaviour.proofs.Numbering.NumberingBehaviour.{place_name, place_left}
use Rattle.kit_behaviour.proofs.ControlFlow.KeptBlocks.{stood, at, keep_left}
use Rattle.kit_behaviour.proofs.ControlFlow.DecisionRules.{decide_rules}
use Rattle.kit_behaviour.proofs.ControlFlow.ChainLemmas.{leads_left, leads_right, one_place, joinable_leads, reached_depth}
use Rattle.kit_behaviour.proofs.ControlFlow.JoiningPremises.{left_two, not_free}
use Rattle.kit_behaviour.proofs.ControlFlow.ScopesAfterJoining.{pass_on, left_three}
use Rattle.kit_behaviour.proofs.ControlFlow.SimplifyBehaviour.{leads_split, leads_through, edges_retarget, edges_renamed, reached_kept, kept_lives, kept_rules}

pub kept_reached : (f : Option (Fun Place)) (r : ℕ → Bool) → IsReachedSet f r → (b : ℕ) → b < size (place_fun same_place (keep r f)) → Reached (place_fun same_place (keep r f)) b
kept_reached f r is b l =
    let w = stood r f b (omega (arith, l, place_size same_place (keep r f))) in
    subst (Reached (place_fun same_place (keep r f))) (sym w.is) (reached_kept f r is w.old (is.sound w.old w.kept))

pub join_size : {V : Type 0} (j : ℕ → Bool) (k : ℕ) (g : Option (Fun V)) → size (join_fun j k g) ≡ size g
join_size j k None = refl
join_size j k (Some g) = length_map _ g

module _ (f : Option (Fun Place)) (rules : Rules f) (j : ℕ → Bool) (taken : IsJoinedSet f j) (s : Place → Place) (fol : (v : Place) → Follows (forward j f) v (s v)) (lives : (b : ℕ) → (arguments_in f b ≡ []) ⊎ Reached f b) (k : ℕ) (long : (b n : ℕ) → Depth f j b n → n ≤ k) where
  abbrev f1 : Option (Fun Place)
  f1 = replace s f

  abbrev f2 : Option (Fun Place)
  f2 = replaced_args j s f

  abbrev f3 : Option (Fun Place)
  f3 = join_fun j k f2

  abbrev stays : ℕ → Bool
  stays b = not (j b)

  abbrev q : Option (Fun Place)
  q = place_fun same_place (keep stays f3)

  abbrev tw : Op Place → Op Place
  tw op = thin_op f1 (taken_arg j) (replace_op s op)

  pub on : (n : ℕ → List (Op Place)) (op : Op Place) (rest : List (Op Place)) → is_terminator op ≡ false → join_ops j n (tw op ∷ rest) ≡ tw op ∷ join_ops j n rest
  on n op rest e = pass_on f rules j taken s fol lives k long n op rest e

  tw_edges : (op : Op Place) → edges_of (tw op) ≡ map (thin_edge f1 (taken_arg j)) (map (replace_edge s) (edges_of op))
  tw_edges (Const r n) = refl
  tw_edges (Calc a w r x y) = refl
  tw_edges (Emit x) = refl
  tw_edges (Call rs c xs) = refl
  tw_edges (Branch t xs e es) = refl
  tw_edges (Return xs) = refl

  -- a chain's next block goes on
  leads_tail : (n : ℕ → List (Op Place)) (b t : ℕ) (ops : List (Op Place)) (e : Edge Place) → EndsWell ops → last_edge ops ≡ Some e → e.target ≡ b → j b ≡ true → LeadsTo t (all_edges (n b)) → LeadsTo t (all_edges (join_ops j n (map tw ops)))
  leads_tail n b t [] e w h eb jb l = absurd (cc h)
  leads_tail n b t (Branch u xs x [] ∷ []) e w h eb jb l =
      let p : Some x ≡ Some e = h in
      let xe : x ≡ e = cc p in
      let xb : x.target ≡ b = ap (λ (y : Edge Place). y.target) xe ∙ eb in
      subst (λ c. LeadsTo t (all_edges (if c then n x.target else tw (Branch u xs x []) ∷ []))) (sym (ap j xb ∙ jb)) (subst (λ c. LeadsTo t (all_edges (n c))) (sym xb) l)
  leads_tail n b t (Branch u xs x (y ∷ ys) ∷ []) e w h eb jb l = absurd (cc h)
  leads_tail n b t (Const r m ∷ []) e w h eb jb l = absurd (cc h)
  leads_tail n b t (Calc a v r x y ∷ []) e w h eb jb l = absurd (cc h)
  leads_tail n b t (Emit x ∷ []) e w h eb jb l = absurd (cc h)
  leads_tail n b t (Call rs c xs ∷ []) e w h eb jb l = absurd (cc h)
  leads_tail n b t (Return xs ∷ []) e w h eb jb l = absurd (cc h)
  leads_tail n b t (op ∷ next ∷ ops) e w h eb jb l =
      subst (λ o. LeadsTo t (all_edges o)) (sym (on n op (map tw (next ∷ ops)) w.0))
      (leads_right t (edges_of (tw op)) (all_edges (join_ops j n (map tw (next ∷ ops)))) (leads_tail n b t (next ∷ ops) e w.1 h eb jb l))

  keep_target : (t : ℕ) (es : List (Edge Place)) → LeadsTo t es → LeadsTo t (map (thin_edge f1 (taken_arg j)) (map (replace_edge s) es))
  keep_target t [] h = absurd h
  keep_target t (e ∷ es) h = ⊎_elim (λ p. inl p) (λ r. inr (keep_target t es r)) h

  pub no_edges : (op : Op Place) → is_terminator op ≡ false → edges_of op ≡ []
  no_edges (Const r n) e = refl
  no_edges (Calc a w r x y) e = refl
  no_edges (Emit x) e = refl
  no_edges (Call rs c xs) e = refl
  no_edges (Branch t xs x es) e = absurd (cc e)
  no_edges (Return xs) e = refl

  -- an edge to a block that stays, stays
  leads_head : (n : ℕ → List (Op Place)) (t : ℕ) (ops : List (Op Place)) → j t ≡ false → EndsWell ops → LeadsTo t (all_edges ops) → LeadsTo t (all_edges (join_ops j n (map tw ops)))
  leads_head n t [] jt w l = absurd l
  leads_head n t (Branch u xs x [] ∷ []) jt w l =
      ⊎_elim (λ p. subst (λ c. LeadsTo t (all_edges (if c then n x.target else tw (Branch u xs x []) ∷ []))) (sym (ap j p ∙ jt)) (inl p)) (λ r. absurd r) l
  leads_head n t (Branch u xs x (y ∷ ys) ∷ []) jt w l =
      leads_left t (map (thin_edge f1 (taken_arg j)) (map (replace_edge s) (x ∷ y ∷ ys))) [] (keep_target t (x ∷ y ∷ ys) (⊎_elim (λ p. p) (λ r. absurd r) (leads_split t (x ∷ y ∷ ys) [] l)))
  leads_head n t (Const r m ∷ []) jt w l = absurd l
  leads_head n t (Calc a v r x y ∷ []) jt w l = absurd l
  leads_head n t (Emit x ∷ []) jt w l = absurd l
  leads_head n t (Call rs c xs ∷ []) jt w l = absurd l
  leads_head n t (Return xs ∷ []) jt w l = absurd l
  leads_head n t (op ∷ next ∷ ops) jt w l =
      subst (λ o. LeadsTo t (all_edges o)) (sym (on n op (map tw (next ∷ ops)) w.0))
      (leads_right t (edges_of (tw op)) (all_edges (join_ops j n (map tw (next ∷ ops))))
      (leads_head n t (next ∷ ops) jt w.1 (⊎_elim (λ p. absurd (subst (LeadsTo t) (no_edges op w.0) p)) (λ r. r) (leads_split t (edges_of op) (all_edges (next ∷ ops)) l))))

  pub ends_of : (b : ℕ) (ops : List (Op Place)) → left_in f b 0 ≡ ops → (ops ≡ [] → ⊥) → EndsWell ops
  ends_of b [] e h = absurd (h refl)
  ends_of b (op ∷ ops) e h = subst (λ l. 0 < length l → EndsWell l) e (some_end f rules.terminated b) (omega arith)

  pub leads_ends : (b t : ℕ) → LeadsTo t (all_edges (left_in f b 0)) → EndsWell (left_in f b 0)
  leads_ends b t l = ends_of b (left_in f b 0) refl (λ e. subst (λ o. LeadsTo t (all_edges o)) e l)

  pub joined_head : (m b t : ℕ) → j t ≡ false → LeadsTo t (all_edges (left_in f b 0)) → LeadsTo t (all_edges (joined j f2 m (map tw (left_in f b 0))))
  joined_head zero b t jt l = leads_head (λ u. []) t (left_in f b 0) jt (leads_ends b t l) l
  joined_head (suc m) b t jt l = leads_head (λ u. joined j f2 m (left_in f2 u 0)) t (left_in f b 0) jt (leads_ends b t l) l

  joined_tail : (m c b t : ℕ) → BlocksAreJoinable f c b → LeadsTo t (all_edges (joined j f2 m (map tw (left_in f b 0)))) → LeadsTo t (all_edges (joined j f2 (suc m) (map tw (left_in f c 0))))
  joined_tail m c b t h l =
      leads_tail (λ u. joined j f2 m (left_in f2 u 0)) b t (left_in f c 0) h.edge (leads_ends c b (joinable_leads f c b h)) h.last h.target (taken.back c b h)
      (subst (λ o. LeadsTo t (all_edges (joined j f2 m o))) (sym (left_two f rules j taken s fol lives k long b)) l)

  -- the first of the chain
  abbrev pub top_of : (b n : ℕ) → Depth f j b n → ℕ
  top_of b n (top u m e z) = u
  top_of b n (below c t m i h z d) = top_of c m d

  pub top_free : (b n : ℕ) (d : Depth f j b n) → j (top_of b n d) ≡ false
  top_free b n (top u m e z) = e
  top_free b n (below c t m i h z d) = top_free c m d

  pub up : (b n m t : ℕ) (d : Depth f j b n) → n + m ≡ k → LeadsTo t (all_edges (joined j f2 m (map tw (left_in f b 0)))) → LeadsTo t (all_edges (joined j f2 k (map tw (left_in f (top_of b n d) 0))))
  up b n m t (top u i e z) h l = let y : m ≡ k = omega (arith, h, z) in subst (λ w. LeadsTo t (all_edges (joined j f2 w (map tw (left_in f u 0))))) y l
  up b n m t (below c u i w g z d) h l = up c i (suc m) t d (omega (arith, h, z)) (joined_tail m c u t g l)

  pub leads_top : (b n t : ℕ) (d : Depth f j b n) → j t ≡ false → LeadsTo t (all_edges (left_in f b 0)) → LeadsTo t (all_edges (left_in f3 (top_of b n d) 0))
  leads_top b n t d jt l =
      let y : n + (k - n) ≡ k = omega (arith, long b n d) in
      subst (λ o. LeadsTo t (all_edges o)) (sym (left_three f rules j taken s fol lives k long (top_of b n d))) (up b n (k - n) t d y (joined_head (k - n) b t jt l))

  pub leads_left_over : (b t : ℕ) → j b ≡ false → LeadsTo t (all_edges (left_in f3 b 0)) → LeadsTo (at stays t) (all_edges (left_in q (at stays b) 0))
  leads_left_over b t e l =
      let x = leads_through (retarget (at stays)) (retarget_edge (at stays)) (at stays) (edges_retarget (at stays)) (λ y. refl) t (left_in f3 b 0) l in
      let n = place_name same_place place_law (keep stays f3) in
      let y = subst (λ o. LeadsTo (at stays t) (all_edges o)) (sym (keep_left stays f3 b (ap not e))) x in
      let z = leads_through (rename_op n same_block) (rename_edge n same_block) same_block (edges_renamed n) (λ w. refl) (at stays t) (left_in (keep stays f3) (at stays b) 0) y in
      subst (λ o. LeadsTo (at stays t) (all_edges o)) (sym (place_left same_place place_law (keep stays f3) (at stays b))) z

  reached_top : (u : ℕ) → Reached f u → (n : ℕ) (d : Depth f j u n) → Reached q (at stays (top_of u n d))
  reached_top u (first v e) n (top w m g z) = first (at stays w) (ap (at stays) e)
  reached_top u (first v e) n (below c t m i h z d) = absurd (h.not_entry e)
  reached_top u (further b v r l) n (top w m g z) =
      let db = reached_depth f j taken b r in
      further (at stays (top_of b db.0 db.1)) (at stays w) (reached_top b r db.0 db.1) (leads_left_over (top_of b db.0 db.1) w (top_free b db.0 db.1) (leads_top b db.0 w db.1 g l))
  reached_top u (further b v r l) n (below c t m i h z d) =
      let e : b ≡ c = one_place t f b c h.single l (joinable_leads f c t h) in
      subst (λ x. (n : ℕ) (d : Depth f j x n) → Reached q (at stays (top_of x n d))) e (reached_top b r) m d

  pub all_reached : ((b : ℕ) → b < size f → Reached f b) → size f3 ≡ size f → (b : ℕ) → b < size q → Reached q b
  all_reached h e b l =
      let w = stood stays f3 b (omega (arith, l, place_size same_place (keep stays f3))) in
      let jf = not_free f rules j taken s fol lives k long (j w.old) w.kept in
      subst (Reached q) (sym w.is) (reached_top w.old (h w.old (omega (arith, w.before, e))) 0 (top w.old 0 jf refl))

pub three_size : (j : ℕ → Bool) (s : Place → Place) (k : ℕ) (f : Option (Fun Place)) → size (join_fun j k (replaced_args j s f)) ≡ size f
three_size j s k None = refl
three_size j s k (Some f) = length_map _ _ ∙ length_map _ _ ∙ length_map _ f

-- each block of what the pass leaves is reached
pub simplified_reached : (f g : Option (Fun Place)) → Rules f → Simplifies f g → (b : ℕ) → b < size g → Reached g b
simplified_reached f g rules is b l =
    let m = is.merges in
    let g2 = place_fun same_place (keep is.reach (branched f)) in
    let r2 = kept_rules (branched f) is.reach is.reached (decide_rules (constants f) f rules) in
    let h = all_reached g2 r2 m.taken m.is_taken m.names m.follows (kept_lives (branched f) is.reach is.reached) m.most m.long (kept_reached (branched f) is.reach is.reached) (three_size m.taken m.names m.most g2) in
    subst (λ x. Reached x b) (sym m.is) (h b (subst (λ x. b < size x) m.is l))
