-- A list of passes: behaviour, and the rest of a list on what its beginning gave.
use Rattle.std.proofs.Common.{◌≡◌, ◌⊎◌, ℕ, zero, suc, ◌+◌, ◌*◌, ◌≤◌, ◌<◌, Bool, true, false, List, [], ◌∷◌, ◌++◌, length, Option, Some, None, refl, sym, ap, ◌∙◌, subst, arith}
use Rattle.std.specs.Prelude.{map, slice_get, if◌then◌else◌, not}
use Rattle.kit_behaviour.specs.Machine.{Block, Fun, FunctionsByPath, State, Going, Ended, Trapped, start, run, ops_left, left_in, arguments_in, Shown, Alike, Op, size}
use Rattle.kit_behaviour.specs.JoinedBlocks.{joined}
use Rattle.kit_behaviour.specs.RemovedValues.{thinned}
use Rattle.kit_behaviour.specs.Rules.{Rules, EndsWell, operations_of, operation_count, OperationsWithin}
use Rattle.kit_behaviour.specs.ConstantPropagation.{Wants, all_wanted, used_wanted, sccp, IsSccpOfFunctions}
use Rattle.kit_behaviour.specs.DeadValues.{IsDeadSet, IsDceOfFunctions}
use Rattle.kit_behaviour.specs.Numbering.{place_fun, placed}
use Rattle.kit_behaviour.specs.Places.{Place, same_place}
use Rattle.kit_behaviour.specs.SimplifiedBlocks.{constants, Reached, IsReachedSet, between, retarget_block, keep_blocks, keep, IsJoinedSet, Depth, join_block, join_fun, branched, IsSimplifiedFunction, IsSimplifyOfFunctions}
use Rattle.kit_behaviour.proofs.ControlFlow.PlacesJoined.{Follows, forward, replaced_args, merged, IsMerged, Simplifies}
use Rattle.kit_behaviour.specs.PassLists.{SameFaces, LeanSccpPass, Pass, SccpPass, DcePass, SimplifyPass, IsPass, IsAfter, Fit, GoalOf, Goal}
use Rattle.kit_behaviour.proofs.FaceLemmas.{sccp_faces, dce_faces, simplify_faces, faces_trans}
use Rattle.kit_behaviour.proofs.DeadCode.DeadMayGo.{dead_may_go}
use Rattle.kit_behaviour.proofs.Numbering.PlaceEquality.{place_law}
use Rattle.kit_behaviour.proofs.Propagation.BestFactsExist.{sccp_exists}
use Rattle.kit_behaviour.proofs.DeadCode.DeadExists.{dce_exists}
use Rattle.kit_behaviour.proofs.ControlFlow.NamedExists.{as_old_pass, as_old_all, simplify_all}
use Rattle.kit_behaviour.proofs.ControlFlow.AllReached.{simplified_reached}
use Rattle.kit_behaviour.proofs.ControlFlow.NoChainRemains.{simplified_joined}
use Rattle.kit_behaviour.proofs.DeadCode.NoneDeadByPlace.{dce_none}
use Rattle.kit_behaviour.proofs.Propagation.FactsExist.{sccp_known}
use Rattle.kit_behaviour.proofs.Propagation.PropagationRules.{sccp_rules, sccp_fit}
use Rattle.kit_behaviour.proofs.DeadCode.RemovalRules.{thin_rules, dce_fit}
use Rattle.kit_behaviour.proofs.ControlFlow.SimplifyRules.{simplify_rules, simplify_fit}
use Rattle.kit_behaviour.proofs.Behaviour.RunLemmas.{prefix_refl}
use Rattle.kit_behaviour.proofs.Lattice.FactLemmas.{true_both, best_unique}
use Rattle.kit_behaviour.proofs.Propagation.PropagationBehaviour.{alike_trans}
use Rattle.kit_behaviour.proofs.Numbering.RuleLemmas.{sccp_is_alike}
use Rattle.kit_behaviour.proofs.DeadCode.RemovalScopes.{dce_is_alike}
use Rattle.kit_behaviour.proofs.ControlFlow.DecisionRules.{decide_rules}
use Rattle.kit_behaviour.proofs.ControlFlow.ChainLemmas.{follows_one}
use Rattle.kit_behaviour.proofs.ControlFlow.JoiningPremises.{chains_free}
use Rattle.kit_behaviour.proofs.ControlFlow.SimplifyBehaviour.{joined_same, kept_lives, kept_rules, simplify_is_alike}

shown_self : {V : Type 0} (s : State V) → Shown s s
shown_self (Going fs o) = prefix_refl o
shown_self (Ended ns o) = refl
shown_self (Trapped o) = refl

pub alike_self : {V : Type 0} (same : V → V → Bool) (p : FunctionsByPath V) → Alike same same 1 p p
alike_self same p =
    record {
      there = λ path xs n. (n, omega arith, shown_self (run same p n (start same p path xs)));
      back = λ path xs n. (n, omega arith, shown_self (run same p n (start same p path xs)));
    }

abbrev Some_bound : FunctionsByPath Place → FunctionsByPath Place → Type 0
Some_bound p q = (c : ℕ) × Alike same_place same_place c p q

pass_alike : (x : Pass) (p q : FunctionsByPath Place) → IsPass x p q → Fit p → Fit q → Some_bound p q
pass_alike SccpPass p q h a b = (b.most, sccp_is_alike all_wanted p q b.most a.rules h b.below)
pass_alike LeanSccpPass p q h a b = (b.most, sccp_is_alike used_wanted p q b.most a.rules h b.below)
pass_alike DcePass p q h a b = (a.most, dce_is_alike p q a.most a.rules h a.below)
pass_alike SimplifyPass p q h a b = (suc a.most, simplify_is_alike p q a.most a.rules (as_old_all p q a.rules h) a.few)

pass_fit : (x : Pass) (p q : FunctionsByPath Place) → IsPass x p q → Fit p → Fit q
pass_fit SccpPass p q h a = sccp_fit all_wanted p q a h
pass_fit LeanSccpPass p q h a = sccp_fit used_wanted p q a h
pass_fit DcePass p q h a = dce_fit p q a h
pass_fit SimplifyPass p q h a = simplify_fit p q a (as_old_all p q a.rules h)

abbrev KeepRules : FunctionsByPath Place → Type 0
KeepRules p = (path : List ℕ) → Rules (p path)

pass_rules : (x : Pass) (p q : FunctionsByPath Place) → IsPass x p q → KeepRules p → KeepRules q
pass_rules SccpPass p q h r path = subst Rules (sym (h.is path)) (sccp_rules all_wanted (p path) (h.facts path) (r path))
pass_rules LeanSccpPass p q h r path = subst Rules (sym (h.is path)) (sccp_rules used_wanted (p path) (h.facts path) (r path))
pass_rules DcePass p q h r path = subst Rules (sym (h.is path)) (thin_rules (p path) (h.set path) (dead_may_go same_place place_law (p path) (h.set path) (h.dead path)) (r path))
pass_rules SimplifyPass p q h r path = simplify_rules (p path) (q path) (r path) (as_old_pass (p path) (q path) (r path) (h.each path))

pub after_rules : (xs : List Pass) (p r : FunctionsByPath Place) → KeepRules p → IsAfter xs p r → KeepRules r
after_rules [] p r f h = subst KeepRules h f
after_rules (x ∷ xs) p r f h = after_rules xs h.0 r (pass_rules x p h.0 h.1 f) h.2

pub after_fit : (xs : List Pass) (p r : FunctionsByPath Place) → Fit p → IsAfter xs p r → Fit r
after_fit [] p r f h = subst Fit h f
after_fit (x ∷ xs) p r f h = after_fit xs h.0 r (pass_fit x p h.0 h.1 f) h.2

pub after_alike : (xs : List Pass) (p r : FunctionsByPath Place) → Fit p → IsAfter xs p r → (c : ℕ) × Alike same_place same_place c p r
after_alike [] p r f h = (1, subst (λ q. Alike same_place same_place 1 p q) h (alike_self same_place p))
after_alike (x ∷ xs) p r f h =
    let g = pass_fit x p h.0 h.1 f in
    let a = pass_alike x p h.0 h.1 f g in
    let b = after_alike xs h.0 r g h.2 in
    (a.0 * b.0, alike_trans same_place same_place same_place a.0 b.0 p h.0 r a.1 b.1)

-- each pass gives one program

sccp_one : (want : Wants) (p q r : FunctionsByPath Place) → IsSccpOfFunctions want p q → IsSccpOfFunctions want p r → q ≡ r
sccp_one want p q r a b =
    let e : a.facts ≡ b.facts = λ i path. best_unique (p path) (a.facts path) (b.facts path) (a.best path) (b.best path) i in
    let x : q ≡ sccp want a.facts p = λ i path. a.is path i in
    let y : r ≡ sccp want b.facts p = λ i path. b.is path i in
    x ∙ ap (λ k. sccp want k p) e ∙ sym y

dead_one : (f : Option (Fun Place)) (d e : Place → Bool) → IsDeadSet same_place f d → IsDeadSet same_place f e → d ≡ e
dead_one f d e a b = λ i v. true_both (d v) (e v) (a.least e b.holds v) (b.least d a.holds v) i

dce_one : (p q r : FunctionsByPath Place) → IsDceOfFunctions p q → IsDceOfFunctions p r → q ≡ r
dce_one p q r a b =
    let e : a.set ≡ b.set = λ i path. dead_one (p path) (a.set path) (b.set path) (a.dead path) (b.dead path) i in
    let x : q ≡ placed same_place (thinned a.set p) = λ i path. a.is path i in
    let y : r ≡ placed same_place (thinned b.set p) = λ i path. b.is path i in
    x ∙ ap (λ k. placed same_place (thinned k p)) e ∙ sym y

reach_one : (f : Option (Fun Place)) (r u : ℕ → Bool) → IsReachedSet f r → IsReachedSet f u → r ≡ u
reach_one f r u a b = λ i x. true_both (r x) (u x) (λ e. b.full x (a.sound x e)) (λ e. a.full x (b.sound x e)) i

taken_one : (f : Option (Fun Place)) (j k : ℕ → Bool) → IsJoinedSet f j → IsJoinedSet f k → j ≡ k
taken_one f j k a b = λ i x. true_both (j x) (k x) (λ e. let h = a.there x e in b.back h.0 x h.1) (λ e. let h = b.there x e in a.back h.0 x h.1) i

names_one : (n : Place → Option Place) (s u : Place → Place) → ((v : Place) → Follows n v (s v)) → ((v : Place) → Follows n v (u v)) → s ≡ u
names_one n s u a b = λ i v. follows_one n v (s v) (u v) (a v) (b v) i

-- blocks that go don't matter
module _ (r : ℕ → Bool) (at : ℕ → ℕ) (j : ℕ → Bool) (g : Option (Fun Place)) (k c : ℕ) where
  keep_same : (i : ℕ) (bs : List (Block Place)) → ((n : ℕ) → r (i + n) ≡ true → (b : Block Place) → slice_get bs n ≡ Some b → joined j g k b.ops ≡ joined j g c b.ops) → keep_blocks r at i (map (join_block j g k) bs) ≡ keep_blocks r at i (map (join_block j g c) bs)
  keep_same i [] h = refl
  keep_same i (b ∷ bs) h =
      by_test (r i) refl (keep_same (suc i) bs (λ n e x q. let s : suc i + n ≡ i + suc n = omega arith in h (suc n) (ap r (sym s) ∙ e) x q))
    where
      by_test : (t : Bool) → r i ≡ t → keep_blocks r at (suc i) (map (join_block j g k) bs) ≡ keep_blocks r at (suc i) (map (join_block j g c) bs) → (if t then retarget_block at (join_block j g k b) ∷ keep_blocks r at (suc i) (map (join_block j g k) bs) else keep_blocks r at (suc i) (map (join_block j g k) bs)) ≡ (if t then retarget_block at (join_block j g c b) ∷ keep_blocks r at (suc i) (map (join_block j g c) bs) else keep_blocks r at (suc i) (map (join_block j g c) bs))
      by_test true e ih =
          let z : i + 0 ≡ i = omega arith in
          ap (λ l. retarget_block at (record { arguments = b.arguments; ops = l }) ∷ keep_blocks r at (suc i) (map (join_block j g k) bs)) (h 0 (ap r z ∙ e) b refl)
          ∙ ap (λ l. retarget_block at (join_block j g c b) ∷ l) ih
      by_test false e ih = ih

not_true : (b : Bool) → not b ≡ true → b ≡ false
not_true true e = absurd (cc e)
not_true false e = refl

drop_same : (j : ℕ → Bool) (g : Option (Fun Place)) (k c : ℕ) → ((b : ℕ) → j b ≡ false → joined j g k (left_in g b 0) ≡ joined j g c (left_in g b 0)) → keep (λ b. not (j b)) (join_fun j k g) ≡ keep (λ b. not (j b)) (join_fun j c g)
drop_same j None k c h = refl
drop_same j (Some g) k c h =
    ap Some
    (keep_same (λ b. not (j b)) (between (λ b. not (j b)) 0) j (Some g) k c 0 g
    (λ n e b q.
    let z : 0 + n ≡ n = omega arith in
    let f : j n ≡ false = not_true (j n) (ap (λ x. not (j x)) (sym z) ∙ e) in
    let l : left_in (Some g) n 0 ≡ b.ops = ap (λ o. ops_left o 0) q in
    subst (λ l. joined j (Some g) k l ≡ joined j (Some g) c l) l (h n f)))

merged_one : (f g h : Option (Fun Place)) → Rules f → ((b : ℕ) → (arguments_in f b ≡ []) ⊎ Reached f b) → IsMerged f g → IsMerged f h → g ≡ h
merged_one f g h rules lives a b =
    let t : a.taken ≡ b.taken = taken_one f a.taken b.taken a.is_taken b.is_taken in
    let fb : (v : Place) → Follows (forward a.taken f) v (b.names v) = λ v. subst (λ j. Follows (forward j f) v (b.names v)) (sym t) (b.follows v) in
    let n : a.names ≡ b.names = names_one (forward a.taken f) a.names b.names a.follows fb in
    let lb : (x m : ℕ) → Depth f a.taken x m → m ≤ b.most = λ x m d. b.long x m (subst (λ j. Depth f j x m) t d) in
    let g2 = replaced_args a.taken a.names f in
    let same = drop_same a.taken g2 a.most b.most (λ x e. joined_same a.taken g2 a.most b.most (left_in g2 x 0) (chains_free f rules a.taken a.is_taken a.names a.follows lives a.most a.long x e) (chains_free f rules a.taken a.is_taken a.names a.follows lives b.most lb x e)) in
    a.is ∙ ap (place_fun same_place) same ∙ ap (λ j. place_fun same_place (merged j a.names b.most f)) t ∙ ap (λ s. place_fun same_place (merged b.taken s b.most f)) n ∙ sym b.is

simplifies_one : (f g h : Option (Fun Place)) → Rules f → Simplifies f g → Simplifies f h → g ≡ h
simplifies_one f g h rules a b =
    let r : a.reach ≡ b.reach = reach_one (branched f) a.reach b.reach a.reached b.reached in
    let w : IsMerged (place_fun same_place (keep a.reach (branched f))) h = subst (λ u. IsMerged (place_fun same_place (keep u (branched f))) h) (sym r) b.merges in
    merged_one (place_fun same_place (keep a.reach (branched f))) g h (kept_rules (branched f) a.reach a.reached (decide_rules (constants f) f rules)) (kept_lives (branched f) a.reach a.reached) a.merges w

pass_one : (x : Pass) (p q r : FunctionsByPath Place) → KeepRules p → IsPass x p q → IsPass x p r → q ≡ r
pass_one SccpPass p q r f a b = sccp_one all_wanted p q r a b
pass_one LeanSccpPass p q r f a b = sccp_one used_wanted p q r a b
pass_one DcePass p q r f a b = dce_one p q r a b
pass_one SimplifyPass p q r f a b = λ i path. simplifies_one (p path) (q path) (r path) (f path) (as_old_pass (p path) (q path) (f path) (a.each path)) (as_old_pass (p path) (r path) (f path) (b.each path)) i

pub after_one : (xs : List Pass) (p r s : FunctionsByPath Place) → KeepRules p → IsAfter xs p r → IsAfter xs p s → r ≡ s
after_one [] p r s f h g = sym h ∙ g
after_one (x ∷ xs) p r s f h g =
    after_one xs h.0 r s (pass_rules x p h.0 h.1 f) h.2 (subst (λ q. IsAfter xs q s) (sym (pass_one x p h.0 g.0 f h.1 g.1)) g.2)

-- what the beginning made, and then the rest, is what the whole list makes
after_append : (xs ys : List Pass) (p n s : FunctionsByPath Place) → IsAfter xs p n → IsAfter ys n s → IsAfter (xs ++ ys) p s
after_append [] ys p n s h g = subst (λ q. IsAfter ys q s) (sym h) g
after_append (x ∷ xs) ys p n s h g = (h.0, h.1, after_append xs ys h.0 n s h.2 g)

pub after_cut : (xs ys : List Pass) (p n r s : FunctionsByPath Place) → KeepRules p → IsAfter xs p n → IsAfter (xs ++ ys) p r → IsAfter ys n s → r ≡ s
after_cut xs ys p n r s f h w g = after_one (xs ++ ys) p r s f w (after_append xs ys p n s h g)

-- goals

pub simplified : (p q : FunctionsByPath Place) → ((path : List ℕ) → Rules (p path)) → IsSimplifyOfFunctions p q → (path : List ℕ) → IsSimplifiedFunction (q path)
simplified p q rules is path =
    record {
      reached = λ b l. simplified_reached (p path) (q path) (rules path) (as_old_pass (p path) (q path) (rules path) (is.each path)) b l;
      joined = λ b t h. simplified_joined (p path) (q path) (rules path) (as_old_pass (p path) (q path) (rules path) (is.each path)) b t h;
    }

pass_goal : (x : Pass) (p q : FunctionsByPath Place) → KeepRules p → IsPass x p q → GoalOf x q
pass_goal SccpPass p q f h = sccp_known all_wanted (λ f v u. refl) p q f h
pass_goal LeanSccpPass p q f h = sccp_known used_wanted (λ f v u. u) p q f h
pass_goal DcePass p q f h = dce_none p q f h
pass_goal SimplifyPass p q f h = simplified p q f h

pub after_goal : (xs : List Pass) (p r : FunctionsByPath Place) → KeepRules p → IsAfter xs p r → Goal xs p r
after_goal [] p r f h = h
after_goal (x ∷ []) p r f h = subst (GoalOf x) h.2 (pass_goal x p h.0 f h.1)
after_goal (x ∷ y ∷ xs) p r f h = goal_on y xs h.0 p r (after_goal (y ∷ xs) h.0 r (pass_rules x p h.0 h.1 f) h.2)
  where
    goal_on : (y : Pass) (ys : List Pass) (p p' r : FunctionsByPath Place) → Goal (y ∷ ys) p r → Goal (y ∷ ys) p' r
    goal_on y [] p p' r g = g
    goal_on y (z ∷ zs) p p' r g = goal_on z zs p p' r g

-- one bound

block_count : (ks : List (Block Place)) (b : ℕ) → length (ops_left (slice_get ks b) 0) ≤ operations_of ks
block_count [] b = omega arith
block_count (k ∷ ks) zero = omega arith
block_count (k ∷ ks) (suc b) = let h = block_count ks b in omega (arith, h)

left_count : (f : Option (Fun Place)) (b : ℕ) → length (left_in f b 0) ≤ operation_count f
left_count None b = omega arith
left_count (Some f) b = block_count f b

ends_some : (ops : List (Op Place)) → EndsWell ops → 0 < length ops
ends_some [] e = absurd e
ends_some (op ∷ ops) e = omega arith

blocks_some : (ks : List (Block Place)) → ((b : ℕ) → b < length ks → EndsWell (ops_left (slice_get ks b) 0)) → length ks ≤ operations_of ks
blocks_some [] h = omega arith
blocks_some (k ∷ ks) h =
    let a = ends_some k.ops (h 0 (omega arith)) in
    let r = blocks_some ks (λ b l. h (suc b) (omega (arith, l))) in
    omega (arith, a, r)

-- each block has an operation
size_count : (f : Option (Fun Place)) → Rules f → size f ≤ operation_count f
size_count None r = omega arith
size_count (Some f) r = blocks_some f r.terminated

pub pass_within : (x : Pass) (p q : FunctionsByPath Place) (c : ℕ) → ((path : List ℕ) → Rules (p path)) → IsPass x p q → OperationsWithin c p → OperationsWithin c q → Alike same_place same_place (suc c) p q
pass_within LeanSccpPass p q c rules h before after = sccp_is_alike used_wanted p q (suc c) rules h (λ path b. omega (arith, left_count (q path) b, after path))
pass_within SccpPass p q c rules h before after = sccp_is_alike all_wanted p q (suc c) rules h (λ path b. omega (arith, left_count (q path) b, after path))
pass_within DcePass p q c rules h before after = dce_is_alike p q (suc c) rules h (λ path b. omega (arith, left_count (p path) b, before path))
pass_within SimplifyPass p q c rules h before after = simplify_is_alike p q c rules (as_old_all p q rules h) (λ path. omega (arith, size_count (p path) (rules path), before path))

-- each pass has a result

pass_exists : (x : Pass) (p : FunctionsByPath Place) → KeepRules p → (q : FunctionsByPath Place) × IsPass x p q
pass_exists SccpPass p f = sccp_exists all_wanted p f
pass_exists LeanSccpPass p f = sccp_exists used_wanted p f
pass_exists DcePass p f = dce_exists p
pass_exists SimplifyPass p f = simplify_all p f

pub after_exists : (xs : List Pass) (p : FunctionsByPath Place) → KeepRules p → (r : FunctionsByPath Place) × IsAfter xs p r
after_exists [] p f = (p, refl)
after_exists (x ∷ xs) p f =
    let q = pass_exists x p f in
    let r = after_exists xs q.0 (pass_rules x p q.0 q.1 f) in
    (r.0, (q.0, q.1, r.1))

-- faces

pass_faces : (x : Pass) (p q : FunctionsByPath Place) → KeepRules p → IsPass x p q → SameFaces p q
pass_faces SccpPass p q f h = sccp_faces all_wanted p q f h
pass_faces LeanSccpPass p q f h = sccp_faces used_wanted p q f h
pass_faces DcePass p q f h = dce_faces p q h
pass_faces SimplifyPass p q f h = simplify_faces p q f (as_old_all p q f h)

pub after_faces : (xs : List Pass) (p r : FunctionsByPath Place) → KeepRules p → IsAfter xs p r → SameFaces p r
after_faces [] p r f h = subst (SameFaces p) h (record { there = λ path. refl; entry = λ path. refl })
after_faces (x ∷ xs) p r f h = faces_trans p h.0 r (pass_faces x p h.0 f h.1) (after_faces xs h.0 r (pass_rules x p h.0 h.1 f) h.2)
