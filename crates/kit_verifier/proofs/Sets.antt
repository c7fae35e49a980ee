-- Sets that grow, and sets that are filled from the members of a list one after the other.
use Rattle.std.proofs.Common.{◌≡◌, ◌⊎◌, inl, inr, ⊎_elim, ◌↔◌, Bool, true, false, ◌||◌, not, List, [], ◌∷◌, ◌++◌, map, IsTrue, Result, Ok, Err, OnOk, refl, sym, ap, ◌∙◌, subst, append_assoc}
use Rattle.std.specs.Prelude.{if◌then◌else◌}
use Rattle.std.specs.List.{list_any}
use Rattle.std.proofs.lemmas.Bool.{false≢true}
use Rattle.std.proofs.lemmas.List.{append-nil, map-append}
use Rattle.indexmap.specs.IndexSet.{insert_key}
use Rattle.ir_program.specs.Lists.{IsLiveNode, StandsInside}
use Rattle.ir_program.specs.Preorder.{AreInside}
use Rattle.ir_program.specs.Program.{Program}
use Rattle.ir_program.specs.declared.handles.IRNode.{IRNode}
use Rattle.ir_trees.proofs.Members.{Has, at_has, has_at, has_front, has_back, has_either}
use Rattle.kit_verifier.specs.Sets.{Gains}

pub one_more : {X : Type 0} (xs : List X) (y x : X) → Has x (xs ++ y ∷ []) ↔ (Has x xs ⊎ (x ≡ y))
one_more xs y x = (
  λ h. ⊎_elim (λ l. inl l) (λ r. ⊎_elim (λ s. inr s) (λ n. absurd n) r) (has_either xs (y ∷ []) x h),
  λ h. ⊎_elim (λ l. has_front xs (y ∷ []) x l) (λ s. has_back xs (y ∷ []) x (inl s)) h,
)

-- keys that are seen by a view, and compare equal exactly where they look the same
module _ {X Y : Type 0} (eq : X → X → Bool) (view : X → Y) (same : (a b : X) → eq a b ≡ true → view a ≡ view b) (own : (a b : X) → view a ≡ view b → eq a b ≡ true) where
  any_has : (ks : List X) (x : X) → list_any (eq x) ks ≡ true → Has (view x) (map view ks)
  any_has [] x h = absurd (false≢true h)
  any_has (k ∷ ks) x h = by (eq x k) refl (λ e. any_has ks x (sym (ap (λ b. b || list_any (eq x) ks) e) ∙ h))
    where
      by : (b : Bool) → eq x k ≡ b → (eq x k ≡ false → Has (view x) (map view ks)) → Has (view x) (map view (k ∷ ks))
      by true e rest = inl (same x k e)
      by false e rest = inr (rest e)

  either : (a b : Bool) → b ≡ true → (a || b) ≡ true
  either true b h = refl
  either false b h = h

  has_any : (ks : List X) (x : X) → Has (view x) (map view ks) → list_any (eq x) ks ≡ true
  has_any [] x h = absurd h
  has_any (k ∷ ks) x h = ⊎_elim
      (λ (e : view x ≡ view k). ap (λ b. b || list_any (eq x) ks) (own x k e))
      (λ r. either (eq x k) (list_any (eq x) ks) (has_any ks x r))
      h

  -- a set with a key more
  pub gained : (keys after : List X) (x : X) → after ≡ insert_key eq keys x → Gains (map view keys) (map view after) (λ q. q ≡ view x)
  gained keys after x is = subst (λ ks. Gains (map view keys) (map view ks) (λ q. q ≡ view x)) (sym is) (by_test (list_any (eq x) keys) refl)
    where
      by_test : (b : Bool) → list_any (eq x) keys ≡ b → Gains (map view keys) (map view (if b then keys else keys ++ x ∷ [])) (λ q. q ≡ view x)
      by_test true e q = (λ h. inl h, λ h. ⊎_elim (λ l. l) (λ (s : q ≡ view x). subst (λ z. Has z (map view keys)) (sym s) (any_has keys x e)) h)
      by_test false e q = subst (λ l. Has q l ↔ (Has q (map view keys) ⊎ (q ≡ view x))) (sym (map-append view keys (x ∷ []))) (one_more (map view keys) (view x) q)

  -- whether a key is in the set
  pub tells : (keys : List X) (x : X) (b : Bool) → b ≡ list_any (eq x) keys → IsTrue b ↔ Has (view x) (map view keys)
  tells keys x b is = (λ h. any_has keys x (sym is ∙ h), λ h. is ∙ has_any keys x h)

  -- whether it was there, where what is known is whether it is new
  pub tells_old : (keys : List X) (x : X) (b : Bool) → b ≡ not (list_any (eq x) keys) → IsTrue (not b) ↔ Has (view x) (map view keys)
  tells_old keys x b is = tells keys x (not b) (ap not is ∙ twice (list_any (eq x) keys))
    where
      twice : (t : Bool) → not (not t) ≡ t
      twice true = refl
      twice false = refl

pub map_same : {X : Type 0} (xs : List X) → map (λ x. x) xs ≡ xs
map_same [] = refl
map_same (x ∷ xs) = ap (λ l. x ∷ l) (map_same xs)

-- the other truth value
pub opposite : {P : Type 0} (b : Bool) → IsTrue b ↔ P → IsTrue (not b) ↔ (P → ⊥)
opposite true tells = (λ h p. false≢true h, λ none. absurd (none (tells.0 refl)))
opposite false tells = (λ h p. false≢true (tells.1 p), λ none. refl)

module _ {X : Type 0} where
  -- what was gained, by other words
  pub gains_as : (a b : List X) (P Q : X → Type 0) → ((x : X) → P x → Q x) → ((x : X) → Q x → P x) → Gains a b P → Gains a b Q
  gains_as a b P Q to from g x = (
    λ h. ⊎_elim (λ l. inl l) (λ p. inr (to x p)) ((g x).0 h),
    λ h. ⊎_elim (λ l. (g x).1 (inl l)) (λ q. (g x).1 (inr (from x q))) h,
  )

  pub gains_none : (a : List X) (P : X → Type 0) → ((x : X) → P x → ⊥) → Gains a a P
  gains_none a P none x = (λ h. inl h, λ h. ⊎_elim (λ l. l) (λ p. absurd (none x p)) h)

  -- gained one after the other
  pub gains_both : (a b d : List X) (P Q : X → Type 0) → Gains a b P → Gains b d Q → Gains a d (λ x. P x ⊎ Q x)
  gains_both a b d P Q p q x = (
    λ h. ⊎_elim (λ l. ⊎_elim (λ m. inl m) (λ n. inr (inl n)) ((p x).0 l)) (λ n. inr (inr n)) ((q x).0 h),
    λ h. ⊎_elim
        (λ l. (q x).1 (inl ((p x).1 (inl l))))
        (λ n. ⊎_elim (λ m. (q x).1 (inl ((p x).1 (inr m)))) (λ m. (q x).1 (inr m)) n)
        h,
  )

-- the set has exactly what the members of the list give it
module _ {E X : Type 0} (P : E → X → Type 0) where
  abbrev pub Collected : List E → List X → Type 0
  Collected done keys = (x : X) → Has x keys ↔ ((e : E) × Has e done × P e x)

  pub collected_none : Collected [] []
  collected_none x = (λ h. absurd h, λ h. absurd h.1)

  pub collected_more : (done : List E) (e : E) (keys after : List X) → Gains keys after (P e) → Collected done keys → Collected (done ++ e ∷ []) after
  collected_more done e keys after gains h x = (
    λ has. ⊎_elim
        (λ l. let m = (h x).0 l in (m.0, has_front done (e ∷ []) m.0 m.1, m.2))
        (λ p. (e, has_back done (e ∷ []) e (inl refl), p))
        ((gains x).0 has),
    λ m. ⊎_elim
        (λ l. (gains x).1 (inl ((h x).1 (m.0, l, m.2))))
        (λ r. ⊎_elim (λ (s : m.0 ≡ e). (gains x).1 (inr (subst (λ d. P d x) s m.2))) (λ n. absurd n) r)
        (has_either done (e ∷ []) m.0 m.1),
  )

-- what is known of an answer that may be refused, by other words
pub on_ok : {T E : Type 0} {P Q : Type 0} (r : Result T E) → (P → Q) → OnOk r P → OnOk r Q
on_ok (Ok x) f h = f h
on_ok (Err e) f h = h

-- going over a list: one further
module _ {X : Type 0} (all done was left : List X) (e : X) (is : was ≡ e ∷ left) (listed : done ++ was ≡ all) where
  pub one_further : (done ++ e ∷ []) ++ left ≡ all
  one_further = append_assoc done (e ∷ []) left ∙ ap (λ l. done ++ l) (sym is) ∙ listed

  pub next_of : Has e all
  next_of = subst (Has e) (ap (λ l. done ++ l) (sym is) ∙ listed) (has_back done (e ∷ left) e (inl refl))

pub all_done : {X : Type 0} (all done left : List X) → left ≡ [] → done ++ left ≡ all → done ≡ all
all_done all done left is listed = sym (append-nil done) ∙ ap (λ l. done ++ l) (sym is) ∙ listed

-- what all inside an entity give
module _ {O B X : Type 0} (c : Program O B) (outer : IRNode) (P : IRNode → X → Type 0) where
  pub collected_all : (es : List IRNode) → AreInside c outer es → (keys : List X) → Collected P es keys → (x : X) → Has x keys ↔ ((e : IRNode) × StandsInside c outer e × P e x)
  collected_all es are keys h x = (
    λ has. let m = (h x).0 has in let k = has_at es m.0 m.1 in (m.0, are.inside k.0 m.0 k.1, m.2),
    λ m. let k = are.all m.0 m.1 in (h x).1 (m.0, at_has es k.0 m.0 k.1, m.2),
  )

  pub is_live : (es : List IRNode) → AreInside c outer es → (e : IRNode) → Has e es → IsLiveNode c e
  is_live es are e has = let k = has_at es e has in are.live k.0 e k.1
