-- Operations of a block that have the name of an earlier one, as the block is gone over.
use Rattle.std.proofs.Common.{◌≡◌, ◌⊎◌, inl, inr, ⊎_elim, ◌↔◌, ℕ, suc, zero, List, [], ◌∷◌, ◌++◌, length, Some, slice_get, Bool, true, IsTrue, Result, Ok, Err, IfOk, OnOk, refl, sym, ap, ◌∙◌, subst, arith}
use Rattle.std.proofs.lemmas.Option.{same_Some, slice_get_within}
use Rattle.ir_program.specs.Program.{Program}
use Rattle.ir_program.specs.declared.handles.Ptr.{Ptr}
use Rattle.ir_program.specs.declared.handles.Operation.{Operation}
use Rattle.ir_trees.proofs.Members.{Has, at_has, has_at}
use Rattle.kit_checks.specs.World.{World}
use Rattle.kit_verifier.specs.Reading.{name_at}
use Rattle.kit_verifier.specs.Repeats.{HasNameAmong, IsRepeat}
use Rattle.kit_verifier.specs.Sets.{Gains}
use Rattle.kit_verifier.proofs.Sets.{Collected, gains_as, gains_both, on_ok}

get_last : {X : Type 0} (done : List X) (y : X) (i : ℕ) (x : X) → slice_get (done ++ y ∷ []) i ≡ Some x → (slice_get done i ≡ Some x) ⊎ ((i ≡ length done) × (x ≡ y))
get_last [] y zero x e = inr (refl, same_Some x y (sym e))
get_last [] y (suc i) x e = cc
get_last (d ∷ done) y zero x e = inl e
get_last (d ∷ done) y (suc i) x e = ⊎_elim (λ l. inl l) (λ (r : (i ≡ length done) × (x ≡ y)). inr (ap suc r.0, r.1)) (get_last done y i x e)

get_end : {X : Type 0} (done : List X) (y : X) → slice_get (done ++ y ∷ []) (length done) ≡ Some y
get_end [] y = refl
get_end (d ∷ done) y = get_end done y

get_front : {X : Type 0} (done rest : List X) (k : ℕ) (x : X) → slice_get done k ≡ Some x → slice_get (done ++ rest) k ≡ Some x
get_front [] rest k x e = cc
get_front (d ∷ done) rest zero x e = e
get_front (d ∷ done) rest (suc k) x e = get_front done rest k x e

module _ {O B : Type 0} (w : World O B) (c : Program O B) where
  -- the operation has the name
  abbrev pub Named : Ptr Operation → List ℕ → Type 0
  Named op name = name_at w c op ≡ Some name

  -- what is new where an operation is seen: itself, where its name was seen
  abbrev pub IsNewRepeat : List (List ℕ) → Ptr Operation → Ptr Operation → Type 0
  IsNewRepeat names op p = (p ≡ op) × HasNameAmong w c names op

  module _ (done : List (Ptr Operation)) (names : List (List ℕ)) (op : Ptr Operation) (seen : Collected Named done names) where
    pub split_repeat : (x : Ptr Operation) → IsRepeat w c (done ++ op ∷ []) x → IsRepeat w c done x ⊎ IsNewRepeat names op x
    split_repeat x r = ⊎_elim
        (λ (here : slice_get done r.index ≡ Some x).
        let within = slice_get_within done r.index x here in
        ⊎_elim
        (λ (there : slice_get done r.first ≡ Some r.other). inl (record { index = r.index; here = here; first = r.first; before = r.before; other = r.other; there = there; name = r.name; named = r.named; same_name = r.same_name }))
        (λ (last : (r.first ≡ length done) × (r.other ≡ op)). absurd (let e = last.0 in let b = r.before in omega arith))
        (get_last done op r.first r.other r.there))
        (λ (last : (r.index ≡ length done) × (x ≡ op)).
        ⊎_elim
        (λ (there : slice_get done r.first ≡ Some r.other).
        inr (last.1, (r.name, subst (λ p. name_at w c p ≡ Some r.name) last.1 r.named, (seen r.name).1 (r.other, at_has done r.first r.other there, r.same_name))))
        (λ (again : (r.first ≡ length done) × (r.other ≡ op)). absurd (let e = last.0 in let f = again.0 in let b = r.before in omega arith))
        (get_last done op r.first r.other r.there))
        (get_last done op r.index x r.here)

    pub join_repeat : (x : Ptr Operation) → IsRepeat w c done x ⊎ IsNewRepeat names op x → IsRepeat w c (done ++ op ∷ []) x
    join_repeat x h = ⊎_elim
        (λ r. record { index = r.index; here = get_front done (op ∷ []) r.index x r.here; first = r.first; before = r.before; other = r.other; there = get_front done (op ∷ []) r.first r.other r.there; name = r.name; named = r.named; same_name = r.same_name })
        (λ (n : IsNewRepeat names op x).
        let m = (seen n.1.0).0 n.1.2 in
        let k = has_at done m.0 m.1 in
        record {
          index = length done;
          here = get_end done op ∙ ap Some (sym n.0);
          first = k.0;
          before = slice_get_within done k.0 m.0 k.1;
          other = m.0;
          there = get_front done (op ∷ []) k.0 m.0 k.1;
          name = n.1.0;
          named = subst (λ p. name_at w c p ≡ Some n.1.0) (sym n.0) n.1.1;
          same_name = m.2;
        })
        h

    pub repeats_more : (old mid new : List (Ptr Operation)) → Gains old mid (IsRepeat w c done) → Gains mid new (IsNewRepeat names op) → Gains old new (IsRepeat w c (done ++ op ∷ []))
    repeats_more old mid new p q = gains_as old new (λ x. IsRepeat w c done x ⊎ IsNewRepeat names op x) (IsRepeat w c (done ++ op ∷ [])) join_repeat split_repeat (gains_both old mid new (IsRepeat w c done) (IsNewRepeat names op) p q)

  pub repeat_front : (xs ys : List (Ptr Operation)) (x : Ptr Operation) → IsRepeat w c xs x → IsRepeat w c (xs ++ ys) x
  repeat_front xs ys x r = record {
    index = r.index;
    here = get_front xs ys r.index x r.here;
    first = r.first;
    before = r.before;
    other = r.other;
    there = get_front xs ys r.first r.other r.there;
    name = r.name;
    named = r.named;
    same_name = r.same_name;
  }

  pub repeats_none : (x : Ptr Operation) → IsRepeat w c [] x → ⊥
  repeats_none x r = let e = r.here in cc

  -- an operation with this name
  module _ (op : Ptr Operation) (name : List ℕ) (named : name_at w c op ≡ Some name) where
    same_name : (t : List ℕ) → name_at w c op ≡ Some t → t ≡ name
    same_name t h = let e : Some t ≡ Some name = sym h ∙ named in cc

    is_among : (names : List (List ℕ)) (is : Bool) → IsTrue is ↔ Has name names → IsTrue is ↔ HasNameAmong w c names op
    is_among names is tells = (
      λ h. (name, named, tells.0 h),
      λ m. tells.1 (subst (λ t. Has t names) (same_name m.0 m.1) m.2),
    )

    pub named_among : {E : Type 0} (names : List (List ℕ)) (r : Result Bool E) → IfOk r (λ is. IsTrue is ↔ Has name names) → IfOk r (λ is. IsTrue is ↔ HasNameAmong w c names op)
    named_among names (Ok is) tells = is_among names is tells
    named_among names (Err e) tells = tells

    pub named_gains : {T E : Type 0} (names after : List (List ℕ)) (r : Result T E) → OnOk r (Gains names after (λ t. t ≡ name)) → OnOk r (Gains names after (λ t. name_at w c op ≡ Some t))
    named_gains names after r h = on_ok r (gains_as names after (λ t. t ≡ name) (λ t. name_at w c op ≡ Some t) (λ t e. named ∙ ap Some (sym e)) same_name) h

  -- an operation that is a repeat is put to the others
  pub new_repeat : {T E : Type 0} (names : List (List ℕ)) (op : Ptr Operation) (is : Bool) → is ≡ true → IsTrue is ↔ HasNameAmong w c names op →
      (old new : List (Ptr Operation)) (r : Result T E) → OnOk r (Gains old new (λ p. p ≡ op)) → OnOk r (Gains old new (IsNewRepeat names op))
  new_repeat names op is holds tells old new r h = on_ok r (gains_as old new (λ p. p ≡ op) (IsNewRepeat names op) (λ p e. (e, tells.0 holds)) (λ p n. n.0)) h
