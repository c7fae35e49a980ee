-- Which uses were chosen so far.
use Rattle.std.proofs.Common.{◌≡◌, ℕ, zero, suc, Bool, true, false, ◌||◌, List, [], ◌∷◌, ◌++◌, Some, slice_get, ⊎_elim, refl, sym, ap, ◌∙◌, subst, arith}
use Rattle.std.proofs.lemmas.Bool.{cases_Bool, both_ways, or_left, or_right}
use Rattle.std.proofs.lemmas.Fn.{says}
use denote.Param.Members.{Shared}
use denote.Ref.{Bor}
use Rattle.ir_program.specs.Uses.{IsUseIn, AreUsesIn}
use Rattle.ir_program.specs.Among.{same_place, is_among}
use Rattle.ir_program.specs.Replacing.{Chooses}
use Rattle.ir_program.specs.declared.handles.Ptr.{Ptr}
use Rattle.ir_program.specs.declared.handles.Operation.{Operation}
use Rattle.ir_program.specs.declared.handles.Use.{Use}
use Rattle.ir_context.specs.Chosen.{AreUsesNaming, MaySay}
use Rattle.ir_program.proofs.used.ReplacedUses.{place-here, place-is, among-new, among-old}

or_false_left : (a b : Bool) → (a || b) ≡ false → a ≡ false
or_false_left true b e = e
or_false_left false b e = refl

or_false_right : (a b : Bool) → (a || b) ≡ false → b ≡ false
or_false_right true b e = cc
or_false_right false b e = e

or_false : (a b : Bool) → a ≡ false → b ≡ false → (a || b) ≡ false
or_false false b e f = f
or_false true b e f = e

-- it holds of each item
abbrev pub Each : {X : Type 0} → (X → Type 0) → List X → Type 0
Each P [] = Unit {0}
Each P (x ∷ xs) = P x × Each P xs

each-more : {X : Type 0} (P : X → Type 0) (xs : List X) (x : X) → Each P xs → P x → Each P (xs ++ x ∷ [])
each-more P [] x h here = (here, tt)
each-more P (y ∷ xs) x h here = (h.0, each-more P xs x h.1 here)

each-at : {X : Type 0} (P : X → Type 0) (xs : List X) (k : ℕ) (x : X) → Each P xs → slice_get xs k ≡ Some x → P x
each-at P [] k x h at = cc
each-at P (y ∷ xs) zero x h at = let same : y ≡ x = cc in subst P same h.0
each-at P (y ∷ xs) (suc k) x h at = each-at P xs k x h.1 at

each-from : {X : Type 0} (P : X → Type 0) (xs : List X) → ((k : ℕ) (x : X) → slice_get xs k ≡ Some x → P x) → Each P xs
each-from P [] h = tt
each-from P (x ∷ xs) h = (h 0 x refl, each-from P xs (λ k y at. h (suc k) y at))

module _ {K : Type 0} where
  -- no two of the uses stand at one place
  abbrev pub AreOnce : List (Use K) → Type 0
  AreOnce [] = Unit {0}
  AreOnce (u ∷ us) = (is_among us u ≡ false) × AreOnce us

  -- one that stands where u does
  record Found (us : List (Use K)) (u : Use K) : Type 0 where
    pub index : ℕ
    pub found : Use K
    pub here : slice_get us index ≡ Some found
    pub place : same_place u found ≡ true

  among-found : (us : List (Use K)) (u : Use K) → is_among us u ≡ true → Found us u
  among-found [] u h = absurd (cc)
  among-found (w ∷ us) u h = ⊎_elim
      (λ (t : same_place u w ≡ true). record { index = 0; found = w; here = refl; place = t })
      (λ (f : same_place u w ≡ false). let rest : is_among us u ≡ true = rw f at h in let it = among-found us u rest in record { index = suc it.index; found = it.found; here = it.here; place = it.place })
      (cases_Bool (same_place u w))

  among-at : (us : List (Use K)) (k : ℕ) (u : Use K) → slice_get us k ≡ Some u → is_among us u ≡ true
  among-at [] k u at = cc
  among-at (w ∷ us) zero u at = let same : w ≡ u = cc in or_left (same_place u w) (is_among us u) (place-here u w (ap (λ (x : Use K). x.user_op) (sym same)) (ap (λ (x : Use K). x.index) (sym same)))
  among-at (w ∷ us) (suc k) u at = or_right (same_place u w) (is_among us u) (among-at us k u at)

  same_use : (u w : Use K) → u.user_op ≡ w.user_op → u.index ≡ w.index → u.def ≡ w.def → u ≡ w
  same_use u w p i d = rw (p, i, d) refl

  among-same : (us : List (Use K)) (u w : Use K) → u.user_op ≡ w.user_op → u.index ≡ w.index → is_among us u ≡ is_among us w
  among-same [] u w p i = refl
  among-same (x ∷ us) u w p i = let rest : is_among us u ≡ is_among us w = among-same us u w p i in rw (p, i, rest) refl

  module _ (rows : Ptr Operation → List K) (x : K) where
    -- it is a use of x
    abbrev pub IsUseOf : Use K → Type 0
    IsUseOf u = IsUseIn rows u × (u.def ≡ x)

    -- two uses at one place name the same
    one_place : (u w : Use K) → IsUseIn rows u → IsUseIn rows w → same_place u w ≡ true → u.def ≡ w.def
    one_place u w one two place =
        let at = place-is u w place in
        let here : slice_get (rows w.user_op) w.index ≡ Some u.def = subst (λ (i : ℕ). slice_get (rows w.user_op) i ≡ Some u.def) at.1 (subst (λ (p : Ptr Operation). slice_get (rows p) u.index ≡ Some u.def) at.0 one) in
        let there : slice_get (rows w.user_op) w.index ≡ Some w.def = two in
        cc

    one_use : (u w : Use K) → IsUseIn rows u → IsUseIn rows w → same_place u w ≡ true → u ≡ w
    one_use u w one two place = same_use u w (place-is u w place).0 (place-is u w place).1 (one_place u w one two place)

    uses-once : (us : List (Use K)) → Each IsUseOf us → ((i j : ℕ) (u : Use K) → slice_get us i ≡ Some u → slice_get us j ≡ Some u → i ≡ j) → AreOnce us
    uses-once [] all once = tt
    uses-once (u ∷ us) all once = (
      ⊎_elim
          (λ (t : is_among us u ≡ true).
          let it = among-found us u t in
          let same : u ≡ it.found = one_use u it.found all.0.0 (each-at IsUseOf us it.index it.found all.1 it.here).0 it.place in
          let again : slice_get us it.index ≡ Some u = it.here ∙ ap Some (sym same) in
          let zero_is : 0 ≡ suc it.index = once 0 (suc it.index) u refl again in
          absurd (omega (arith, zero_is)))
          (λ (f : is_among us u ≡ false). f)
          (cases_Bool (is_among us u)),
      uses-once us all.1 (λ i j w a b. let e : suc i ≡ suc j = once (suc i) (suc j) w a b in omega (arith, e)),
    )

    module _ (answers : Use K → Bool → Type 0) where
      -- of the uses of x, all but the rest were asked about, and those to which the answer was true are chosen
      pub record IsChoosing (rest chosen : List (Use K)) : Type 0 where
        pub distinct : AreOnce rest
        pub left : Each IsUseOf rest
        pub among : Each IsUseOf chosen
        pub apart : (u : Use K) → is_among chosen u ≡ true → is_among rest u ≡ false
        pub answered : (u : Use K) → IsUseIn rows u → u.def ≡ x → is_among rest u ≡ false → answers u (is_among chosen u)

      pub choosing-none : (all : List (Use K)) → AreUsesIn rows x all → IsChoosing all []
      choosing-none all uses =
          let left : Each IsUseOf all = each-from IsUseOf all (λ k u at. uses.sound k u at) in
          record {
            distinct = uses-once all left uses.once;
            left = left;
            among = tt;
            apart = λ u h. absurd (cc);
            answered = λ u given is h. let at = uses.all u given is in absurd (both_ways (is_among all u) h (among-at all at.0 u at.1));
          }

      module _ (p : Use K) (rest chosen : List (Use K)) (so_far : IsChoosing (p ∷ rest) chosen) where
        not_yet : is_among chosen p ≡ false
        not_yet = ⊎_elim
            (λ (t : is_among chosen p ≡ true). absurd (both_ways (is_among (p ∷ rest) p) (so_far.apart p t) (among-at (p ∷ rest) 0 p refl)))
            (λ (f : is_among chosen p ≡ false). f)
            (cases_Bool (is_among chosen p))

        pub choosing-left : answers p false → IsChoosing rest chosen
        choosing-left is = record {
          distinct = so_far.distinct.1;
          left = so_far.left.1;
          among = so_far.among;
          apart = λ u h. or_false_right (same_place u p) (is_among rest u) (so_far.apart u h);
          answered = λ u given names h. ⊎_elim
              (λ (t : same_place u p ≡ true).
              let same : u ≡ p = one_use u p given so_far.left.0.0 t in
              subst (λ (w : Use K). answers w (is_among chosen w)) (sym same) (subst (answers p) (sym not_yet) is))
              (λ (f : same_place u p ≡ false). so_far.answered u given names (or_false (same_place u p) (is_among rest u) f h))
              (cases_Bool (same_place u p));
        }

        pub choosing-taken : answers p true → IsChoosing rest (chosen ++ p ∷ [])
        choosing-taken is = record {
          distinct = so_far.distinct.1;
          left = so_far.left.1;
          among = each-more IsUseOf chosen p so_far.among so_far.left.0;
          apart = λ u h. ⊎_elim
              (λ (t : same_place u p ≡ true). among-same rest u p (place-is u p t).0 (place-is u p t).1 ∙ so_far.distinct.0)
              (λ (f : same_place u p ≡ false). or_false_right (same_place u p) (is_among rest u) (so_far.apart u (sym (among-old chosen p u f) ∙ h)))
              (cases_Bool (same_place u p));
          answered = λ u given names h. ⊎_elim
              (λ (t : same_place u p ≡ true).
              let same : u ≡ p = one_use u p given so_far.left.0.0 t in
              subst (answers u) (sym (among-new chosen p u t)) (subst (λ (w : Use K). answers w true) (sym same) is))
              (λ (f : same_place u p ≡ false). subst (answers u) (sym (among-old chosen p u f)) (so_far.answered u given names (or_false (same_place u p) (is_among rest u) f h)))
              (cases_Bool (same_place u p));
        }

      -- once all were asked about
      pub choosing-among : (chosen : List (Use K)) → IsChoosing [] chosen → AreUsesNaming rows x chosen
      choosing-among chosen done k u at = each-at IsUseOf chosen k u done.among at

      pub choosing-chooses : (chosen : List (Use K)) → IsChoosing [] chosen → Chooses rows answers x (is_among chosen)
      choosing-chooses chosen done = record {
        answered = λ u given names. done.answered u given names refl;
        others = λ u given ne. ⊎_elim
            (λ (t : is_among chosen u ≡ true).
            let it = among-found chosen u t in
            let its = each-at IsUseOf chosen it.index it.found done.among it.here in
            absurd (ne (one_place u it.found given its.0 it.place ∙ its.1)))
            (λ (f : is_among chosen u ≡ false). f)
            (cases_Bool (is_among chosen u));
      }

-- what a call of the predicate answered
pub says-called : {F U : Type 0} (g : Shared F (Bor U × Unit {0}) Bool) {f : F} {q : Bor U} {r b : Bool} (u : U) → g.post f (q, tt) r → r ≡ b → q.now ≡ u → MaySay g f u b
says-called g {f} {q} u h e asked = record { asked = q; shows = asked; says = says g h e }
