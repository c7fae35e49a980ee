-- The list of what is kept, step by step.
use Rattle.std.proofs.Common.{◌≡◌, ◌⊎◌, inl, inr, ⊎_elim, ℕ, ◌+◌, ◌<◌, List, [], ◌∷◌, ◌++◌, Some, slice_get, sym, ap, ◌∙◌, subst, arith}
use Rattle.std.proofs.lemmas.List.Elements.{Contains-push, Contains-push_cases, Contains-append_left}
use Rattle.std.proofs.lemmas.Option.{same_Some}
use Rattle.ir_program.specs.declared.handles.Value.{Value}
use Rattle.opt_rows.specs.declared.dead_problem.Definer.{Definer}
use Rattle.opt_inside.specs.Numbered.{Numbers}
use Rattle.opt_dce.specs.liveness.Problems.{IsDefiner, ListsDefiners, KeepsIf}

module _ (n : Numbers) where
  pub keeps_none : (Of : Value → Type 0) → ((v : Value) → Of v → ⊥) → ListsDefiners n Of []
  keeps_none Of never = record { sound = λ x h. absurd (omega (arith, h.1)); all = λ v of. absurd (never v of) }

  pub keeps_if : (If : Type 0) (v : Value) (x : Definer) (old : List Definer) → If → IsDefiner n v x → KeepsIf n If v old (old ++ x ∷ [])
  keeps_if If v x old so is = record {
    sound = λ y h. ⊎_elim (λ w. inl w) (λ e. inr (so, subst (IsDefiner n v) e is)) (Contains-push_cases old x y h);
    kept = λ y h. Contains-append_left old (x ∷ []) y h;
    noted = λ _. (x, Contains-push old x, is);
  }

  pub keeps_not : (If : Type 0) (v : Value) (old : List Definer) → (If → ⊥) → KeepsIf n If v old old
  keeps_not If v old never = record { sound = λ y h. inl h; kept = λ y h. h; noted = λ so. absurd (never so) }

  pub keeps_step : (Of All : Value → Type 0) (If : Type 0) (v : Value) (old new : List Definer) → ((w : Value) → All w → Of w ⊎ (If × (w ≡ v))) → ((w : Value) → Of w → All w) → (If → All v) → ListsDefiners n Of old → KeepsIf n If v old new → ListsDefiners n All new
  keeps_step Of All If v old new split up here first second = record {
    sound = λ x h. ⊎_elim
        (λ w. let f = first.sound x w in (f.0, up f.0 f.1, f.2))
        (λ w. (v, here w.0, w.1))
        (second.sound x h);
    all = λ w h. ⊎_elim
        (λ of. let f = first.all w of in (f.0, second.kept f.0 f.1, f.2))
        (λ z. let f = second.noted z.0 in (f.0, f.1, subst (λ q. IsDefiner n q f.0) (sym z.1) f.2))
        (split w h);
  }

earlier : (i m : ℕ) → i < m + 1 → (i < m) ⊎ (i ≡ m)
earlier i m lt = grind arith

-- values as far as an index, of those that are so
abbrev pub ValuesBelow : List Value → (Value → Type 0) → ℕ → Value → Type 0
ValuesBelow values If m v = (k : ℕ) × (k < m) × (slice_get values k ≡ Some v) × If v

pub below_none : (values : List Value) (If : Value → Type 0) (v : Value) → ValuesBelow values If 0 v → ⊥
below_none values If v w = let lt = w.1 in omega arith

pub below_split : (values : List Value) (If : Value → Type 0) (m : ℕ) (v w : Value) → slice_get values m ≡ Some v → ValuesBelow values If (m + 1) w → ValuesBelow values If m w ⊎ (If v × (w ≡ v))
below_split values If m v w here h = ⊎_elim
    (λ (low : h.0 < m). inl (h.0, low, h.2, h.3))
    (λ (same : h.0 ≡ m). let e : w ≡ v = same_Some w v (sym h.2 ∙ (ap (slice_get values) same ∙ here)) in inr (subst If e h.3, e))
    (earlier h.0 m h.1)

pub below_up : (values : List Value) (If : Value → Type 0) (m : ℕ) (w : Value) → ValuesBelow values If m w → ValuesBelow values If (m + 1) w
below_up values If m w h = (h.0, (let lt = h.1 in omega arith), h.2, h.3)

pub below_here : (values : List Value) (If : Value → Type 0) (m : ℕ) (v : Value) → slice_get values m ≡ Some v → If v → ValuesBelow values If (m + 1) v
below_here values If m v here h = (m, omega arith, here, h)
