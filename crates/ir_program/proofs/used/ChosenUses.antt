-- Chosen uses of one key, and what the rows hold once another stands in their place.
use Rattle.std.proofs.Common.{◌≡◌, ℕ, Bool, true, false, cond, List, [], map, Option, Some, None, option_map, unwrap_or, slice_get, ⊎_elim, sym, ap, ◌∙◌, subst, arith}
use Rattle.std.proofs.lemmas.Bool.{cases_Bool}
use Rattle.ir_arena.specs.declared.arena.Slot.{Slot}
use Rattle.ir_arena.specs.Arena.{get, held}
use Rattle.ir_entities.specs.Links.{has}
use Rattle.ir_entities.specs.Placed.{IsPlaced, place_at}
use Rattle.ir_entities.specs.Uses.{Uses, key_of, place_of, naming, IsDefined, NamesDefinition}
use Rattle.ir_program.specs.Program.{named_or}
use Rattle.ir_program.specs.Replacing.{with_chosen, Chooses}
use Rattle.ir_program.specs.Spots.{use_at}
use Rattle.ir_program.specs.declared.handles.Ptr.{Ptr}
use Rattle.ir_program.specs.declared.handles.Operation.{Operation}
use Rattle.ir_program.specs.declared.handles.Use.{Use}
use Rattle.ir_program.proofs.made.Lent.{held-was, some_is}
use Rattle.ir_program.proofs.used.NamedUses.{seen_rows, use-stands, named-thread, thread-use}
use Rattle.ir_program.proofs.used.Renames.{chosen-row, chosen-named}

-- rows that are the same have the same choices
pub chooses-same : {K : Type 0} (rows new : Ptr Operation → List K) → ((p : Ptr Operation) → new p ≡ rows p) → (answers : Use K → Bool → Type 0) (x : K) (chosen : Use K → Bool) → Chooses rows answers x chosen → Chooses new answers x chosen
chooses-same rows new same answers x chosen chooses = record {
  answered = λ u given is. chooses.answered u (ap (λ xs. slice_get xs u.index) (sym (same u.user_op)) ∙ given) is;
  others = λ u given ne. chooses.others u (ap (λ xs. slice_get xs u.index) (sym (same u.user_op)) ∙ given) ne;
}

-- whether the place is one of these
abbrev pub is_chosen : List ℕ → Option ℕ → Bool
is_chosen chosen None = false
is_chosen chosen (Some q) = has q chosen

module _ {R K : Type 0} (none : K) (u : Uses K) (ops : List (Slot R)) (cell : R → List ℕ) (placed : IsPlaced (place_of u) (λ i. unwrap_or (option_map cell (held ops i)) []))
    (t : ℕ) (x : K) (key : key_of u t ≡ Some x) (only : (d : ℕ) → key_of u d ≡ Some x → d ≡ t) (known : (q d : ℕ) → NamesDefinition u q d → IsDefined u d)
    (chosen : List ℕ) where
  -- the uses at these places
  abbrev pub choice : Use K → Bool
  choice y = is_chosen chosen (slice_get (unwrap_or (option_map cell (get ops y.user_op.key)) []) y.index)

  pub choice-chooses : (among : (q : ℕ) → has q chosen ≡ true → NamesDefinition u q t) (answers : Use K → Bool → Type 0)
      → ((q : ℕ) → NamesDefinition u q t → answers (use_at (named_or none u) ops u q) (has q chosen)) → Chooses (seen_rows none u ops cell) answers x choice
  choice-chooses among answers answered = record {
    answered = λ y given is.
        let at = use-stands none u ops cell placed y given in
        let names : NamesDefinition u at.0 t = named-thread none u ops cell placed t x key only known at.0 at.2 (ap (λ (z : Use K). z.def) at.3 ∙ is) in
        subst (answers y) (sym (ap (is_chosen chosen) at.1)) (subst (λ z. answers z (has at.0 chosen)) at.3 (answered at.0 names));
    others = λ y given ne.
        let at = use-stands none u ops cell placed y given in
        ap (is_chosen chosen) at.1 ∙ ⊎_elim
        (λ (h : has at.0 chosen ≡ true). absurd (ne (ap (λ (z : Use K). z.def) (sym at.3) ∙ (thread-use none u ops cell placed t x key only known at.0 (among at.0 h)).1)))
        (λ (h : has at.0 chosen ≡ false). h)
        (cases_Bool (has at.0 chosen));
  }

  pub choice-rows : (w : Uses K) → w.definitions ≡ u.definitions → (to : ℕ) (y : K) → key_of u to ≡ Some y
      → ((q : ℕ) → place_of w q ≡ cond (has q chosen) (naming to (place_of u q)) (place_of u q))
      → (p : Ptr Operation) (r : R) → get ops p.key ≡ Some r → map (named_or none w) (cell r) ≡ with_chosen choice y p 0 (map (named_or none u) (cell r))
  choice-rows w definitions to y key_to renames p r here = chosen-row choice y p (named_or none w) (named_or none u) (cell r) 0
      (λ i j q e s.
      let index : i ≡ j = omega arith in
      let held-row : held ops p.key.slot ≡ Some r = held-was ops p.key r r here in
      let its = placed.held p.key.slot j q (ap (λ o. slice_get (unwrap_or (option_map cell o) []) j) held-row ∙ s) in
      let is : choice (record { user_op = p; index = i; def = named_or none u q }) ≡ has q chosen = ap (λ o. is_chosen chosen (slice_get (unwrap_or (option_map cell o) []) i)) here ∙ ap (λ k. is_chosen chosen (slice_get (cell r) k)) index ∙ ap (is_chosen chosen) s in
      chosen-named none u w definitions known to y key_to (has q chosen) q (some_is (place_of u q) (place_at its.0 p.key.slot j) its.1) (renames q)
      ∙ ap (λ b. cond b y (named_or none u q)) (sym is))
