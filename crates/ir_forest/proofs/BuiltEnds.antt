-- The faults that are met at ends, in the order of the tokens.
use Rattle.std.proofs.Common.{◌≡◌, ◌==◌, if◌then◌else◌, ◌<◌, ◌≤◌, ℕ, ◌+◌, ◌-◌, Bool, true, false, MatchBool, List, [], ◌∷◌, length, Option, Some, None, refl, sym, subst, ap, ◌∙◌, arith, ◌⊎◌, inl, inr}
use Rattle.std.specs.Option.{option_map}
use Rattle.std.proofs.lemmas.Bool.{cases_lt, eqb-true, eqb-false}
use Rattle.ir_names.specs.Tree.{Trees, node, no_tree, a_tree, join}
use Rattle.ir_print.specs.Pieces.{Pieces, Values}
use Rattle.ir_grammar.specs.declared.grammar.Action.{Action}
use Rattle.ir_grammar.specs.declared.grammar.Action.TheVariants as act
use Rattle.ir_grammar.specs.declared.grammar.Event.{Event}
use Rattle.ir_grammar.specs.declared.grammar.Event.TheVariants.{Took, Did}
use Rattle.ir_tokens.specs.declared.faults.Fault.{Fault}
use Rattle.ir_tokens.specs.declared.faults.FaultKind.TheVariants as kinds
use Rattle.ir_tokens.specs.Faults.{row, FaultPrecedes, IsNamed}
use Rattle.ir_forest.specs.Forest.{end_of, Deed, deeds_from, ActionSpan}
use Rattle.ir_forest.specs.Meaning.{pieces_in}
use Rattle.ir_grammar.specs.Nesting.{Position, at_root, at_end, in_region, in_block, Move, goes_to, goes_in, goes_out, nowhere, move, region_move, block_move, Nests, NestsBy, has_own_token, FollowTokens}
use Rattle.ir_forest.specs.ValueFaults.{refused, refusal_kind, piece_token, first_token, AreSound}
use Rattle.ir_forest.specs.Building.{Open, Built, ended_tree, after, names_behind, refused_fault, names_fault_of, or_else, fault_at_end, fault_after, first_refusal_from}
use Rattle.ir_tokens.proofs.FirstFault.{precedes_itself, named_along}
use Rattle.ir_forest.proofs.BuiltSteps.{Sort, alone, opening, closing, sort_of, end_sort, end_at, Behind, Says, says, Follows, Fits, step}
use Rattle.ir_forest.proofs.BuiltTrees.{Way, AllBefore, AllBuilt}

-- ---- the tokens of deeds

-- Tokens never decrease, and an action with a token of its own has a later one. The last deed was at the token before this one.
abbrev pub Grow : ℕ → List Deed → Type 0
Grow c [] = Unit {0}
Grow c (d ∷ ds) = (c ≤ d.1 + 1) × (has_own_token d.0 ≡ true → c ≤ d.1) × Grow (d.1 + 1) ds

tokens_grow : (es : List Event) (fresh : Bool) (n c : ℕ) → FollowTokens fresh es → 0 < n → c ≤ n → (fresh ≡ true → c < n) → Grow c (deeds_from n es)
tokens_grow [] fresh n c f some le lt = tt
tokens_grow (Took ∷ es) fresh n c f some le lt = tokens_grow es true (n + 1) c f (omega arith) (omega arith) (λ e. omega arith)
tokens_grow (Did a ∷ es) fresh n c f some le lt = go (has_own_token a) refl f (λ h. tokens_grow es false n ((n - 1) + 1) h some (omega arith) (λ e. cc))
  where
    go : (b : Bool) → has_own_token a ≡ b → MatchBool b ((fresh ≡ true) × FollowTokens false es) (FollowTokens false es) → (FollowTokens false es → Grow ((n - 1) + 1) (deeds_from n es))
        → (c ≤ (n - 1) + 1) × (has_own_token a ≡ true → c ≤ n - 1) × Grow ((n - 1) + 1) (deeds_from n es)
    go true e h tail = (omega arith, (λ own. let l = lt h.0 in omega arith), tail h.1)
    go false e h tail = (omega arith, (λ own. let wrong : false ≡ true = sym e ∙ own in cc), tail h)

-- the first action has a token of its own
root_own : (X : Position → List Position → Type 0) (a : Action) → NestsBy (move at_root a) [] X → has_own_token a ≡ true
root_own X act.Result h = refl
root_own X (act.Operation kind) h = refl
root_own X _ h = absurd h

pub root_grows : (es : List Event) (fresh : Bool) (n : ℕ) → Nests at_root [] es → FollowTokens fresh es → (fresh ≡ true → 0 < n) → Grow 0 (deeds_from n es)
root_grows [] fresh n h f some = tt
root_grows (Took ∷ es) fresh n h f some = root_grows es true (n + 1) h f (λ e. omega arith)
root_grows (Did a ∷ es) fresh n h f some =
    let own : has_own_token a ≡ true = root_own (λ q qs. Nests q qs es) a h in
    let new : fresh ≡ true = (subst (λ b. MatchBool b ((fresh ≡ true) × FollowTokens false es) (FollowTokens false es)) own f).0 in
    tokens_grow (Did a ∷ es) fresh n 0 f (some new) (omega arith) (λ e. some e)

-- ---- what actions are, once more

alone_refused : (values : Values) (a : Action) (ps : Pieces) → sort_of a ≡ alone → refused values a ps ≡ None
alone_refused values (act.Begin sort kind) ps h = cc
alone_refused values (act.Operation kind) ps h = cc
alone_refused values _ ps h = refl

pub refused_ends : (values : Values) (a : Action) (ps : Pieces) (i : ℕ) → refused values a ps ≡ Some i → (x : Action) × (end_of a ≡ Some x) × (has_own_token a ≡ true) × (x ≡ act.EndBlock → ⊥)
refused_ends values (act.Begin sort kind) ps i h = (act.End sort, refl, refl, λ e. cc)
refused_ends values (act.Operation kind) ps i h = (act.EndOperation, refl, refl, λ e. cc)
refused_ends values _ ps i h = cc

plain_fault : (values : Values) (text : ℕ → List ℕ) (b : Built) (a : Action) (k : ℕ) → (sort_of a ≡ closing → ⊥) → fault_after values text b a k ≡ None
plain_fault values text b act.EndOperation k h = absurd (h refl)
plain_fault values text b (act.End sort) k h = absurd (h refl)
plain_fault values text b _ k h = refl

-- the fault with which something ends is met at the action that ends it
end_fault : (values : Values) (text : ℕ → List ℕ) (x : Action) (first : ℕ) (before here : Trees ActionSpan) (os : List Open) (a : Action) (k : ℕ) → end_of x ≡ Some a
    → fault_after values text (record { here = here; around = record { action = x; first = first; before = before } ∷ os }) a k
    ≡ fault_at_end values text here (record { action = x; first = first; before = before } ∷ os) k
end_fault values text (act.Operation kind) first before here os a k h = let e : act.EndOperation ≡ a = cc in rw (← e)
end_fault values text act.BeginRegion first before here os a k h = let e : act.EndRegion ≡ a = cc in rw (← e)
end_fault values text act.Label first before here os a k h = let e : act.EndBlock ≡ a = cc in rw (← e)
end_fault values text (act.Begin sort kind) first before here os a k h = let e : act.End sort ≡ a = cc in rw (← e)
end_fault values text act.BeginOperands first before here os a k h = let e : act.EndOperands ≡ a = cc in rw (← e)
end_fault values text act.BeginSuccessor first before here os a k h = let e : act.EndSuccessor ≡ a = cc in rw (← e)
end_fault values text act.BeginList first before here os a k h = let e : act.EndList ≡ a = cc in rw (← e)
end_fault values text act.BeginItem first before here os a k h = let e : act.EndItem ≡ a = cc in rw (← e)
end_fault values text (act.BeginChoice n) first before here os a k h = let e : act.EndChoice ≡ a = cc in rw (← e)
end_fault values text _ first before here os a k h = cc

-- ---- behind an operation

-- where nothing ends but a block, up to the next token
abbrev Calm : Position → List Position → Type 0
Calm p ps = (p ≡ at_end) ⊎ ((p ≡ in_region) ⊎ ((p ≡ in_block) × (rs : List Position) × (ps ≡ in_region ∷ rs)))

region_stuck : (X : Position → List Position → Type 0) (ps : List Position) (a : Action) → has_own_token a ≡ false → NestsBy (region_move a) ps X → ⊥
region_stuck X ps act.EndRegion e h = cc
region_stuck X ps act.Label e h = cc
region_stuck X ps _ e h = h

block_ends : (X : Position → List Position → Type 0) (rs : List Position) (a : Action) → has_own_token a ≡ false → NestsBy (block_move a) (in_region ∷ rs) X → (a ≡ act.EndBlock) × X in_region rs
block_ends X rs act.EndBlock e h = (refl, h)
block_ends X rs act.Result e h = cc
block_ends X rs (act.Operation kind) e h = cc
block_ends X rs _ e h = absurd h

calm_way : (X : Position → List Position → Type 0) (p : Position) (ps : List Position) (a : Action) → Calm p ps → has_own_token a ≡ false → NestsBy (move p a) ps X
    → (a ≡ act.EndBlock) × (rs : List Position) × X in_region rs
calm_way X p ps a (inl c) e h = absurd (subst (λ z. NestsBy (move z a) ps X) c h)
calm_way X p ps a (inr (inl c)) e h = absurd (region_stuck X ps a e (subst (λ z. NestsBy (move z a) ps X) c h))
calm_way X p ps a (inr (inr c)) e h =
    let here : NestsBy (block_move a) ps X = subst (λ z. NestsBy (move z a) ps X) c.0 h in
    let r = block_ends X c.1 a e (subst (λ z. NestsBy (block_move a) z X) c.2 here) in
    (r.0, c.1, r.1)

-- where reading is when an operation has ended
operation_ends : (X : Position → List Position → Type 0) (p : Position) (a : Action) (m : Move) (ps : List Position) (os : List Open) → Fits (end_at p) ps os → Says p a m → a ≡ act.EndOperation → NestsBy m ps X
    → (q : Position) × (qs : List Position) × Calm q qs × X q qs
operation_ends X p a (goes_to q) ps os fits s e h = let wrong : closing ≡ alone = ap sort_of (sym e) ∙ s.0 in cc
operation_ends X p a (goes_in i q) ps os fits s e h = let wrong : closing ≡ opening = ap sort_of (sym e) ∙ s.0 in cc
operation_ends X p a goes_out [] os fits s e h = absurd h
operation_ends X p a goes_out (q ∷ qs) [] fits s e h = absurd fits
operation_ends X p a goes_out (q ∷ qs) (o ∷ os) fits s e h =
    let at : end_at p ≡ Some act.EndOperation = s.1 ∙ ap (λ z. Some z) e in
    elim (subst (λ z. Behind z q) at fits.3) [
      | inl block ↦ (q, qs, inr (inr (let r = around qs os (subst (λ z. Fits (end_at z) qs os) block fits.4) in (block, r.0, r.1))), h)
      | inr done ↦ (q, qs, inl done, h)
    ]
  where
    around : (qs : List Position) (os : List Open) → Fits (Some act.EndBlock) qs os → (rs : List Position) × (qs ≡ in_region ∷ rs)
    around [] [] f = cc
    around [] (o ∷ os) f = absurd f
    around (r ∷ rs) [] f = absurd f
    around (r ∷ rs) (o ∷ os) f = (rs, ap (λ z. z ∷ rs) f.3)
operation_ends X p a nowhere ps os fits s e h = absurd h

module _ (values : Values) (text : ℕ → List ℕ) where
  -- ---- the faults at one end

  abbrev number_at : Action → ℕ → ℕ → Fault
  number_at a k j = record { kind = refusal_kind a; met = k; place = j }

  abbrev names_at : ℕ → ℕ → Fault
  names_at k j = record { kind = kinds.ResultNames; met = k; place = j }

  -- as many results as names
  abbrev pub Results : Trees ActionSpan → Open → ℕ → Type 0
  Results here o kind = length (names_behind [] o.before) ≡ length (values.result_types kind (pieces_in values text here))

  abbrev pub NumberAt : Trees ActionSpan → Open → ℕ → Fault → Type 0
  NumberAt here o k f = (i : ℕ) × AreSound values text here × (refused values o.action (pieces_in values text here) ≡ Some i) × (f ≡ number_at o.action k (piece_token here i k))

  abbrev pub NamesAt : Trees ActionSpan → Open → ℕ → Fault → Type 0
  NamesAt here o k f = (kind : ℕ) × (o.action ≡ act.Operation kind) × (Results here o kind → ⊥)
      × (f ≡ record { kind = kinds.ResultNames; met = k; place = first_token (names_behind [] o.before) o.first })

  -- what is open innermost ends with this deed, and has this fault
  abbrev pub HasAt : Trees ActionSpan → List Open → Deed → Fault → Type 0
  HasAt here [] d f = ⊥
  HasAt here (o ∷ os) d f = (end_of o.action ≡ Some d.0) × (NumberAt here o d.1 f ⊎ NamesAt here o d.1 f)

  -- one of what ends with these deeds has this fault
  abbrev pub Somewhere : Built → List Deed → Fault → Type 0
  Somewhere b [] f = ⊥
  Somewhere b (d ∷ ds) f = HasAt b.here b.around d f ⊎ Somewhere (after b d.0 d.1) ds f

  abbrev pub refusal : Built → List Deed → Option Fault
  refusal b [] = None
  refusal b (d ∷ ds) = or_else (fault_after values text b d.0 d.1) (refusal (after b d.0 d.1) ds)

  pub refusal_by_deeds : (es : List Event) (b : Built) (n : ℕ) → first_refusal_from values text b n es ≡ refusal b (deeds_from n es)
  refusal_by_deeds [] b n = refl
  refusal_by_deeds (Took ∷ es) b n = refusal_by_deeds es b (n + 1)
  refusal_by_deeds (Did a ∷ es) b n = ap (or_else (fault_after values text b a (n - 1))) (refusal_by_deeds es (after b a (n - 1)) n)

  has_closing : (here : Trees ActionSpan) (os : List Open) (d : Deed) (f : Fault) → HasAt here os d f → sort_of d.0 ≡ closing
  has_closing here [] d f h = absurd h
  has_closing here (o ∷ os) d f h = end_sort o.action d.0 h.0

  has_met : (here : Trees ActionSpan) (os : List Open) (d : Deed) (f : Fault) → HasAt here os d f → f.met ≡ d.1
  has_met here [] d f h = absurd h
  has_met here (o ∷ os) d f h = elim (h.1) [ inl x ↦ ap (λ z. z.met) x.3 | inr x ↦ ap (λ z. z.met) x.3 ]

  has_no_block : (here : Trees ActionSpan) (os : List Open) (d : Deed) (f : Fault) → HasAt here os d f → d.0 ≡ act.EndBlock → ⊥
  has_no_block here [] d f h e = h
  has_no_block here (o ∷ os) d f h e = elim (h.1) [
    | inl x ↦ (let r = refused_ends values o.action (pieces_in values text here) x.0 x.2 in let same : Some r.0 ≡ Some d.0 = sym r.1 ∙ h.0 in let is : r.0 ≡ d.0 = cc in r.3 (is ∙ e))
    | inr x ↦ (let same : Some act.EndOperation ≡ Some act.EndBlock = ap end_of (sym x.1) ∙ (h.0 ∙ ap (λ z. Some z) e) in cc)
  ]

  -- ---- which faults what ends has

  abbrev CaseNumber : Trees ActionSpan → Open → List Open → ℕ → Type 0
  CaseNumber here o os k = (i : ℕ) × (refused values o.action (pieces_in values text here) ≡ Some i) × ((kind : ℕ) → o.action ≡ act.Operation kind → Results here o kind)
      × (fault_at_end values text here (o ∷ os) k ≡ Some (number_at o.action k (piece_token here i k)))

  abbrev CaseNames : Trees ActionSpan → Open → List Open → ℕ → Type 0
  CaseNames here o os k = (kind : ℕ) × (o.action ≡ act.Operation kind) × (Results here o kind → ⊥)
      × (fault_at_end values text here (o ∷ os) k ≡ Some (names_at k (first_token (names_behind [] o.before) o.first)))

  abbrev CaseNone : Trees ActionSpan → Open → List Open → ℕ → Type 0
  CaseNone here o os k = (refused values o.action (pieces_in values text here) ≡ None) × ((kind : ℕ) → o.action ≡ act.Operation kind → Results here o kind)
      × (fault_at_end values text here (o ∷ os) k ≡ None)

  names_case : (x : Action) (first : ℕ) (before here : Trees ActionSpan) (k : ℕ)
      → ((kind : ℕ) × (x ≡ act.Operation kind) × (Results here (record { action = x; first = first; before = before }) kind → ⊥)
      × (names_fault_of values text x first before here k ≡ Some (names_at k (first_token (names_behind [] before) first))))
      ⊎ (((kind : ℕ) → x ≡ act.Operation kind → Results here (record { action = x; first = first; before = before }) kind) × (names_fault_of values text x first before here k ≡ None))
  names_case (act.Operation kind) first before here k = go (length (names_behind [] before) == length (values.result_types kind (pieces_in values text here))) refl
    where
      go : (b : Bool) → (length (names_behind [] before) == length (values.result_types kind (pieces_in values text here))) ≡ b
          → ((n : ℕ) × (act.Operation kind ≡ act.Operation n) × (Results here (record { action = act.Operation kind; first = first; before = before }) n → ⊥)
          × (names_fault_of values text (act.Operation kind) first before here k ≡ Some (names_at k (first_token (names_behind [] before) first))))
          ⊎ (((n : ℕ) → act.Operation kind ≡ act.Operation n → Results here (record { action = act.Operation kind; first = first; before = before }) n) × (names_fault_of values text (act.Operation kind) first before here k ≡ None))
      go true e = inr (
        (λ n same. let is : kind ≡ n = cc in subst (λ z. length (names_behind [] before) ≡ length (values.result_types z (pieces_in values text here))) is (eqb-true _ _ e)),
        ap (λ (b : Bool). let o : Option Fault = if b then None else Some (names_at k (first_token (names_behind [] before) first)) in o) e,
      )
      go false e = inl (kind, refl, eqb-false _ _ e, ap (λ (b : Bool). let o : Option Fault = if b then None else Some (names_at k (first_token (names_behind [] before) first)) in o) e)
  names_case _ first before here k = inr ((λ kind same. cc), refl)

  end_case : (here : Trees ActionSpan) (o : Open) (os : List Open) (k : ℕ) → CaseNumber here o os k ⊎ (CaseNames here o os k ⊎ CaseNone here o os k)
  end_case here o os k = go (names_case o.action o.first o.before here k) (refused values o.action (pieces_in values text here)) refl
    where
      by : Option Fault → Option ℕ → Option Fault
      by names z = or_else names (option_map (refused_fault o.action here k) z)

      go : ((kind : ℕ) × (o.action ≡ act.Operation kind) × (Results here o kind → ⊥)
          × (names_fault_of values text o.action o.first o.before here k ≡ Some (names_at k (first_token (names_behind [] o.before) o.first))))
          ⊎ (((kind : ℕ) → o.action ≡ act.Operation kind → Results here o kind) × (names_fault_of values text o.action o.first o.before here k ≡ None))
          → (r : Option ℕ) → refused values o.action (pieces_in values text here) ≡ r → CaseNumber here o os k ⊎ (CaseNames here o os k ⊎ CaseNone here o os k)
      go (inl x) r e = inr (inl (x.0, x.1, x.2, ap (λ names. by names (refused values o.action (pieces_in values text here))) x.3))
      go (inr x) (Some i) e = inl (i, e, x.0, ap (λ names. by names (refused values o.action (pieces_in values text here))) x.1 ∙ ap (by None) e)
      go (inr x) None e = inr (inr (e, x.0, ap (λ names. by names (refused values o.action (pieces_in values text here))) x.1 ∙ ap (by None) e))

  -- ---- of two faults at one end

  number_first : (here : Trees ActionSpan) (o : Open) (os : List Open) (d : Deed) → (c : CaseNumber here o os d.1) → (g : Fault) → HasAt here (o ∷ os) d g → FaultPrecedes (number_at o.action d.1 (piece_token here c.0 d.1)) g
  number_first here o os d c g h = elim (h.1) [
    | inl x ↦ (
        let one : Some c.0 ≡ Some x.0 = sym c.1 ∙ x.2 in
        let i : c.0 ≡ x.0 = cc in
        let r : Fault = number_at o.action d.1 (piece_token here c.0 d.1) in
        subst (FaultPrecedes r) (ap (λ z. number_at o.action d.1 (piece_token here z d.1)) i ∙ sym x.3) (precedes_itself r))
    | inr x ↦ absurd (x.2 (c.2 x.0 x.1))
  ]

  names_first : (here : Trees ActionSpan) (o : Open) (os : List Open) (d : Deed) → CaseNames here o os d.1 → (g : Fault) → HasAt here (o ∷ os) d g
      → FaultPrecedes (names_at d.1 (first_token (names_behind [] o.before) o.first)) g
  names_first here o os d c g h = elim (h.1) [
    | inl x ↦ (
        let later : refusal_kind o.action ≡ kinds.OtherConstant = ap refusal_kind c.1 in
        let other : Fault = record { kind = kinds.OtherConstant; met = d.1; place = piece_token here x.0 d.1 } in
        let is : g ≡ other = x.3 ∙ ap (λ z. record { kind = z; met = d.1; place = piece_token here x.0 d.1 }) later in
        subst (FaultPrecedes (names_at d.1 (first_token (names_behind [] o.before) o.first))) (sym is) (inr (refl, inl (omega arith))))
    | inr x ↦ subst (FaultPrecedes (names_at d.1 (first_token (names_behind [] o.before) o.first))) (sym x.3) (precedes_itself (names_at d.1 (first_token (names_behind [] o.before) o.first)))
  ]

  none_here : (here : Trees ActionSpan) (o : Open) (os : List Open) (d : Deed) → CaseNone here o os d.1 → (g : Fault) → HasAt here (o ∷ os) d g → ⊥
  none_here here o os d c g h = elim (h.1) [
    | inl x ↦ (let wrong : None ≡ Some x.0 = sym c.0 ∙ x.2 in cc)
    | inr x ↦ x.2 (c.1 x.0 x.1)
  ]

  -- ---- sound trees

  sound_join : (ts us : Trees ActionSpan) → AreSound values text ts → AreSound values text us → AreSound values text (join ts us)
  sound_join no_tree us h k = k
  sound_join (a_tree (node s is) ts) us h k = (h.0, h.1, sound_join ts us h.2 k)

  sound_front : (ts us : Trees ActionSpan) → AreSound values text (join ts us) → AreSound values text ts
  sound_front no_tree us h = tt
  sound_front (a_tree (node s is) ts) us h = (h.0, h.1, sound_front ts us h.2)

  sound_back : (ts us : Trees ActionSpan) → AreSound values text (join ts us) → AreSound values text us
  sound_back no_tree us h = h
  sound_back (a_tree (node s is) ts) us h = sound_back ts us h.2

  -- Something is refused in the trees here, or in those before what was begun since without a token of its own.
  abbrev Refused : Trees ActionSpan → List Open → Type 0
  Refused here [] = AreSound values text here → ⊥
  Refused here (o ∷ os) = (AreSound values text here → ⊥) ⊎ ((has_own_token o.action ≡ false) × Refused o.before os)

  refused_here : (here : Trees ActionSpan) (os : List Open) → (AreSound values text here → ⊥) → Refused here os
  refused_here here [] h = h
  refused_here here (o ∷ os) h = inl h

  refused_more : (os : List Open) (ts us : Trees ActionSpan) → Refused ts os → Refused (join ts us) os
  refused_more [] ts us h = λ s. h (sound_front ts us s)
  refused_more (o ∷ os) ts us (inl h) = inl (λ s. h (sound_front ts us s))
  refused_more (o ∷ os) ts us (inr h) = inr h

  abbrev RefusedIn : Built → Type 0
  RefusedIn b = Refused b.here b.around

  refused_step : (b : Built) (d : Deed) (c : Built) → Way b d c → has_own_token d.0 ≡ false → RefusedIn b → RefusedIn c
  refused_step b d c (inl w) e h = subst RefusedIn (sym w.1) (refused_more b.around b.here (a_tree (node (record { action = d.0; first = d.1; last = d.1 }) no_tree) no_tree) h)
  refused_step b d c (inr (inl w)) e h = subst RefusedIn (sym w.1) (inr (e, h))
  refused_step b d c (inr (inr w)) e h =
      let o = w.0 in
      let more : Trees ActionSpan = a_tree (ended_tree o b.here d.1) no_tree in
      subst RefusedIn (sym w.4) (elim (subst (Refused b.here) w.2 h) [
        | inl x ↦ refused_here (join o.before more) w.1 (λ s. x (sound_back o.before more s).1)
        | inr x ↦ refused_more w.1 o.before more x.1
      ])

  -- ---- later faults

  later : (ds : List Deed) (b : Built) (c : ℕ) (g : Fault) → Grow c ds → Somewhere b ds g → c ≤ g.met + 1
  later [] b c g grow h = absurd h
  later (d ∷ ds) b c g grow (inl h) = omega (arith, grow.0, has_met b.here b.around d g h)
  later (d ∷ ds) b c g grow (inr h) = omega (arith, grow.0, later ds (after b d.0 d.1) (d.1 + 1) g grow.2 h)

  -- behind what is refused only names are wrong, up to the next token
  abbrev Later : ℕ → Fault → Type 0
  Later c g = (c ≤ g.met) ⊎ ((c ≡ g.met + 1) × (row g.kind ≡ 2))

  later_or : (c n : ℕ) (g : Fault) → c ≤ n → Later n g → Later c g
  later_or c n g le (inl h) = inl (omega arith)
  later_or c n g le (inr h) = elim (cases_lt g.met c) [ inl x ↦ inr (omega arith, h.1) | inr x ↦ inl x ]

  later_names : (here : Trees ActionSpan) (os : List Open) (d : Deed) (c : ℕ) (g : Fault) → c ≤ d.1 + 1 → Refused here os → HasAt here os d g → Later c g
  later_names here [] d c g le r h = absurd h
  later_names here (o ∷ os) d c g le r h = elim (h.1) [
    | inl x ↦ absurd (elim r [
      | inl y ↦ y x.1
      | inr y ↦ (let own = (refused_ends values o.action (pieces_in values text here) x.0 x.2).2 in let wrong : true ≡ false = sym own ∙ y.0 in cc)
    ])
    | inr x ↦ later_or c (d.1 + 1) g le (inr (ap (λ z. z + 1) (sym (ap (λ z. z.met) x.3)), ap (λ z. row z.kind) x.3))
  ]

  later_refused : (ds : List Deed) (p : Position) (ps : List Position) (b : Built) (c : ℕ) → Fits (end_at p) ps b.around → Follows p ps ds → Grow c ds → RefusedIn b
      → (g : Fault) → Somewhere b ds g → Later c g
  later_refused [] p ps b c fits f grow r g h = absurd h
  later_refused (d ∷ ds) p ps b c fits f grow r g (inl h) = later_names b.here b.around d c g grow.0 r h
  later_refused (d ∷ ds) p ps b c fits f grow r g (inr h) =
      let s = step p ps b d ds fits f in
      go (has_own_token d.0) refl (λ e. later_refused ds s.0 s.1 (after b d.0 d.1) (d.1 + 1) s.2 s.3 grow.2 (refused_step b d (after b d.0 d.1) s.4 e r) g h)
    where
      go : (x : Bool) → has_own_token d.0 ≡ x → (has_own_token d.0 ≡ false → Later (d.1 + 1) g) → Later c g
      go true e rec = inl (omega (arith, grow.1 e, later ds (after b d.0 d.1) (d.1 + 1) g grow.2 h))
      go false e rec = later_or c (d.1 + 1) g grow.0 (rec e)

  later_calm : (ds : List Deed) (p : Position) (ps : List Position) (b : Built) (c : ℕ) → Calm p ps → Follows p ps ds → Grow c ds → (g : Fault) → Somewhere b ds g → c ≤ g.met
  later_calm [] p ps b c calm f grow g h = absurd h
  later_calm (d ∷ ds) p ps b c calm f grow g h =
      go (has_own_token d.0) refl h (λ rs f h. later_calm ds in_region rs (after b d.0 d.1) (d.1 + 1) (inr (inl refl)) f grow.2 g h)
    where
      go : (x : Bool) → has_own_token d.0 ≡ x → HasAt b.here b.around d g ⊎ Somewhere (after b d.0 d.1) ds g
          → ((rs : List Position) → Follows in_region rs ds → Somewhere (after b d.0 d.1) ds g → d.1 + 1 ≤ g.met) → c ≤ g.met
      go true e (inl h) rec = omega (arith, grow.1 e, has_met b.here b.around d g h)
      go true e (inr h) rec = omega (arith, grow.1 e, later ds (after b d.0 d.1) (d.1 + 1) g grow.2 h)
      go false e (inl h) rec = absurd (has_no_block b.here b.around d g h (calm_way (λ q qs. Follows q qs ds) p ps d.0 calm e f).0)
      go false e (inr h) rec = let w = calm_way (λ q qs. Follows q qs ds) p ps d.0 calm e f in omega (arith, grow.0, rec w.1 w.2 h)

  -- ---- the first fault

  abbrev Sound : Built → Type 0
  Sound b = AllBuilt (AreSound values text) b

  -- no fault here
  quiet : (b : Built) (d : Deed) (ds : List Deed) → fault_after values text b d.0 d.1 ≡ None → ((f : Fault) → HasAt b.here b.around d f → ⊥)
      → IsNamed (Somewhere (after b d.0 d.1) ds) (refusal (after b d.0 d.1) ds) → IsNamed (Somewhere b (d ∷ ds)) (refusal b (d ∷ ds))
  quiet b d ds e none ih = subst (λ r. IsNamed (Somewhere b (d ∷ ds)) (or_else r (refusal (after b d.0 d.1) ds))) (sym e)
      (named_along (Somewhere (after b d.0 d.1) ds) (Somewhere b (d ∷ ds)) (refusal (after b d.0 d.1) ds) (λ f h. inr h) (λ f h. elim h [ inl x ↦ absurd (none f x) | inr y ↦ y ]) ih)

  -- a fault here
  found : (b : Built) (d : Deed) (ds : List Deed) (r : Fault) → fault_after values text b d.0 d.1 ≡ Some r → HasAt b.here b.around d r
      → ((g : Fault) → HasAt b.here b.around d g → FaultPrecedes r g) → ((g : Fault) → Somewhere (after b d.0 d.1) ds g → FaultPrecedes r g)
      → IsNamed (Somewhere b (d ∷ ds)) (refusal b (d ∷ ds))
  found b d ds r e has here more = subst (λ z. IsNamed (Somewhere b (d ∷ ds)) (or_else z (refusal (after b d.0 d.1) ds))) (sym e)
      (inl has, λ g h. elim h [ inl x ↦ here g x | inr y ↦ more g y ])

  closing_fault : (b : Built) (o : Open) (os : List Open) (a : Action) (k : ℕ) → b.around ≡ o ∷ os → end_of o.action ≡ Some a → fault_after values text b a k ≡ fault_at_end values text b.here (o ∷ os) k
  closing_fault b o os a k e h = ap (λ z. fault_after values text (record { here = b.here; around = z }) a k) e ∙ end_fault values text o.action o.first o.before b.here os a k h

  number_precedes : (a : Action) (k j : ℕ) (g : Fault) → refusal_kind a ≡ kinds.Number → Later (k + 1) g → FaultPrecedes (number_at a k j) g
  number_precedes a k j g e (inl h) = inl (omega arith)
  number_precedes a k j g e (inr h) = let first : row (refusal_kind a) ≡ 1 = ap row e in inr (omega arith, inl (omega (arith, h.1, first)))

  -- what is refused is an operation, or a value
  operation_or_value : (a : Action) → ((kind : ℕ) × (a ≡ act.Operation kind)) ⊎ (refusal_kind a ≡ kinds.Number)
  operation_or_value (act.Operation kind) = inl (kind, refl)
  operation_or_value _ = inr refl

  before_later : (f g : Fault) → f.met + 1 ≤ g.met → FaultPrecedes f g
  before_later f g h = inl (omega arith)

  step_sound : (b : Built) (d : Deed) (c : Built) → Way b d c → ((o : Open) (os : List Open) → b.around ≡ o ∷ os → end_of o.action ≡ Some d.0 → refused values o.action (pieces_in values text b.here) ≡ None) → Sound b → Sound c
  step_sound b d c (inl w) r h =
      subst Sound (sym w.1) (sound_join b.here (a_tree (node (record { action = d.0; first = d.1; last = d.1 }) no_tree) no_tree) h.0 (alone_refused values d.0 no_tree w.0, tt, tt), h.1)
  step_sound b d c (inr (inl w)) r h = subst Sound (sym w.1) (tt, h)
  step_sound b d c (inr (inr w)) r h =
      let o = w.0 in
      let around = subst (AllBefore (AreSound values text)) w.2 h.1 in
      subst Sound (sym w.4) (sound_join o.before (a_tree (ended_tree o b.here d.1) no_tree) around.0 (r o w.1 w.2 w.3, h.0, tt), around.1)

  pub named : (ds : List Deed) (p : Position) (ps : List Position) (b : Built) (c : ℕ) → Fits (end_at p) ps b.around → Follows p ps ds → Grow c ds → Sound b
      → IsNamed (Somewhere b ds) (refusal b ds)
  named [] p ps b c fits f grow sound = λ g h. h
  named (d ∷ ds) p ps b c fits f grow sound =
      let s = step p ps b d ds fits f in
      go s.0 s.1 s.2 s.3 s.4 (λ sound'. named ds s.0 s.1 (after b d.0 d.1) (d.1 + 1) s.2 s.3 grow.2 sound')
    where
      open_sort : (s : Sort) → sort_of d.0 ≡ s → (s ≡ closing → ⊥) → (f : Fault) → HasAt b.here b.around d f → ⊥
      open_sort s e other f h = other (sym e ∙ has_closing b.here b.around d f h)

      go : (q : Position) (qs : List Position) → Fits (end_at q) qs (after b d.0 d.1).around → Follows q qs ds → Way b d (after b d.0 d.1)
          → (Sound (after b d.0 d.1) → IsNamed (Somewhere (after b d.0 d.1) ds) (refusal (after b d.0 d.1) ds)) → IsNamed (Somewhere b (d ∷ ds)) (refusal b (d ∷ ds))
      go q qs fits' f' (inl w) ih =
          quiet b d ds (plain_fault values text b d.0 d.1 (λ e. let wrong : alone ≡ closing = sym w.0 ∙ e in cc)) (open_sort alone w.0 (λ e. cc))
          (ih (step_sound b d (after b d.0 d.1) (inl w) (λ o os e h. let wrong : closing ≡ alone = sym (end_sort o.action d.0 h) ∙ w.0 in cc) sound))
      go q qs fits' f' (inr (inl w)) ih =
          quiet b d ds (plain_fault values text b d.0 d.1 (λ e. let wrong : opening ≡ closing = sym w.0 ∙ e in cc)) (open_sort opening w.0 (λ e. cc))
          (ih (step_sound b d (after b d.0 d.1) (inr (inl w)) (λ o os e h. let wrong : closing ≡ opening = sym (end_sort o.action d.0 h) ∙ w.0 in cc) sound))
      go q qs fits' f' (inr (inr w)) ih = cases (end_case b.here w.0 w.1 d.1)
        where
          fault : fault_after values text b d.0 d.1 ≡ fault_at_end values text b.here (w.0 ∷ w.1) d.1
          fault = closing_fault b w.0 w.1 d.0 d.1 w.2 w.3

          into : (g : Fault) → HasAt b.here b.around d g → HasAt b.here (w.0 ∷ w.1) d g
          into g h = subst (λ z. HasAt b.here z d g) w.2 h

          out : (g : Fault) → HasAt b.here (w.0 ∷ w.1) d g → HasAt b.here b.around d g
          out g h = subst (λ z. HasAt b.here z d g) (sym w.2) h

          -- behind an operation that is refused all is met later
          operation_later : (kind : ℕ) → (w.0).action ≡ act.Operation kind → (g : Fault) → Somewhere (after b d.0 d.1) ds g → d.1 + 1 ≤ g.met
          operation_later kind is g h =
              let same : Some act.EndOperation ≡ Some d.0 = ap end_of (sym is) ∙ w.3 in
              let ends : d.0 ≡ act.EndOperation = cc in
              let calm = operation_ends (λ q qs. Follows q qs ds) p d.0 (move p d.0) ps b.around fits (says p d.0) ends f in
              later_calm ds calm.0 calm.1 (after b d.0 d.1) (d.1 + 1) calm.2 calm.3 grow.2 g h

          cases : CaseNumber b.here w.0 w.1 d.1 ⊎ (CaseNames b.here w.0 w.1 d.1 ⊎ CaseNone b.here w.0 w.1 d.1) → IsNamed (Somewhere b (d ∷ ds)) (refusal b (d ∷ ds))
          cases (inl n) =
              let r = number_at (w.0).action d.1 (piece_token b.here n.0 d.1) in
              let tree : Trees ActionSpan = a_tree (ended_tree (w.0) b.here d.1) no_tree in
              let bad : RefusedIn (after b d.0 d.1) = subst RefusedIn (sym w.4) (refused_here (join (w.0).before tree) w.1
              (λ s. let wrong : Some n.0 ≡ None = sym n.1 ∙ (sound_back (w.0).before tree s).0 in cc)) in
              found b d ds r (fault ∙ n.3) (out r (w.3, inl (n.0, sound.0, n.1, refl))) (λ g h. number_first b.here w.0 w.1 d n g (into g h))
              (λ g h. elim (operation_or_value (w.0).action) [
                | inl x ↦ before_later r g (operation_later x.0 x.1 g h)
                | inr x ↦ number_precedes (w.0).action d.1 (piece_token b.here n.0 d.1) g x (later_refused ds q qs (after b d.0 d.1) (d.1 + 1) fits' f' grow.2 bad g h)
              ])
          cases (inr (inl n)) =
              let r = names_at d.1 (first_token (names_behind [] (w.0).before) (w.0).first) in
              found b d ds r (fault ∙ n.3) (out r (w.3, inr (n.0, n.1, n.2, refl))) (λ g h. names_first b.here w.0 w.1 d n g (into g h))
              (λ g h. before_later r g (operation_later n.0 n.1 g h))
          cases (inr (inr n)) =
              quiet b d ds (fault ∙ n.2) (λ g h. none_here b.here w.0 w.1 d n g (into g h))
              (ih (step_sound b d (after b d.0 d.1) (inr (inr w)) (λ o os e h.
              let same : w.0 ∷ w.1 ≡ o ∷ os = sym w.2 ∙ e in
              let is : w.0 ≡ o = cc in
              ap (λ z. refused values z.action (pieces_in values text b.here)) (sym is) ∙ n.0) sound))
